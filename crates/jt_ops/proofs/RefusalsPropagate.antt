-- Results that pass on a refusal.
use Rattle.std.proofs.Common.{◌≡◌, ℕ, Bool, true, false, cond, sym, subst}
use Rattle.std.specs.Prelude.{Ok, Err, Result, nat_lt}
use Rattle.jt_value.specs.Payload.{has_payload}
use Rattle.jt_value.specs.Tree.{Tree, size, nesting}
use Rattle.jt_value.specs.declared.fault.Fault.{Fault}
use Rattle.jt_value.specs.declared.value.Value.{Value}
use Rattle.jt_ops.specs.Limited.{limited, limited_by, Answers, NeedsMemory}
use Rattle.jt_ops.specs.declared.limits.Limits.{Limits}
use Rattle.jt_ops.specs.declared.limits.OpError.{OpError}
use Rattle.jt_ops.specs.declared.limits.OpError.TheVariants as error

-- The limits never result in `NoMemory`.
never_memory : (most deepest : ℕ) (given : Result Tree Fault) → limited most deepest given ≡ Err error.NoMemory → ⊥
never_memory most deepest (Err fault) same = cc
never_memory most deepest (Ok t) same = by (nat_lt most (size t)) (nat_lt deepest (nesting t)) same
  where
    by : (a b : Bool) → cond a (Err error.TooLarge) (cond b (Err error.TooDeep) (Ok t)) ≡ Err error.NoMemory → ⊥
    by true b e = cc
    by false true e = cc
    by false false e = cc

answers_error : (e : OpError) (most deepest : ℕ) (given : Result Tree Fault) → limited most deepest given ≡ Err e
    → Answers (Err e) (limited most deepest given)
answers_error (error.Fault fault) most deepest given same = same
answers_error error.TooLarge most deepest given same = same
answers_error error.TooDeep most deepest given same = same
answers_error error.NoMemory most deepest given same = absurd (never_memory most deepest given same)

pub answers_refusal : (r : Result Value OpError) (e : OpError) (limits : Limits) (given : Result Tree Fault) → r ≡ Err e
    → limited_by limits given ≡ Err e → Answers r (limited_by limits given)
answers_refusal r e limits given is same =
    subst (λ (x : Result Value OpError). Answers x (limited_by limits given)) (sym is)
    (answers_error e limits.size limits.nesting given same)

-- `NoMemory` meets `Answers` if the wanted value has a payload.
pub answers_no_memory : (r : Result Value OpError) (wanted : Result Tree OpError) (t : Tree) → r ≡ Err error.NoMemory
    → wanted ≡ Ok t → has_payload t ≡ true → Answers r wanted
answers_no_memory r wanted t is there payload =
    subst (λ (x : Result Value OpError). Answers x wanted) (sym is)
    (subst (λ (w : Result Tree OpError). NeedsMemory w) (sym there) payload)
