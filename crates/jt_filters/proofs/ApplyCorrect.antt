-- A filter that is measured, allowed and then built has the result of the filter under limits.
use Rattle.std.proofs.Common.{◌≡◌, ℕ, Bool, cond, sym, ap, ◌∙◌, arith, rules}
use Rattle.std.specs.Prelude.{Result, Ok, Err, OnOk, IfErr}
use Rattle.jt_value.specs.declared.fault.Fault.{Fault}
use Rattle.jt_value.specs.declared.fault.ValueError.{ValueError}
use Rattle.jt_value.specs.declared.fault.ValueError.TheVariants as value_error
use Rattle.jt_value.specs.declared.value.Value.{Value}
use Rattle.jt_value.specs.Tree.{Tree}
use Rattle.jt_value.specs.View.{view}
use Rattle.jt_ops.specs.declared.limits.Limits.{Limits}
use Rattle.jt_ops.specs.declared.limits.OpError.{OpError}
use Rattle.jt_ops.specs.declared.limits.OpError.TheVariants as error
use Rattle.jt_ops.specs.Limited.{limited_by, Answers, NeedsMemory, OfMeasure, of_value_error}
use Rattle.jt_filters.specs.internal.Operands.{measured, Builds, HasPayload, OfMeasured, IsAllowed}

pub faulty : (limits : Limits) (wanted : Result Tree Fault) (fault : Fault) → Err fault ≡ measured wanted
    → limited_by limits wanted ≡ Err (error.Fault fault)
faulty limits (Ok t) fault e = cc
faulty limits (Err other) fault e = let f : fault ≡ other = cc in ap (λ (x : Fault). Err (error.Fault x)) (sym f)

never_by : (a b : Bool) (t : Tree)
    → cond a (Err error.TooLarge) (cond b (Err error.TooDeep) (Ok t)) ≡ Err error.NoMemory → ⊥
never_by a b t a3 = search (arith, rules)

abbrev size_of : Result (ℕ × ℕ) Fault → ℕ
size_of (Ok m) = m.0
size_of (Err f) = 0

abbrev nesting_of : Result (ℕ × ℕ) Fault → ℕ
nesting_of (Ok m) = m.1
nesting_of (Err f) = 0

refused_by : (limits : Limits) (t : Tree) (x : OpError) → limited_by limits (Ok t) ≡ Err x
    → Answers (Err x) (limited_by limits (Ok t))
refused_by limits t x a3 = search (arith, rules, never_by)

of_measure : (P : Tree → Type 0) (m : ℕ × ℕ) (t : Tree) → OfMeasure m.0 m.1 P → Ok m ≡ measured (Ok t) → P t
of_measure P m t f e = f t (ap size_of e) (ap nesting_of e)

pub allowed : {A : Type 0} (r : Result A OpError) (limits : Limits) (m : ℕ × ℕ)
    → OfMeasure m.0 m.1 (λ t. OnOk r (limited_by limits (Ok t) ≡ Ok t)) → OnOk r (OfMeasured (Ok m) (IsAllowed limits))
allowed (Err x) limits m f = tt
allowed (Ok u) limits m f = by
  where
    by : OfMeasured (Ok m) (IsAllowed limits)
    by (Ok t) e = of_measure (λ t. limited_by limits (Ok t) ≡ Ok t) m t f e
    by (Err g) e = absurd (cc)

pub refused : {A : Type 0} (r : Result A OpError) (limits : Limits) (m : ℕ × ℕ)
    → OfMeasure m.0 m.1 (λ t. IfErr r (λ x. limited_by limits (Ok t) ≡ Err x))
    → IfErr r (λ x. OfMeasured (Ok m) (λ wanted. Answers (Err x) (limited_by limits wanted)))
refused (Ok u) limits m f = tt
refused (Err x) limits m f = by
  where
    by : OfMeasured (Ok m) (λ wanted. Answers (Err x) (limited_by limits wanted))
    by (Ok t) e = refused_by limits t x (of_measure (λ t. limited_by limits (Ok t) ≡ Err x) m t f e)
    by (Err g) e = absurd (cc)

pub needs_memory : (limits : Limits) (wanted : Result Tree Fault) → IsAllowed limits wanted → HasPayload wanted
    → NeedsMemory (limited_by limits wanted)
needs_memory limits (Ok t) e p = rw e p
needs_memory limits (Err f) e p = absurd e

pub built_value : (limits : Limits) (wanted : Result Tree Fault) (v : Value) → IsAllowed limits wanted
    → Builds wanted (Ok v) → limited_by limits wanted ≡ Ok (view v)
built_value limits (Ok t) v e b =
    let is : ◌≡◌ {A = Result Tree Fault} (Ok t) (Ok (view v)) = b in
    let same : t ≡ view v = cc in
    e ∙ ap (λ (u : Tree). Ok u) same
built_value limits (Err f) v e b = absurd e

pub built_fault : (limits : Limits) (wanted : Result Tree Fault) (fault : Fault) → wanted ≡ Err fault
    → limited_by limits wanted ≡ Err (error.Fault fault)
built_fault limits wanted fault e = ap (limited_by limits) e

pub built_error : (limits : Limits) (wanted : Result Tree Fault) (x : ValueError) → IsAllowed limits wanted
    → Builds wanted (Err x) → Answers (Err (of_value_error x)) (limited_by limits wanted)
built_error limits wanted (value_error.Fault f) e b = built_fault limits wanted f b
built_error limits wanted value_error.NoMemory e b = needs_memory limits wanted e b
