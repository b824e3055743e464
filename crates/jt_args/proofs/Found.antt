-- The values that are read from the rows of a line.
use Rattle.std.proofs.Common.{◌≡◌, ◌∙◌, ℕ, Bool, true, false, codes, List, [], Option, Some, None, Result, Ok, Err, ap}
use Rattle.std.proofs.Common.{refl, option_map, unwrap_or, inl, inr, subst, Bor, arith, rules}
use Rattle.std.specs.Str.Parse.{ParsesUnsigned}
use Rattle.std.specs.Prelude.{IfSome, OnOk, ◌≢◌}
use Rattle.clap.specs.Words.{HasKind, IsAmong, Kinds, ReadsOne, Text, kind_of}
use Rattle.clap.specs.declared.error.Error.{Error}
use Rattle.clap.specs.declared.error.kind.ErrorKind.TheVariants as ErrorKind
use Rattle.jt_args.specs.Line.{IsGiven, IsFlag, IsNumber, IsSwitch, IfUsage}
use Rattle.jt_args.specs.declared.jobs.JobError.{JobError}
use Rattle.jt_args.specs.declared.jobs.JobError.TheVariants as job_error

pub given : (E : Type 0) (G : List ℕ → Result ℕ E → Type 0) (bits default : ℕ) (text : Option Text) (r : Option ℕ)
    (n : ℕ)
    → IfSome text (IsNumber bits) → ((t : Text) (x : Result ℕ E) → G t x → ParsesUnsigned bits 10 t x)
    → (text ≡ None → r ≡ None) → ((t : Text) → text ≡ Some t → ReadsOne G t r)
    → n ≡ unwrap_or r default → IsGiven bits default text n
given E G bits default None r n number parses none some e = e ∙ ap (λ x. unwrap_or x default) (none refl)
given E G bits default (Some t) (Some v) n number parses none some e =
    let p = parses t (Ok v) (some t refl) in (number, e ∙ p.1)
given E G bits default (Some t) None n number parses none some e =
    let w = some t refl in absurd (parses t (Err w.0) w.1 number)

pub text_or_none : (o : Option (Bor Text)) (d : Bor Text) (v : Option Text) → d.now ≡ [] → option_map (λ s. s.now) o ≡ v
    → (unwrap_or o d).now ≡ unwrap_or v []
text_or_none None d v e f = e ∙ ap (λ x. unwrap_or x []) f
text_or_none (Some s) d v e f = ap (λ x. unwrap_or x []) f

pub flagged : (text : Option Text) (b : Bool) → IfSome text IsSwitch → (text ≡ None → b ≡ false)
    → (text ≡ Some (codes "true") → b ≡ true)
    → (text ≡ Some (codes "false") → b ≡ false) → IsFlag text b
flagged text b a2 a3 a4 a5 = search (arith, rules)

-- What always holds also holds of a success.
pub always : {T E : Type 0} (r : Result T E) (P : Type 0) → P → OnOk r P
always (Ok x) P p = p
always (Err e) P p = cc

pub usage_weaker : (P Q : Type 0) (e : JobError) → (P → Q) → IfUsage P e → IfUsage Q e
usage_weaker P Q (job_error.Usage text) f p = f p
usage_weaker P Q job_error.NoMemory f p = cc

-- An error of another kind than lack of memory has a kind in the list, so the list is not empty.
pub listed : (kinds : Kinds) (e : Error) → HasKind kinds e → kind_of e ≢ ErrorKind.OutOfMemory → kinds ≡ [] → ⊥
listed kinds e (inl m) other none = other m
listed kinds e (inr k) other none = subst (IsAmong (kind_of e)) none k
