-- A value with an allowed number of levels, or a refusal.
use Rattle.std.proofs.Common.{◌≡◌, ℕ, ◌<◌, ◌≤◌, sym, ap, ◌∙◌, ⊎_elim, arith, Ok, Err}
use Rattle.std.proofs.lemmas.Bool.{cases_lt}
use Rattle.std.proofs.lemmas.Bool.Decides.{nat_tests}
use Rattle.jt_expr.specs.Grammar.{Tokens}
use Rattle.jt_expr.specs.internal.Reading.{cap, deep, Reader, ◌>>=◌}

pub cap_within : {A : Type 0} (l n : ℕ) (a : A) (ts : Tokens) → l ≤ n → cap l n a ts ≡ Ok (a, ts)
cap_within l n a ts h = grind (arith, nat_tests)

pub cap_beyond : {A : Type 0} (l n : ℕ) (a : A) (ts : Tokens) → n < l → cap l n a ts ≡ Err deep
cap_beyond l n a ts h = grind (arith, nat_tests)

-- The reader continues after a value. If the value is too deep, so is the whole.
pub bound : {A B : Type 0} (l n l' n' : ℕ) (a : A) (b : B) (u rest : Tokens) (f : A → Reader B)
    → (l ≤ n → f a u ≡ cap l' n' b rest) → (n < l → n' < l') → (cap l n a u >>= f) ≡ cap l' n' b rest
bound l n l' n' a b u rest f within beyond =
    ⊎_elim
    (λ gt. ap (λ o. o >>= f) (cap_beyond l n a u gt) ∙ sym (cap_beyond l' n' b rest (beyond gt)))
    (λ le. ap (λ o. o >>= f) (cap_within l n a u le) ∙ within le)
    (cases_lt n l)
