-- One iteration of the loop over the digits of a number.
use Rattle.std.proofs.Common.{◌≡◌, ℕ, ◌+◌, ◌*◌, ◌-◌, ◌^◌, ◌<◌, ◌≤◌, min, true, false, ◌∷◌, length, refl, sym}
use Rattle.std.proofs.Common.{ap, subst, ◌∙◌, arith, inl, inr, Some, None, rules}
use Rattle.std.proofs.lemmas.Bool.{cases_lt}
use Rattle.std.proofs.Math.Nat.{le-mul_of_pos_right}
use Rattle.jt_scan.specs.Literals.{Text, goes_on, base_of, names_base}
use Rattle.jt_scan.specs.internal.Scanning.{digits_at, next_digit, based_at}
use Rattle.jt_scan.proofs.NumberLaws.{no_further, further, goes_on_none, goes_on_some}

-- The machine number m is v, limited to the greatest one of its type.
abbrev pub IsCapped : ℕ → ℕ → Type 0
IsCapped m v = m ≡ min v (2 ^ 64 - 1)

pub grown_is : (v m base d n : ℕ) → IsCapped m v → d < base → n ≡ min (min (m * base) (2 ^ 64 - 1) + d) (2 ^ 64 - 1)
    → IsCapped n (v * base + d)
grown_is v m base d n c lt e = elim (cases_lt v (2 ^ 64 - 1)) [
  | inl low ↦ (let same : m ≡ v = omega (arith, c) in
      small (subst (λ k. n ≡ min (min (k * base) (2 ^ 64 - 1) + d) (2 ^ 64 - 1)) same e))
  | inr big ↦ (let same : m ≡ 2 ^ 64 - 1 = omega (arith, c) in
      large big (subst (λ k. n ≡ min (min (k * base) (2 ^ 64 - 1) + d) (2 ^ 64 - 1)) same e))
]
  where
    small : n ≡ min (min (v * base) (2 ^ 64 - 1) + d) (2 ^ 64 - 1) → n ≡ min (v * base + d) (2 ^ 64 - 1)
    small f = omega (arith, f)

    large : 2 ^ 64 - 1 ≤ v → n ≡ min (min ((2 ^ 64 - 1) * base) (2 ^ 64 - 1) + d) (2 ^ 64 - 1)
        → n ≡ min (v * base + d) (2 ^ 64 - 1)
    large big f = search (arith, rules, le-mul_of_pos_right)

-- The digits between the text and the rest have been read.
abbrev pub IsSum : ℕ → ℕ → Text → ℕ → Text → Type 0
IsSum base start x m rest = (v : ℕ) × IsCapped m v × (digits_at base v rest ≡ digits_at base start x)

pub sum_starts : (base start : ℕ) (x : Text) → start ≤ 2 ^ 64 - 1 → IsSum base start x start x
sum_starts base start x le = (start, omega arith, refl)

pub sum_goes_on : (base start m d n : ℕ) (x rest more : Text) → IsSum base start x m rest
    → next_digit base rest ≡ Some (d, more) → n ≡ min (min (m * base) (2 ^ 64 - 1) + d) (2 ^ 64 - 1)
    → IsSum base start x n more
sum_goes_on base start m d n x rest more s h e =
    let f = further base s.0 d rest more h in
    (s.0 * base + d, grown_is s.0 m base d n s.1 f.1 e, sym f.0 ∙ s.2)

pub digit_shrinks : (base d : ℕ) (rest more : Text) → next_digit base rest ≡ Some (d, more) → length more < length rest
digit_shrinks base d rest more h = (further base 0 d rest more h).2

pub sum_ends : (base start m : ℕ) (x rest : Text) → IsSum base start x m rest → next_digit base rest ≡ None
    → IsCapped m (digits_at base start x).0 × (rest ≡ (digits_at base start x).1)
sum_ends base start m x rest s h = search (arith, rules, no_further)

-- ---- the base

pub named_not : (x more : Text) (c base : ℕ) → x ≡ c ∷ more → base ≡ base_of c → next_digit base more ≡ None
    → names_base x ≡ false
named_not x more c base e b h = rw e (ap (λ k. goes_on k more) (sym b) ∙ goes_on_none base more h)

pub named_so : (x more : Text) (c base : ℕ) (p : ℕ × Text) → x ≡ c ∷ more → base ≡ base_of c
    → next_digit base more ≡ Some p → (names_base x ≡ true) × (based_at x ≡ digits_at base 0 more)
named_so x more c base p e b h =
    rw e (ap (λ k. goes_on k more) (sym b) ∙ goes_on_some base more p h, ap (λ k. digits_at k 0 more) (sym b))
