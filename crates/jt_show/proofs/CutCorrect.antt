-- The last index at which a text may be cut is the last one at which a character begins.
use Rattle.std.proofs.Common.{◌≡◌, ℕ, zero, suc, ◌<◌, ◌≤◌, true, false, List, length, cond, ap, subst, sym, ◌∙◌, arith}
use Rattle.std.proofs.Common.{get_or}
use Rattle.std.proofs.lemmas.Bool.{cases_lt}
use Rattle.std.proofs.lemmas.Bool.Decides.{nat_tests}
use Rattle.std.specs.Str.{IsCharBoundary}
use Rattle.std.specs.Fmt.{is_char_start}
use Rattle.std.proofs.Common.{inl, inr}
use Rattle.jt_show.specs.Quoted.{boundary}

starts : (b : ℕ) → (128 ≤ b → 192 ≤ b) → is_char_start b ≡ true
starts b h = elim (cases_lt b 128) [
  | inl low ↦ grind (arith, nat_tests)
  | inr high ↦ let top = h high in grind (arith, nat_tests)
]

continues : (b : ℕ) → ¬ (128 ≤ b → 192 ≤ b) → is_char_start b ≡ false
continues b h = elim (cases_lt b 128) [
  | inl low ↦ absurd (h (λ high. omega (arith, low, high)))
  | inr high ↦ elim (cases_lt b 192) [ inl mid ↦ grind (arith, nat_tests) | inr top ↦ absurd (h (λ _. top)) ]
]

-- If a text may be cut at `kept` and at no index after it up to `most`, then `kept` is the greatest
-- index up to `most` at which a character begins.
pub boundary_is : (text : List ℕ) (most kept : ℕ) → most < length text → kept ≤ most → IsCharBoundary text kept
    → ((i : ℕ) → kept < i → i ≤ most → ¬ (IsCharBoundary text i))
    → kept ≡ boundary text most
unfolding boundary
boundary_is text zero kept within low at none = omega (arith, low)
boundary_is text (suc most) kept within low at none = elim (cases_lt kept (suc most)) [
  | inl below ↦
      let no : ¬ (128 ≤ get_or text (suc most) 0 → 192 ≤ get_or text (suc most) 0) =
      λ h. none (suc most) below (omega arith) (omega (arith, within), λ _. h) in
      boundary_is text most kept (omega (arith, within)) (omega (arith, below)) at
      (λ i above upto. none i above (omega (arith, upto)))
      ∙ sym (ap (λ b. cond b (suc most) (boundary text most)) (continues _ no))
  | inr above ↦
      let same : kept ≡ suc most = omega (arith, low, above) in
      let begins : IsCharBoundary text (suc most) = subst (λ (n : ℕ). IsCharBoundary text n) same at in
      same ∙ sym (ap (λ b. cond b (suc most) (boundary text most)) (starts _ (begins.1 within)))
]
