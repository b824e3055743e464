-- The numbers that texts write.
use Rattle.std.proofs.Common.{◌≡◌, ℕ, ◌^◌, ◌<◌, Bool, true, false, Option, Some, None, List, [], ◌∷◌, length, ℤ, pos}
use Rattle.std.proofs.Common.{negsuc, refl, sym, ap, ◌∙◌, inl, inr, arith, rules}
use Rattle.std.specs.Prelude.{Result, Ok, Err, FitsSigned, ◌==◌, ◌⊎◌, if◌then◌else◌}
use Rattle.std.specs.Char.{digit_value, is_ascii_digit}
use Rattle.std.specs.Int.{w64}
use Rattle.std.specs.List.{list_all}
use Rattle.std.specs.Result.{result_ok}
use Rattle.std.specs.Option.{option_and_then}
use Rattle.std.specs.Str.Parse.{AllDigits, IsNumeral, ParsesSigned, digits_value, without_leading_sign}
use Rattle.std.specs.Str.Parse.{signed_digits_value}
use Rattle.std.proofs.lemmas.Bool.{and_parts, false≢true}
use Rattle.std.proofs.lemmas.Bool.Decides.{nat_tests}
use Rattle.jt_op_semantics.specs.Arithmetic.{is_in_range}
use Rattle.jt_filter_semantics.specs.Numbers.{number_of_digits, number_with_sign, number_of_text}

digit_small : (b : ℕ) → is_ascii_digit b ≡ true → digit_value b < 10
digit_small b e = grind (arith, nat_tests)

small_digit : (b : ℕ) → digit_value b < 10 → is_ascii_digit b ≡ true
small_digit b lt = grind (arith, nat_tests)

all_small : (ds : List ℕ) → list_all is_ascii_digit ds ≡ true → AllDigits 10 ds
all_small [] e = tt
all_small (b ∷ ds) e =
    let p = and_parts (is_ascii_digit b) (list_all is_ascii_digit ds) e in (digit_small b p.0, all_small ds p.1)

small_all : (ds : List ℕ) → AllDigits 10 ds → list_all is_ascii_digit ds ≡ true
small_all [] h = refl
small_all (b ∷ ds) h = rw (small_digit b h.0, small_all ds h.1) refl

digits_are : (ds : List ℕ) → IsNumeral 10 ds → number_of_digits ds ≡ Some (pos (digits_value 10 ds))
digits_are [] h = absurd (omega (arith, h.0))
digits_are (b ∷ ds) h = rw (small_all (b ∷ ds) h.1) refl

digits_none : (all : Bool) (ds : List ℕ) → list_all is_ascii_digit ds ≡ all → ¬ IsNumeral 10 ds
    → number_of_digits ds ≡ None
digits_none all ds a2 a3 = search (arith, rules, all_small)

numeral_by : (all : Bool) (ds : List ℕ) → list_all is_ascii_digit ds ≡ all → 0 < length ds
    → IsNumeral 10 ds ⊎ (¬ IsNumeral 10 ds)
numeral_by true ds e some = inl (some, all_small ds e)
numeral_by false ds e some = inr (λ h. false≢true (sym e ∙ small_all ds h.1))

numeral_or_not : (ds : List ℕ) → IsNumeral 10 ds ⊎ (¬ IsNumeral 10 ds)
numeral_or_not [] = inr (λ h. absurd (omega (arith, h.0)))
numeral_or_not (b ∷ ds) = numeral_by (list_all is_ascii_digit (b ∷ ds)) (b ∷ ds) refl (omega arith)

-- The number that a text with or without a sign writes.
record Writes (s : List ℕ) : Type 0 where
  some : IsNumeral 10 (without_leading_sign s) → number_with_sign s ≡ Some (signed_digits_value 10 s)
  none : ¬ IsNumeral 10 (without_leading_sign s) → number_with_sign s ≡ None

writes_by : (minus plus : Bool) (b : ℕ) (s : List ℕ) → (b == 45) ≡ minus → (b == 43) ≡ plus → Writes (b ∷ s)
writes_by minus plus b s a4 a5 = search (arith, rules, digits_are, digits_none)

writes : (s : List ℕ) → Writes s
writes [] = record { some = λ h. absurd (omega (arith, h.0)); none = λ h. refl }
writes (b ∷ s) = writes_by (b == 45) (b == 43) b s refl refl

fits_in : (z : ℤ) → FitsSigned w64 z → is_in_range z ≡ true
fits_in (pos n) h = let lt : n < 2 ^ 63 = h.sfits in grind (arith, nat_tests)
fits_in (negsuc n) h = let lt : n < 2 ^ 63 = h.sfits in grind (arith, nat_tests)

fits_not : (z : ℤ) → ¬ FitsSigned w64 z → is_in_range z ≡ false
fits_not (pos n) h = let none : n < 2 ^ 63 → ⊥ = λ lt. h (record { sfits = lt }) in grind (arith, nat_tests)
fits_not (negsuc n) h = let none : n < 2 ^ 63 → ⊥ = λ lt. h (record { sfits = lt }) in grind (arith, nat_tests)

abbrev if_fits : ℤ → Option ℤ
if_fits z = if is_in_range z then Some z else None

-- The result of `parse` is the number that the text writes.
pub number_of_text_is : {E : Type 0} (s : List ℕ) (r : Result ℤ E) → ParsesSigned w64 10 s r
    → result_ok r ≡ number_of_text s
number_of_text_is s (Ok z) h =
    ap (λ (x : ℤ). Some x) h.1
    ∙ sym (ap (option_and_then if_fits) ((writes s).some h.0.0) ∙ rw (fits_in _ h.0.1) refl)
number_of_text_is s (Err e) h =
    elim (numeral_or_not (without_leading_sign s)) [
      | inl numeral ↦
          sym (ap (option_and_then if_fits) ((writes s).some numeral) ∙ rw (fits_not _ (λ f. h (numeral, f))) refl)
      | inr not ↦ sym (ap (option_and_then if_fits) ((writes s).none not))
    ]
