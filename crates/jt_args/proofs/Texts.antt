-- Facts about the text of an option that its parser accepted.
use Rattle.std.proofs.Common.{◌≡◌, ◌<◌, ◌≤◌, ◌^◌, ◌==◌, ◌||◌, ℕ, Bool, true, false, cond, codes, drop, List, [], ◌∷◌}
use Rattle.std.proofs.Common.{Some, None, refl, subst, sym, arith, inl, inr, rules}
use Rattle.std.specs.Prelude.{pos, unwrap_or}
use Rattle.std.specs.Str.{bytes_eq}
use Rattle.std.specs.Str.Parse.{IsNumeral, digits_value, starts_with_minus, without_leading_plus}
use Rattle.std.proofs.lemmas.Bool.{ne_eqb}
use Rattle.std.proofs.lemmas.Int.{ints}
use Rattle.std.proofs.lemmas.Slice.Eq.{bytes_eq-Decides}
use Rattle.std.proofs.lemmas.Str.Parse.{digit_from_value}
use Rattle.clap.specs.Lexer.{without_minus}
use Rattle.clap.specs.Words.{IsSignedIn, Text}
use Rattle.clap.specs.ValueTests.{accepts}
use Rattle.clap.specs.declared.builder.ValueParser.TheVariants as parser
use Rattle.clap.proofs.ValueTestLemmas.{accepts-Accepts}
use Rattle.jt_args.specs.Line.{IsNumber, IsSwitch}

without_minus_is : (t : Text) → without_minus t ≡ cond (starts_with_minus t) (drop 1 t) t
without_minus_is [] = refl
without_minus_is (x ∷ xs) = go (x == 45)
  where
    go : (b : Bool) → unwrap_or (cond b (Some xs) None) (x ∷ xs) ≡ cond b xs (x ∷ xs)
    go true = refl
    go false = refl

-- A numeral has no plus before its digits.
no_plus : (ds : List ℕ) → IsNumeral 10 ds → without_leading_plus ds ≡ ds
no_plus ds a1 = search (arith, rules, ne_eqb, digit_from_value)

-- A signed number in a range that is not below 0 has a minus only in `-0`. Without the minus it is
-- a number in the range.
in_range : (bits low high : ℕ) (t : Text) → high < 2 ^ bits → IsSignedIn (pos low) (pos high) t
    → IsNumber bits (without_minus t) × (low ≤ digits_value 10 (without_leading_plus (without_minus t)))
    × (digits_value 10 (without_leading_plus (without_minus t)) ≤ high)
in_range bits low high t fits passed = subst Fits (sym (without_minus_is t)) (go (starts_with_minus t) refl)
  where
    Fits : Text → Type 0
    Fits u =
        IsNumber bits u × (low ≤ digits_value 10 (without_leading_plus u))
        × (digits_value 10 (without_leading_plus u) ≤ high)

    go : (b : Bool) → starts_with_minus t ≡ b → Fits (cond b (drop 1 t) t)
    go true minus =
        let low_ok = rw minus at passed.2 in
        let numeral : IsNumeral 10 (drop 1 t) = rw minus at passed.0 in
        let same = no_plus (drop 1 t) numeral in
        let small : digits_value 10 (drop 1 t) < 2 ^ bits = omega (arith, ints) in
        let least : low ≤ digits_value 10 (drop 1 t) = omega (arith, ints) in
        let most : digits_value 10 (drop 1 t) ≤ high = omega (arith, ints) in
        ((rw same numeral, rw same small), rw same least, rw same most)
    go false minus =
        let low_ok = rw minus at passed.2 in
        let high_ok = rw minus at passed.3 in
        let numeral = rw minus at passed.0 in
        ((numeral, omega (arith, ints)), omega (arith, ints), omega (arith, ints))

pub short_text : (bits high : ℕ) (raw : Text) → high < 2 ^ bits
    → accepts false (parser.Signed (pos 0) (pos high)) raw ≡ true → IsNumber bits (without_minus raw)
short_text bits high raw fits e =
    (in_range bits 0 high raw fits (accepts-Accepts false (parser.Signed (pos 0) (pos high)) raw e)).0

pub slice_text : (raw : Text) → accepts false (parser.Signed (pos 1) (pos 1000000)) raw ≡ true
    → IsNumber 32 (without_minus raw) × (1 ≤ digits_value 10 (without_leading_plus (without_minus raw)))
    × (digits_value 10 (without_leading_plus (without_minus raw)) ≤ 1000000)
slice_text raw e =
    in_range 32 1 1000000 raw (omega arith) (accepts-Accepts false (parser.Signed (pos 1) (pos 1000000)) raw e)

pub long_text : (raw : Text) → accepts false (parser.Unsigned 0 18446744073709551615) raw ≡ true → IsNumber 64 raw
long_text raw e =
    let h = accepts-Accepts false (parser.Unsigned 0 18446744073709551615) raw e in
    (h.0, h.1)

pub switch_text : (raw : Text) → accepts false parser.Bool raw ≡ true → IsSwitch raw
switch_text raw e = go (bytes_eq raw (codes "true")) refl e
  where
    go : (b : Bool) → bytes_eq raw (codes "true") ≡ b → (b || bytes_eq raw (codes "false")) ≡ true → IsSwitch raw
    go true same f = inl ((bytes_eq-Decides raw (codes "true")).0 same)
    go false same f = inr ((bytes_eq-Decides raw (codes "false")).0 f)
