-- Texts in another case, trimmed, and reversed.
use Rattle.std.proofs.Common.{◌≡◌, ℕ, ◌+◌, ◌<◌, Bool, true, cond, List, [], ◌∷◌, ◌++◌, map, reverse, length}
use Rattle.std.proofs.Common.{get_or, take, drop, refl, sym, ap, ◌∙◌, arith, length-append}
use Rattle.std.proofs.lemmas.List.{append-nil, take_more, reverse-append, at_drop_more}
use Rattle.std.proofs.lemmas.Str.{encodes-chars, encodes-append}
use Rattle.std.proofs.lemmas.Bool.Decides.{nat_tests}
use Rattle.std.specs.Char.{to_ascii_lowercase}
use lib.Utf8.{encode}
use Rattle.std.specs.Str.{chars, encode_utf8_all, IsUtf8}
use Rattle.jt_filter_semantics.specs.Texts.{capitalized, trimmed_front, is_whitespace, backwards}

pub length-map : (f : ℕ → ℕ) (s : List ℕ) → length (map f s) ≡ length s
length-map f [] = refl
length-map f (b ∷ s) = omega (arith, length-map f s)

pub capitalized_length : (s : List ℕ) → length (capitalized s) ≡ length s
capitalized_length [] = refl
capitalized_length (b ∷ s) = omega (arith, length-map to_ascii_lowercase s)

length_encodes-reverse : (cs : List ℕ) → length (encode_utf8_all (reverse cs)) ≡ length (encode_utf8_all cs)
length_encodes-reverse [] = refl
length_encodes-reverse (c ∷ cs) =
    ap (λ (xs : List ℕ). length (encode_utf8_all xs)) (reverse-append (c ∷ []) cs)
    ∙ omega (
      arith,
      ap length (encodes-append (reverse cs) (c ∷ [])),
      length-append (encode_utf8_all (reverse cs)) (encode_utf8_all (c ∷ [])),
      length-append (encode c) [],
      length-append (encode c) (encode_utf8_all cs),
      length_encodes-reverse cs,
    )

pub backwards_length : (s : List ℕ) → IsUtf8 s → length (backwards s) ≡ length s
backwards_length s valid = length_encodes-reverse (chars s) ∙ ap length (encodes-chars s valid)

pub white_ascii : (b : ℕ) → is_whitespace b ≡ true → b < 128
white_ascii b e = grind (arith, nat_tests)

-- Whitespace at the front does not change the text trimmed at the front.
pub front_white : (s : List ℕ) (n : ℕ) → n < length s → is_whitespace (get_or s n 0) ≡ true
    → trimmed_front (drop n s) ≡ trimmed_front (drop (n + 1) s)
front_white s n inside white =
    at_drop_more trimmed_front s n 0 inside
    ∙ ap (λ (b : Bool). cond b (trimmed_front (drop (n + 1) s)) (get_or s n 0 ∷ drop (n + 1) s)) white

-- The bytes of the first i characters and of the next one are those of i + 1 characters.
pub encodes_more : (cs : List ℕ) (i c : ℕ) → i < length cs → c ≡ get_or cs i c
    → encode_utf8_all (take (i + 1) cs) ≡ encode_utf8_all (take i cs) ++ encode c
encodes_more cs i c inside is =
    ap encode_utf8_all (take_more cs i c inside ∙ ap (λ (x : ℕ). take i cs ++ x ∷ []) (sym is))
    ∙ encodes-append (take i cs) (c ∷ [])
    ∙ ap (λ (xs : List ℕ). encode_utf8_all (take i cs) ++ xs) (append-nil (encode c))
