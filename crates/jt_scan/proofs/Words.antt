-- Texts and their characters.
use Rattle.std.proofs.Common.{◌≡◌, ℕ, zero, suc, ◌<◌, Bool, true, false, List, [], ◌∷◌, slice_index, refl, sym}
use Rattle.std.proofs.Common.{nat_eq, length, ap, ◌∙◌, arith, chars, bytes_eq, encode_utf8_all, IsUtf8, if◌then◌else◌}
use Rattle.std.specs.Bool.{one_answer}
use lib.Utf8.{scalars}
use Rattle.std.specs.Str.{is_utf8}
use Rattle.std.proofs.lemmas.Bool.Decides.{nat_tests}
use Rattle.std.proofs.lemmas.Slice.Eq.{bytes_eq-Decides}
use Rattle.std.proofs.lemmas.Str.{chars-IsAscii, is_utf8-from_IsUtf8, IsUtf8-from_ascii}
use Rattle.std.proofs.lemmas.Bool.{and_parts, false_from_ne_true}
use Rattle.jt_scan.specs.Words.{is_plain, letters_of}

-- The encoding of the characters of a text is the text.
pub spelled_again : (t : List ℕ) → IsUtf8 t → encode_utf8_all (chars t) ≡ t
unfolding is_utf8
spelled_again t u =
    (bytes_eq-Decides (encode_utf8_all (chars t)) t).0
    (and_parts (scalars (chars t)) (bytes_eq (encode_utf8_all (chars t)) t) (is_utf8-from_IsUtf8 t u)).1

pub plain_ascii : (w : List ℕ) → is_plain w ≡ true → (i : ℕ) → slice_index w i < 128
plain_ascii [] e i = omega arith
plain_ascii (c ∷ cs) e zero = let b = (and_parts _ (is_plain cs) e).0 in grind (arith, nat_tests)
plain_ascii (c ∷ cs) e (suc i) = plain_ascii cs (and_parts _ (is_plain cs) e).1 i

-- The letters of a word are its characters.
letters_are_chars : (w : List ℕ) (b : Bool) → is_plain w ≡ b → (if b then w else chars w) ≡ chars w
letters_are_chars w true e = sym (chars-IsAscii w (plain_ascii w e))
letters_are_chars w false e = refl

-- Lists of different lengths differ.
pub other_length : (t w : List ℕ) → (length t ≡ length w → ⊥) → nat_eq (length t) (length w) ≡ bytes_eq t w
other_length t w h =
    false_from_ne_true (nat_eq (length t) (length w)) (λ e. h (nat_same (length t) (length w) e))
    ∙ sym (false_from_ne_true (bytes_eq t w) (λ e. h (ap length ((bytes_eq-Decides t w).0 e))))
  where
    nat_same : (a b : ℕ) → nat_eq a b ≡ true → a ≡ b
    nat_same a b e = grind (arith, nat_tests)

-- A text equals a word if and only if its characters are the letters of the word.
pub same_word : (t w : List ℕ) → IsUtf8 t → IsUtf8 w → bytes_eq t w ≡ bytes_eq (chars t) (letters_of w)
same_word t w u v =
    let letters = letters_are_chars w (is_plain w) refl in
    one_answer (bytes_eq t w) (bytes_eq (chars t) (letters_of w)) (bytes_eq-Decides t w) (
      λ h. sym (spelled_again t u) ∙ ap encode_utf8_all ((bytes_eq-Decides (chars t) (letters_of w)).0 h ∙ letters)
          ∙ spelled_again w v,
      λ h. (bytes_eq-Decides (chars t) (letters_of w)).1 (ap chars h ∙ sym letters),
    )

-- A text equals an ASCII word if and only if its characters are the bytes of the word.
pub same_text : (t w : List ℕ) → IsUtf8 t → is_plain w ≡ true → bytes_eq t w ≡ bytes_eq (chars t) w
same_text t w u p =
    same_word t w u (IsUtf8-from_ascii w (plain_ascii w p)) ∙ ap (λ b. bytes_eq (chars t) (if b then w else chars w)) p
