-- The first character of a text.
use Rattle.std.proofs.Common.{◌≡◌, ℕ, List, ◌++◌, length, take, drop, arith, rules}
use Rattle.std.proofs.Math.Seq.{take-append_seam, drop-append_seam}
use Rattle.std.proofs.lemmas.Str.{chars_past_char, IsCharBoundary-at_seam, IsUtf8-past_char}
use Rattle.std.specs.Char.{encode_utf8}
use Rattle.std.specs.Str.{chars, IsUtf8, IsCharBoundary}
use Rattle.jt_value.specs.Iteration.{character_items}
use Rattle.jt_value.specs.Tree as tree

-- A text may be cut after its first character.
pub cut_behind : (bs rest : List ℕ) (c n : ℕ) → IsUtf8 bs → bs ≡ encode_utf8 c ++ rest → n ≡ length (encode_utf8 c)
    → IsCharBoundary bs n
cut_behind bs rest c n valid is len =
    rw len (IsCharBoundary-at_seam bs (encode_utf8 c) rest is (IsUtf8-past_char bs rest c valid is))

-- A text is its first character followed by the rest.
pub first_behind : (bs rest first behind : List ℕ) (c n : ℕ) → IsUtf8 bs → bs ≡ encode_utf8 c ++ rest
    → n ≡ length (encode_utf8 c) → first ≡ take n bs → behind ≡ drop n bs
    → character_items (chars bs) ≡ tree.item (tree.text first) (character_items (chars behind))
first_behind bs rest first behind c n valid is len front back =
    search (arith, rules, take-append_seam, drop-append_seam, chars_past_char)
