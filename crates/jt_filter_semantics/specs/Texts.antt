-- The filters on printed texts. A text is its UTF-8 bytes. Only ASCII letters and ASCII whitespace
-- count, so the bytes of longer characters stay.
use Rattle.std.specs.Prelude.{ℕ, zero, suc, ◌-◌, Bool, ◌||◌, ◌&&◌, ◌==◌, nat_le, List, [], ◌∷◌, ◌++◌, reverse, length}
use Rattle.std.specs.Prelude.{Result, Ok, Err, if◌then◌else◌}
use Rattle.std.specs.Char.{to_ascii_uppercase}
use Rattle.std.specs.Str.{chars, encode_utf8_all, str_to_ascii_lowercase}
use Rattle.jt_value.specs.declared.fault.Fault.{Fault}
use Rattle.jt_value.specs.declared.fault.Fault.TheVariants.{BadArgument}
use Rattle.jt_value.specs.Tree.{Tree, text, markup, printed, is_nonempty}
use Rattle.jt_escape.specs.Escaping.{escaped}
use Rattle.jt_escape.specs.Joining.{or_unprintable}
use Rattle.jt_op_semantics.specs.Membership.{begins_with}
use Rattle.jt_op_semantics.specs.Operands.{operand_fault_of_one}

-- A text of the value's kind: markup for markup, else plain.
abbrev pub of_same_kind : Tree → List ℕ → Tree
of_same_kind (markup s) changed = markup changed
of_same_kind t changed = text changed

-- The changed printed text of a value. Markup stays markup, and all other values become plain text.
abbrev pub keeping_kind : (List ℕ → List ℕ) → Tree → Result Tree Fault
keeping_kind change t = or_unprintable (λ s. of_same_kind t (change s)) (printed t)

-- The text unchanged.
abbrev pub unchanged : List ℕ → List ℕ
unchanged s = s

-- The first character in upper case and the rest in lower case.
abbrev pub capitalized : List ℕ → List ℕ
capitalized [] = []
capitalized (b ∷ s) = to_ascii_uppercase b ∷ str_to_ascii_lowercase s

-- True for space, tab, LF, VT, FF and CR.
abbrev pub is_whitespace : ℕ → Bool
is_whitespace b = b == 32 || (nat_le 9 b && nat_le b 13)

-- The text without leading whitespace.
abbrev pub trimmed_front : List ℕ → List ℕ
trimmed_front [] = []
trimmed_front (b ∷ s) = if is_whitespace b then trimmed_front s else b ∷ s

-- The text without whitespace at both ends.
abbrev pub trimmed : List ℕ → List ℕ
trimmed s = reverse (trimmed_front (reverse (trimmed_front s)))

-- `safe`: the printed text as markup.
abbrev pub safe : Tree → Result Tree Fault
safe t = or_unprintable markup (printed t)

-- `forceescape`: the escaped printed text as markup.
abbrev pub escaped_again : Tree → Result Tree Fault
escaped_again t = or_unprintable (λ s. markup (escaped s)) (printed t)

-- `escape`: markup itself, and for any other value the escaped printed text as markup.
abbrev pub escaped_once : Tree → Result Tree Fault
escaped_once (markup s) = Ok (markup s)
escaped_once t = escaped_again t

-- The characters of a text in reverse order.
abbrev pub backwards : List ℕ → List ℕ
backwards s = encode_utf8_all (reverse (chars s))

-- A text with each occurrence of `old` replaced, from the left and without overlap. The first
-- `skipped` bytes are dropped.
abbrev pub replaced_behind : ℕ → List ℕ → List ℕ → List ℕ → List ℕ
replaced_behind skipped old new [] = []
replaced_behind (suc skipped) old new (b ∷ s) = replaced_behind skipped old new s
replaced_behind zero old new (b ∷ s) =
    if begins_with (b ∷ s) old
    then new ++ replaced_behind (length old - 1) old new s
    else b ∷ replaced_behind zero old new s

-- `replace`: all three values are plain texts, and `old` is not empty.
abbrev pub replaced : Tree → Tree → Tree → Result Tree Fault
replaced (text s) (text old) (text new) =
    if is_nonempty old then Ok (text (replaced_behind 0 old new s)) else Err BadArgument
replaced (text s) old new = Err BadArgument
replaced t old new = Err (operand_fault_of_one t)
