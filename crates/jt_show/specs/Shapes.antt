-- Shapes as a listing shows them: V is a value, L a loop, C a capture, with the top at the right.
use Rattle.std.specs.Prelude.{ℕ, zero, suc, ◌==◌, List, [], ◌∷◌, ◌++◌, length, Option, Some, None, codes, if◌then◌else◌}
use Rattle.std.specs.Fmt.{decimal}
use Rattle.jt_image.specs.declared.Kind.{Kind}
use Rattle.jt_image.specs.declared.Kind.TheVariants as kind
use Rattle.jt_image.specs.Effect.{Shape}
use Rattle.jt_verify.specs.Entries.{values_on, without_values}

abbrev pub entry_word : Kind → List ℕ
entry_word kind.Value = codes " V"
entry_word kind.Frame = codes " L"
entry_word kind.Capture = codes " C"

-- Values one above the other. If there are several, their number follows.
abbrev pub values_text : ℕ → List ℕ
values_text n = if n == 0 then [] else if n == 1 then codes " V" else codes " V" ++ decimal n

-- The most loops and captures of a shape that are shown.
abbrev pub most_marks : ℕ
most_marks = 8

-- The number of the entries that are not shown, if there are any.
abbrev pub rest_text : ℕ → List ℕ
rest_text n = if n == 0 then [] else codes " " ++ (decimal n ++ codes " more")

-- A loop or a capture, with the text of the shape below it.
abbrev pub mark_text : (Shape → List ℕ) → Shape → List ℕ
mark_text below [] = []
mark_text below (k ∷ s) = below s ++ entry_word k

-- The entries of a shape down to the loop or capture with the number `most` from the top.
abbrev pub entries_text : ℕ → Shape → List ℕ
entries_text zero s = rest_text (length s)
entries_text (suc most) s = mark_text (entries_text most) (without_values s) ++ values_text (values_on s)

unfoldable pub shape_text : Shape → List ℕ
shape_text s = codes "[" ++ (entries_text most_marks s ++ codes " ]")

-- The end of an instruction's line: the shape before the instruction, if it is known.
abbrev pub line_end : Option Shape → List ℕ
line_end None = codes "\n"
line_end (Some s) = codes "\t" ++ (shape_text s ++ codes "\n")
