-- The lines of a source, as the compiler counts them.
use Rattle.std.specs.Prelude.{ℕ, zero, suc, ◌+◌, List, [], ◌==◌, count_by, nat_le, length, if◌then◌else◌}
use Rattle.std.specs.List.{before_first, after_first}
use Rattle.jt_scan.specs.LineEnds.{normalized}
use Rattle.jt_scan.specs.SourceView.{max_source_len}
use Rattle.jt_scan.specs.declared.options.Options.{Options}

-- The text before the first LF, or the whole text.
abbrev pub first_line : List ℕ → List ℕ
first_line text = before_first (λ b. b == 10) text

-- The text after the first LF, if there is one.
abbrev pub after_line : List ℕ → List ℕ
after_line text = after_first (λ b. b == 10) text

-- The line of this number, counted from 1, or an empty text if there is none.
abbrev pub line_of : ℕ → List ℕ → List ℕ
line_of zero text = []
line_of (suc zero) text = first_line text
line_of (suc (suc n)) text = line_of (suc n) (after_line text)

-- The line of a source. A source that is too long has no line.
abbrev pub source_line : Options → List ℕ → ℕ → List ℕ
source_line options text line =
    if nat_le (length text) max_source_len then line_of line (normalized options.keep_trailing_newline text) else []

-- The number of the line at the end of a text, counted from 1.
abbrev pub line_number : List ℕ → ℕ
line_number text = 1 + count_by (λ b. b == 10) text

-- The last line of a text, as far as the text has it.
abbrev pub last_line : List ℕ → List ℕ
last_line text = line_of (line_number text) text
