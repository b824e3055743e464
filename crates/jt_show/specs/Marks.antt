-- The mark at the point where the verifier refuses a unit.
use Rattle.std.specs.Prelude.{ℕ, ◌+◌, ◌==◌, Bool, true, false, List, [], ◌++◌, Option, Some, None, codes, if◌then◌else◌}
use Rattle.std.specs.Fmt.{decimal}
use Rattle.jt_image.specs.declared.Kind.{Kind}
use Rattle.jt_image.specs.declared.Kind.TheVariants as kind
use Rattle.jt_image.specs.declared.Flaw.{Flaw}
use Rattle.jt_image.specs.declared.Flaw.TheVariants as flaw
use Rattle.jt_image.specs.declared.instruction.Instruction.{Instruction}
use Rattle.jt_image.specs.declared.instruction.Instruction.TheVariants as op
use Rattle.jt_image.specs.Effect.{Shape}
use Rattle.jt_verify.specs.Entries.{values_on}
use Rattle.jt_verify.specs.Names.{name_of}
use Rattle.jt_verify.specs.Search.{Refused, Found, shape_at}
use Rattle.jt_show.specs.Shapes.{entry_word, shape_text}

-- LoopKeep takes a value, and then needs a loop below other entries.
abbrev pub kept_in : ℕ → ℕ → Kind × ℕ
kept_in c values = if values == 0 then (kind.Value, 0) else (kind.Frame, c + 1)

-- The entry that an instruction lacks in a shape: its kind, and the number of entries above it. Values
-- are taken from the top, so the first one that is missing lies below those that are there.
abbrev pub lacked : Instruction → Shape → Kind × ℕ
lacked (op.LoopNext c) s = (kind.Frame, 0)
lacked (op.LoopGet a c) s = (kind.Frame, c)
lacked (op.LoopKeep c) s = kept_in c (values_on s)
lacked op.LoopRewind s = (kind.Frame, 0)
lacked op.LoopEnd s = (kind.Frame, 0)
lacked (op.CaptureEnd a) s = (kind.Capture, 0)
lacked i s = (kind.Value, values_on s)

abbrev pub no_entry : Kind × ℕ → List ℕ
no_entry entry = codes ": no" ++ (entry_word entry.0 ++ (codes " below " ++ decimal entry.1))

-- K1 and K2: an instruction lacks an entry.
abbrev pub is_lack : Flaw → Bool
is_lack flaw.MissingOperand = true
is_lack flaw.WrongKind = true
is_lack f = false

-- For K1 and K2 the entry that the instruction lacks.
abbrev pub lack_text : Flaw → Option Instruction → Option Shape → List ℕ
lack_text f None s = []
lack_text f (Some i) None = []
lack_text f (Some i) (Some s) = if is_lack f then no_entry (lacked i s) else []

-- For K3 and K4 the other shape, besides the one at the end of the instruction's line.
abbrev pub detail_text : Option Shape → List ℕ → List ℕ
detail_text None lack = lack
detail_text (Some other) lack = codes ": a path brings " ++ shape_text other

-- The line of a refusal, by the instruction and the shape at its point.
abbrev pub refusal_line : Refused → Option Instruction → Option Shape → List ℕ
refusal_line r i s =
    codes "  refused " ++ (name_of r.flaw ++ (detail_text r.other (lack_text r.flaw i s) ++ codes "\n"))

abbrev pub line_if_at : Option Refused → ℕ → Option Instruction → Option Shape → List ℕ
line_if_at None point i s = []
line_if_at (Some r) point i s = if r.point == point then refusal_line r i s else []

-- The line of the refusal, if the point is the one of the refusal.
abbrev pub mark_line : Found → ℕ → Option Instruction → List ℕ
mark_line found point i = line_if_at found.refused point i (shape_at found.shapes point)
