-- The view of neighbours in contracts. Only private clauses cite this module.
use Rattle.std.specs.Prelude.{ℕ, Bool, List}
use Rattle.jt_scan.specs.Cut.{is_space}
use Rattle.jt_scan.specs.declared.segment.Segment.{Segment}
use Rattle.jt_parse.specs.Kept as kept
use Rattle.jt_parse.specs.Kept.{is_blank, side_ahead}
use Rattle.jt_parse.specs.View.{reads_of}
use Rattle.jt_parse.specs.declared.kept.Neighbour.{Neighbour}
use Rattle.jt_parse.specs.declared.kept.Neighbour.TheVariants as s
use Rattle.jt_parse.specs.declared.kept.TrimmedChars.{TrimmedChars}
use Rattle.jt_parse.specs.declared.kept.TrimmedChars.TheVariants as p

abbrev pub side_view : Neighbour → kept.Neighbour
side_view s.Nothing = kept.nothing
side_view s.Words = kept.words
side_view (s.Block mark) = kept.block_side mark
side_view (s.Variable mark) = kept.variable_side mark

abbrev pub ahead_view : List Segment → kept.Neighbour
ahead_view ss = side_ahead (reads_of ss)

-- The characters that are trimmed.
abbrev pub test_of : TrimmedChars → ℕ → Bool
test_of p.All = is_space
test_of p.Blank = is_blank
