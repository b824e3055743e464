-- The view of segments in contracts, each with its options.
use Rattle.std.specs.Prelude.{List, map}
use Rattle.jt_scan.specs.declared.segment.Segment.{Segment}
use Rattle.jt_scan.specs.View.{segment_view}
use Rattle.jt_parse.specs.Kept.{Read, SourcePiece, pieces}

-- A segment with its options.
abbrev pub read_view : Segment → Read
read_view s = (s.options, segment_view s)

abbrev pub reads_of : List Segment → List Read
reads_of = map read_view

-- The pieces of a list of segments.
abbrev pub pieces_of : List Segment → List SourcePiece
pieces_of ss = pieces (reads_of ss)
