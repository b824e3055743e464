use Rattle.std.proofs.Common.{length, Result}
use Rattle.jt_parse.specs.Kept.{pieces, pieces_from}
use Rattle.jt_parse.specs.internal.Reading.{Fault, State, start, Runs}
use Rattle.jt_parse.specs.View.{reads_of}
use Rattle.jt_parse.specs.internal.SideView.{side_view}
use Rattle.jt_parse.specs.internal.Gives.{state_view}
use Rattle.jt_parse.proofs.parser.read.Given as goal

abbrev pub invariant-segments : goal.invariant-segments
invariant-segments l =
    (o : Result State Fault) → Runs 100 (state_view l.parser) (pieces_from (side_view l.left) (reads_of l.rest)) o
    → Runs 100 start (pieces (reads_of l.segments)) o

abbrev pub decreases-segments : goal.decreases-segments
decreases-segments l = length l.rest
