use Rattle.std.proofs.Common.{◌≡◌, ◌<◌, length}
use Rattle.std.specs.Prelude.{slice_get}
use Rattle.jt_verify.specs.Arena.{shape_in, lists_of}
use Rattle.jt_verify.proofs.arena.kind_in.Given as goal

abbrev pub invariant-marks : goal.invariant-marks
invariant-marks l = record {
  same : slice_get (shape_in (lists_of l.nodes) l.rest) l.left
      ≡ slice_get (shape_in (lists_of l.nodes) l.fn.shape) l.fn.above;
  inside : l.rest.node < length (lists_of l.nodes);
}

abbrev pub decreases-marks : goal.decreases-marks
decreases-marks l = l.rest.node
