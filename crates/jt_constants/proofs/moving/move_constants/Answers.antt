use Rattle.std.proofs.Common.{arith, rules}
use Rattle.jt_image.specs.Parts.{section_of_unit}
use Rattle.jt_constants.specs.Merged.{moved_unit}
use Rattle.jt_constants.proofs.LoopPrefix.{changed_more, whole}
use Rattle.jt_constants.proofs.moving.move_constants.Goals as goal

pub loop-at-preserved : goal.loop-at-preserved
loop-at-preserved c = search (arith, rules, changed_more)

pub returns : goal.returns
returns c =
    λ us e. whole section_of_unit (moved_unit c.args.indices.now) c.args.units.now c.loop-at.units us c.loop-at.at
    c.loop-at-test.false e (c.loop-at.invariant us e)
