use Rattle.jt_machine.proofs.Vocabulary.{slice_get}
use Rattle.jt_machine.proofs.AllocationPoints.{lost}
use Rattle.jt_machine.proofs.StepLemmas.{framed_is}
use Rattle.jt_machine.proofs.loops.keep_item.Goals as goal

pub keep_if-requires : goal.keep_if-requires
keep_if-requires c =
    let x = framed_is (slice_get c.pop.new.self.running c.args.above) _ (rw c.pop.ensures at c.requires.not_wrong) in
    record { found = x.0; is = x.1 }

pub returns : goal.returns
returns c =
    let x = framed_is (slice_get c.pop.new.self.running c.args.above) _ (rw c.pop.ensures at c.requires.not_wrong) in
    rw (c.pop.ensures, x.1) (rw (rw c.truth-truth.ensures at (c.in_ok-keep_if.ensures x.0 x.1)) at c.step_on.ensures)

pub returns-in_err-keep_if : goal.returns-in_err-keep_if
returns-in_err-keep_if c =
    let x = framed_is (slice_get c.pop.new.self.running c.args.above) _ (rw c.pop.ensures at c.requires.not_wrong) in
    lost _ _ _ c.from_residual.result c.from_residual.ensures.1 (rw (c.pop.ensures, x.1) tt)
