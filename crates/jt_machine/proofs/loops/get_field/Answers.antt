use Rattle.jt_machine.proofs.Vocabulary.{frame_view, slice_get}
use Rattle.jt_image.specs.Loops.{loop_field_value}
use Rattle.jt_machine.proofs.StepLemmas.{framed_is}
use Rattle.jt_machine.proofs.loops.get_field.Goals as goal

pub frame_at-requires : goal.frame_at-requires
frame_at-requires c =
    let here = rw (← c.in-Some.ensures) at c.requires.not_wrong in
    let x = framed_is (slice_get c.args.state.now.stack.running c.args.above) _ here in
    record { found = x.0; is = x.1 }

pub returns : goal.returns
returns c =
    rw (← c.in-Some.ensures, c.frame_at.ensures)
    (c.push_answer.ensures (loop_field_value c.in-Some.field (frame_view c.frame_at.result.now))
    (rw c.limits_of-limits.ensures at c.loop_field_value-answer.ensures))
