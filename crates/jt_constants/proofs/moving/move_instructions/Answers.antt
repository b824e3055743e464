use Rattle.std.proofs.Common.{get_or, refl, arith}
use Rattle.jt_image.specs.declared.wire.Instr.{Instr}
use Rattle.jt_image.specs.Reading.{instruction_of}
use Rattle.jt_constants.specs.Merged.{with_indices}
use Rattle.jt_constants.proofs.LoopPrefix.{changed_more, whole}
use Rattle.jt_constants.proofs.moving.move_instructions.Goals as goal

pub loop-at-preserved : goal.loop-at-preserved
loop-at-preserved c = λ is e.
    let l = c.loop-at in
    let none : Instr = record { op = 0; a = 0; b = 0; c = 0 } in
    changed_more instruction_of (with_indices c.args.indices.now) l.at l.code is (get_or l.code l.at none)
    c.moved_instruction.result none (l.invariant is e) (omega (arith, c.loop-at-test.true, l.auto.code)) refl
    c.moved_instruction.ensures

pub returns : goal.returns
returns c =
    λ is e. whole instruction_of (with_indices c.args.indices.now) c.args.code.now c.loop-at.code is c.loop-at.at
    c.loop-at-test.false e (c.loop-at.invariant is e)
