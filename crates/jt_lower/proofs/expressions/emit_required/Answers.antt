use Rattle.std.proofs.Common.{refl, ap}
use Rattle.jt_image.specs.declared.instruction.Instruction.TheVariants as op
use Rattle.jt_ids.specs.TestTable.{test_id}
use Rattle.jt_ids.specs.declared.test_id.TestId.TheVariants as tests
use Rattle.jt_ir.specs.Slots as slots
use Rattle.jt_lower.specs.Asm.{Asm, one, both, when}
use Rattle.jt_lower.specs.Lower.{nary_op}
use Rattle.jt_lower.specs.Emission.{tag_view}
use Rattle.jt_lower.proofs.JumpPatching.{puts_then, puts_when}
use Rattle.jt_lower.proofs.expressions.emit_required.Goals as goal

pub returns : goal.returns
returns c = λ ts.
    let o = tag_view ts c.args.tag in
    let fails : Asm = one o (nary_op slots.required 1) in
    let test = op.Test (test_id tests.Undefined) 1 in
    let c1 = c.put.new.self in
    let c2 = c.put-2.new.self in
    let c5 = c.end_when.new.self in
    puts_then ts c.args.code.now c1 c5 (one o op.Dup) (both (one o test) (when fails))
    (c.in_ok-put.ensures ts op.Dup refl)
    (puts_then ts c1 c2 c5 (one o test) (when fails)
    (c.in_ok-put-2.ensures ts test (ap (λ i. op.Test i 1) c.id.ensures))
    (puts_when ts c2 c.begin_choice.new.self c.put-3.new.self c5 fails c.in_ok-choice.choice c.in_ok-choice.ensures
    (c.in_ok-put-3.ensures ts (nary_op slots.required 1) c.made_of.ensures) c.end_when.ensures))
