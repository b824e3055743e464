use Rattle.std.proofs.Common.{ap}
use Rattle.jt_image.specs.declared.instruction.Instruction.TheVariants as op
use Rattle.jt_ir.specs.View.{targets_view}
use Rattle.jt_lower.specs.Asm.{one}
use Rattle.jt_lower.specs.Lower.{take_asm}
use Rattle.jt_lower.specs.Emission.{tag_view}
use Rattle.jt_lower.proofs.JumpPatching.{puts_then}
use Rattle.jt_codegen.proofs.targets.emit_item.Goals as goal

pub returns : goal.returns
returns c = λ ts.
    let o = tag_view ts c.args.tag in
    puts_then ts c.args.code.now c.put.new.self c.emit_targets.new.code (one o (op.LoopGet 0 0))
    (take_asm o (targets_view c.args.targets.now))
    (c.in_ok-put.ensures ts (op.LoopGet 0 0) (ap (λ n. op.LoopGet n 0) c.id.ensures)) (c.in_ok-emit_targets.ensures ts)
