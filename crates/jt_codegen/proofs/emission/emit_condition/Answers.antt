use Rattle.std.proofs.Common.{refl, ap}
use Rattle.std.specs.Prelude.{option_map}
use Rattle.jt_image.specs.declared.instruction.Instruction.TheVariants as op
use Rattle.jt_ir.specs.View.{targets_view, expr_view}
use Rattle.jt_lower.specs.Asm.{Asm, one, both, each}
use Rattle.jt_lower.specs.Lower.{expr_asm, take_asm, kept_asm}
use Rattle.jt_lower.specs.Emission.{tag_view}
use Rattle.jt_lower.proofs.JumpPatching.{puts_then, puts_as, puts_turns}
use Rattle.jt_codegen.proofs.StatementEmission.{stands_itself}
use Rattle.jt_codegen.proofs.emission.emit_condition.Goals as goal

pub returns-in_ok-put-in-Some-2 : goal.returns-in_ok-put-in-Some-2
returns-in_ok-put-in-Some-2 c = λ ts.
    let o = tag_view ts c.args.tag in
    let item : Asm = both (one o (op.LoopGet 0 0)) (take_asm o (targets_view c.args.targets.now)) in
    let x : Asm = expr_asm o (expr_view c.in-Some.tested) 0 in
    let keep : Asm = one o (op.LoopKeep 0) in
    let c0 = c.args.code.now in
    let c1 = c.begin_turns.new.self in
    let c2 = c.emit_item.new.code in
    let c3 = c.emit_expression.new.code in
    let c4 = c.put.new.self in
    let c5 = c.end_turns.new.self in
    let c6 = c.put-in-Some.new.self in
    puts_as ts c0 c6 (kept_asm o (targets_view c.args.targets.now) (option_map expr_view c.args.condition.now))
    (both (each (both item (both x keep))) (one o op.LoopRewind))
    (ap (λ z. kept_asm o (targets_view c.args.targets.now) (option_map expr_view z)) c.in-Some.is)
    (puts_then ts c0 c5 c6 (each (both item (both x keep))) (one o op.LoopRewind)
    (puts_turns ts c0 c1 c4 c5 (both item (both x keep)) c.in_ok-top-in-Some.top c.in_ok-top-in-Some.ensures
    (puts_then ts c1 c2 c4 item (both x keep) (c.in_ok-emit_item-in-Some.ensures ts)
    (puts_then ts c2 c3 c4 x keep (c.in_ok-emit_expression-in-Some.ensures ts 0 (stands_itself 0))
    (c.in_ok-put-in-Some.ensures ts (op.LoopKeep 0) refl)))
    c.in_ok-end_turns-in-Some.ensures)
    (c.in_ok-put-in-Some-2.ensures ts op.LoopRewind refl))
