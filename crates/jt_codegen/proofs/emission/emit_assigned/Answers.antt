use Rattle.std.proofs.Common.{Some}
use Rattle.jt_ir.specs.View.{targets_view, place_view, expr_view}
use Rattle.jt_lower.specs.Lower.{expr_asm, take_asm}
use Rattle.jt_lower.proofs.JumpPatching.{puts_then}
use Rattle.jt_codegen.proofs.emission.emit_assigned.Goals as goal

pub returns : goal.returns
returns c = λ ts h s.
    let o = Some (place_view ts c.args.tag) in
    puts_then ts c.args.code.now c.emit_expression.new.code c.emit_targets.new.code
    (expr_asm o (expr_view c.args.expr.now) h) (take_asm o (targets_view c.args.targets.now))
    (c.in_ok-emit_expression.ensures ts h s) (c.in_ok-emit_targets.ensures ts)
