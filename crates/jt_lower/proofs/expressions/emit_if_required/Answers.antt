use Rattle.std.proofs.Common.{suc, sym, subst}
use Rattle.jt_ir.specs.Slots.{none, required_if}
use Rattle.jt_lower.specs.Asm.{both}
use Rattle.jt_lower.specs.Lower.{required_asm, expr_asm, row_asm}
use Rattle.jt_lower.specs.Emission.{Puts, tag_view}
use Rattle.jt_lower.proofs.JumpPatching.{puts_nothing, puts_then}
use Rattle.jt_lower.proofs.expressions.emit_if_required.Goals as goal

pub returns-in_ok-emit_required : goal.returns-in_ok-emit_required
returns-in_ok-emit_required c = λ ts before e h p.
    let o = tag_view ts c.args.tag in
    let c0 = c.args.code.now in
    let c1 = c.emit_required.new.code in
    subst (λ b. Puts ts before (expr_asm o (required_if b e) h) c1) (sym c.if-required.true)
    (puts_then ts before c0 c1 (both (expr_asm o e h) (row_asm o none (suc h))) (required_asm o)
    (puts_then ts before c0 c0 (expr_asm o e h) (row_asm o none (suc h)) p (puts_nothing ts c0))
    (c.in_ok-emit_required.ensures ts))
