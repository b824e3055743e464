use Rattle.std.proofs.Common.{Some, ap}
use Rattle.jt_image.specs.declared.instruction.Instruction.TheVariants as op
use Rattle.jt_ir.specs.View.{place_view, filtered_view}
use Rattle.jt_lower.specs.Asm.{one}
use Rattle.jt_lower.specs.Lower.{flag, expr_asm}
use Rattle.jt_lower.proofs.JumpPatching.{puts_then}
use Rattle.jt_codegen.proofs.emission.emit_printed.Goals as goal

pub returns : goal.returns
returns c = λ ts h s.
    let o = Some (place_view ts c.args.tag) in
    let last = op.Emit (flag c.args.escaping) in
    puts_then ts c.args.code.now c.emit_filtered.new.code c.put.new.self
    (expr_asm o (filtered_view c.args.filtered.now) h) (one o last) (c.in_ok-emit_filtered.ensures ts h s)
    (c.in_ok-put.ensures ts last (ap op.Emit c.flag-printed.ensures))
