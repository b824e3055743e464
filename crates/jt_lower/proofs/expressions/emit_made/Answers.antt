use Rattle.std.proofs.Common.{◌≡◌, ◌≢◌, ℕ, Option, arith, rules}
use Rattle.std.proofs.lemmas.Result.{IfOk-weaker}
use Rattle.jt_value.specs.Place.{Place}
use Rattle.jt_ir.specs.View.{nary_op_view}
use Rattle.jt_ir.specs.declared.program.NaryOp.{NaryOp}
use Rattle.jt_ir.specs.declared.program.NaryOp.TheVariants as m
use Rattle.jt_lower.specs.Asm.{one}
use Rattle.jt_lower.specs.Lower.{nary_op, made_asm}
use Rattle.jt_lower.specs.Emission.{tag_view}
use Rattle.jt_lower.proofs.JumpPatching.{puts_as}
use Rattle.jt_lower.proofs.expressions.emit_made.Goals as goal

-- Each other operation is one instruction.
one_made : (k : NaryOp) (n : ℕ) (o : Option Place) → k ≢ m.Required
    → made_asm o (nary_op_view k) n ≡ one o (nary_op (nary_op_view k) n)
one_made k n o other = search (arith, rules)

pub returns-in_default : goal.returns-in_default
returns-in_default c =
    IfOk-weaker c.put.result _ _ (λ u g. λ ts.
    let o = tag_view ts c.args.tag in
    let k = nary_op_view c.args.made in
    puts_as ts c.args.code.now c.put.new.self (made_asm o k c.args.count) (one o (nary_op k c.args.count))
    (one_made c.args.made c.args.count o c.in_default.not-Required)
    (g ts (nary_op k c.args.count) c.made_of.ensures)) c.put.ensures
