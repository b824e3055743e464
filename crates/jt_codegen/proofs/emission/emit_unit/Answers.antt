use Rattle.std.proofs.Common.{[], refl, subst}
use Rattle.jt_image.specs.declared.instruction.Instruction.TheVariants as op
use Rattle.jt_ir.specs.View.{body_view}
use Rattle.jt_codegen.specs.internal.Statements.{Emits}
use Rattle.jt_codegen.proofs.StatementEmission.{stands_itself}
use Rattle.jt_codegen.proofs.InstructionFields.{unit_emitted, unit_placed, unit_within, unit_refused}
use Rattle.jt_codegen.proofs.emission.emit_unit.Goals as goal

pub returns-then-code-clause-refused : goal.returns-then-code-clause-refused
returns-then-code-clause-refused c = λ templates.
    let body = subst (λ ss. Emits templates 0 c.in_ok-code.code (body_view templates ss) c.emit_statements.new.code)
    c.deref.ensures.value (c.in_ok-emit_statements.ensures templates 0 (stands_itself 0)) in
    unit_refused templates c.args.routine.now c.in_ok-code.code c.emit_statements.new.code c.put.new.self
    c.in_ok-code.ensures.empty c.in_ok-code.ensures.whole body
    (c.in_ok-put.ensures templates op.Return refl) c.args.left
    c.in_ok-code.ensures.limited c.if-code.true

pub returns-clause-emitted : goal.returns-clause-emitted
returns-clause-emitted c = λ templates.
    let body = subst (λ ss. Emits templates 0 c.in_ok-code.code (body_view templates ss) c.emit_statements.new.code)
    c.deref.ensures.value (c.in_ok-emit_statements.ensures templates 0 (stands_itself 0)) in
    unit_emitted templates c.args.routine.now c.in_ok-code.code c.emit_statements.new.code c.put.new.self
    c.in_ok-code.ensures.empty c.in_ok-code.ensures.whole body (c.in_ok-put.ensures templates op.Return refl)
    _ _ refl refl c.if-code.false

pub returns-clause-within : goal.returns-clause-within
returns-clause-within c =
    let body = subst (λ ss. Emits [] 0 c.in_ok-code.code (body_view [] ss) c.emit_statements.new.code)
    c.deref.ensures.value (c.in_ok-emit_statements.ensures [] 0 (stands_itself 0)) in
    unit_within [] c.args.routine.now c.in_ok-code.code c.emit_statements.new.code c.put.new.self
    c.in_ok-code.ensures.empty c.in_ok-code.ensures.whole body (c.in_ok-put.ensures [] op.Return refl) c.args.left
    c.in_ok-code.ensures.limited

pub returns-clause-placed : goal.returns-clause-placed
returns-clause-placed c = λ templates.
    let body = subst (λ ss. Emits templates 0 c.in_ok-code.code (body_view templates ss) c.emit_statements.new.code)
    c.deref.ensures.value (c.in_ok-emit_statements.ensures templates 0 (stands_itself 0)) in
    unit_placed templates c.args.routine.now c.in_ok-code.code c.emit_statements.new.code c.put.new.self
    c.in_ok-code.ensures.empty c.in_ok-code.ensures.whole body (c.in_ok-put.ensures templates op.Return refl)
    c.in_ok-code.ensures.nowhere c.if-code.false
