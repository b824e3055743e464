use Rattle.jt_ast.specs.ExpressionView as written
use Rattle.jt_bind.proofs
use proofs.slots
use proofs.{Bool, IfOk-weaker, IsPlaced, expr_of, expr_view, subst, values}
use Rattle.jt_bind.proofs.resolver.Resolver.resolve_required.Goals as goal

pub returns : goal.returns
returns c =
    let plain = expr_of c.args.self.now (written.expr_view c.args.value.now) in
    IfOk-weaker c.required_if.result _ _
    (λ e h. subst (λ (b : Bool). IsPlaced (slots.required_if b plain) (expr_view e) (values c.args.pool.now)
    (values c.resolve_expression.new.pool)) c.is_strict.ensures (h _ _ _ c.in_ok-resolved.ensures))
    c.required_if.ensures
