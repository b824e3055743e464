use Rattle.jt_bind.proofs
use proofs.{◌<◌, length, refl, a_chain, templates, namespace_view, values, cenv_in, order_in, namespace_in}
use proofs.{templates_in, resolved_chain, sym, ◌∙◌, arith, rules, length-map, locals_same, routine_made, no_entry}
use proofs.{one_entry}
use Rattle.jt_bind.proofs.routines.resolve_entry.Goals as goal

pub returns-then-here : goal.returns-then-here
returns-then-here c = search (arith, rules, no_entry)

pub returns : goal.returns
returns c =
    let scope = c.args.tables.now in
    let T = templates_in scope in
    let p = values c.args.pool.now in
    let q = values c.resolve_layers.new.pool in
    let there : scope.namespace < length scope.chain.now.namespaces.items =
    omega (arith, c.stands.ensures, length-map scope.chain.now.namespaces.items namespace_view) in
    let listed = rw (c.chain.ensures, c.namespace.ensures.is) at c.in_ok-layers.ensures.there in
    one_entry T (cenv_in scope) (order_in scope) (namespace_in scope) (sym c.here-here.ensures.kind ∙ c.if-here.false)
    _ _ _ _ _ (λ n is.
    let whole =
    resolved_chain (cenv_in scope) (order_in scope) (a_chain n) (templates (cenv_in scope).sources (a_chain n)) in
    let emitted = rw (c.deref.ensures.value, listed there, is, c.new-done.ensures.items) at
    c.in_ok-resolve_layers.ensures in
    routine_made T 0 0 whole c.resolve_layers.new.done c.in_ok-locals.locals _ p q emitted refl
    (locals_same T whole c.resolve_layers.new.done.items p q c.in_ok-locals.locals emitted
    (rw (← c.deref-2.ensures.value) (c.in_ok-locals.ensures T))))
    c.in_ok-push.ensures.items
