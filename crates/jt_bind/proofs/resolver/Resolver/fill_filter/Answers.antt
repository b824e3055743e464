use Rattle.jt_bind.proofs
use proofs.{None, ◌≡◌, ◌+◌, ◌∷◌, drop, pairs_view, keywords, parameter_view, parameters_view, locals_from, sym, ap, ◌∙◌}
use proofs.{arith, drop_all, lead_both, row_entry, filled_some_behind, none_filled, one_filled, parameters_behind}
use proofs.{parameters_left}
use Rattle.jt_bind.proofs.resolver.Resolver.fill_filter.Goals as goal

pub returns : goal.returns
returns c =
    let qs = c.behind-rest.result.now in
    let are = ap parameters_view c.deref.ensures.value ∙ c.in_ok-parameters.ensures in
    rw (← are, filled_some_behind, parameters_behind _ qs _ c.behind-rest.ensures)
    (rw (drop_all c.loop-index.index qs (omega arith)) at c.loop-index.invariant)

pub returns-then-not-is_some_given : goal.returns-then-not-is_some_given
returns-then-not-is_some_given c =
    let l = c.loop-index in
    let qs = c.behind-rest.result.now in
    let xs = keywords (pairs_view c.args.arguments.pairs.now) in
    let none = none_filled (parameters_view (drop l.index qs)) xs (locals_from c.args.self.now.senv.free xs)
    (rw c.behind-left.ensures at (sym c.is_some_given.ensures ∙ c.if-not-is_some_given.true)) in
    let are = ap parameters_view c.deref.ensures.value ∙ c.in_ok-parameters.ensures in
    rw (← are, filled_some_behind, parameters_behind _ qs _ c.behind-rest.ensures) (rw none at l.invariant)

pub loop-index-preserved : goal.loop-index-preserved
loop-index-preserved c =
    let l = c.loop-index in
    let qs = c.behind-rest.result.now in
    let x = c.index-rest-index.result in
    let xs = keywords (pairs_view c.args.arguments.pairs.now) in
    let ks = locals_from c.args.self.now.senv.free xs in
    let rest = parameters_view (drop (l.index + 1) qs) in
    let left : parameters_view (drop l.index qs) ≡ parameter_view x ∷ rest =
    parameters_left qs l.index x c.loop-index-test.true c.index-rest-index.is in
    let given = rw (c.behind-left.ensures, left) at (sym c.is_some_given.ensures ∙ c.if-not-is_some_given.false) in
    lead_both (rw (left, one_filled (parameter_view x) rest xs ks given) at l.invariant)
    (row_entry None _ c.in_ok-value.ensures c.in_ok-push.ensures.items)
