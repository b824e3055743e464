use Rattle.jt_bind.proofs
use proofs.{◌≡◌, ◌<◌, ◌≤◌, length, refl, order_in, drop_all, ◌∙◌, arith, namespaces_left, lead_both, lead_none}
use Rattle.jt_bind.proofs.namespaces.resolve_namespaces.Goals as goal

pub loop-namespace-init : goal.loop-namespace-init
loop-namespace-init c =
    record { same = refl; lead = rw c.new-routines.ensures.items lead_none }

pub loop-namespace-preserved : goal.loop-namespace-preserved
loop-namespace-preserved c = let l = c.loop-namespace in
    let O = order_in c.args.tables in
    let in_order : l.namespace < length O =
    omega (arith, c.loop-namespace-test.true, c.namespaces-namespace-end.ensures.all) in
    let same : c.select.new.self.chain.now ≡ c.args.tables.chain.now = c.select.ensures.same ∙ l.invariant.same in
    let put = rw (same, c.select.ensures.there) at c.in_ok-resolve_namespace.ensures in
    let left = rw (namespaces_left O l.namespace in_order) at l.invariant.lead in
    record { same = same; lead = lead_both left (put _) }

pub returns : goal.returns
returns c = let O = order_in c.args.tables in
    let le : length O ≤ c.loop-namespace.namespace =
    omega (arith, c.loop-namespace-test.false, c.namespaces-namespace-end.ensures.all) in
    rw (drop_all c.loop-namespace.namespace O le) at c.loop-namespace.invariant.lead
