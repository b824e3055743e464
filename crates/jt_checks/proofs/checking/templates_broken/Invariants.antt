use Rattle.jt_checks.specs.internal.RuleTests as broken
use Rattle.jt_checks.proofs.checking.templates_broken.Given as goal
use Rattle.jt_checks.proofs.{in_scope, its_chain, ◌≡◌, drop, layers_along, chain_view}

abbrev pub invariant-loop-template : goal.invariant-loop-template
invariant-loop-template l =
    in_scope broken.templates_broken l.scope
    (layers_along (chain_view (its_chain l.scope)).templates (drop l.template-index l.template-items))
    ≡ in_scope broken.templates_broken l.scope
    (layers_along (chain_view (its_chain l.scope)).templates l.template-items)
