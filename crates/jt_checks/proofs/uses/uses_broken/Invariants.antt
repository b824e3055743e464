use Rattle.jt_checks.specs.internal.RuleTests as broken
use Rattle.jt_checks.proofs.uses.uses_broken.Given as goal
use Rattle.jt_checks.proofs.{in_scope, ◌≡◌, drop, sites_view}

abbrev pub invariant-loop-site : goal.invariant-loop-site
invariant-loop-site l =
    in_scope broken.uses_broken l.scope l.template (sites_view (drop l.site-index l.uses))
    ≡ in_scope broken.uses_broken l.scope l.template (sites_view l.uses)
