use Rattle.jt_checks.specs.internal.RuleTests as broken
use Rattle.jt_checks.proofs.uses.binding_line.Given as goal
use Rattle.jt_checks.proofs.{slice_get, ◌≡◌, drop, sites_view}

abbrev pub invariant-loop-site : goal.invariant-loop-site
invariant-loop-site l =
    slice_get (broken.lines_bound (sites_view (drop l.site-index l.uses))) l.left
    ≡ slice_get (broken.lines_bound (sites_view l.uses)) l.count
