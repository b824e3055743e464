use Rattle.jt_names.proofs.own.names_included.Given as goal
use Rattle.jt_names.proofs.{◌≡◌, ◌++◌, drop, filter_map, texts, sites_view, name_included}

abbrev pub invariant-loop-site : goal.invariant-loop-site
invariant-loop-site l =
    texts l.found.items ++ filter_map name_included (sites_view (drop l.site-index l.uses))
    ≡ filter_map name_included (sites_view l.uses)
