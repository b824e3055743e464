use Rattle.jt_names.proofs.own.add_used.Given as goal
use Rattle.jt_names.proofs.{◌≡◌, drop, filter_map, all_inserted, texts, sites_view, name_used}

abbrev pub invariant-loop-site : goal.invariant-loop-site
invariant-loop-site l =
    all_inserted (filter_map (name_used l.of) (sites_view (drop l.site-index l.uses))) (texts l.names.keys)
    ≡ all_inserted (filter_map (name_used l.of) (sites_view l.uses)) (texts l.initial.names.keys)
