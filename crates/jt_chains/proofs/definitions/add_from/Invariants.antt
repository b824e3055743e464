use Rattle.jt_chains.proofs.definitions.add_from.Given as goal
use Rattle.jt_chains.specs.Chain.{Namespace, all_given_from}
use Rattle.jt_chains.proofs.{◌≡◌, ◌++◌, drop, its_sources, its_templates, names_view, given_view}

abbrev pub invariant-loop-name : goal.invariant-loop-name
invariant-loop-name l = (h : Namespace) →
    names_view (its_templates l.chain) h l.found.items
    ++ all_given_from (its_sources l.chain) l.library (given_view (drop l.name-index l.names))
    ≡ names_view (its_templates l.chain) h l.initial.found.items
    ++ all_given_from (its_sources l.chain) l.library (given_view l.names)
