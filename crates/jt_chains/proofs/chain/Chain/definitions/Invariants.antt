use Rattle.jt_chains.proofs.chain.Chain.definitions.Given as goal
use Rattle.jt_chains.proofs.{imports, imports_along, its_sources, its_templates, namespace_in, ◌≡◌, ◌++◌, drop, own}
use Rattle.jt_chains.proofs.{names_view, macros_view}

abbrev pub invariant-loop-one : goal.invariant-loop-one
invariant-loop-one l =
    names_view (its_templates l.self) (namespace_in l.self l.namespace) l.names.items
    ++ own (namespace_in l.self l.namespace) (macros_view (its_templates l.self) (drop l.one-index l.macros))
    ≡ own (namespace_in l.self l.namespace) (macros_view (its_templates l.self) l.macros)

abbrev pub invariant-loop-index : goal.invariant-loop-index
invariant-loop-index l =
    names_view (its_templates l.self) (namespace_in l.self l.namespace) l.names.items
    ++ imports_along l.self (drop l.index-index l.index-items)
    ≡ own (namespace_in l.self l.namespace) (macros_view (its_templates l.self) l.macros)
    ++ imports (its_sources l.self) (namespace_in l.self l.namespace)
