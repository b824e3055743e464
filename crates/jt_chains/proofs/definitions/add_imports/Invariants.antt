use Rattle.jt_chains.proofs.definitions.add_imports.Given as goal
use Rattle.jt_chains.specs.Chain.{imports_in, Namespace}
use Rattle.jt_chains.proofs.{◌≡◌, ◌++◌, drop, body_view, its_sources, its_templates, names_view}

abbrev pub invariant-loop-statement : goal.invariant-loop-statement
invariant-loop-statement l = (h : Namespace) →
    names_view (its_templates l.chain) h l.found.items
    ++ imports_in (its_sources l.chain) (body_view (drop l.statement-index l.body))
    ≡ names_view (its_templates l.chain) h l.initial.found.items ++ imports_in (its_sources l.chain) (body_view l.body)
