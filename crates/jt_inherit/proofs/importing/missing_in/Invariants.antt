use Rattle.jt_inherit.proofs.Vocabulary.{◌≡◌, drop, body_view, lacks_macros}
use Rattle.jt_chains.specs.View.{its_sources}
use Rattle.jt_inherit.proofs.importing.missing_in.Given as goal

abbrev pub invariant-loop-statement : goal.invariant-loop-statement
invariant-loop-statement l =
    lacks_macros (its_sources l.chain) (body_view l.body)
    ≡ lacks_macros (its_sources l.chain) (body_view (drop l.statement-index l.body))
