use Rattle.jt_inherit.proofs.Vocabulary.{◌≡◌, drop, given_view}
use Rattle.jt_chains.specs.Rules.{lacks_one}
use Rattle.jt_chains.specs.View.{its_sources}
use Rattle.jt_inherit.proofs.importing.missing_from.Given as goal

abbrev pub invariant-loop-name : goal.invariant-loop-name
invariant-loop-name l =
    lacks_one (its_sources l.chain) l.library (given_view l.macros)
    ≡ lacks_one (its_sources l.chain) l.library (given_view (drop l.name-index l.macros))
