use Rattle.jt_inherit.proofs.Vocabulary.{◌≡◌, ◌++◌, drop, map, body_view, libraries_in, library_need, needs_view}
use Rattle.jt_inherit.proofs.including.add_imports.Given as goal

abbrev pub invariant-loop-statement : goal.invariant-loop-statement
invariant-loop-statement l =
    needs_view l.found.items ++ map library_need (libraries_in (body_view (drop l.statement-index l.body)))
    ≡ needs_view l.initial.found.items ++ map library_need (libraries_in (body_view l.body))
