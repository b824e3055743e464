use Rattle.jt_inherit.proofs.Vocabulary.{◌≡◌, ◌++◌, drop, imports_along, needs_view, files_view}
use Rattle.jt_inherit.proofs.including.add_imports_at.Given as goal

abbrev pub invariant-loop-index : goal.invariant-loop-index
invariant-loop-index l =
    needs_view l.found.items ++ imports_along (files_view l.files) (drop l.index-index l.indices)
    ≡ needs_view l.initial.found.items ++ imports_along (files_view l.files) l.indices
