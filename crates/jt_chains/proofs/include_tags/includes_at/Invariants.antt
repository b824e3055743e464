use Rattle.jt_chains.proofs.include_tags.includes_at.Given as goal
use Rattle.jt_chains.proofs.{◌≡◌, ◌++◌, drop, includes_along, needs_view, files_view}

abbrev pub invariant-loop-index : goal.invariant-loop-index
invariant-loop-index l =
    needs_view l.found.items ++ includes_along (files_view l.files) (drop l.index-index l.indices)
    ≡ includes_along (files_view l.files) l.indices
