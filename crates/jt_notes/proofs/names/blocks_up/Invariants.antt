use Rattle.jt_notes.proofs.names.blocks_up.Given as goal
use Rattle.std.proofs.Common.{◌≡◌, ◌++◌, option_map}
use Rattle.jt_ast.specs.Texts.{texts}
use Rattle.jt_chains.specs.View.{chain_view}
use Rattle.jt_notes.specs.Notes.{blocks_up}
use Rattle.jt_notes.specs.internal.Facts.{blocks_from}

abbrev pub invariant-loop-left : goal.invariant-loop-left
invariant-loop-left l =
    texts l.found.items ++ blocks_from (chain_view l.chain) l.left (option_map (λ x. x.now) l.next)
    ≡ blocks_up (chain_view l.chain) l.parent

abbrev pub decreases-loop-left : goal.decreases-loop-left
decreases-loop-left l = l.left
