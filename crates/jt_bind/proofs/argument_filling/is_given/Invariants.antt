use Rattle.jt_bind.proofs.{◌≡◌, drop, pairs_view, keywords, among}
use Rattle.jt_bind.proofs.argument_filling.is_given.Given as goal

abbrev pub invariant-loop-key : goal.invariant-loop-key
invariant-loop-key l =
    among l.name (keywords (pairs_view (drop l.key-index l.pairs))) ≡ among l.name (keywords (pairs_view l.pairs))
