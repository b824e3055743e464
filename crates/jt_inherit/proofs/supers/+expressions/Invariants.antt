use Rattle.jt_inherit.proofs.Vocabulary.{◌≡◌, drop, exprs_view, pairs_view, row_super, pairs_super}
use Rattle.jt_inherit.proofs.supers.+expressions.Given as goal

abbrev pub invariant-any_super-loop-item : goal.invariant-any_super-loop-item
invariant-any_super-loop-item l = row_super (exprs_view l.items) ≡ row_super (exprs_view (drop l.item-index l.items))

abbrev pub invariant-any_super_pair-loop-value : goal.invariant-any_super_pair-loop-value
invariant-any_super_pair-loop-value l =
    pairs_super (pairs_view l.pairs) ≡ pairs_super (pairs_view (drop l.value-index l.pairs))
