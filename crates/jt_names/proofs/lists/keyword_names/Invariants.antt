use Rattle.jt_names.proofs.lists.keyword_names.Given as goal
use Rattle.jt_ast.specs.ExpressionView.{pairs_view}
use Rattle.jt_chains.specs.Uses.{keywords}
use Rattle.jt_names.proofs.{◌≡◌, ◌++◌, drop, texts}

abbrev pub invariant-loop-name : goal.invariant-loop-name
invariant-loop-name l =
    texts l.names.items ++ keywords (pairs_view (drop l.name-index l.pairs)) ≡ keywords (pairs_view l.pairs)
