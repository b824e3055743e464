use Rattle.jt_names.proofs.lists.add_names_of.Given as goal
use Rattle.jt_ast.specs.StatementView.{names_view}
use Rattle.jt_names.proofs.{◌≡◌, ◌++◌, drop, texts}

abbrev pub invariant-loop-name : goal.invariant-loop-name
invariant-loop-name l =
    texts l.found.items ++ names_view (drop l.name-index l.names)
    ≡ texts l.initial.found.items ++ names_view l.names
