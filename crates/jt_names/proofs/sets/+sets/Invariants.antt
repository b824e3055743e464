use Rattle.jt_names.proofs.sets.+sets.Given as goal
use Rattle.jt_chains.specs.Uses.{set_in, set_under}
use Rattle.jt_ast.specs.StatementView.{body_view, branches_view}
use Rattle.jt_names.proofs.{◌≡◌, ◌++◌, drop, texts}

abbrev pub invariant-add_sets-loop-statement : goal.invariant-add_sets-loop-statement
invariant-add_sets-loop-statement l =
    texts l.found.items ++ set_in (body_view (drop l.statement-index l.body))
    ≡ texts l.initial.found.items ++ set_in (body_view l.body)

abbrev pub invariant-add_set-loop-body : goal.invariant-add_set-loop-body
invariant-add_set-loop-body l =
    texts l.found.items ++ set_under (branches_view (drop l.body-index l.body-items))
    ≡ texts l.initial.found.items ++ set_under (branches_view l.body-items)
