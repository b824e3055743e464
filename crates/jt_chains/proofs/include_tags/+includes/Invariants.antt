use Rattle.jt_chains.proofs.include_tags.+includes.Given as goal
use Rattle.jt_chains.specs.Includes.{includes_in, includes_under}
use Rattle.jt_chains.proofs.{◌≡◌, ◌++◌, drop, body_view, branches_view, include_need, needs_view}

abbrev pub invariant-add_includes-loop-statement : goal.invariant-add_includes-loop-statement
invariant-add_includes-loop-statement l =
    needs_view l.found.items ++ includes_in include_need (body_view (drop l.statement-index l.body))
    ≡ needs_view l.initial.found.items ++ includes_in include_need (body_view l.body)

abbrev pub invariant-add_statement-loop-body : goal.invariant-add_statement-loop-body
invariant-add_statement-loop-body l =
    needs_view l.found.items ++ includes_under include_need (branches_view (drop l.body-index l.body-items))
    ≡ needs_view l.initial.found.items ++ includes_under include_need (branches_view l.body-items)
