use Rattle.jt_notes.proofs.tags.+tags.Given as goal
use Rattle.std.proofs.Common.{◌≡◌, ◌++◌, drop}
use Rattle.jt_ast.specs.StatementView.{body_view, branches_view}
use Rattle.jt_notes.specs.Notes.{tags_in, tags_under}
use Rattle.jt_notes.specs.Views.{tags_view}

abbrev pub invariant-add_tags-loop-statement : goal.invariant-add_tags-loop-statement
invariant-add_tags-loop-statement l =
    tags_view l.found.items ++ tags_in l.level (body_view (drop l.statement-index l.body))
    ≡ tags_view l.initial.found.items ++ tags_in l.level (body_view l.body)

abbrev pub invariant-add_statement-loop-body : goal.invariant-add_statement-loop-body
invariant-add_statement-loop-body l =
    tags_view l.found.items ++ tags_under l.level (branches_view (drop l.body-index l.body-items))
    ≡ tags_view l.initial.found.items ++ tags_under l.level (branches_view l.body-items)
