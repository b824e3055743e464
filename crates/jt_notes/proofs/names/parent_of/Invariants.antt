use Rattle.jt_notes.proofs.names.parent_of.Given as goal
use Rattle.std.proofs.Common.{◌≡◌, drop}
use Rattle.jt_ast.specs.StatementView.{body_view}
use Rattle.jt_notes.specs.Notes.{extends_of}

abbrev pub invariant-loop-statement : goal.invariant-loop-statement
invariant-loop-statement l =
    extends_of (body_view (drop l.statement-index l.body)) ≡ extends_of (body_view l.body)
