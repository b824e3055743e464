use Rattle.std.proofs.Common.{◌≡◌, drop}
use Rattle.jt_ast.specs.StatementView.{body_view}
use Rattle.jt_parse.specs.Positions.{is_blank_body}
use Rattle.jt_parse.proofs.positions.is_blank_body.Given as goal

abbrev pub invariant-loop-statement : goal.invariant-loop-statement
invariant-loop-statement l =
    is_blank_body (body_view l.body) ≡ is_blank_body (body_view (drop l.statement-index l.body))
