use Rattle.std.proofs.Common.{◌≡◌, drop}
use Rattle.jt_ast.specs.StatementView.{body_view}
use Rattle.jt_parse.specs.Positions.{is_placed}
use Rattle.jt_parse.proofs.StatementPositions.{placed_by}
use Rattle.jt_parse.proofs.positions.template_placed.Given as goal

abbrev pub invariant-loop-statement : goal.invariant-loop-statement
invariant-loop-statement l =
    is_placed (body_view l.body) ≡ placed_by l.position (body_view (drop l.statement-index l.body))
