use Rattle.std.proofs.Common.{◌≡◌, ◌+◌, ◌*◌, max, drop}
use denote.Param.Weighed.{most}
use Rattle.jt_ast.specs.declared.statement.Stmt.{size-Stmt}
use Rattle.jt_ast.specs.StatementView.{body_view, branches_view}
use Rattle.jt_ast.proofs.RemainingParts.{Branch}
use Rattle.jt_parse.specs.Positions.{body_placed, branches_placed}
use Rattle.jt_parse.specs.internal.PositionView.{position_view}
use Rattle.jt_parse.proofs.positions.+positions.Given as goal

-- ---- the measure: the size of the statements, and the rank of a function that passes its own on

abbrev pub decreases-statement_placed : goal.decreases-statement_placed
decreases-statement_placed l = 3 * size-Stmt l.statement.now

abbrev pub decreases-body_placed : goal.decreases-body_placed
decreases-body_placed l = 3 * most (λ x. size-Stmt x) l.body.now + 1

abbrev pub decreases-enclosed_placed : goal.decreases-enclosed_placed
decreases-enclosed_placed l = 3 * most (λ x. size-Stmt x) l.body.now + 2

abbrev pub decreases-choice_placed : goal.decreases-choice_placed
decreases-choice_placed l =
    3 * max (most (λ (b : Branch). most (λ x. size-Stmt x) b.body.items) l.branches.now)
    (most (λ x. size-Stmt x) l.other.now)
    + 2

-- ---- the remaining parts

abbrev pub invariant-body_placed-loop-statement : goal.invariant-body_placed-loop-statement
invariant-body_placed-loop-statement l =
    body_placed (position_view l.position) (body_view l.body)
    ≡ body_placed (position_view l.position) (body_view (drop l.statement-index l.body))

abbrev pub invariant-choice_placed-loop-body : goal.invariant-choice_placed-loop-body
invariant-choice_placed-loop-body l =
    branches_placed (position_view l.position) (branches_view l.branches)
    ≡ branches_placed (position_view l.position) (branches_view (drop l.body-index l.branches))
