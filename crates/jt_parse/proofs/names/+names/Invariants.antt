use Rattle.std.proofs.Common.{◌≡◌, ◌+◌, ◌*◌, max, drop}
use denote.Param.Weighed.{most}
use Rattle.jt_ast.specs.declared.statement.Stmt.{size-Stmt}
use Rattle.jt_ast.specs.StatementView.{body_view, branches_view}
use Rattle.jt_ast.proofs.RemainingParts.{Branch}
use Rattle.jt_parse.specs.Names.{body_unknown, branch_unknown}
use Rattle.jt_parse.proofs.names.+names.Given as goal

-- ---- the measure: the size of the statements, and the rank of a function that passes its own on

abbrev pub decreases-check_statement : goal.decreases-check_statement
decreases-check_statement l = 3 * size-Stmt l.statement.now

abbrev pub decreases-check_body : goal.decreases-check_body
decreases-check_body l = 3 * most (λ x. size-Stmt x) l.body.now + 1

abbrev pub decreases-check_choice : goal.decreases-check_choice
decreases-check_choice l =
    3 * max (most (λ (b : Branch). most (λ x. size-Stmt x) b.body.items) l.branches.now)
    (most (λ x. size-Stmt x) l.other.now)
    + 2

-- ---- the remaining parts

abbrev pub invariant-check_body-loop-statement : goal.invariant-check_body-loop-statement
invariant-check_body-loop-statement l =
    body_unknown (body_view l.body) ≡ body_unknown (body_view (drop l.statement-index l.body))

abbrev pub invariant-check_choice-loop-line : goal.invariant-check_choice-loop-line
invariant-check_choice-loop-line l =
    branch_unknown (branches_view l.branches) ≡ branch_unknown (branches_view (drop l.line-index l.branches))
