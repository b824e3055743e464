use Rattle.jt_inherit.proofs.Vocabulary.{◌≡◌, ◌+◌, ◌*◌, drop, branches_view, body_view, super_line}
use Rattle.jt_inherit.proofs.Vocabulary.{branches_super_line}
use denote.Param.Weighed.{most}
use Rattle.jt_ast.specs.declared.statement.Stmt.{size-Stmt}
use Rattle.jt_ast.proofs.RemainingParts.{Branch}
use Rattle.jt_inherit.proofs.supers.+lines.Given as goal

abbrev pub decreases-statement_line : goal.decreases-statement_line
decreases-statement_line l = 8 * size-Stmt l.statement.now

abbrev pub decreases-super_line : goal.decreases-super_line
decreases-super_line l = 8 * most (λ x. size-Stmt x) l.body.now + 1

abbrev pub decreases-branch_line : goal.decreases-branch_line
decreases-branch_line l = 8 * most (λ (b : Branch). most (λ x. size-Stmt x) b.body.items) l.branches.now + 2

abbrev pub invariant-branch_line-loop-line : goal.invariant-branch_line-loop-line
invariant-branch_line-loop-line l =
    branches_super_line (branches_view l.branches)
    ≡ branches_super_line (branches_view (drop l.line-index l.branches))

abbrev pub invariant-super_line-loop-statement : goal.invariant-super_line-loop-statement
invariant-super_line-loop-statement l =
    super_line (body_view l.body) ≡ super_line (body_view (drop l.statement-index l.body))
