use Rattle.std.proofs.Common.{◌≡◌, ◌+◌, ◌*◌, ◌++◌, drop}
use denote.Param.Weighed.{most}
use Rattle.jt_ast.specs.declared.statement.Stmt.{size-Stmt}
use Rattle.jt_ast.specs.StatementView.{body_view, branches_view}
use Rattle.jt_ast.proofs.RemainingParts.{Branch}
use Rattle.jt_uses.specs.Uses.{body_uses, branch_uses}
use Rattle.jt_uses.specs.UseView.{sites_view}
use Rattle.jt_uses.proofs.site.UseList.+add.Given as goal

-- ---- the depth of the remaining statements

abbrev pub decreases-add_statement : goal.decreases-add_statement
decreases-add_statement l = 8 * size-Stmt l.statement.now

abbrev pub decreases-add_statements : goal.decreases-add_statements
decreases-add_statements l = 8 * most (λ x. size-Stmt x) l.body.now + 1

abbrev pub decreases-add_branches : goal.decreases-add_branches
decreases-add_branches l = 8 * most (λ (b : Branch). most (λ x. size-Stmt x) b.body.items) l.branches.now + 2

-- ---- the uses of the remaining items

abbrev pub invariant-add_statements-loop-statement : goal.invariant-add_statements-loop-statement
invariant-add_statements-loop-statement l = sites_view l.self.sites.items ++ body_uses
    (body_view (drop l.statement-index l.body)) l.around ≡ sites_view l.initial.self.sites.items ++ body_uses
    (body_view l.body) l.around

abbrev pub invariant-add_branches-loop-line : goal.invariant-add_branches-loop-line
invariant-add_branches-loop-line l = sites_view l.self.sites.items ++ branch_uses
    (branches_view (drop l.line-index l.branches)) l.around ≡ sites_view l.initial.self.sites.items ++ branch_uses
    (branches_view l.branches) l.around
