use Rattle.jt_ir.specs.View.{body_view}
use Rattle.jt_bind.proofs
use proofs.{◌≡◌, ℕ, ◌+◌, ◌*◌, List, drop, max, most, Text, body_locals, SBody, size-SlotStmt, branches_locals, up_to}
use proofs.{SBranch}
use Rattle.jt_bind.proofs.local_counts.+statements.Given as goal

-- ---- measures: the depth of the remaining statements, and the order of the calls

abbrev pub decreases-last_of_stmt : goal.decreases-last_of_stmt
decreases-last_of_stmt l = 3 * size-SlotStmt l.statement.now

abbrev pub decreases-last_of_body : goal.decreases-last_of_body
decreases-last_of_body l = 3 * most (λ x. size-SlotStmt x) l.body.now + 1

abbrev pub decreases-last_of_branches : goal.decreases-last_of_branches
decreases-last_of_branches l = 3 * most (λ (b : SBranch). most (λ x. size-SlotStmt x) b.body.items) l.branches.now + 2

-- ---- the remaining items

abbrev pub invariant-last_of_body-loop-statement : goal.invariant-last_of_body-loop-statement
invariant-last_of_body-loop-statement l =
    (templates : List Text) (behind : SBody ℕ)
    → max (up_to l.latest) (body_locals (body_view templates (drop l.statement-index l.body) behind))
    ≡ max (up_to l.fn.last) (body_locals (body_view templates l.body behind))

abbrev pub invariant-last_of_branches-loop-branch : goal.invariant-last_of_branches-loop-branch
invariant-last_of_branches-loop-branch l =
    (templates : List Text)
    → max (up_to l.latest) (branches_locals templates (drop l.branch-index l.branches))
    ≡ max (up_to l.fn.last) (branches_locals templates l.branches)
