use Rattle.std.proofs.Common.{◌≡◌, ℕ, ◌+◌, ◌*◌, List, drop}
use Rattle.std.specs.Prelude.{max, nat_le}
use denote.Param.Weighed.{most}
use Rattle.jt_ast.specs.Expressions.{Text}
use Rattle.jt_ir.specs.Slots.{SBody}
use Rattle.jt_ir.specs.Size.{body_height}
use Rattle.jt_ir.specs.View.{body_view}
use Rattle.jt_ir.specs.declared.program.SlotStmt.{size-SlotStmt}
use Rattle.jt_ir.proofs.StatementViews.{SBranch}
use Rattle.jt_codegen.proofs.EntryBoundDecided.{branches_low}
use Rattle.jt_codegen.proofs.entries.+entries.Given as goal

abbrev pub decreases-fits_statement : goal.decreases-fits_statement
decreases-fits_statement l = 3 * size-SlotStmt l.statement.now

abbrev pub decreases-fits_body : goal.decreases-fits_body
decreases-fits_body l = 3 * most (λ x. size-SlotStmt x) l.body.now + 1

abbrev pub decreases-fits_branches : goal.decreases-fits_branches
decreases-fits_branches l =
    3 * max (most (λ (b : SBranch). most (λ x. size-SlotStmt x) b.body.items) l.branches.now)
    (most (λ x. size-SlotStmt x) l.other.now)
    + 2

abbrev pub invariant-fits_body-loop-statement : goal.invariant-fits_body-loop-statement
invariant-fits_body-loop-statement l =
    (templates : List Text) (behind : SBody ℕ)
    → nat_le (body_height (body_view templates l.body behind)) l.room
    ≡ nat_le (body_height (body_view templates (drop l.statement-index l.body) behind)) l.room

abbrev pub invariant-fits_branches-loop-condition : goal.invariant-fits_branches-loop-condition
invariant-fits_branches-loop-condition l =
    (templates : List Text)
    → branches_low l.room templates l.branches ≡ branches_low l.room templates (drop l.condition-index l.branches)
