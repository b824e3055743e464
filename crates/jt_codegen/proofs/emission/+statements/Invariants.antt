use Rattle.std.proofs.Common.{ℕ, ◌+◌, ◌*◌, List, drop}
use Rattle.std.specs.Prelude.{max}
use denote.Param.Weighed.{most}
use Rattle.jt_ir.specs.declared.program.SlotStmt.{size-SlotStmt}
use Rattle.jt_ast.specs.Expressions.{Text}
use Rattle.jt_ir.specs.View.{body_view}
use Rattle.jt_ir.proofs.StatementViews.{SBranch}
use Rattle.jt_lower.specs.Emission.{StandsFor}
use Rattle.jt_codegen.proofs.StatementEmission.{Leads, Opens}
use Rattle.jt_codegen.proofs.emission.+statements.Given as goal

-- ---- measures: the size of the statement, and the functions that pass it on

abbrev pub decreases-emit_statement : goal.decreases-emit_statement
decreases-emit_statement l = 3 * size-SlotStmt l.statement.now

abbrev pub decreases-emit_statements : goal.decreases-emit_statements
decreases-emit_statements l = 3 * most (λ x. size-SlotStmt x) l.body.now + 1

abbrev pub decreases-emit_capture : goal.decreases-emit_capture
decreases-emit_capture l = 3 * most (λ x. size-SlotStmt x) l.body.now + 2

abbrev pub decreases-emit_turns : goal.decreases-emit_turns
decreases-emit_turns l = 3 * most (λ x. size-SlotStmt x) l.body.now + 2

abbrev pub decreases-emit_otherwise : goal.decreases-emit_otherwise
decreases-emit_otherwise l = 3 * most (λ x. size-SlotStmt x) l.other.now + 2

abbrev pub decreases-emit_branches : goal.decreases-emit_branches
decreases-emit_branches l =
    3 * max (most (λ (b : SBranch). most (λ x. size-SlotStmt x) b.body.items) l.branches.now)
    (most (λ x. size-SlotStmt x) l.other.now)
    + 2

-- ---- the rest of the statements

abbrev pub invariant-emit_statements-loop-statement : goal.invariant-emit_statements-loop-statement
invariant-emit_statements-loop-statement l =
    (templates : List Text) (h : ℕ) → StandsFor l.above h
    → Leads templates h l.initial.code (body_view templates l.body) l.code
    (body_view templates (drop l.statement-index l.body))

abbrev pub invariant-emit_branches-loop-tag : goal.invariant-emit_branches-loop-tag
invariant-emit_branches-loop-tag l =
    (templates : List Text) (h : ℕ) → StandsFor l.above h
    → Opens templates h l.initial.code l.branches l.code (drop l.tag-index l.branches) l.ends.items
