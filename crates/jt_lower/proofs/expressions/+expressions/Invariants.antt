use Rattle.std.proofs.Common.{ℕ, ◌+◌, ◌*◌, List, drop}
use Rattle.std.specs.Prelude.{max}
use denote.Param.Weighed.{most}
use Rattle.jt_ast.specs.Expressions.{Text}
use Rattle.jt_ir.specs.Slots.{none}
use Rattle.jt_ir.specs.declared.program.SlotExpr.{size-SlotExpr}
use Rattle.jt_ir.specs.View.{row_view}
use Rattle.jt_lower.specs.Lower.{row_asm}
use Rattle.jt_lower.specs.Emission.{StandsFor, tag_view}
use Rattle.jt_lower.proofs.RowCode.{Leaves}
use Rattle.jt_lower.proofs.expressions.+expressions.Given as goal

-- ---- measures: the size of the expression, and the functions that pass it on

abbrev pub decreases-emit_expression : goal.decreases-emit_expression
decreases-emit_expression l = 3 * size-SlotExpr l.expr.now

abbrev pub decreases-emit_row : goal.decreases-emit_row
decreases-emit_row l = 3 * most (λ x. size-SlotExpr x.1) l.row.now + 1

abbrev pub decreases-emit_choice : goal.decreases-emit_choice
decreases-emit_choice l = 3 * max (size-SlotExpr l.taken.now) (size-SlotExpr l.other.now) + 1

abbrev pub decreases-emit_side : goal.decreases-emit_side
decreases-emit_side l = 3 * size-SlotExpr l.expr.now + 1

abbrev pub decreases-emit_instead : goal.decreases-emit_instead
decreases-emit_instead l = 3 * size-SlotExpr l.expr.now + 2

-- ---- the rest of a sequence

abbrev pub invariant-emit_row-loop-kept : goal.invariant-emit_row-loop-kept
invariant-emit_row-loop-kept l =
    (ts : List Text) (h : ℕ) → StandsFor l.above h
    → Leaves ts (tag_view ts l.tag) l.initial.code (row_asm (tag_view ts l.tag) (row_view l.row none) h) l.code
    (drop l.kept-index l.row) l.top
