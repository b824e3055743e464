use Rattle.std.proofs.Common.{ℕ, List, take}
use Rattle.jt_ast.specs.Expressions.{Text}
use Rattle.jt_ir.specs.View.{expr_view, filters_after}
use Rattle.jt_lower.specs.Lower.{expr_asm}
use Rattle.jt_lower.specs.Emission.{StandsFor, Puts, tag_view}
use Rattle.jt_lower.specs.declared.emitter.Emitter.{Emitter}
use Rattle.jt_lower.proofs.expressions.emit_filtered.Given as goal

-- The code of the value is followed by that of the first filters.
abbrev pub invariant-loop-filter : goal.invariant-loop-filter
invariant-loop-filter l =
    (ts : List Text) (h : ℕ) (before : Emitter) → StandsFor l.above h
    → Puts ts before (expr_asm (tag_view ts l.tag) (expr_view l.filtered.value) h) l.initial.code
    → Puts ts before (expr_asm (tag_view ts l.tag)
    (filters_after (take l.filter-index l.filtered.filters.items) (expr_view l.filtered.value)) h) l.code
