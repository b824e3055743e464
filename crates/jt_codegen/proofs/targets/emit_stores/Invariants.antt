use Rattle.std.proofs.Common.{List, drop}
use Rattle.jt_ast.specs.Expressions.{Text}
use Rattle.jt_lower.specs.Lower.{stores_asm}
use Rattle.jt_lower.specs.Emission.{tag_view, Puts}
use Rattle.jt_codegen.specs.internal.Statements.{slots_view}
use Rattle.jt_codegen.proofs.targets.emit_stores.Given as goal

abbrev pub invariant-loop-at : goal.invariant-loop-at
invariant-loop-at l =
    (ts : List Text) → Puts ts l.initial.code (stores_asm (tag_view ts l.tag) (slots_view (drop l.at l.slots))) l.code
