use Rattle.std.proofs.Common.{String, Global, Vec, string_bytes}
use Rattle.jt_scan.specs.declared.segment.Sign.TheVariants as s
use Rattle.jt_expr.specs.Cursor.{ahead}
use Rattle.jt_parse.specs.Tags.{IsName}
use Rattle.jt_parse.specs.internal.Readers.{Anything, NoSign}
use Rattle.jt_ast.specs.StatementView.{names_view}
use Rattle.jt_parse.proofs.SeparatedLists.{Turn, name_row}
use Rattle.jt_parse.proofs.tags.targets.Given as goal

abbrev pub invariant-loop-turn : goal.invariant-loop-turn
invariant-loop-turn l =
    Turn (λ (n : String Global). string_bytes n) (λ (v : Vec (String Global) Global). names_view v.items) IsName s.Comma
    Anything (NoSign s.Comma) name_row (λ a. 0) 0 (ahead l.fn.cursor)
    l._turn l._turn-end (names_view l.found.items) (ahead l.cursor)
