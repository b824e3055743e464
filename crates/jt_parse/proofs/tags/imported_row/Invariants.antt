use Rattle.std.proofs.Common.{codes, String, Global, Vec}
use Rattle.jt_scan.specs.declared.segment.Sign.TheVariants as s
use Rattle.jt_expr.specs.Cursor.{ahead}
use Rattle.jt_parse.specs.Tags.{IsImported}
use Rattle.jt_parse.specs.internal.Readers.{NoWord, NoImported}
use Rattle.jt_ast.specs.StatementView.{given_view}
use Rattle.jt_parse.specs.internal.HeadView.{imported_view}
use Rattle.jt_parse.proofs.SeparatedLists.{Turn, imported_row}
use Rattle.jt_parse.proofs.tags.imported_row.Given as goal

abbrev pub invariant-loop-turn : goal.invariant-loop-turn
invariant-loop-turn l =
    Turn imported_view (λ (v : Vec (String Global × String Global) Global). given_view v.items) IsImported s.Comma
    (NoWord (codes "as")) NoImported imported_row (λ a. 0) 0 (ahead l.fn.cursor)
    l._turn l._turn-end (given_view l.found.items) (ahead l.cursor)
