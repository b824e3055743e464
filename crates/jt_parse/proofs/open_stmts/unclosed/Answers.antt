use Rattle.jt_parse.specs.internal.Gives.{open_stmt_view, open_stmts_view}
use Rattle.jt_parse.proofs.open_stmts.unclosed.Goals as goal

pub returns-in-Some : goal.returns-in-Some
returns-in-Some c =
    (open_stmt_view c.in-Some.open_stmt, open_stmts_view c.pop_open_stmt.new.open_stmts.items, c.in-Some.ensures)
