use Rattle.jt_inherit.proofs.Vocabulary.{arith, rules}
use Rattle.jt_ast.proofs.StatementViews.{view_If}
use Rattle.jt_inherit.proofs.supers.+lines.Goals as goal

pub statement_line-returns-in-If : goal.statement_line-returns-in-If
statement_line-returns-in-If t c = search (arith, rules, view_If)
