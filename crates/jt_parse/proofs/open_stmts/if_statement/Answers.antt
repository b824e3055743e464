use Rattle.jt_ast.proofs.StatementViews.{view_If}
use Rattle.jt_parse.proofs.open_stmts.if_statement.Goals as goal

pub returns : goal.returns
returns c = view_If c.args.branches c.args.other
