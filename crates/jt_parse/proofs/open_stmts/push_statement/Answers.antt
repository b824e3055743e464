use Rattle.std.proofs.Common.{ap, ◌∙◌}
use Rattle.jt_ast.specs.StatementView.{body_view}
use Rattle.jt_parse.proofs.AppendedStatements.{body-push}
use Rattle.jt_parse.proofs.open_stmts.push_statement.Goals as goal

pub returns : goal.returns
returns c = ap body_view c.in_ok-push.ensures.items ∙ body-push c.args.body.now.items c.args.statement
