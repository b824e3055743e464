use Rattle.std.proofs.Common.{ap, ◌∙◌}
use Rattle.jt_ast.specs.StatementView.{branches_view}
use Rattle.jt_parse.proofs.AppendedStatements.{branches-push}
use Rattle.jt_parse.proofs.open_stmts.with_branch.Goals as goal

pub returns : goal.returns
returns c =
    ap branches_view c.in_ok-push.ensures.items
    ∙ branches-push c.args.branches.items
    (record { line = c.args.line; condition = c.args.condition; body = c.args.body })
