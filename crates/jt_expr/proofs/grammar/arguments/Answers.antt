use Rattle.std.proofs.Common.{◌≡◌}
use Rattle.jt_expr.proofs.ReaderContracts.{arguments_promised}
use Rattle.jt_expr.proofs.grammar.arguments.Goals as goal

pub returns : goal.returns
returns c =
    let same : c.from.result ≡ c.args.limit = cc in
    record { promises = rw same at (arguments_promised _ _ _ _ c.arguments.ensures) }
