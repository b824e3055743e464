use Rattle.std.proofs.Common.{◌≡◌}
use Rattle.jt_expr.proofs.ReaderContracts.{read_promised}
use Rattle.jt_expr.proofs.grammar.read.Goals as goal

pub returns : goal.returns
returns c =
    let same : c.from.result ≡ c.args.limit = cc in
    record { promises = rw same at (read_promised _ _ _ _ _ c.read_within.ensures) }
