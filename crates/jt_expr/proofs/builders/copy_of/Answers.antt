use Rattle.std.proofs.Common.{rules}
use Rattle.jt_scan.proofs.Words.{spelled_again}
use Rattle.jt_expr.proofs.builders.copy_of.Goals as goal

pub returns : goal.returns
returns c = rw (spelled_again c.args.text.now c.utf8.text) (search rules)
