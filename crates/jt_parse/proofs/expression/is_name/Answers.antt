use Rattle.std.proofs.Common.{rules}
use Rattle.jt_scan.proofs.Words.{spelled_again}
use Rattle.jt_parse.proofs.expression.is_name.Goals as goal

pub returns : goal.returns
returns c = rw (spelled_again c.args.word.now c.utf8.word) (search rules)
