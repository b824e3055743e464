use Rattle.std.proofs.Common.{arith, rules}
use Rattle.jt_image.proofs.ReaderParts.{last_seen}
use Rattle.jt_image.proofs.trailer.last_template.Goals as goal

pub returns-in-len1-up : goal.returns-in-len1-up
returns-in-len1-up c = search (arith, rules, last_seen)
