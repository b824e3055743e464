use Rattle.std.proofs.Common.{arith}
use Rattle.std.proofs.lemmas.Map.Text.{text_keys}
use Rattle.jt_disk.proofs.disk.Disk.put.Goals as goal

pub returns-clause-others : goal.returns-clause-others
returns-clause-others c = λ other d. grind (arith, text_keys)
