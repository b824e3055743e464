use Rattle.jt_lower.proofs.LowerLawsHold.{laws_hold}
use Rattle.jt_lower.proofs.laws.low_laws.Goals as goal

pub returns : goal.returns
returns c = laws_hold c.code_laws.ensures c.merged_laws.ensures
