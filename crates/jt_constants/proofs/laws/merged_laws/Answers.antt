use Rattle.jt_constants.proofs.MergedLawsHold.{laws_hold}
use Rattle.jt_constants.proofs.laws.merged_laws.Goals as goal

pub returns : goal.returns
returns c = laws_hold
