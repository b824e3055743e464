use Rattle.jt_image.proofs.CodeLawsHold.{lawful}
use Rattle.jt_image.proofs.laws.code_laws.Goals as goal

pub returns : goal.returns
returns c = lawful
