use Rattle.jt_inherit.proofs.RulesCarryOver.{laws_hold}
use Rattle.jt_inherit.proofs.laws.refusal_laws.Goals as goal

pub returns : goal.returns
returns c = laws_hold
