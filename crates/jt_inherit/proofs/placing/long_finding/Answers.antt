use Rattle.jt_inherit.proofs.Vocabulary.{refl}
use Rattle.jt_inherit.proofs.placing.long_finding.Goals as goal

pub returns : goal.returns
returns c = record { error = refl; place = refl; subject = (c.args.asked.name, refl, refl) }
