use Rattle.jt_inherit.proofs.Vocabulary.{refl, arith, common_steps}
use Rattle.jt_inherit.proofs.placing.cycle_finding.Goals as goal

pub returns : goal.returns
returns c = record {
  error = refl;
  place = refl;
  subject = (c.args.asked.name, c.in_ok-rest.rest, refl, refl, grind (arith, common_steps));
}
