use Rattle.jt_inherit.proofs.Vocabulary.{refl, arith, rules}
use Rattle.jt_inherit.proofs.placing.included_finding.Goals as goal

pub returns : goal.returns
returns c = record {
  error = refl;
  place = search (arith, rules);
  subject = (c.in_ok-name.name, refl, search (arith, rules));
}
