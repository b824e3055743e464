use Rattle.std.proofs.Common.{refl}
use Rattle.jt_checks.specs.FindingView.{finding_view}
use Rattle.jt_codegen.proofs.Findings.{same_finding}
use Rattle.jt_codegen.proofs.finding.Finding.of_rule.Goals as goal

pub returns : goal.returns
returns c = record {
  place = record { template = c.in_ok-template.template; line = c.args.found.now.line };
  subject = c.in_ok-subject.subject;
  about = (finding_view c.args.found.now).subject;
  states = refl;
  subject_is = c.in_ok-subject.ensures;
  is = same_finding c.args.found.now.rule _ _ c.args.found.now.line _ _ c.in_ok-template.ensures.ok refl;
}
