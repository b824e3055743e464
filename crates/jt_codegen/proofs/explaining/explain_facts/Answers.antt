use Rattle.jt_chains.specs.View.{chain_view}
use Rattle.jt_checks.specs.FindingView.{finding_view}
use Rattle.jt_codegen.proofs.Findings.{rule_found}
use Rattle.jt_codegen.proofs.explaining.explain_facts.Goals as goal

pub returns-in_ok-of_rule-in-Some : goal.returns-in_ok-of_rule-in-Some
returns-in_ok-of_rule-in-Some c = λ asked of.
    rule_found asked.given asked.entry asked.options (chain_view c.args.facts.now.chain.now) of.only
    (finding_view c.in-Some.found)
    (rw c.in-Some.is at c.in_ok-found.ensures.found) (rw c.in-Some.is at c.in_ok-found.ensures.holds)
    c.in_ok-of_rule-in-Some.field-0 c.in_ok-of_rule-in-Some.ensures

pub explain_image-requires-clause-kept : goal.explain_image-requires-clause-kept
explain_image-requires-clause-kept c = rw c.in-None.is at c.in_ok-found.ensures.kept
