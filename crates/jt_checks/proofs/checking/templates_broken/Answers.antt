use Rattle.jt_chains.proofs.TemplatesByIndex.{namespace_layers}
use Rattle.jt_checks.proofs.checking.templates_broken.Goals as goal
use Rattle.jt_checks.proofs.{drop_all, arith, rules, templates_left, template_within}

pub template_broken-requires : goal.template_broken-requires
template_broken-requires c = search (arith, rules, template_within)

pub returns-in-Some : goal.returns-in-Some
returns-in-Some c = search (arith, rules, namespace_layers, templates_left)

pub loop-template-preserved : goal.loop-template-preserved
loop-template-preserved c = search (arith, rules, templates_left)

pub returns : goal.returns
returns c = search (arith, rules, namespace_layers, drop_all)
