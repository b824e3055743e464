use Rattle.jt_checks.proofs.checking.find_broken.Goals as goal
use Rattle.jt_checks.specs.FindingView.{finding_view}
use Rattle.jt_checks.proofs.{refl, sym, ap, ◌∙◌, arith, option_map, inr, chain_view, cenv_in, nat_tests}
use Rattle.jt_checks.proofs.{found_holds, none_is_broken, name_seen}

pub returns-in-Some : goal.returns-in-Some
returns-in-Some c =
    let chain = c.args.facts.now.chain.now in
    let all = found_holds (cenv_in chain) (chain_view chain).order (finding_view c.in-Some.finding)
    (sym (ap (option_map finding_view) c.in-Some.is) ∙ c.in_ok-finding.ensures) in
    record { kept = tt; found = all.1; holds = all.0 }

pub returns-then-branch-clause-kept : goal.returns-then-branch-clause-kept
returns-then-branch-clause-kept c =
    let chain = c.args.facts.now.chain.now in
    none_is_broken (cenv_in chain) (chain_view chain).order
    (sym (ap (option_map finding_view) c.in_default.is) ∙ c.in_ok-finding.ensures) (grind (arith, nat_tests))

pub returns-clause-found : goal.returns-clause-found
returns-clause-found c = inr (grind (arith, nat_tests))

pub returns-clause-holds : goal.returns-clause-holds
returns-clause-holds c =
    let chain = c.args.facts.now.chain.now in
    inr (record {
      rule = refl;
      broken = grind (arith, nat_tests);
      template = c.as_str.ensures.value ∙ name_seen chain 0 c.index.result.now chain.some c.index.ensures;
      line = refl;
      subject = refl;
    })
