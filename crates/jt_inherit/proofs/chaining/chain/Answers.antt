use Rattle.jt_inherit.proofs.Vocabulary.{◌≡◌, IsLinked, Options, SourceTexts, Text}
use Rattle.jt_chains.specs.View.{chain_view}
use Rattle.jt_chains.specs.declared.chain.Chain.{Chain}
use Rattle.jt_inherit.proofs.chaining.chain.Goals as goal

-- The facts are those of the linked chain.
its_link : {given : SourceTexts} {entry : Text} {options : Options} {c d : Chain} → d ≡ c
    → IsLinked given entry options (chain_view c) → IsLinked given entry options (chain_view d)
its_link e l = rw e l

pub returns-clause-chained : goal.returns-clause-chained
returns-clause-chained g c =
    let same = c.in_ok-facts_of.ensures.chain in
    rw (← same) (c.in_default.ensures.kept _ _ _ (its_link same c.in-Ok.ensures.linked))

pub returns-clause-only : goal.returns-clause-only
returns-clause-only g c =
    let same = c.in_ok-facts_of.ensures.chain in
    λ other is name.
    rw (← same) (c.in_default.ensures.only _ _ _ (its_link same c.in-Ok.ensures.linked) other is name)

pub returns-in-Err-check_chains-clause-only : goal.returns-in-Err-check_chains-clause-only
returns-in-Err-check_chains-clause-only g c =
    c.in-Err-check_chains.ensures.only _ _ _ (its_link c.in_ok-facts_of.ensures.chain c.in-Ok.ensures.linked)
