use Rattle.jt_inherit.proofs.Vocabulary.{◌≡◌, ◌≤◌, ◌∙◌, true, ap, arith, map, sym, subst, times, List, BlockBody}
use Rattle.jt_inherit.proofs.Vocabulary.{Template}
use Rattle.jt_inherit.proofs.Vocabulary.{blocks_view, named, their_blocks, false, Text, repeated, lacks_next}
use Rattle.jt_inherit.proofs.Vocabulary.{any_double}
use Rattle.jt_inherit.proofs.Vocabulary.{any_lacks_macros}
use Rattle.jt_chains.specs.Chain.{Definition}
use Rattle.jt_chains.specs.Named.{names_view}
use Rattle.jt_chains.specs.declared.definitions.DefinedName.{DefinedName}
use Rattle.jt_chains.specs.declared.parts.Block.{Block}
use Rattle.jt_chains.specs.Rules.{is_required, lacks_super}
use Rattle.jt_chains.specs.View.{its_sources, its_templates, namespace_in}
use Rattle.jt_inherit.proofs.ChainsChecked.{names_tagged, rule_broken}
use Rattle.jt_names.proofs.FactsByIndex.{known_at}
use Rattle.jt_inherit.proofs.rules.check_rules.Goals as goal

pub index-known-requires : goal.index-known-requires
index-known-requires c = omega (arith, c.requires.stands, c.args.facts.now.known.all)

pub name_twice-requires : goal.name_twice-requires
name_twice-requires c =
    let whole = c.args.facts.now.chain.now in
    let i = c.args.namespace in
    let known = known_at c.args.facts.now i c.index-known.result.now c.requires.stands c.index-known.ensures in
    let twice = (rw c.in-Some-2.is at c.in_ok-name.ensures (its_templates whole) (namespace_in whole i)) in
    record {
      twice = names_tagged whole i c.index-known.result.now _ c.in-Some-2.name.now known
          c.indices_of-indices.ensures.own
          (subst (λ (ds : List DefinedName). 2 ≤ times c.in-Some-2.name.now
          (map (λ g. g.0) (names_view (its_templates whole) (namespace_in whole i) ds))) c.deref.ensures.value twice.1);
    }

pub not_given-requires : goal.not_given-requires
not_given-requires c =
    let whole = c.args.facts.now.chain.now in
    let x = c.in-Some-lacking_body.name.now in
    let found = c.in-Some-lacking_body.ensures in
    record {
      required = subst (λ (us : List Template). is_required (named x (their_blocks whole.autoescape us)) ≡ true)
          (sym c.indices_of-indices.ensures.own) found.1;
    }

pub no_super-requires : goal.no_super-requires
no_super-requires c =
    let whole = c.args.facts.now.chain.now in
    let i = c.args.namespace in
    let known = known_at c.args.facts.now i c.index-known.result.now c.requires.stands c.index-known.ensures in
    let x = c.in-Some-3.name.now in
    let found = (rw c.in-Some-3.is at c.in_ok-name-2.ensures (its_templates whole)) in
    let bodies =
    ap (λ (bs : List Block). blocks_view (its_templates whole) bs) c.deref-2.ensures.value ∙ known.all_blocks in
    record {
      lacking = subst (λ (us : List Template). lacks_super (named x (their_blocks whole.autoescape us)) ≡ true)
          (sym c.indices_of-indices.ensures.own)
          (subst (λ (bs : List BlockBody). lacks_super (named x bs) ≡ true) bodies found.1);
    }

pub returns-in-Some-2-clause-broken : goal.returns-in-Some-2-clause-broken
returns-in-Some-2-clause-broken c =
    let whole = c.args.facts.now.chain.now in
    let i = c.args.namespace in
    let known = known_at c.args.facts.now i c.index-known.result.now c.requires.stands c.index-known.ensures in
    let twice = (rw c.in-Some-2.is at c.in_ok-name.ensures (its_templates whole) (namespace_in whole i)) in
    let defined =
    ap (λ (ds : List DefinedName). names_view (its_templates whole) (namespace_in whole i) ds) c.deref.ensures.value
    ∙ known.all_defined in
    rule_broken c.indices_of-indices.ensures.own
    (subst (λ (gs : List (Text × Definition)). repeated (map (λ g. g.0) gs) ≡ true) defined twice.0)
    c.in_ok-name_twice.ensures

pub returns-in-Some-3-clause-broken : goal.returns-in-Some-3-clause-broken
returns-in-Some-3-clause-broken c =
    let whole = c.args.facts.now.chain.now in
    let i = c.args.namespace in
    let known = known_at c.args.facts.now i c.index-known.result.now c.requires.stands c.index-known.ensures in
    let found = (rw c.in-Some-3.is at c.in_ok-name-2.ensures (its_templates whole)) in
    let bodies =
    ap (λ (bs : List Block). blocks_view (its_templates whole) bs) c.deref-2.ensures.value ∙ known.all_blocks in
    rule_broken c.indices_of-indices.ensures.own
    (subst (λ (bs : List BlockBody). lacks_next bs ≡ true) bodies found.0)
    c.in_ok-no_super.ensures

pub returns-clause-kept : goal.returns-clause-kept
returns-clause-kept c =
    let whole = c.args.facts.now.chain.now in
    let s = its_sources whole in
    let i = c.args.namespace in
    let known = known_at c.args.facts.now i c.index-known.result.now c.requires.stands c.index-known.ensures in
    let own = c.indices_of-indices.ensures.own in
    let single = (rw c.in_default.is at c.in_ok-finding.ensures) in
    let once = (rw c.in_default-2.is at c.in_ok-name.ensures (its_templates whole) (namespace_in whole i)) in
    let next = (rw c.in_default-3.is at c.in_ok-name-2.ensures (its_templates whole)) in
    let defined =
    ap (λ (ds : List DefinedName). names_view (its_templates whole) (namespace_in whole i) ds) c.deref.ensures.value
    ∙ known.all_defined in
    let bodies =
    ap (λ (bs : List Block). blocks_view (its_templates whole) bs) c.deref-2.ensures.value ∙ known.all_blocks in
    record {
      doubles = subst (λ (us : List Template). any_double whole.autoescape us ≡ false) own single;
      bodies = c.in_default-lacking_body.ensures;
      next = subst (λ (bs : List BlockBody). lacks_next bs ≡ false) bodies next;
      names = subst (λ (gs : List (Text × Definition)). repeated (map (λ g. g.0) gs) ≡ false) defined once;
      macros_there = subst (λ (us : List Template). any_lacks_macros s us ≡ false) own c.in_default-missing_at.ensures;
    }
