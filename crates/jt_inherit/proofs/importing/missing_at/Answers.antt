use Rattle.jt_inherit.proofs.Vocabulary.{◌≡◌, true, ap, sym, subst, ◌∙◌, List, any_lacks_macros, or_left, ForSome}
use Rattle.jt_inherit.proofs.Vocabulary.{Template}
use Rattle.jt_inherit.proofs.Vocabulary.{Body, lacks_macros, body_uses, outside, imports_it, templates_at, files_view}
use Rattle.jt_chains.specs.View.{its_sources}
use Rattle.jt_inherit.proofs.PathsGrow.{templates_turn}
use Rattle.jt_inherit.proofs.RulesHaveTags.{some_tags}
use Rattle.jt_inherit.proofs.TagPlaces.{some_template}
use Rattle.jt_inherit.proofs.importing.missing_at.Goals as goal

pub returns-in-Some-missing_in : goal.returns-in-Some-missing_in
returns-in-Some-missing_in c =
    let s = its_sources c.args.chain.now in
    let ps = c.args.chain.now.templates.items in
    let is = c.args.indices.now in
    let k = c.loop-index.index-index in
    let p = c.in-Some.file.now in
    let m = c.in-Some-missing_in.found in
    let lt = c.loop-index-test.true in
    let found = (rw c.deref.ensures.value at c.in-Some.ensures.lookup.3) in
    let told = c.in-Some-missing_in.ensures in (
      c.loop-index.invariant
          ∙ (ap (λ (us : List Template). any_lacks_macros s us) (templates_turn ps is k p lt found.0 (found.1 p))
          ∙ or_left _ _ (ap (λ (b : Body). lacks_macros s b) (sym c.body.ensures) ∙ told.0)),
      told.1,
      some_tags (imports_it m) (templates_at (files_view ps) is)
          (some_template (λ t. ForSome (λ u. imports_it m u.made ≡ true) (body_uses t.body outside)) ps is k p lt
          found.0 (found.1 p)
          (subst (λ (b : Body). ForSome (λ u. imports_it m u.made ≡ true) (body_uses b outside)) c.body.ensures
          (told.2 outside))),
    )
