use Rattle.jt_inherit.proofs.Vocabulary as words
use words.{ℕ, refl, sym, ap, ◌∙◌, Text, templates_at, tag_view, both_ways}
use Rattle.jt_chains.specs.View.{its_templates}
use Rattle.jt_inherit.proofs.BlocksOfUses.{lacking_tagged}
use Rattle.jt_inherit.proofs.breaking.no_super.Goals as goal

pub returns-in_default : goal.returns-in_default
returns-in_default c =
    let whole = c.args.facts.now.chain.now in
    let ts = templates_at (its_templates whole) c.args.indices.now in
    let none = c.in_default.ensures in
    let some = lacking_tagged c.args.name.now whole.autoescape ts _ c.in_ok-named.ensures c.requires.lacking in
    absurd (both_ways _ none some)

pub returns : goal.returns
returns c =
    let ts = templates_at (its_templates c.args.facts.now.chain.now) c.args.indices.now in
    let call = c.in-Some.call in
    let tag = tag_view call.block in
    let found = (rw c.in_ok-named.ensures at c.in-Some.ensures) in
    let at = c.in_ok-place.ensures in
    let begun = c.in_ok-opened.ensures in (
      refl,
      (
        refl,
        rw c.in_ok-block.ensures.ok (record {
          number = found.number;
          tag = tag;
          there = found.there;
          calls = (
            ap (λ (q : Text × ℕ). q.0) begun,
            ap (λ (q : Text × ℕ). q.1) begun,
            rw (ap (λ (q : Text × ℕ). q.1) at) found.calls,
          );
          template = ap (λ (q : Text × ℕ). q.0) at ∙ sym (ap (λ (q : Text × ℕ). q.0) begun);
          last = found.last;
        }),
      ),
    )
