use Rattle.jt_inherit.proofs.Vocabulary as words
use words.{◌≡◌, List, FoundTag, tag_count, tags_view, refl, sym, ap, ◌∙◌, all_uses, arith, defines, length, length-map}
use words.{place_in, tag_view, templates_at}
use Rattle.jt_inherit.proofs.TagPlaces.{second_shows}
use Rattle.jt_chains.specs.View.{its_templates}
use Rattle.jt_inherit.proofs.breaking.name_twice.Goals as goal

pub two_places-requires : goal.two_places-requires
two_places-requires c =
    let ts = templates_at (its_templates c.args.facts.now.chain.now) c.args.indices.now in
    let items = c.deref.result.now in
    let many : length (tags_view items) ≡ tag_count (defines c.args.name.now) ts =
    ap (λ (l : List FoundTag). length (tags_view l)) c.deref.ensures.value ∙ ap length c.in_ok-tags.ensures in
    omega (arith, many, c.requires.twice, length-map items tag_view)

pub returns : goal.returns
returns c =
    let ts = templates_at (its_templates c.args.facts.now.chain.now) c.args.indices.now in
    let p = c.in_ok-places.places in
    let found = sym (rw c.deref.ensures.value c.in_ok-tags.ensures) in
    let at = c.in_ok-places.ensures in (
      refl,
      (
        refl,
        rw c.in_ok-name.ensures.ok
            (second_shows (defines c.args.name.now) p.0 p.1 (all_uses ts) (ap (place_in 0) found ∙ at.0)
            (ap (place_in 1) found ∙ at.1)),
      ),
    )
