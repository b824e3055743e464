use Rattle.jt_inherit.proofs.Vocabulary as words
use Rattle.jt_uses.specs.UseView.{sites_view}
use words.{◌≡◌, arith, length, length-map, tag_view, with_name, List, refl, sym, ap, ◌∙◌, append-nil, is_block}
use words.{place_in, tags, tags_view, uses_in, FoundTag}
use Rattle.jt_inherit.proofs.TagPlaces.{second_shows}
use Rattle.jt_inherit.proofs.breaking.block_twice.Goals as goal

pub two_places-requires : goal.two_places-requires
two_places-requires c =
    let items = c.deref.result.now in
    let wanted =
    tags (is_block c.args.name.now) (with_name c.args.template.now (sites_view c.args.uses.now)) in
    let many : length (tags_view items) ≡ length wanted =
    ap (λ (l : List FoundTag). length (tags_view l)) c.deref.ensures.value ∙ ap length c.in_ok-tags.ensures in
    omega (arith, many, c.requires.twice, length-map items tag_view)

pub returns : goal.returns
returns c = λ t its.
    let test = is_block c.args.name.now in
    let p = c.in_ok-places.places in
    let found = sym (ap (λ (l : List FoundTag). tags_view l) c.deref.ensures.value ∙ c.in_ok-tags.ensures
    ∙ ap (tags test) its) in
    let at = c.in_ok-places.ensures in (
      refl,
      rw c.in_ok-name.ensures.ok
          (rw (append-nil (uses_in t))
          (second_shows test p.0 p.1 (uses_in t) (ap (place_in 0) found ∙ at.0) (ap (place_in 1) found ∙ at.1))),
    )
