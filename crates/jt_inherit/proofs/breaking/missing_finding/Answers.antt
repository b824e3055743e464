use Rattle.jt_inherit.proofs.Vocabulary as words
use words.{◌≡◌, ◌<◌, refl, sym, ap, ◌∙◌, arith, Some, all_uses, binds_macro, length, length-map, tag_view, tags_view}
use words.{place_in, place_view, tag_count, tags, templates_at}
use Rattle.jt_inherit.proofs.TagPlaces.{first_shows, place_here}
use Rattle.jt_chains.specs.View.{its_templates}
use Rattle.jt_inherit.proofs.breaking.missing_finding.Goals as goal

pub returns : goal.returns
returns c =
    let ts = templates_at (its_templates c.args.facts.now.chain.now) c.args.indices.now in
    let library = c.args.missing.library.now in
    let name = c.args.missing.name.now in
    let items = c.in_ok-tags.tags.items in
    let p = c.in_ok-place.place in
    let many : length (tags_view items) ≡ tag_count (binds_macro library name) ts = ap length c.in_ok-tags.ensures in
    let lt : 0 < length items = omega (arith, many, c.requires.imported, length-map items tag_view) in
    let at : place_in 0 (tags (binds_macro library name) (all_uses ts)) ≡ Some (place_view p) =
    ap (place_in 0) (sym c.in_ok-tags.ensures)
    ∙ place_here items 0 c.index-tag.result.now (place_view p) lt c.index-tag.ensures c.in_ok-place.ensures in (
      refl,
      rw (c.in_ok-library.ensures.ok, c.in_ok-name.ensures.ok)
          (refl, first_shows (binds_macro library name) p (all_uses ts) at, c.requires.lacking),
    )
