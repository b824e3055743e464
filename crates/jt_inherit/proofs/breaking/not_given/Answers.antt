use Rattle.jt_inherit.proofs.Vocabulary as words
use words.{◌≡◌, ◌<◌, ℕ, true, refl, ap, arith, subst, List, Some, length, length-map, slice_get, Text, Site, tag_view}
use words.{tags_view, templates_at, map_at, slice_get_within}
use Rattle.jt_chains.specs.View.{its_templates}
use Rattle.jt_inherit.specs.Findings.{is_required}
use Rattle.jt_inherit.proofs.BlocksOfUses.{required_tagged}
use Rattle.jt_inherit.proofs.breaking.not_given.Goals as goal

pub index-nearest-requires : goal.index-nearest-requires
index-nearest-requires c =
    let whole = c.args.facts.now.chain.now in
    let ts = templates_at (its_templates whole) c.args.indices.now in
    let items = c.in_ok-named.named.items in
    let first =
    required_tagged c.args.name.now whole.autoescape ts (tags_view items) c.in_ok-named.ensures c.requires.required in
    let some : 0 < length (tags_view items) = slice_get_within (tags_view items) 0 first.0 first.1 in
    omega (arith, some, length-map items tag_view)

pub returns : goal.returns
returns c =
    let whole = c.args.facts.now.chain.now in
    let ts = templates_at (its_templates whole) c.args.indices.now in
    let items = c.in_ok-named.named.items in
    let nearest = c.index-nearest.result.now in
    let first =
    required_tagged c.args.name.now whole.autoescape ts (tags_view items) c.in_ok-named.ensures c.requires.required in
    let some : 0 < length (tags_view items) = slice_get_within (tags_view items) 0 first.0 first.1 in
    let lt : 0 < length items = omega (arith, some, length-map items tag_view) in
    let there : slice_get (tags_view items) 0 ≡ Some (tag_view nearest) =
    map_at tag_view items 0 nearest lt c.index-nearest.ensures in
    let found : slice_get (tags_view items) 0 ≡ Some first.0 = first.1 in
    let same : first.0 ≡ tag_view nearest = cc in
    let at = c.in_ok-place.ensures in (
      refl,
      (
        refl,
        rw c.in_ok-name.ensures.ok (record {
          tag = tag_view nearest;
          nearest =
              subst (λ (l : List (Text × Site)). slice_get l 0 ≡ Some (tag_view nearest)) c.in_ok-named.ensures there;
          required = (
            ap (λ (q : Text × ℕ). q.0) at,
            ap (λ (q : Text × ℕ). q.1) at,
            subst (λ (y : Text × Site). is_required y.1.made ≡ true) same first.2,
          );
        }),
      ),
    )
