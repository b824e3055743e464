use Rattle.std.proofs.Common.{◌≡◌, length, sym, ap, ◌∙◌, arith}
use Rattle.jt_image.specs.Code.{Code}
use Rattle.jt_image.specs.Spelling.{spelling}
use Rattle.jt_image.specs.InPlace.{code_in, Spells}
use Rattle.jt_image.specs.Upgrading.{unplaced}
use Rattle.jt_image.proofs.UpgradeInPlace.{placed_after, upgraded_in_place}
use Rattle.jt_image.proofs.upgrading.unplaced.Goals as goal

in_place : (c : goal.After-drop-old)
    → Spells c.args.bytes.items (placed_after c.places_after.result c.image.inside.offsets)
    × (code_in c.args.bytes.items (placed_after c.places_after.result c.image.inside.offsets) ≡ unplaced c.args.image)
in_place c =
    let made = upgraded_in_place c.image.inside.bytes.items c.args.bytes.items c.image.inside.offsets
    (rw c.deref.ensures.value at c.places_after.ensures.bytes) c.image.invariant
    (ap (λ (k : Code). k.version) c.image.view_is ∙ c.requires.version)
    (c.requires.is ∙ ap (λ (k : Code). spelling (unplaced k)) (sym c.image.view_is)) c.requires.short
    c.places_after.result (c.places_after.ensures.at ∙ omega (arith, ap length c.deref.ensures.value)) in
    (made.0, made.1 ∙ ap unplaced c.image.view_is)

pub invariant_of-result : goal.invariant_of-result
invariant_of-result c = (in_place c).0

pub returns : goal.returns
returns c = (in_place c).1
