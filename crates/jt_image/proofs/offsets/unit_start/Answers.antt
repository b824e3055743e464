use Rattle.std.proofs.Common.{◌≡◌, arith}
use Rattle.std.specs.Prelude.{option_map}
use Rattle.std.proofs.lemmas.Grind.{common_steps}
use Rattle.jt_image.specs.declared.offsets.UnitOffset.{UnitOffset}
use Rattle.jt_image.proofs.UnitOffsets.{start_stands}
use Rattle.jt_image.proofs.offsets.unit_start.Goals as goal

pub returns : goal.returns
returns c =
    let told : c.map.result ≡ option_map (λ (p : UnitOffset). p.start) c.unit_at.result = grind (arith, common_steps) in
    rw told (start_stands c.args._bytes.now c.args.offsets.now (λ i. omega (arith, c.type_inv._bytes i)) c.requires
    c.args.unit c.unit_at.result c.unit_at.ensures)
