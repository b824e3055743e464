use Rattle.jt_image.specs.View.{IsKnownUnit}
use Rattle.jt_image.proofs.PartsForAssembly.{each_holds}
use Rattle.jt_image.proofs.spelling.put_codes.Goals as goal

pub put_code-requires : goal.put_code-requires
put_code-requires c =
    rw (c.deref.ensures.value, c.unit-item.is)
    (each_holds IsKnownUnit c.args.units.now c.units.unit-index c.unit-item.result c.requires c.units-test.true)
