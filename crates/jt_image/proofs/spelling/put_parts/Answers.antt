use Rattle.std.proofs.Common.{arith}
use Rattle.jt_image.specs.View.{units_view}
use Rattle.jt_image.proofs.PartsForAssembly.{short_codes}
use Rattle.jt_image.proofs.spelling.put_parts.Goals as goal

pub put_table-requires-3-clause-fit : goal.put_table-requires-3-clause-fit
put_table-requires-3-clause-fit c =
    rw c.deref-3.ensures.value (short_codes (units_view c.args.parts.now.units.items)
    (omega (arith, c.requires.code.instructions)))
