use Rattle.jt_show.specs.Listing.{found_or}
use Rattle.jt_show.proofs.UnitLines.{unit_put}
use Rattle.jt_show.proofs.units.put_unit.Goals as goal

pub returns : goal.returns
returns g c section is =
    unit_put (g.C.Code.code c.args.code.now) c.args.searched.now.unit section _ c.in-Some.header
    c.in-Some-unit_code.instructions (found_or c.args.searched.now.found) _ _ _ _ is c.in-Some.ensures
    c.in-Some-unit_code.ensures c.in_ok-put_unit_line.ensures c.in_ok-put_points.ensures c.in_ok-put_mark.ensures
