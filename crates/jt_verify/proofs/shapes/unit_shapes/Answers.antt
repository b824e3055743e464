use Rattle.std.proofs.Common.{◌≡◌, [], Some, ap, sym}
use Rattle.std.specs.Prelude.{slice_get}
use Rattle.jt_verify.specs.Search.{Found}
use Rattle.jt_verify.specs.Working.{unit_of}
use Rattle.jt_verify.proofs.ShapeTables.{some_section}
use Rattle.jt_verify.proofs.shapes.unit_shapes.Goals as goal

pub returns-clause-found : goal.returns-clause-found
returns-clause-found g c =
    let k = g.C.Code.code c.args.code.now in
    let is : slice_get k.units c.args.unit ≡ Some (unit_of k c.args.unit) =
    some_section (slice_get k.units c.args.unit) (record { parameters = 0; kind = 0; locals = 0; code = [] })
    c.in-Some.header (sym c.in-Some.ensures) in
    rw is (ap (λ (f : Found). Some f) c.in_ok-explore.ensures.found)

pub returns-clause-holds : goal.returns-clause-holds
returns-clause-holds g c =
    let k = g.C.Code.code c.args.code.now in
    let is : slice_get k.units c.args.unit ≡ Some (unit_of k c.args.unit) =
    some_section (slice_get k.units c.args.unit) (record { parameters = 0; kind = 0; locals = 0; code = [] })
    c.in-Some.header (sym c.in-Some.ensures) in
    rw is c.in_ok-explore.ensures.holds
