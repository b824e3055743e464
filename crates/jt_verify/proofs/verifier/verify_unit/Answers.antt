use Rattle.std.proofs.Common.{refl}
use Rattle.jt_verify.specs.Working.{unit_of}
use Rattle.jt_verify.proofs.RefusalsSound.{unit_typed, outcome_refuses}
use Rattle.jt_verify.proofs.verifier.verify_unit.Goals as goal

pub returns-in-None-clause-ok : goal.returns-in-None-clause-ok
returns-in-None-clause-ok g c =
    let k = g.C.Code.code c.args.code.now in
    let found = c.in_ok-found.found in
    unit_typed k (unit_of k c.args.unit) found.shapes found.refused c.in_ok-found.ensures.holds.outcome
    c.in-None.ensures

pub returns-clause-err : goal.returns-clause-err
returns-clause-err g c =
    let k = g.C.Code.code c.args.code.now in
    let found = c.in_ok-found.found in (
      refl,
      outcome_refuses k (unit_of k c.args.unit) found.shapes found.refused c.in-Some.point c.in-Some.flaw
          c.in_ok-found.ensures.holds.outcome c.in-Some.ensures,
    )
