use Rattle.std.proofs.Common.{arith, rules}
use Rattle.std.proofs.lemmas.Option.{slice_get_within}
use Rattle.jt_verify.proofs.ShapeTables.{some_section}
use Rattle.jt_verify.proofs.RefusalsSound.{unit_refused, exact}
use Rattle.jt_verify.proofs.verifier.verify_code.Goals as goal

pub returns-in_err-verify_unit-clause-exact : goal.returns-in_err-verify_unit-clause-exact
returns-in_err-verify_unit-clause-exact g c = search (arith, rules, some_section, unit_refused, exact)

pub returns-clause-ok : goal.returns-clause-ok
returns-clause-ok g c =
    λ n u e. c.units.invariant n u
    (omega (arith, slice_get_within _ n u e, c.units-test.false, c.units-unit-end.ensures.count)) e
