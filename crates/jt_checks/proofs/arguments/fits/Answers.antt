use Rattle.jt_checks.proofs.arguments.fits.Goals as goal
use Rattle.std.proofs.lemmas.Result.{IfOk-weaker}
use Rattle.jt_checks.proofs.{arith, rules, nat_tests, length-map, counted}

pub returns-then-parameters-row : goal.returns-then-parameters-row
returns-then-parameters-row c = search (arith, rules, counted, length-map, nat_tests)

pub returns : goal.returns
returns c =
    IfOk-weaker c.names_fit.result _ _ (λ b e. search (arith, rules, counted, length-map, nat_tests))
    c.names_fit.ensures
