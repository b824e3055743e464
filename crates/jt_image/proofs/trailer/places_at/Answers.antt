use Rattle.std.proofs.Common.{arith, rules}
use Rattle.std.proofs.lemmas.Result.{err_from_is_err_and}
use Rattle.jt_image.proofs.InstructionsInPlace.{locs_whole}
use Rattle.jt_image.proofs.TablesInPlace.{back_gives, back_fails, templates_fail}
use Rattle.jt_image.proofs.trailer.places_at.Goals as goal

pub returns-in_err-templates-clause-gives : goal.returns-in_err-templates-clause-gives
returns-in_err-templates-clause-gives c = search (arith, rules, err_from_is_err_and, templates_fail)

pub returns-in_err-rest-clause-gives : goal.returns-in_err-rest-clause-gives
returns-in_err-rest-clause-gives c = search (arith, rules, err_from_is_err_and, back_fails)

pub returns-clause-gives : goal.returns-clause-gives
returns-clause-gives c = search (arith, rules, back_gives)

pub returns-clause-there : goal.returns-clause-there
returns-clause-there c = search (arith, rules, locs_whole)
