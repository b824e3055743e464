use Rattle.std.proofs.Common.{arith}
use Rattle.std.proofs.lemmas.List.{length-map}
use Rattle.jt_machine.proofs.StepLemmas.{locals_full}
use Rattle.jt_machine.proofs.calls.locals_with.Goals as goal

pub returns : goal.returns
returns c = grind (arith, length-map, locals_full)
