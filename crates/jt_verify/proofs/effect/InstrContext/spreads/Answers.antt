use Rattle.std.proofs.Common.{arith}
use Rattle.std.proofs.lemmas.Grind.{common_steps}
use Rattle.jt_verify.proofs.ValuesOnTop.{length-pushes}
use Rattle.jt_verify.proofs.effect.InstrContext.spreads.Goals as goal

pub returns-in_err-fits : goal.returns-in_err-fits
returns-in_err-fits c = grind (arith, common_steps, length-pushes)
