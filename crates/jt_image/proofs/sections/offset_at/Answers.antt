use Rattle.std.proofs.Common.{arith, rules}
use Rattle.jt_image.proofs.InstructionsInPlace.{place_whole}
use Rattle.jt_image.proofs.TablesInPlace.{instructions_last}
use Rattle.jt_image.proofs.sections.offset_at.Goals as goal

pub returns-clause-there : goal.returns-clause-there
returns-clause-there c = search (arith, rules, place_whole)

pub returns-clause-last : goal.returns-clause-last
returns-clause-last c = search (arith, rules, instructions_last)
