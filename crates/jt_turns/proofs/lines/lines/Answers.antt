use Rattle.std.proofs.Common.{arith, rules}
use Rattle.std.proofs.Math.Numerals.{add-one}
use Rattle.jt_turns.proofs.TurnOutcomes.{lines_more}
use Rattle.jt_turns.proofs.lines.lines.Goals as goal

pub ids-preserved : goal.ids-preserved
ids-preserved c = search (arith, rules, lines_more, add-one)
