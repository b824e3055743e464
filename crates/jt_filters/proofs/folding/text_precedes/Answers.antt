use Rattle.std.proofs.Common.{arith, rules}
use Rattle.jt_filters.proofs.Folds.{precedes_past, precedes_end}
use Rattle.jt_filters.proofs.folding.text_precedes.Goals as goal

pub returns-then-index-others : goal.returns-then-index-others
returns-then-index-others c = search (arith, rules, precedes_past)

pub returns : goal.returns
returns c = search (arith, rules, precedes_end)
