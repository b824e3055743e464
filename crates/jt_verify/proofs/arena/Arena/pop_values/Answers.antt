use Rattle.std.proofs.Common.{get_or, arith, rules}
use Rattle.jt_verify.proofs.ValuesOnTop.{length-pushes, pops_values}
use Rattle.jt_verify.proofs.ShapesAreUnique.{pops_nothing, pops_a_mark}
use Rattle.jt_verify.proofs.arena.Arena.pop_values.Goals as goal

pub returns-then-count-shape : goal.returns-then-count-shape
returns-then-count-shape c = search (arith, rules, get_or, pops_values, length-pushes)

pub returns-then-shape-eq0 : goal.returns-then-shape-eq0
returns-then-shape-eq0 c = search (arith, rules, pops_nothing)

pub returns : goal.returns
returns c = search (arith, rules, pops_a_mark)
