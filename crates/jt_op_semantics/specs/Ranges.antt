-- `range`: the numbers from a start by a step, up to but not including a stop.
use Rattle.std.specs.Prelude.{zero, ℤ, pos, List, [], ◌∷◌, Result, Ok, Err}
use Rattle.jt_value.specs.declared.fault.Fault.{Fault}
use Rattle.jt_value.specs.declared.fault.Fault.TheVariants.{BadType, Range}
use Rattle.jt_value.specs.Numbers.{stepped, range_count}
use Rattle.jt_value.specs.Order.{operand_fault}
use Rattle.jt_value.specs.Tree.{Tree, number, list}
use Rattle.jt_op_semantics.specs.Operands.{operand_fault_of_one, operand_fault_of_three}

-- The list of the numbers from start by step that lie before stop. A step of 0 is a fault.
abbrev pub numbers_between : ℤ → ℤ → ℤ → Result Tree Fault
numbers_between start stop (pos zero) = Err Range
numbers_between start stop step = Ok (list (stepped (range_count start stop step) start step))

-- The result of `range` on a stop, on a start and a stop, or on a start, a stop and a step. All of
-- them are numbers; the start defaults to 0 and the step to 1.
abbrev pub ranged : List Tree → Result Tree Fault
ranged (number stop ∷ []) = numbers_between (pos 0) stop (pos 1)
ranged (number start ∷ number stop ∷ []) = numbers_between start stop (pos 1)
ranged (number start ∷ number stop ∷ number step ∷ []) = numbers_between start stop step
ranged (t ∷ []) = Err (operand_fault_of_one t)
ranged (t ∷ u ∷ []) = Err (operand_fault t u)
ranged (t ∷ u ∷ v ∷ []) = Err (operand_fault_of_three t u v)
ranged ts = Err BadType
