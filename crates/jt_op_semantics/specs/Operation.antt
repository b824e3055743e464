-- The result of each operator: a value or a fault.
use Rattle.std.specs.Prelude.{Bool, not, List, [], ◌∷◌, Result, Ok, Err}
use Rattle.jt_value.specs.declared.fault.Fault.{Fault}
use Rattle.jt_value.specs.declared.fault.Fault.TheVariants.{BadType}
use Rattle.jt_value.specs.Equality.{equal}
use Rattle.jt_value.specs.Tree.{Tree, truth_value, truth}
use Rattle.jt_ids.specs.declared.op_id.OpId.{OpId}
use Rattle.jt_ids.specs.declared.op_id.OpId.TheVariants as op
use Rattle.jt_op_semantics.specs.Arithmetic.{on_numbers, on_number, difference, quotient, remainder, power, negation}
use Rattle.jt_op_semantics.specs.Arithmetic.{same_number}
use Rattle.jt_op_semantics.specs.Comparing.{compared, is_less, is_less_or_equal, is_greater, is_greater_or_equal}
use Rattle.jt_op_semantics.specs.ItemOf.{item_of}
use Rattle.jt_op_semantics.specs.Joining.{added, multiplied, joined, joined_escaping}
use Rattle.jt_op_semantics.specs.Membership.{is_in}
use Rattle.jt_op_semantics.specs.Ranges.{ranged}

-- The value of a truth value, or the fault.
abbrev pub as_truth : Result Bool Fault → Result Tree Fault
as_truth (Ok b) = Ok (truth_value b)
as_truth (Err fault) = Err fault

-- The result of an operator on its operands, the left one first. A call always has the number of
-- operands that the operator takes.
abbrev pub operation : OpId → List Tree → Result Tree Fault
operation op.Add (t ∷ u ∷ []) = added t u
operation op.Subtract (t ∷ u ∷ []) = on_numbers difference t u
operation op.Multiply (t ∷ u ∷ []) = multiplied t u
operation op.FloorDivide (t ∷ u ∷ []) = on_numbers quotient t u
operation op.Remainder (t ∷ u ∷ []) = on_numbers remainder t u
operation op.Power (t ∷ u ∷ []) = on_numbers power t u
operation op.Negate (t ∷ []) = on_number negation t
operation op.Plus (t ∷ []) = on_number same_number t
operation op.Not (t ∷ []) = Ok (truth_value (not (truth t)))
operation op.Join (t ∷ u ∷ []) = joined t u
operation op.JoinEscaping (t ∷ u ∷ []) = joined_escaping t u
operation op.Equal (t ∷ u ∷ []) = Ok (truth_value (equal t u))
operation op.NotEqual (t ∷ u ∷ []) = Ok (truth_value (not (equal t u)))
operation op.Less (t ∷ u ∷ []) = as_truth (compared is_less t u)
operation op.LessOrEqual (t ∷ u ∷ []) = as_truth (compared is_less_or_equal t u)
operation op.Greater (t ∷ u ∷ []) = as_truth (compared is_greater t u)
operation op.GreaterOrEqual (t ∷ u ∷ []) = as_truth (compared is_greater_or_equal t u)
operation op.In (t ∷ u ∷ []) = as_truth (is_in t u)
operation op.Item (t ∷ u ∷ []) = item_of t u
operation op.RangeToStop ts = ranged ts
operation op.RangeFromStart ts = ranged ts
operation op.RangeByStep ts = ranged ts
operation o ts = Err BadType
