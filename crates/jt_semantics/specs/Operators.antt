-- The operators of the language, and the operations that they denote.
use Rattle.std.specs.Prelude.{ℕ, zero, suc, Bool, true, false}
use Rattle.jt_ids.specs.declared.op_id.OpId.{OpId}
use Rattle.jt_ids.specs.declared.op_id.OpId.TheVariants as op
use Rattle.jt_ast.specs.declared.expression.UnaryOperator.{UnaryOperator}
use Rattle.jt_ast.specs.declared.expression.UnaryOperator.TheVariants as u
use Rattle.jt_ast.specs.declared.expression.BinaryOperator.{BinaryOperator}
use Rattle.jt_ast.specs.declared.expression.BinaryOperator.TheVariants as o

abbrev pub unary_operation : UnaryOperator → OpId
unary_operation u.Negate = op.Negate
unary_operation u.Plus = op.Plus
unary_operation u.Not = op.Not

-- The form of an operator between two operands.
pub data OperatorForm : Type 0 where
  -- The operation on both operands.
  operation : OpId → OperatorForm
  -- The operation on both operands, with its truth negated.
  negation : OpId → OperatorForm
  -- The left operand if it is false, else the right one.
  conjunction : OperatorForm
  -- The left operand if it is true, else the right one.
  disjunction : OperatorForm

-- The operation that joins texts. If escaping is on, markup keeps its kind.
abbrev pub join : Bool → OpId
join true = op.JoinEscaping
join false = op.Join

-- True for `~`, the operator that joins the texts of its operands.
abbrev pub joins : BinaryOperator → Bool
joins o.Concatenate = true
joins operator = false

abbrev pub form : Bool → BinaryOperator → OperatorForm
form escaping o.Or = disjunction
form escaping o.And = conjunction
form escaping o.Equal = operation op.Equal
form escaping o.NotEqual = operation op.NotEqual
form escaping o.Less = operation op.Less
form escaping o.LessOrEqual = operation op.LessOrEqual
form escaping o.Greater = operation op.Greater
form escaping o.GreaterOrEqual = operation op.GreaterOrEqual
form escaping o.In = operation op.In
form escaping o.NotIn = negation op.In
form escaping o.Add = operation op.Add
form escaping o.Subtract = operation op.Subtract
form escaping o.Concatenate = operation (join escaping)
form escaping o.Multiply = operation op.Multiply
form escaping o.FloorDivide = operation op.FloorDivide
form escaping o.Remainder = operation op.Remainder
form escaping o.Power = operation op.Power

-- The operation of `range` with n arguments.
abbrev pub range_of : ℕ → OpId
range_of zero = op.RangeToStop
range_of (suc zero) = op.RangeToStop
range_of (suc (suc zero)) = op.RangeFromStart
range_of (suc (suc (suc n))) = op.RangeByStep
