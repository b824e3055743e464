-- The table of operators: the id of each in an image, and the number of its operands.
use Rattle.std.specs.Prelude.{ℕ, List, [], ◌∷◌}
use Rattle.jt_ids.specs.declared.op_id.OpId.{OpId}
use Rattle.jt_ids.specs.declared.op_id.OpId.TheVariants as op

abbrev pub op_row : OpId → ℕ × ℕ
op_row op.Add = (0, 2)
op_row op.Subtract = (1, 2)
op_row op.Multiply = (2, 2)
op_row op.FloorDivide = (3, 2)
op_row op.Remainder = (4, 2)
op_row op.Power = (5, 2)
op_row op.Negate = (6, 1)
op_row op.Plus = (7, 1)
op_row op.Not = (8, 1)
op_row op.Join = (9, 2)
op_row op.JoinEscaping = (10, 2)
op_row op.Equal = (11, 2)
op_row op.NotEqual = (12, 2)
op_row op.Less = (13, 2)
op_row op.LessOrEqual = (14, 2)
op_row op.Greater = (15, 2)
op_row op.GreaterOrEqual = (16, 2)
op_row op.In = (17, 2)
op_row op.Item = (18, 2)
op_row op.RangeToStop = (19, 1)
op_row op.RangeFromStart = (20, 2)
op_row op.RangeByStep = (21, 3)

abbrev pub op_id : OpId → ℕ
op_id o = (op_row o).0

abbrev pub op_operands : OpId → ℕ
op_operands o = (op_row o).1

-- All operators, in the order of their ids.
abbrev pub operators : List OpId
operators =
    op.Add
    ∷ op.Subtract ∷ op.Multiply ∷ op.FloorDivide ∷ op.Remainder ∷ op.Power ∷ op.Negate ∷ op.Plus
    ∷ op.Not ∷ op.Join ∷ op.JoinEscaping ∷ op.Equal ∷ op.NotEqual ∷ op.Less ∷ op.LessOrEqual
    ∷ op.Greater ∷ op.GreaterOrEqual ∷ op.In ∷ op.Item ∷ op.RangeToStop ∷ op.RangeFromStart
    ∷ op.RangeByStep ∷ []
