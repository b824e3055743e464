-- The arithmetic of the operators, computed in ℤ. A result that does not fit 64 signed bits is a
-- fault.
use Rattle.std.specs.Prelude.{◌≡◌, ℕ, zero, suc, ◌^◌, ◌/◌, ℤ, pos, negsuc, ◌+ℤ◌, ◌-ℤ◌, ◌*ℤ◌, neg_ℤ, Bool, true, false}
use Rattle.std.specs.Prelude.{Result, Ok, Err, nat_lt, if◌then◌else◌}
use Rattle.std.specs.Int.{div_ceil, int_pow}
use Rattle.jt_value.specs.declared.fault.Fault.{Fault}
use Rattle.jt_value.specs.declared.fault.Fault.TheVariants.{BadType, Overflow, ZeroDivide}
use Rattle.jt_value.specs.Tree.{Tree, number}
use Rattle.jt_value.specs.Order.{operand_fault}
use Rattle.jt_op_semantics.specs.Operands.{operand_fault_of_one}

-- True if the number fits 64 signed bits: it lies from -2^63 to 2^63 - 1.
abbrev pub is_in_range : ℤ → Bool
is_in_range (pos n) = nat_lt n (2 ^ 63)
is_in_range (negsuc n) = nat_lt n (2 ^ 63)

-- The number, or the fault Overflow if it does not fit 64 signed bits.
abbrev pub in_range : ℤ → Result ℤ Fault
in_range z = if is_in_range z then Ok z else Err Overflow

abbrev pub is_zero : ℤ → Bool
is_zero (pos zero) = true
is_zero _ = false

abbrev pub sum : ℤ → ℤ → Result ℤ Fault
sum x y = in_range (x +ℤ y)

abbrev pub difference : ℤ → ℤ → Result ℤ Fault
difference x y = in_range (x -ℤ y)

abbrev pub product : ℤ → ℤ → Result ℤ Fault
product x y = in_range (x *ℤ y)

-- The quotient x / y rounded down. If the signs agree it is the quotient of the absolute values
-- rounded down, else that quotient rounded up and negated.
abbrev pub floor : ℤ → ℤ → ℤ
floor (pos a) (pos b) = pos (a / b)
floor (pos a) (negsuc b) = neg_ℤ (pos (div_ceil a (suc b)))
floor (negsuc a) (pos b) = neg_ℤ (pos (div_ceil (suc a) b))
floor (negsuc a) (negsuc b) = pos (suc a / suc b)

-- The number of this absolute value with the sign of another number.
abbrev pub with_sign : ℤ → ℕ → ℤ
with_sign (pos y) size = pos size
with_sign (negsuc y) size = neg_ℤ (pos size)

-- `//`: the quotient rounded down.
abbrev pub quotient : ℤ → ℤ → Result ℤ Fault
quotient x y = if is_zero y then Err ZeroDivide else in_range (floor x y)

-- `%`: the remainder of `//`, which is 0 or has the divisor's sign.
abbrev pub remainder : ℤ → ℤ → Result ℤ Fault
remainder x y = if is_zero y then Err ZeroDivide else in_range (x -ℤ (floor x y *ℤ y))

-- `**`: x to the power n, which is 1 if n is 0. A negative exponent is a fault.
abbrev pub power : ℤ → ℤ → Result ℤ Fault
power x (pos n) = in_range (int_pow x n)
power x (negsuc n) = Err BadType

abbrev pub negation : ℤ → Result ℤ Fault
negation x = in_range (neg_ℤ x)

abbrev pub same_number : ℤ → Result ℤ Fault
same_number x = Ok x

-- The value of a number, or the fault.
abbrev pub as_number : Result ℤ Fault → Result Tree Fault
as_number (Ok z) = Ok (number z)
as_number (Err fault) = Err fault

-- The result of an operation on two numbers. Values of other types are a fault.
abbrev pub on_numbers : (ℤ → ℤ → Result ℤ Fault) → Tree → Tree → Result Tree Fault
on_numbers compute (number x) (number y) = as_number (compute x y)
on_numbers compute x y = Err (operand_fault x y)

-- Holds if every operation on two numbers has this fault on the two values.
abbrev pub NoNumbers : Tree → Tree → Fault → Type 0
NoNumbers t u fault = (compute : ℤ → ℤ → Result ℤ Fault) → on_numbers compute t u ≡ Err fault

-- The result of an operation on one number. A value of another type is a fault.
abbrev pub on_number : (ℤ → Result ℤ Fault) → Tree → Result Tree Fault
on_number compute (number x) = as_number (compute x)
on_number compute x = Err (operand_fault_of_one x)

-- Holds if every operation on one number has this fault on the value.
abbrev pub NoNumber : Tree → Fault → Type 0
NoNumber t fault = (compute : ℤ → Result ℤ Fault) → on_number compute t ≡ Err fault
