-- The result of each test.
use Rattle.std.specs.Prelude.{ℤ, pos, Bool, true, false, not, List, [], ◌∷◌, Result, Ok, Err}
use Rattle.jt_value.specs.declared.fault.Fault.{Fault}
use Rattle.jt_value.specs.declared.fault.Fault.TheVariants.{BadType}
use Rattle.jt_value.specs.Equality.{equal}
use Rattle.jt_value.specs.Order.{operand_fault}
use Rattle.jt_value.specs.Tree.{Tree, undefined, nothing, truth_value, number, text, markup, map}
use Rattle.jt_ids.specs.declared.test_id.TestId.{TestId}
use Rattle.jt_ids.specs.declared.test_id.TestId.TheVariants as test
use Rattle.jt_op_semantics.specs.Arithmetic.{is_zero, remainder}
use Rattle.jt_op_semantics.specs.Comparing.{compared, is_less, is_less_or_equal, is_greater, is_greater_or_equal}
use Rattle.jt_op_semantics.specs.Membership.{is_in}
use Rattle.jt_op_semantics.specs.Operands.{operand_fault_of_one}

abbrev pub is_undefined : Tree → Bool
is_undefined undefined = true
is_undefined t = false

abbrev pub is_none : Tree → Bool
is_none nothing = true
is_none t = false

abbrev pub is_truth_value : Tree → Bool
is_truth_value (truth_value b) = true
is_truth_value t = false

abbrev pub is_true : Tree → Bool
is_true (truth_value b) = b
is_true t = false

abbrev pub is_false : Tree → Bool
is_false (truth_value b) = not b
is_false t = false

abbrev pub is_number : Tree → Bool
is_number (number z) = true
is_number t = false

abbrev pub is_text : Tree → Bool
is_text (text s) = true
is_text (markup s) = true
is_text t = false

abbrev pub is_markup : Tree → Bool
is_markup (markup s) = true
is_markup t = false

abbrev pub is_map : Tree → Bool
is_map (map es) = true
is_map t = false

-- True if the remainder is 0.
abbrev pub is_none_left : Result ℤ Fault → Result Bool Fault
is_none_left (Ok r) = Ok (is_zero r)
is_none_left (Err fault) = Err fault

-- True if x is a multiple of y, so that the remainder is 0.
abbrev pub is_multiple : ℤ → ℤ → Result Bool Fault
is_multiple x y = is_none_left (remainder x y)

-- True if the first number is a multiple of the second one. Values of other types are a fault.
abbrev pub is_divisible : Tree → Tree → Result Bool Fault
is_divisible (number x) (number y) = is_multiple x y
is_divisible t u = Err (operand_fault t u)

abbrev pub is_even : Tree → Result Bool Fault
is_even (number x) = is_multiple x (pos 2)
is_even t = Err (operand_fault_of_one t)

abbrev pub turned_round : Result Bool Fault → Result Bool Fault
turned_round (Ok b) = Ok (not b)
turned_round (Err fault) = Err fault

abbrev pub is_odd : Tree → Result Bool Fault
is_odd t = turned_round (is_even t)

-- The outcome of a test on its values, the tested one first. A call always has the number of values
-- that the test takes.
abbrev pub tested : TestId → List Tree → Result Bool Fault
tested test.Boolean (t ∷ []) = Ok (is_truth_value t)
tested test.Defined (t ∷ []) = Ok (not (is_undefined t))
tested test.DivisibleBy (t ∷ u ∷ []) = is_divisible t u
tested test.Equal (t ∷ u ∷ []) = Ok (equal t u)
tested test.NotEqual (t ∷ u ∷ []) = Ok (not (equal t u))
tested test.Escaped (t ∷ []) = Ok (is_markup t)
tested test.Even (t ∷ []) = is_even t
tested test.Odd (t ∷ []) = is_odd t
tested test.False (t ∷ []) = Ok (is_false t)
tested test.True (t ∷ []) = Ok (is_true t)
tested test.GreaterOrEqual (t ∷ u ∷ []) = compared is_greater_or_equal t u
tested test.Greater (t ∷ u ∷ []) = compared is_greater t u
tested test.LessOrEqual (t ∷ u ∷ []) = compared is_less_or_equal t u
tested test.Less (t ∷ u ∷ []) = compared is_less t u
tested test.In (t ∷ u ∷ []) = is_in t u
tested test.Integer (t ∷ []) = Ok (is_number t)
tested test.Mapping (t ∷ []) = Ok (is_map t)
tested test.None (t ∷ []) = Ok (is_none t)
tested test.String (t ∷ []) = Ok (is_text t)
tested test.Undefined (t ∷ []) = Ok (is_undefined t)
tested other ts = Err BadType
