-- The operators that compare the order of two values.
use Rattle.std.specs.Prelude.{Bool, true, false, Result, Ok, Err}
use Rattle.std.specs.declared.cmp.Ordering.{Ordering}
use Rattle.std.specs.declared.cmp.Ordering.TheVariants.{Less, Equal, Greater}
use Rattle.jt_value.specs.declared.fault.Fault.{Fault}
use Rattle.jt_value.specs.Order.{order}
use Rattle.jt_value.specs.Tree.{Tree}

-- The outcome of a test of an order, or the fault if there is no order.
abbrev pub of_order : (Ordering → Bool) → Result Ordering Fault → Result Bool Fault
of_order test (Ok o) = Ok (test o)
of_order test (Err fault) = Err fault

-- The outcome of a test of the order of two values. Only two numbers or two texts have an order.
abbrev pub compared : (Ordering → Bool) → Tree → Tree → Result Bool Fault
compared test t u = of_order test (order t u)

abbrev pub is_less : Ordering → Bool
is_less Less = true
is_less Equal = false
is_less Greater = false

abbrev pub is_less_or_equal : Ordering → Bool
is_less_or_equal Less = true
is_less_or_equal Equal = true
is_less_or_equal Greater = false

abbrev pub is_greater : Ordering → Bool
is_greater Less = false
is_greater Equal = false
is_greater Greater = true

abbrev pub is_greater_or_equal : Ordering → Bool
is_greater_or_equal Less = false
is_greater_or_equal Equal = true
is_greater_or_equal Greater = true
