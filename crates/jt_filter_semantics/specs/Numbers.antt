-- The filters whose results are numbers.
use Rattle.std.specs.Prelude.{ℕ, suc, ◌&&◌, ◌==◌, ℤ, pos, negsuc, neg_ℤ, List, [], ◌∷◌, Option, Some, None, option_map}
use Rattle.std.specs.Prelude.{Result, Ok, Err, if◌then◌else◌}
use Rattle.std.specs.Char.{is_ascii_digit}
use Rattle.std.specs.List.{list_all}
use Rattle.std.specs.Option.{option_map_or, option_and_then}
use Rattle.std.specs.Str.Parse.{digits_value}
use Rattle.jt_value.specs.declared.fault.Fault.{Fault}
use Rattle.jt_value.specs.declared.fault.Fault.TheVariants.{BadType, Undefined}
use Rattle.jt_value.specs.Equality.{truth_number}
use Rattle.jt_value.specs.Tree.{Tree, undefined, truth_value, number, text, markup, Items, no_items, item, is_nonempty}
use Rattle.jt_op_semantics.specs.Arithmetic.{is_in_range, in_range, as_number, sum}
use Rattle.jt_filter_semantics.specs.Kinds.{all_numbers, operand_fault_of_items}

-- `abs`: the absolute value of a number.
abbrev pub absolute : ℤ → Result ℤ Fault
absolute (pos n) = Ok (pos n)
absolute (negsuc n) = in_range (pos (suc n))

-- The number that one or more decimal digits spell. Any other text spells no number.
abbrev pub number_of_digits : List ℕ → Option ℤ
number_of_digits s =
    if is_nonempty s && list_all is_ascii_digit s then Some (pos (digits_value 10 s)) else None

-- The number that digits spell, with a `+` (43), a `-` (45) or no sign before them.
abbrev pub number_with_sign : List ℕ → Option ℤ
number_with_sign [] = None
number_with_sign (b ∷ s) =
    if b == 43 then number_of_digits s else
    if b == 45 then option_map neg_ℤ (number_of_digits s) else
    number_of_digits (b ∷ s)

-- The number that a text spells, if it fits 64 bits.
abbrev pub number_of_text : List ℕ → Option ℤ
number_of_text s =
    option_and_then (λ z. if is_in_range z then Some z else None) (number_with_sign s)

-- `int`: a number itself, 1 or 0 for a truth value, the number that a text spells, else the
-- default.
abbrev pub as_int : Tree → Tree → Result Tree Fault
as_int undefined default = Err Undefined
as_int (number z) default = Ok (number z)
as_int (truth_value b) default = Ok (number (truth_number b))
as_int (text s) default = Ok (option_map_or number (number_of_text s) default)
as_int (markup s) default = Ok (option_map_or number (number_of_text s) default)
as_int t default = Ok default

-- The sum of a number and the items after it, added from the left. Each partial sum has to fit 64
-- bits.
abbrev pub sum_behind : Result ℤ Fault → Items → Result ℤ Fault
sum_behind (Ok z) no_items = Ok z
sum_behind (Ok z) (item (number y) ts) = sum_behind (sum z y) ts
sum_behind (Ok z) (item t ts) = Err BadType
sum_behind (Err fault) ts = Err fault

-- `sum`: the sum of numbers. Other items are a fault.
abbrev pub total : Items → Result Tree Fault
total ts =
    if all_numbers ts then as_number (sum_behind (Ok (pos 0)) ts) else Err (operand_fault_of_items ts)
