-- The order of values: the relation that `<`, `<=`, `>` and `>=` use.
use Rattle.std.specs.Prelude.{◌≡◌, ℕ, List, Result, Ok, Err}
use Rattle.std.specs.Str.{encode_utf8_all}
use Rattle.std.specs.declared.cmp.Ordering.{Ordering}
use Rattle.std.specs.Ordering.{int_cmp, nat_cmp}
use Rattle.std.specs.Cmp.Lexicographic.{slice_cmp}
use Rattle.jt_value.specs.Tree.{Tree, undefined, number, text, markup}
use Rattle.jt_value.specs.declared.fault.Fault.{Fault}
use Rattle.jt_value.specs.declared.fault.Fault.TheVariants as fault

-- The fault of operands that no case of an operator accepts: Undefined if one of them is undefined,
-- else BadType.
abbrev pub operand_fault : Tree → Tree → Fault
operand_fault undefined u = fault.Undefined
operand_fault t undefined = fault.Undefined
operand_fault t u = fault.BadType

-- The order of two numbers by value, or of two texts by their code points, plain or markup. The
-- order of the UTF-8 bytes is the order of the code points.
abbrev pub order : Tree → Tree → Result Ordering Fault
order (number x) (number y) = Ok (int_cmp x y)
order (text x) (text y) = Ok (slice_cmp nat_cmp x y)
order (text x) (markup y) = Ok (slice_cmp nat_cmp x y)
order (markup x) (text y) = Ok (slice_cmp nat_cmp x y)
order (markup x) (markup y) = Ok (slice_cmp nat_cmp x y)
order t u = Err (operand_fault t u)

-- Holds if the value is a text of these code points, plain or markup.
abbrev pub Spells : List ℕ → Tree → Type 0
Spells cs (text bytes) = bytes ≡ encode_utf8_all cs
Spells cs (markup bytes) = bytes ≡ encode_utf8_all cs
Spells cs t = ⊥
