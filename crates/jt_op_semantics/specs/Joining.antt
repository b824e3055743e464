-- Sums, products and joins of texts and lists. A text is its UTF-8 bytes.
use Rattle.std.specs.Prelude.{ℕ, ℤ, pos, negsuc, List, ◌++◌, Option, Some, None, Result, Ok, Err}
use Rattle.std.specs.List.{repeat}
use Rattle.jt_value.specs.declared.fault.Fault.{Fault}
use Rattle.jt_value.specs.declared.fault.Fault.TheVariants.{Unprintable}
use Rattle.jt_value.specs.Order.{operand_fault}
use Rattle.jt_value.specs.Tree.{Tree, number, text, markup, list, Items, printed}
use Rattle.jt_value.specs.Payload.{joined_items}
use Rattle.jt_escape.specs.Escaping.{escaped}
use Rattle.jt_op_semantics.specs.Arithmetic.{sum, product, as_number}

-- The list of the items of one list followed by the items of another list.
abbrev pub both : Items → Items → Tree
both ts us = list (joined_items ts us)

-- `+`: the sum of two numbers, the concatenation of two texts or of two lists. If one text is
-- markup, a plain one is escaped and the result is markup.
abbrev pub added : Tree → Tree → Result Tree Fault
added (number x) (number y) = as_number (sum x y)
added (text s) (text t) = Ok (text (s ++ t))
added (text s) (markup t) = Ok (markup (escaped s ++ t))
added (markup s) (text t) = Ok (markup (s ++ escaped t))
added (markup s) (markup t) = Ok (markup (s ++ t))
added (list ts) (list us) = Ok (both ts us)
added t u = Err (operand_fault t u)

-- The number of repetitions of a text: 0 for a negative number.
abbrev pub times : ℤ → ℕ
times (pos n) = n
times (negsuc n) = 0

-- `*`: the product of two numbers, or a text on the left repeated, which keeps its kind.
abbrev pub multiplied : Tree → Tree → Result Tree Fault
multiplied (number x) (number y) = as_number (product x y)
multiplied (text s) (number n) = Ok (text (repeat (times n) s))
multiplied (markup s) (number n) = Ok (markup (repeat (times n) s))
multiplied t u = Err (operand_fault t u)

-- The value that `make` builds from two printed texts. A list or a map has no printed text.
abbrev pub from_printed : (List ℕ → List ℕ → Tree) → Option (List ℕ) → Option (List ℕ)
    → Result Tree Fault
from_printed make (Some s) (Some t) = Ok (make s t)
from_printed make None t = Err Unprintable
from_printed make s None = Err Unprintable

-- `~` without escaping: the plain text of the two printed texts.
abbrev pub joined : Tree → Tree → Result Tree Fault
joined t u = from_printed (λ x y. text (x ++ y)) (printed t) (printed u)

-- `~` with escaping: if an operand is markup, the result is markup, and the printed text of a plain
-- operand is escaped; else as `joined`.
abbrev pub joined_escaping : Tree → Tree → Result Tree Fault
joined_escaping (markup s) (markup t) = Ok (markup (s ++ t))
joined_escaping (markup s) u = from_printed (λ x y. markup (x ++ escaped y)) (Some s) (printed u)
joined_escaping t (markup s) = from_printed (λ x y. markup (escaped x ++ y)) (printed t) (Some s)
joined_escaping t u = joined t u
