-- Definitions for the contracts of private functions: the text of a join, piece by piece.
use Rattle.std.specs.Prelude.{◌≡◌, ℕ, Bool, List, ◌++◌, Option, Some, None, option_and_then, Result, Ok, Err}
use Rattle.std.specs.Prelude.{String, string_bytes}
use Rattle.std.specs.declared.alloc.Global.{Global}
use Rattle.jt_value.specs.Tree.{Items, no_items, item}
use Rattle.jt_value.specs.declared.fault.Fault.TheVariants as fault
use Rattle.jt_value.specs.declared.fault.ValueError.{ValueError}
use Rattle.jt_value.specs.declared.fault.ValueError.TheVariants as error
use Rattle.jt_escape.specs.Joining.{piece}

-- The text `into`, followed by the items' pieces with the text `between` before each.
abbrev pub led_text : Bool → List ℕ → List ℕ → Items → Option (List ℕ)
led_text escaping into between no_items = Some into
led_text escaping into between (item t ts) =
    option_and_then (λ p. led_text escaping ((into ++ between) ++ p) between ts) (piece escaping t)

-- Holds if success leaves this text, and a fault is `Unprintable` and means that there is no text.
abbrev pub Leaves : Option (List ℕ) → Result (Unit {0}) ValueError → List ℕ → Type 0
Leaves wanted (Ok u) after = wanted ≡ Some after
Leaves wanted (Err (error.Fault f)) after = (f ≡ fault.Unprintable) × (wanted ≡ None)
Leaves wanted (Err error.NoMemory) after = Unit {0}

-- Holds if success returns the text as a string, and a fault is `Unprintable` and means that there
-- is no text.
abbrev pub MakesText : Option (List ℕ) → Result (String Global) ValueError → Type 0
MakesText wanted (Ok s) = wanted ≡ Some (string_bytes s)
MakesText wanted (Err (error.Fault f)) = (f ≡ fault.Unprintable) × (wanted ≡ None)
MakesText wanted (Err error.NoMemory) = Unit {0}
