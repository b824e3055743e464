-- The effect of private functions on the string to which they append a text.
use Rattle.std.specs.Prelude.{◌≡◌, ℕ, Bool, true, ◌&&◌, List, ◌++◌, flat_map, Option, Some, None, option_map, Result}
use Rattle.std.specs.Prelude.{Ok, Err, String, string_bytes}
use Rattle.std.specs.declared.alloc.Global.{Global}
use Rattle.std.specs.Option.{is_some}
use Rattle.jt_value.specs.Tree.{Items, no_items, item, printed}
use Rattle.jt_value.specs.declared.fault.Fault.TheVariants as fault
use Rattle.jt_value.specs.declared.fault.ValueError.{ValueError}
use Rattle.jt_value.specs.declared.fault.ValueError.TheVariants as error
use Rattle.jt_escape.specs.Joining.{pieces}

-- True if each item has a printed text.
abbrev pub are_printable : Items → Bool
are_printable no_items = true
are_printable (item t ts) = is_some (printed t) && are_printable ts

-- The pieces of the items, each with the text `between` before it.
abbrev pub led_pieces : Bool → List ℕ → Items → Option (List ℕ)
led_pieces escaping between items =
    option_map (flat_map (λ text. between ++ text)) (pieces escaping items)

-- Holds if success appends the text, and a fault is `Unprintable` and means that there is no text.
abbrev pub Appends : Option (List ℕ) → List ℕ → Result (Unit {0}) ValueError → List ℕ → Type 0
Appends more before (Ok u) after = option_map (λ text. before ++ text) more ≡ Some after
Appends more before (Err (error.Fault f)) after = (f ≡ fault.Unprintable) × (more ≡ None)
Appends more before (Err error.NoMemory) after = Unit {0}

-- Holds if success returns the text as a string, and a fault is `Unprintable` and means that there
-- is no text.
abbrev pub Makes : Option (List ℕ) → Result (String Global) ValueError → Type 0
Makes text (Ok s) = text ≡ Some (string_bytes s)
Makes text (Err (error.Fault f)) = (f ≡ fault.Unprintable) × (text ≡ None)
Makes text (Err error.NoMemory) = Unit {0}

-- Holds if the second text is the first one followed by some text.
abbrev pub Extends : List ℕ → List ℕ → Type 0
Extends before after = (more : List ℕ) × (after ≡ before ++ more)
