-- The operator `in`.
use Rattle.std.specs.Prelude.{ℕ, Bool, true, false, ◌||◌, ◌&&◌, ◌==◌, List, [], ◌∷◌, Result, Ok, Err}
use Rattle.jt_value.specs.declared.fault.Fault.{Fault}
use Rattle.jt_value.specs.declared.fault.Fault.TheVariants.{NotIterable}
use Rattle.jt_value.specs.Entries.{has_key}
use Rattle.jt_value.specs.Equality.{equal}
use Rattle.jt_value.specs.Order.{operand_fault}
use Rattle.jt_value.specs.Tree.{Tree, undefined, nothing, truth_value, number, text, markup, list, map, Items, no_items}
use Rattle.jt_value.specs.Tree.{item}

-- True if the first text begins with the second.
abbrev pub begins_with : List ℕ → List ℕ → Bool
begins_with hay [] = true
begins_with [] (n ∷ ns) = false
begins_with (h ∷ hs) (n ∷ ns) = h == n && begins_with hs ns

-- True if the first text occurs in the second. The search over UTF-8 bytes has the result of a
-- search over characters.
abbrev pub occurs_in : List ℕ → List ℕ → Bool
occurs_in needle [] = begins_with [] needle
occurs_in needle (h ∷ hs) = begins_with (h ∷ hs) needle || occurs_in needle hs

-- True if an item of the list equals the value.
abbrev pub has_item : Tree → Items → Bool
has_item t no_items = false
has_item t (item u us) = equal t u || has_item t us

-- True if a text occurs in a text, an item in a list, or a key in a map. Only texts are keys.
-- Undefined contains nothing, and any other container is a fault.
abbrev pub is_in : Tree → Tree → Result Bool Fault
is_in t undefined = Ok false
is_in t nothing = Err NotIterable
is_in t (truth_value b) = Err NotIterable
is_in t (number z) = Err NotIterable
is_in (text s) (text u) = Ok (occurs_in s u)
is_in (text s) (markup u) = Ok (occurs_in s u)
is_in (markup s) (text u) = Ok (occurs_in s u)
is_in (markup s) (markup u) = Ok (occurs_in s u)
is_in t (list us) = Ok (has_item t us)
is_in (text k) (map es) = Ok (has_key k es)
is_in (markup k) (map es) = Ok (has_key k es)
is_in t (map es) = Ok false
is_in t u = Err (operand_fault t u)
