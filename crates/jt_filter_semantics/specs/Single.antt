-- The result of each filter that calls no other filter and no test: a value or a fault.
use Rattle.std.specs.Prelude.{Bool, true, false, ◌&&◌, ◌||◌, not, List, [], ◌∷◌, pos, Result, Ok, Err, if◌then◌else◌}
use Rattle.std.specs.Str.{str_to_ascii_lowercase, str_to_ascii_uppercase}
use Rattle.jt_value.specs.declared.fault.Fault.{Fault}
use Rattle.jt_value.specs.declared.fault.Fault.TheVariants.{BadType, BadArgument, Undefined}
use Rattle.jt_value.specs.Tree.{Tree, undefined, truth_value, number, text, truth}
use Rattle.jt_op_semantics.specs.Arithmetic.{on_number}
use Rattle.jt_op_semantics.specs.ItemOf.{item_of}
use Rattle.jt_op_semantics.specs.Testing.{is_text, is_undefined}
use Rattle.jt_ids.specs.declared.filter_id.FilterId.{FilterId}
use Rattle.jt_ids.specs.declared.filter_id.FilterId.TheVariants as filter
use Rattle.jt_filter_semantics.specs.Listing.{on_items, first_item, last_item, listed, length_of, reversed, pairs_of}
use Rattle.jt_filter_semantics.specs.Listing.{joined_by}
use Rattle.jt_filter_semantics.specs.Numbers.{absolute, as_int, total}
use Rattle.jt_filter_semantics.specs.Ordering.{sorted_list, best_item, sorted_pairs, distinct}
use Rattle.jt_filter_semantics.specs.Texts.{keeping_kind, unchanged, capitalized, trimmed, safe, escaped_once}
use Rattle.jt_filter_semantics.specs.Texts.{escaped_again, replaced}

-- `default`: the default if the input is undefined, or if it counts as false and `boolean` as true.
abbrev pub or_default : Tree → Tree → Tree → Tree
or_default t default boolean =
    if is_undefined t || (truth boolean && not (truth t)) then default else t

-- `attr`: the item at a text key.
abbrev pub attribute : Tree → Tree → Result Tree Fault
attribute undefined key = Err Undefined
attribute t key = if is_text key then item_of t key else Err BadArgument

-- The result of a filter that calls no other filter and no test, on its values, the input first. A
-- call always has a number of values that the filter takes.
abbrev pub single : FilterId → Bool → List Tree → Result Tree Fault
single filter.Abs autoescape (t ∷ []) = on_number absolute t
single filter.Attr autoescape (t ∷ name ∷ []) = attribute t name
single filter.Capitalize autoescape (t ∷ []) = keeping_kind capitalized t
single filter.Default autoescape (t ∷ []) = Ok (or_default t (text []) (truth_value false))
single filter.Default autoescape (t ∷ default ∷ []) = Ok (or_default t default (truth_value false))
single filter.Default autoescape (t ∷ default ∷ boolean ∷ []) = Ok (or_default t default boolean)
single filter.DictSort autoescape (t ∷ []) = sorted_pairs t
single filter.Escape autoescape (t ∷ []) = escaped_once t
single filter.First autoescape (t ∷ []) = on_items first_item t
single filter.ForceEscape autoescape (t ∷ []) = escaped_again t
single filter.Int autoescape (t ∷ []) = as_int t (number (pos 0))
single filter.Int autoescape (t ∷ default ∷ []) = as_int t default
single filter.Items autoescape (t ∷ []) = pairs_of t
single filter.Join autoescape (t ∷ []) = on_items (joined_by autoescape (text [])) t
single filter.Join autoescape (t ∷ d ∷ []) = on_items (joined_by autoescape d) t
single filter.Last autoescape (t ∷ []) = on_items last_item t
single filter.Length autoescape (t ∷ []) = length_of t
single filter.List autoescape (t ∷ []) = on_items listed t
single filter.Lower autoescape (t ∷ []) = keeping_kind str_to_ascii_lowercase t
single filter.Max autoescape (t ∷ []) = on_items (best_item true) t
single filter.Min autoescape (t ∷ []) = on_items (best_item false) t
single filter.Replace autoescape (t ∷ old ∷ new ∷ []) = replaced t old new
single filter.Reverse autoescape (t ∷ []) = reversed t
single filter.Safe autoescape (t ∷ []) = safe t
single filter.Sort autoescape (t ∷ []) = on_items (sorted_list false) t
single filter.Sort autoescape (t ∷ reverse ∷ []) = on_items (sorted_list (truth reverse)) t
single filter.String autoescape (t ∷ []) = keeping_kind unchanged t
single filter.Sum autoescape (t ∷ []) = on_items total t
single filter.Trim autoescape (t ∷ []) = keeping_kind trimmed t
single filter.Unique autoescape (t ∷ []) = on_items distinct t
single filter.Upper autoescape (t ∷ []) = keeping_kind str_to_ascii_uppercase t
single other autoescape ts = Err BadType
