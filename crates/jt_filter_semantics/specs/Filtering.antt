-- The result of each filter: a value or a fault. Of several faults the result is the first one, in
-- this order:
-- - the faults of the input and of its items;
-- - the faults of the arguments, from the left;
-- - a fault for the kinds of all items;
-- - the faults of the result, from the left.
use Rattle.std.specs.Prelude.{Bool, List, [], ◌∷◌, Result, Err, if◌then◌else◌}
use Rattle.jt_value.specs.declared.fault.Fault.{Fault}
use Rattle.jt_value.specs.declared.fault.Fault.TheVariants.{BadType}
use Rattle.jt_value.specs.Tree.{Tree}
use Rattle.jt_ids.specs.declared.filter_id.FilterId.{FilterId}
use Rattle.jt_ids.specs.FilterTable.{may_be_inner}
use Rattle.jt_filter_semantics.specs.Listing.{on_items}
use Rattle.jt_filter_semantics.specs.Mapping.{gathered_by, giving}
use Rattle.jt_filter_semantics.specs.Single.{single}

-- The result of a filter on its values, the input first. A call always has a number of values that
-- the filter takes. A filter that calls a filter or a test, or looks up an attribute, works on the
-- items of its input.
abbrev pub filtered : FilterId → Bool → List Tree → Result Tree Fault
filtered f autoescape [] = Err BadType
filtered f autoescape (t ∷ arguments) =
    if may_be_inner f
    then single f autoescape (t ∷ arguments)
    else on_items (gathered_by (giving f autoescape arguments)) t
