-- The filters by their ids.
use Rattle.std.specs.Prelude.{ℕ, Bool, false, ◌&&◌, List, Option, Some, None, Result, Ok, ◌==◌, nat_le}
use Rattle.std.specs.List.{find}
use Rattle.jt_value.specs.Tree.{Tree, undefined}
use Rattle.jt_value.specs.declared.fault.Fault.{Fault}
use Rattle.jt_ids.specs.declared.filter_id.FilterId.{FilterId}
use Rattle.jt_ids.specs.FilterTable.{filter_id, filters, least_values, most_values}
use Rattle.jt_filter_semantics.specs.Filtering.{filtered}

-- The filter with this id, if it exists.
unfoldable pub filter_of : ℕ → Option FilterId
filter_of id = find (λ f. filter_id f == id) filters

-- True if the filter exists and takes `values` values, its input included.
abbrev pub accepts : Option FilterId → ℕ → Bool
accepts None values = false
accepts (Some f) values = nat_le (least_values f) values && nat_le values (most_values f)

-- The result of the filter on its values. For an unknown id it is undefined, but no accepted image
-- has an unknown id.
abbrev pub filtered_by : Option FilterId → Bool → List Tree → Result Tree Fault
filtered_by None escaping values = Ok undefined
filtered_by (Some f) escaping values = filtered f escaping values
