-- The table of filters. Each filter has a row:
-- - its id in an image;
-- - the least number of values that it takes, its input included;
-- - the greatest number of values that it takes, its input included;
-- - its names.
-- The values that follow the input are arguments, and the first argument has position 1. `map` by
-- an attribute has no name of its own: it is `map` whose only argument is given by the name
-- `attribute`.
use Rattle.std.specs.Prelude.{ℕ, ◌==◌, ◌+◌, Bool, true, false, List, [], ◌∷◌, Option, Some, None, option_map, position}
use Rattle.std.specs.Prelude.{codes, if◌then◌else◌, find}
use Rattle.std.specs.List.{list_any}
use Rattle.std.specs.Str.{bytes_eq}
use Rattle.jt_ids.specs.declared.filter_id.FilterId.{FilterId}
use Rattle.jt_ids.specs.declared.filter_id.FilterId.TheVariants as filter
use Rattle.jt_ids.specs.declared.filter_id.ArgumentRole.{ArgumentRole}
use Rattle.jt_ids.specs.declared.filter_id.ArgumentRole.TheVariants as naming

abbrev pub filter_row : FilterId → ℕ × ℕ × ℕ × List (List ℕ)
filter_row filter.Abs = (0, 1, 1, codes "abs" ∷ [])
filter_row filter.Attr = (1, 2, 2, codes "attr" ∷ [])
filter_row filter.Capitalize = (2, 1, 1, codes "capitalize" ∷ [])
filter_row filter.Default = (3, 1, 3, codes "default" ∷ codes "d" ∷ [])
filter_row filter.DictSort = (4, 1, 1, codes "dictsort" ∷ [])
filter_row filter.Escape = (5, 1, 1, codes "escape" ∷ codes "e" ∷ [])
filter_row filter.First = (6, 1, 1, codes "first" ∷ [])
filter_row filter.ForceEscape = (7, 1, 1, codes "forceescape" ∷ [])
filter_row filter.Int = (8, 1, 2, codes "int" ∷ [])
filter_row filter.Items = (9, 1, 1, codes "items" ∷ [])
filter_row filter.Join = (10, 1, 2, codes "join" ∷ [])
filter_row filter.Last = (11, 1, 1, codes "last" ∷ [])
filter_row filter.Length = (12, 1, 1, codes "length" ∷ codes "count" ∷ [])
filter_row filter.List = (13, 1, 1, codes "list" ∷ [])
filter_row filter.Lower = (14, 1, 1, codes "lower" ∷ [])
filter_row filter.Map = (15, 2, 255, codes "map" ∷ [])
filter_row filter.Max = (16, 1, 1, codes "max" ∷ [])
filter_row filter.Min = (17, 1, 1, codes "min" ∷ [])
filter_row filter.Reject = (18, 1, 255, codes "reject" ∷ [])
filter_row filter.RejectAttr = (19, 2, 255, codes "rejectattr" ∷ [])
filter_row filter.Replace = (20, 3, 3, codes "replace" ∷ [])
filter_row filter.Reverse = (21, 1, 1, codes "reverse" ∷ [])
filter_row filter.Safe = (22, 1, 1, codes "safe" ∷ [])
filter_row filter.Select = (23, 1, 255, codes "select" ∷ [])
filter_row filter.SelectAttr = (24, 2, 255, codes "selectattr" ∷ [])
filter_row filter.Sort = (25, 1, 2, codes "sort" ∷ [])
filter_row filter.String = (26, 1, 1, codes "string" ∷ [])
filter_row filter.Sum = (27, 1, 1, codes "sum" ∷ [])
filter_row filter.Trim = (28, 1, 1, codes "trim" ∷ [])
filter_row filter.Unique = (29, 1, 1, codes "unique" ∷ [])
filter_row filter.Upper = (30, 1, 1, codes "upper" ∷ [])
filter_row filter.MapAttribute = (31, 2, 2, [])

abbrev pub filter_id : FilterId → ℕ
filter_id f = (filter_row f).0

abbrev pub least_values : FilterId → ℕ
least_values f = (filter_row f).1

abbrev pub most_values : FilterId → ℕ
most_values f = (filter_row f).2

abbrev pub filter_names : FilterId → List (List ℕ)
filter_names f = (filter_row f).3

-- The names of the arguments that may be given by name, in order of position.
abbrev pub argument_names : FilterId → List (List ℕ)
argument_names filter.Attr = codes "name" ∷ []
argument_names filter.Default = codes "default_value" ∷ codes "boolean" ∷ []
argument_names filter.Int = codes "default" ∷ []
argument_names filter.Join = codes "d" ∷ []
argument_names filter.Replace = codes "old" ∷ codes "new" ∷ []
argument_names filter.Sort = codes "reverse" ∷ []
argument_names filter.MapAttribute = codes "attribute" ∷ []
argument_names f = []

-- The position of an argument that is given by name, among the values of the filter.
abbrev pub position_of : FilterId → List ℕ → Option ℕ
position_of f name =
    option_map (λ i. i + 1) (position (λ other. bytes_eq other name) (argument_names f))

-- The role of the value at a position. It names the filter or the test that is called on each item
-- with the values after it, or the key of an attribute. In a template such a value is a text
-- literal.
abbrev pub named_at : FilterId → ℕ → Option ArgumentRole
named_at filter.Map position = if position == 1 then Some naming.Filter else None
named_at filter.Select position = if position == 1 then Some naming.Test else None
named_at filter.Reject position = if position == 1 then Some naming.Test else None
named_at filter.SelectAttr position =
    if position == 1 then Some naming.Key else if position == 2 then Some naming.Test else None
named_at filter.RejectAttr position =
    if position == 1 then Some naming.Key else if position == 2 then Some naming.Test else None
named_at filter.MapAttribute position = if position == 1 then Some naming.Key else None
named_at f position = None

-- True if `map` may call the filter. It may not call one that names a filter, a test or an
-- attribute.
abbrev pub may_be_inner : FilterId → Bool
may_be_inner filter.Map = false
may_be_inner filter.MapAttribute = false
may_be_inner filter.Reject = false
may_be_inner filter.RejectAttr = false
may_be_inner filter.Select = false
may_be_inner filter.SelectAttr = false
may_be_inner f = true

-- All filters, in the order of their ids.
abbrev pub filters : List FilterId
filters =
    filter.Abs
    ∷ filter.Attr ∷ filter.Capitalize ∷ filter.Default ∷ filter.DictSort ∷ filter.Escape
    ∷ filter.First ∷ filter.ForceEscape ∷ filter.Int ∷ filter.Items ∷ filter.Join ∷ filter.Last
    ∷ filter.Length ∷ filter.List ∷ filter.Lower ∷ filter.Map ∷ filter.Max ∷ filter.Min
    ∷ filter.Reject ∷ filter.RejectAttr ∷ filter.Replace ∷ filter.Reverse ∷ filter.Safe
    ∷ filter.Select ∷ filter.SelectAttr ∷ filter.Sort ∷ filter.String ∷ filter.Sum ∷ filter.Trim
    ∷ filter.Unique ∷ filter.Upper ∷ filter.MapAttribute ∷ []

-- The filter with this name, if it exists.
abbrev pub filter_of_name : List ℕ → Option FilterId
filter_of_name name = find (λ f. list_any (bytes_eq name) (filter_names f)) filters

-- The filter that a found one means: `map` is `map` by an attribute if its only argument is given
-- by the name `attribute`.
abbrev pub with_only : Option FilterId → Option (List ℕ) → Option FilterId
with_only (Some filter.Map) (Some argument) =
    if bytes_eq argument (codes "attribute") then Some filter.MapAttribute else Some filter.Map
with_only found only = found

abbrev pub filter_meant : List ℕ → Option (List ℕ) → Option FilterId
filter_meant name only = with_only (filter_of_name name) only
