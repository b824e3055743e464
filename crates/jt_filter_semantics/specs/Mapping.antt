-- The filters that call a filter or a test on each item, or look up its attribute. The name is the
-- first argument, and the arguments of the call follow it.
use Rattle.std.specs.Prelude.{ℕ, ◌+◌, ◌==◌, Bool, true, false, ◌&&◌, nat_le, List, [], ◌∷◌, length, Option, Some, None}
use Rattle.std.specs.Prelude.{Result, Ok, Err, if◌then◌else◌}
use Rattle.jt_value.specs.declared.fault.Fault.{Fault}
use Rattle.jt_value.specs.declared.fault.Fault.TheVariants.{BadType, BadArgument}
use Rattle.jt_value.specs.Payload.{joined_items, text_of}
use Rattle.jt_value.specs.Tree.{Tree, text, list, Items, no_items, item, truth}
use Rattle.jt_ids.specs.declared.test_id.TestId.{TestId}
use Rattle.jt_op_semantics.specs.ItemOf.{item_of}
use Rattle.jt_ids.specs.TestTable.{test_of_name, test_values}
use Rattle.jt_op_semantics.specs.Testing.{tested, turned_round}
use Rattle.jt_ids.specs.declared.filter_id.FilterId.{FilterId}
use Rattle.jt_ids.specs.declared.filter_id.FilterId.TheVariants as filter
use Rattle.jt_ids.specs.FilterTable.{filter_of_name, may_be_inner, least_values, most_values}
use Rattle.jt_filter_semantics.specs.Single.{single}

-- The filter or test that `look` finds for a name. Only a text, plain or markup, is a name.
abbrev pub named_by : {A : Type 0} → (List ℕ → Option A) → Option (List ℕ) → Option A
named_by look (Some name) = look name
named_by look None = None

-- The filter of a name, if `map` may call it. `map` may call no filter of this file.
abbrev pub if_inner : Option FilterId → Option FilterId
if_inner None = None
if_inner (Some f) = if may_be_inner f then Some f else None

abbrev pub filter_named : List ℕ → Option FilterId
filter_named name = if_inner (filter_of_name name)

-- True if the filter takes `values` values, its input included.
abbrev pub takes_values : FilterId → ℕ → Bool
takes_values f values = nat_le (least_values f) values && nat_le values (most_values f)

-- The items of one result followed by the items of another one. If both are faults, the first one
-- is the result.
abbrev pub in_front : Result Items Fault → Result Items Fault → Result Items Fault
in_front (Err fault) rest = Err fault
in_front (Ok ts) (Err fault) = Err fault
in_front (Ok ts) (Ok us) = Ok (joined_items ts us)

-- The results of all items, in order, or the first fault.
abbrev pub gathered : (Tree → Result Items Fault) → Items → Result Items Fault
gathered give no_items = Ok no_items
gathered give (item t ts) = in_front (give t) (gathered give ts)

-- The list of the items, or the fault.
abbrev pub as_list : Result Items Fault → Result Tree Fault
as_list (Ok ts) = Ok (list ts)
as_list (Err fault) = Err fault

-- The list of the results of all items. If the function is a fault, the result is this fault, even
-- if there are no items.
abbrev pub gathered_by : Result (Tree → Result Items Fault) Fault → Items → Result Tree Fault
gathered_by (Ok give) ts = as_list (gathered give ts)
gathered_by (Err fault) ts = Err fault

-- The value of a result as the only item, or the fault.
abbrev pub alone : Result Tree Fault → Result Items Fault
alone (Ok t) = Ok (item t no_items)
alone (Err fault) = Err fault

-- The item if it passed, else no items, or the fault.
abbrev pub if_kept : Tree → Result Bool Fault → Result Items Fault
if_kept t (Ok true) = Ok (item t no_items)
if_kept t (Ok false) = Ok no_items
if_kept t (Err fault) = Err fault

-- A test with its arguments, as a function of the item. Another number of arguments than the test
-- takes is a fault.
abbrev pub judgement_of : Option TestId → List Tree → Result (Tree → Result Bool Fault) Fault
judgement_of None arguments = Err BadArgument
judgement_of (Some test) arguments =
    if length arguments + 1 == test_values test
    then Ok (λ t. tested test (t ∷ arguments))
    else Err BadArgument

-- A named test with its arguments, as a function of the item. If there are no arguments, it is the
-- truth of the item.
abbrev pub judgement : List Tree → Result (Tree → Result Bool Fault) Fault
judgement [] = Ok (λ t. Ok (truth t))
judgement (name ∷ arguments) = judgement_of (named_by test_of_name (text_of name)) arguments

-- The outcome of a test, negated if the filter keeps the items that fail it.
abbrev pub passing : Bool → Result Bool Fault → Result Bool Fault
passing true judged = judged
passing false judged = turned_round judged

-- The value to test: the item itself, or its attribute.
abbrev pub attribute_or_item : Option (List ℕ) → Tree → Result Tree Fault
attribute_or_item None t = Ok t
attribute_or_item (Some key) t = item_of t (text key)

abbrev pub judged : (Tree → Result Bool Fault) → Result Tree Fault → Result Bool Fault
judged predicate (Ok t) = predicate t
judged predicate (Err fault) = Err fault

-- The function that keeps the items that pass the predicate, or the items that fail it.
abbrev pub keeping : Bool → Option (List ℕ) → Result (Tree → Result Bool Fault) Fault
    → Result (Tree → Result Items Fault) Fault
keeping passes key (Ok predicate) = Ok (λ t. if_kept t (passing passes (judged predicate (attribute_or_item key t))))
keeping passes key (Err fault) = Err fault

-- `select` and `reject`, by whether they keep the items that pass.
abbrev pub selecting : Bool → List Tree → Result (Tree → Result Items Fault) Fault
selecting passes arguments = keeping passes None (judgement arguments)

-- `selectattr` and `rejectattr`, by whether they keep the items that pass.
abbrev pub keeping_by : Bool → Option (List ℕ) → Result (Tree → Result Bool Fault) Fault
    → Result (Tree → Result Items Fault) Fault
keeping_by passes (Some key) found = keeping passes (Some key) found
keeping_by passes None found = Err BadArgument

abbrev pub selecting_by : Bool → List Tree → Result (Tree → Result Items Fault) Fault
selecting_by passes (key ∷ arguments) = keeping_by passes (text_of key) (judgement arguments)
selecting_by passes [] = Err BadType

-- `map` by an attribute, as a function of the item.
abbrev pub attribute_at : Option (List ℕ) → Result (Tree → Result Items Fault) Fault
attribute_at (Some key) = Ok (λ t. alone (item_of t (text key)))
attribute_at None = Err BadArgument

abbrev pub attributes : List Tree → Result (Tree → Result Items Fault) Fault
attributes (key ∷ []) = attribute_at (text_of key)
attributes others = Err BadType

-- `map` by a filter with arguments, as a function of the item. Another number of arguments than the
-- filter takes is a fault.
abbrev pub mapping_by : Option FilterId → Bool → List Tree
    → Result (Tree → Result Items Fault) Fault
mapping_by None autoescape arguments = Err BadArgument
mapping_by (Some f) autoescape arguments =
    if takes_values f (length arguments + 1)
    then Ok (λ t. alone (single f autoescape (t ∷ arguments)))
    else Err BadArgument

abbrev pub mapping : Bool → List Tree → Result (Tree → Result Items Fault) Fault
mapping autoescape (name ∷ arguments) =
    mapping_by (named_by filter_named (text_of name)) autoescape arguments
mapping autoescape [] = Err BadType

-- A filter that works on each item, with its arguments, as a function from one item to its results.
abbrev pub giving : FilterId → Bool → List Tree → Result (Tree → Result Items Fault) Fault
giving filter.Map autoescape arguments = mapping autoescape arguments
giving filter.MapAttribute autoescape arguments = attributes arguments
giving filter.Select autoescape arguments = selecting true arguments
giving filter.Reject autoescape arguments = selecting false arguments
giving filter.SelectAttr autoescape arguments = selecting_by true arguments
giving filter.RejectAttr autoescape arguments = selecting_by false arguments
giving f autoescape arguments = Err BadType
