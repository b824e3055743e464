-- Definitions for the contracts of private functions: actions on items, and their gathered results.
use Rattle.std.specs.Prelude.{◌≡◌, ℕ, ◌+◌, ◌-◌, ◌^◌, min, max, Bool, [], ◌∷◌, map, length, option_map, IfOk, Result, Ok}
use Rattle.std.specs.Prelude.{Err, Some, true}
use Rattle.jt_value.specs.declared.fault.Fault.{Fault}
use Rattle.jt_value.specs.declared.fault.ValueError.{ValueError}
use Rattle.jt_value.specs.declared.fault.ValueError.TheVariants as error
use Rattle.jt_value.specs.Tree.{Tree, text, list, Items, truth, items_size, items_nesting}
use Rattle.jt_value.specs.Payload.{text_of}
use Rattle.jt_value.specs.View.{view, items_view}
use Rattle.jt_op_semantics.specs.ItemOf.{item_of}
use Rattle.jt_ids.specs.TestTable.{test_values}
use Rattle.jt_ids.specs.declared.filter_id.FilterId.TheVariants as filter
use Rattle.jt_ids.specs.declared.test_id.TestId.TheVariants as test
use Rattle.jt_op_semantics.specs.Testing.{tested}
use Rattle.jt_filters.specs.declared.inner.Predicate.{Predicate}
use Rattle.jt_filters.specs.declared.inner.Predicate.TheVariants as predicate
use Rattle.jt_filters.specs.declared.inner.Selection.{Selection}
use Rattle.jt_filters.specs.declared.inner.ItemAction.{ItemAction}
use Rattle.jt_filters.specs.declared.inner.ItemAction.TheVariants as change
use Rattle.jt_filter_semantics.specs.Mapping.{alone, if_kept, passing, judged, attribute_or_item}
use Rattle.jt_filter_semantics.specs.Single.{single}
use Rattle.jt_filters.specs.internal.Operands.{tree_of}

-- The result of a predicate on a value.
abbrev pub judges : Predicate → Tree → Result Bool Fault
judges predicate.Truth = λ t. Ok (truth t)
judges (predicate.Test test arguments) = λ t. tested test (t ∷ map view arguments.now)
judges (predicate.Among members) = λ t. tested test.In (t ∷ list (items_view members.now.items.now) ∷ [])
judges (predicate.Within container index) = λ t. tested test.In (t ∷ view container.now ∷ [])

-- Holds if a test has the number of arguments that it takes, and an index is that of its text.
abbrev pub Judges : Predicate → Type 0
Judges predicate.Truth = Unit {0}
Judges (predicate.Test test arguments) = length arguments.now + 1 ≡ test_values test
Judges (predicate.Among members) = Unit {0}
Judges (predicate.Within container index) = text_of (view container.now) ≡ Some index.now

-- The function of a predicate, or the fault.
abbrev pub judging : Result Predicate Fault → Result (Tree → Result Bool Fault) Fault
judging (Ok j) = Ok (judges j)
judging (Err fault) = Err fault

-- Holds if the call returned the wanted predicate, and its test has the arguments that it takes.
abbrev pub MakesPredicate : Result (Tree → Result Bool Fault) Fault → Result Predicate Fault → Type 0
MakesPredicate wanted made = (judging made ≡ wanted) × IfOk made Judges

-- Whether the selection keeps an item, or its fault.
abbrev pub kept : Selection → Tree → Result Bool Fault
kept s t = passing s.passes (judged (judges s.predicate) (attribute_or_item (option_map (λ k. k.now) s.key) t))

-- The items that an action makes of an item.
abbrev pub gives : ItemAction → Tree → Result Items Fault
gives (change.Keep s) = λ t. if_kept t (kept s t)
gives (change.Attribute key) = λ t. alone (item_of t (text key.now))
gives (change.Filter c) = λ t. alone (single c.filter c.autoescape (t ∷ map view c.arguments.now))
gives (change.Join s) = λ t. alone (single filter.Join true (t ∷ tree_of s.operand ∷ []))

abbrev pub Gives : ItemAction → Type 0
Gives (change.Keep s) = Judges s.predicate
Gives (change.Attribute key) = Unit {0}
Gives (change.Filter c) = Unit {0}
Gives (change.Join s) = Unit {0}

-- Holds if an action keeps items by a predicate with this result on each value.
abbrev pub IsJudged : (Tree → Result Bool Fault) → ItemAction → Type 0
IsJudged judgement (change.Keep s) = judges s.predicate ≡ judgement
IsJudged judgement other = ⊥

-- Holds if an action keeps items by test `in` with this container.
abbrev pub IsSought : Tree → ItemAction → Type 0
IsSought u a = IsJudged (λ t. tested test.In (t ∷ u ∷ [])) a

-- The function of an action, or the fault.
abbrev pub changing : Result ItemAction Fault → Result (Tree → Result Items Fault) Fault
changing (Ok c) = Ok (gives c)
changing (Err fault) = Err fault

-- Holds if the call returned the wanted action, and its test has the arguments that it takes.
abbrev pub Changes : Result (Tree → Result Items Fault) Fault → Result ItemAction Fault → Type 0
Changes wanted made = (changing made ≡ wanted) × IfOk made Gives

-- The size of items, at most 2^64 - 1, and their nesting, at most 2^32 - 1.
abbrev pub row_measured : Result Items Fault → Result (ℕ × ℕ) Fault
row_measured (Ok ts) = Ok (min (items_size ts) (2 ^ 64 - 1), min (items_nesting ts) (2 ^ 32 - 1))
row_measured (Err fault) = Err fault

-- The size and the nesting of items that follow others of this size and nesting, with the limits of
-- `row_measured`.
abbrev pub measured_behind : ℕ → ℕ → Result Items Fault → Result (ℕ × ℕ) Fault
measured_behind size nesting (Ok ts) =
    Ok (min (size + items_size ts) (2 ^ 64 - 1), min (max nesting (items_nesting ts)) (2 ^ 32 - 1))
measured_behind size nesting (Err fault) = Err fault

-- Holds if the error is the fault of the items, or lack of memory.
abbrev pub RowFault : Result Items Fault → ValueError → Type 0
RowFault wanted (error.Fault fault) = wanted ≡ Err fault
RowFault wanted error.NoMemory = Unit {0}
