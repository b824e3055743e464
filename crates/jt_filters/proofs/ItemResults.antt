-- The gathered results of items: their size, their nesting, and the values.
use Rattle.std.proofs.Common.{◌≡◌, ℕ, ◌+◌, ◌-◌, ◌^◌, ◌≤◌, min, max, List, [], ◌∷◌, ◌++◌, refl, sym, ap, ◌∙◌}
use Rattle.std.proofs.Common.{arith, rules}
use Rattle.std.specs.Prelude.{Result, Ok, Err}
use Rattle.jt_value.specs.declared.fault.Fault.{Fault}
use Rattle.jt_value.specs.declared.value.Value.{Value}
use Rattle.jt_value.specs.Payload.{joined_items}
use Rattle.jt_value.specs.Tree.{Tree, Items, no_items, item}
use Rattle.jt_value.specs.View.{view, items_view}
use Rattle.jt_value.proofs.Lists.{joined_size, joined_nesting, joined_none}
use Rattle.jt_value.specs.Iteration.{items_of_tree}
use Rattle.jt_filter_semantics.specs.Listing.{on_items, given}
use Rattle.jt_filter_semantics.specs.Mapping.{in_front, gathered, gathered_by, as_list, alone}
use Rattle.jt_filters.specs.internal.Operands.{measured}
use Rattle.jt_filters.specs.internal.Rows.{row_measured, measured_behind}
use Rattle.jt_filters.proofs.ListAppend.{pushed, joined_joined}

pair_is : (a b c d : ℕ) → a ≡ b → c ≡ d → ◌≡◌ {A = Result (ℕ × ℕ) Fault} (Ok (a, c)) (Ok (b, d))
pair_is a b c d e f = ap (λ (x : ℕ). Ok (x, c)) e ∙ ap (λ (x : ℕ). Ok (b, x)) f

pub alone_measured : (r : Result Tree Fault) → row_measured (alone r) ≡ measured r
alone_measured (Ok t) = pair_is _ _ _ _ (omega arith) (omega arith)
alone_measured (Err f) = refl

-- The measure after no items is the measure alone.
pub behind_none : (r : Result Items Fault) → measured_behind 0 0 r ≡ row_measured r
behind_none (Ok ts) = pair_is _ _ _ _ (omega arith) (omega arith)
behind_none (Err f) = refl

abbrev size_of : Result (ℕ × ℕ) Fault → ℕ
size_of (Ok m) = m.0
size_of (Err f) = 0

abbrev nesting_of : Result (ℕ × ℕ) Fault → ℕ
nesting_of (Ok m) = m.1
nesting_of (Err f) = 0

size_is : (s n s2 n2 : ℕ) → ◌≡◌ {A = Result (ℕ × ℕ) Fault} (Ok (s, n)) (Ok (s2, n2)) → s ≡ s2
size_is s n s2 n2 e = ap size_of e

nesting_is : (s n s2 n2 : ℕ) → ◌≡◌ {A = Result (ℕ × ℕ) Fault} (Ok (s, n)) (Ok (s2, n2)) → n ≡ n2
nesting_is s n s2 n2 e = ap nesting_of e

-- The measure after one more item.
pub behind_more : (given rest : Result Items Fault) (size nesting more deepest : ℕ)
    → Ok (more, deepest) ≡ row_measured given
    → measured_behind (min (size + more) (2 ^ 64 - 1)) (max nesting deepest) rest
    ≡ measured_behind size nesting (in_front given rest)
behind_more given rest size nesting more deepest e =
    search (arith, rules, size_is, nesting_is, pair_is, joined_size, joined_nesting)

pub behind_fault : (given rest : Result Items Fault) (size nesting : ℕ) (f : Fault) → Err f ≡ row_measured given
    → Err f ≡ measured_behind size nesting (in_front given rest)
behind_fault (Ok ts) rest size nesting f e = absurd (cc)
behind_fault (Err g) rest size nesting f e = e

-- The measure at the end of the items.
pub behind_all : (size nesting : ℕ) → size ≤ 2 ^ 64 - 1 → nesting ≤ 2 ^ 32 - 1
    → Ok (size, nesting) ≡ measured_behind size nesting (Ok no_items)
behind_all size nesting s n = pair_is _ _ _ _ (omega (arith, s)) (omega (arith, n))

pub behind_item : (give : Tree → Result Items Fault) (all ts : Items) (t : Tree) (size nesting more deepest : ℕ)
    → all ≡ item t ts → Ok (more, deepest) ≡ row_measured (give t)
    → measured_behind (min (size + more) (2 ^ 64 - 1)) (max nesting deepest) (gathered give ts)
    ≡ measured_behind size nesting (gathered give all)
behind_item give all ts t size nesting more deepest is e =
    behind_more (give t) (gathered give ts) size nesting more deepest e
    ∙ ap (λ (us : Items). measured_behind size nesting (gathered give us)) (sym is)

pub behind_item_fault : (give : Tree → Result Items Fault) (all ts : Items) (t : Tree) (size nesting : ℕ) (f : Fault)
    (whole : Result (ℕ × ℕ) Fault)
    → all ≡ item t ts → Err f ≡ row_measured (give t)
    → measured_behind size nesting (gathered give all) ≡ whole → Err f ≡ whole
behind_item_fault give all ts t size nesting f whole is e same =
    behind_fault (give t) (gathered give ts) size nesting f e
    ∙ ap (λ (us : Items). measured_behind size nesting (gathered give us)) (sym is) ∙ same

pub behind_end : (give : Tree → Result Items Fault) (all : Items) (size nesting : ℕ) → all ≡ no_items
    → size ≤ 2 ^ 64 - 1 → nesting ≤ 2 ^ 32 - 1
    → Ok (size, nesting) ≡ measured_behind size nesting (gathered give all)
behind_end give all size nesting is s n =
    behind_all size nesting s n ∙ ap (λ (us : Items). measured_behind size nesting (gathered give us)) (sym is)

pub list_measured : (r : Result Items Fault) (size nesting : ℕ) → Ok (size, nesting) ≡ row_measured r
    → Ok (min (size + 1) (2 ^ 64 - 1), min (nesting + 1) (2 ^ 32 - 1)) ≡ measured (as_list r)
list_measured r size nesting a3 = search (arith, rules, size_is, nesting_is, pair_is)

pub list_fault : (r : Result Items Fault) (f : Fault) → Err f ≡ row_measured r → Err f ≡ measured (as_list r)
list_fault (Ok ts) f e = absurd (cc)
list_fault (Err g) f e = e

-- The values and what is still to come, after one more item.
pub front_more : (old new : List Value) (given rest : Result Items Fault)
    → in_front (Ok (items_view old)) given ≡ Ok (items_view new)
    → in_front (Ok (items_view new)) rest ≡ in_front (Ok (items_view old)) (in_front given rest)
front_more old new given rest a4 = search (arith, rules, joined_joined)

pub front_fault : (ts : Items) (given rest : Result Items Fault) (f : Fault) → given ≡ Err f
    → in_front (Ok ts) (in_front given rest) ≡ Err f
front_fault ts given rest f e = ap (λ (r : Result Items Fault). in_front (Ok ts) (in_front r rest)) e

pub front_all : (ts : Items) → in_front (Ok ts) (Ok no_items) ≡ Ok ts
front_all ts = ap (λ (us : Items). Ok us) (joined_none ts)

pub front_item : (give : Tree → Result Items Fault) (all ts : Items) (t : Tree) (old new : List Value) → all ≡ item t ts
    → in_front (Ok (items_view old)) (give t) ≡ Ok (items_view new)
    → in_front (Ok (items_view new)) (gathered give ts) ≡ in_front (Ok (items_view old)) (gathered give all)
front_item give all ts t old new is e =
    front_more old new (give t) (gathered give ts) e
    ∙ ap (λ (us : Items). in_front (Ok (items_view old)) (gathered give us)) (sym is)

pub front_item_fault : (give : Tree → Result Items Fault) (all ts : Items) (t : Tree) (old : Items) (f : Fault)
    → all ≡ item t ts → give t ≡ Err f
    → in_front (Ok old) (gathered give all) ≡ Err f
front_item_fault give all ts t old f is e =
    ap (λ (us : Items). in_front (Ok old) (gathered give us)) is ∙ front_fault old (give t) (gathered give ts) f e

pub front_end : (give : Tree → Result Items Fault) (all old : Items) → all ≡ no_items
    → in_front (Ok old) (gathered give all) ≡ Ok old
front_end give all old is = ap (λ (us : Items). in_front (Ok old) (gathered give us)) is ∙ front_all old

-- A value appended to the values.
pub put_alone : (old new : List Value) (v : Value) (t : Tree) → new ≡ old ++ v ∷ [] → view v ≡ t
    → in_front (Ok (items_view old)) (Ok (item t no_items)) ≡ Ok (items_view new)
put_alone old new v t is same =
    ap (λ (us : Items). Ok us) (sym (pushed old new v t no_items is same) ∙ joined_none (items_view new))

pub put_none : (old : List Value) → in_front (Ok (items_view old)) (Ok no_items) ≡ Ok (items_view old)
put_none old = front_all (items_view old)

-- The faults of the input and of the arguments, and the whole result.
pub no_items_given : (t : Tree) (f : Fault) (find : Items → Result Tree Fault) → items_of_tree t ≡ Err f
    → on_items find t ≡ Err f
no_items_given t f find e = ap (given find) e

pub no_change : (t : Tree) (ts : Items) (f : Fault) (give : Result (Tree → Result Items Fault) Fault)
    → items_of_tree t ≡ Ok ts → Err f ≡ give → on_items (gathered_by give) t ≡ Err f
no_change t ts f give e g =
    ap (given (gathered_by give)) e ∙ ap (λ (h : Result (Tree → Result Items Fault) Fault). gathered_by h ts) (sym g)

pub whole : (t : Tree) (ts : Items) (one : Tree → Result Items Fault) (give : Result (Tree → Result Items Fault) Fault)
    → items_of_tree t ≡ Ok ts → Ok one ≡ give → on_items (gathered_by give) t ≡ as_list (gathered one ts)
whole t ts one give e g =
    ap (given (gathered_by give)) e ∙ ap (λ (h : Result (Tree → Result Items Fault) Fault). gathered_by h ts) (sym g)

pub ruleset action_values = (put_alone, put_none)

pub ruleset action_results = (no_items_given, no_change, whole)

pub ruleset list_measures = (list_measured, list_fault)

pub ruleset rest_measures = (behind_item, behind_item_fault, behind_end, behind_none)

pub ruleset front_values = (front_item, front_item_fault, front_end)
