-- The values of items and members are converted in order.
use Rattle.std.proofs.Common.{◌≡◌, ◌∙◌, ◌++◌, ℕ, Bool, true, false, List, [], ◌∷◌, Option, Some, None, String}
use Rattle.std.proofs.Common.{Global, Less, ap, ap₂, refl, sym, map, option_map, string_bytes, string_cmp}
use Rattle.std.proofs.Common.{arith, rules}
use Rattle.std.specs.List.{AllByRecursion}
use Rattle.std.specs.List.Sorted.{IsStrictlySortedBy}
use Rattle.std.specs.Map.{keys_of}
use Rattle.std.specs.Str.{bytes_eq}
use Rattle.std.specs.Cmp.Lexicographic.{slice_cmp}
use Rattle.std.specs.Ordering.{is_eq, nat_cmp}
use Rattle.std.proofs.lemmas.Map.Text.{is_eq-slice_cmp}
use Rattle.std.proofs.lemmas.List.{map-append}
use Rattle.std.proofs.lemmas.Bool.{or_right}
use Rattle.serde_json.specs.Data.{Num}
use Rattle.serde_json.specs.View.{view as json_view, items_view as json_items, members_view}
use Rattle.serde_json.specs.declared.value.Value.{Value as Json}
use Rattle.jt_value.specs.Tree.{Tree}
use Rattle.jt_value.specs.Pairs.{Pairs, pairs, put}
use Rattle.jt_value.specs.View.{view, items_view, entries_view}
use Rattle.jt_value.specs.declared.text.Text.{Text}
use Rattle.jt_value.specs.declared.value.Value.{Value}
use Rattle.jt_contexts.specs.Json.{value_of, items_of, entries_of, pairs_in, has_number, items_have, members_have, Flaw}
use Rattle.jt_contexts.specs.Json.{ItemsFlaw, MembersFlaw, is_not_whole, is_out_of_range}
use Rattle.jt_contexts.specs.declared.error.ContextError.{ContextError}
use Rattle.jt_contexts.specs.declared.error.ContextError.TheVariants as error

abbrev pub Entry : Type 0
Entry = Text × Value

abbrev pub Member : Type 0
Member = String Global × Json

-- The name and the value of a member, if it has a value.
abbrev pub shown : Member → Option (List ℕ × Tree)
shown m = option_map (λ t. (string_bytes m.0, t)) (value_of (json_view m.1))

abbrev pub value_in : Json → Option Tree
value_in j = value_of (json_view j)

-- One more element is converted.
pub one_more : {A B : Type 0} (f : A → Option B) (xs : List A) (ys : List B) (x : A) (y : B) → map f xs ≡ map Some ys
    → f x ≡ Some y
    → map f (xs ++ x ∷ []) ≡ map Some (ys ++ y ∷ [])
one_more f xs ys x y e h =
    map-append f xs (x ∷ []) ∙ (ap₂ (λ a b. a ++ b ∷ []) e h ∙ sym (map-append Some ys (y ∷ [])))

-- ---- all items and members

pub items_from : (js : List Json) (vs : List Value) → map value_in js ≡ map Some (map view vs)
    → items_of (json_items js) ≡ Some (items_view vs)
items_from [] [] e = refl
items_from [] (v ∷ vs) e = absurd cc
items_from (j ∷ js) [] e = absurd cc
items_from (j ∷ js) (v ∷ vs) e =
    let head : value_in j ≡ Some (view v) = cc in rw (head, items_from js vs (cc)) refl

named : (k : List ℕ) (o : Option Tree) (p : List ℕ × Tree) → option_map (λ t. (k, t)) o ≡ Some p
    → (o ≡ Some p.1) × (k ≡ p.0)
named k None p e = absurd cc
named k (Some t) p e = let same : (k, t) ≡ p = cc in (ap (λ q. Some q.1) same, ap (λ q. q.0) same)

pub pairs_from : (ms : List Member) (ps : Pairs) → map shown ms ≡ map Some ps → pairs_in (members_view ms) ≡ Some ps
pairs_from [] [] e = refl
pairs_from [] (p ∷ ps) e = absurd cc
pairs_from (m ∷ ms) [] e = absurd cc
pairs_from (m ∷ ms) (p ∷ ps) e =
    let first : shown m ≡ Some p = cc in
    let others : map shown ms ≡ map Some ps = cc in
    let head = named (string_bytes m.0) (value_in m.1) p first in
    rw (head.0, pairs_from ms ps others, head.1) refl

pub entries_from : (ms : List Member) (es : List (Text × Value)) → map shown ms ≡ map Some (pairs es)
    → entries_of (members_view ms) ≡ Some (entries_view es)
entries_from [] [] e = refl
entries_from [] (x ∷ es) e = absurd cc
entries_from (m ∷ ms) [] e = absurd cc
entries_from (m ∷ ms) (x ∷ es) e =
    let first : shown m ≡ Some (x.0, view x.1) = cc in
    let others : map shown ms ≡ map Some (pairs es) = cc in
    let head = named (string_bytes m.0) (value_in m.1) (x.0, view x.1) first in
    rw (head.0, entries_from ms es others, head.1) refl

-- ---- a key above all keys before it is put at the end

apart : (x y : List ℕ) → slice_cmp nat_cmp x y ≡ Less → bytes_eq x y ≡ false
apart x y e = sym (is_eq-slice_cmp x y) ∙ ap is_eq e

below_middle : (d : Member) (ms : List Member) (m : Member) (rest : List Member)
    → AllByRecursion (λ y. string_cmp d.0 y ≡ Less) (keys_of (ms ++ m ∷ rest)) → string_cmp d.0 m.0 ≡ Less
below_middle d [] m rest h = h.0
below_middle d (x ∷ ms) m rest h = below_middle d ms m rest h.1

pub put_last : (done : List Member) (m : Member) (rest : List Member) (ps : Pairs) (t : Tree)
    → IsStrictlySortedBy string_cmp (keys_of (done ++ m ∷ rest))
    → map shown done ≡ map Some ps → put (string_bytes m.0) t ps ≡ ps ++ (string_bytes m.0, t) ∷ []
unfolding IsStrictlySortedBy
put_last [] m rest [] t s e = refl
put_last [] m rest (p ∷ ps) t s e = absurd cc
put_last (d ∷ done) m rest [] t s e = absurd cc
put_last (d ∷ done) m rest (p ∷ ps) t s e =
    let first : shown d ≡ Some p = cc in
    let others : map shown done ≡ map Some ps = cc in
    let head = named (string_bytes d.0) (value_in d.1) p first in
    let last : bytes_eq p.0 (string_bytes m.0) ≡ false = ap (λ k. bytes_eq k (string_bytes m.0)) (sym head.1)
    ∙ apart (string_bytes d.0) (string_bytes m.0) (below_middle d done m rest s.0) in
    rw last (ap (λ qs. p ∷ qs) (put_last done m rest ps t s.1 others))

-- ---- a flaw of a part is a flaw of the whole

items_middle : (p : Num → Bool) (done : List Json) (j : Json) (rest : List Json) → has_number p (json_view j) ≡ true
    → items_have p (json_items (done ++ j ∷ rest)) ≡ true
items_middle p [] j rest e = rw e refl
items_middle p (d ∷ done) j rest e = or_right _ _ (items_middle p done j rest e)

members_middle : (p : Num → Bool) (done : List Member) (m : Member) (rest : List Member)
    → has_number p (json_view m.1) ≡ true → members_have p (members_view (done ++ m ∷ rest)) ≡ true
members_middle p [] m rest e = rw e refl
members_middle p (d ∷ done) m rest e = or_right _ _ (members_middle p done m rest e)

pub item_flaw : (done : List Json) (j : Json) (rest : List Json) (e : ContextError) → Flaw (json_view j) e
    → ItemsFlaw (json_items (done ++ j ∷ rest)) e
item_flaw done j rest e a4 = search (arith, rules, items_middle)

pub member_flaw : (done : List Member) (m : Member) (rest : List Member) (e : ContextError) → Flaw (json_view m.1) e
    → MembersFlaw (members_view (done ++ m ∷ rest)) e
member_flaw done m rest error.NotJson h = h
member_flaw done m rest error.NotObject h = h
member_flaw done m rest error.NotWhole h = members_middle is_not_whole done m rest h
member_flaw done m rest error.OutOfRange h = members_middle is_out_of_range done m rest h
member_flaw done m rest error.NoMemory h = cc
