-- The map of the codes of earlier items.
use Rattle.std.proofs.Common.{◌≡◌, ℕ, ◌+◌, Bool, true, false, cond, ◌||◌, List, [], ◌∷◌, ◌++◌, Some, None, refl, sym}
use Rattle.std.proofs.Common.{ap, ◌∙◌, subst, true≢false, arith, rules}
use Rattle.std.proofs.lemmas.Cmp.{nat_list_cmp_total}
use Rattle.std.specs.BTreeMap.{BTreeMap, insert_entry, is_at}
use Rattle.std.specs.Cmp.{tied_itself}
use Rattle.std.specs.Map.{lookup}
use Rattle.std.specs.Option.{IfSome, IsSome, is_some}
use Rattle.std.specs.Ordering.{is_eq}
use Rattle.std.specs.Prelude.{Option, Vec}
use Rattle.std.specs.declared.alloc.Global.{Global}
use Rattle.jt_value.specs.Payload.{joined_items}
use Rattle.jt_value.specs.Tree.{Tree, Items, no_items, item}
use Rattle.jt_filters.specs.internal.Codes.{item_code}
use Rattle.jt_filters.specs.internal.Operands.{operand_items, tree_of, front}
use Rattle.jt_filter_semantics.specs.Ordering.{alike, has_alike, unseen}
use Rattle.jt_filters.specs.internal.Seen.{found, number_like, KnowsCodes}
use Rattle.jt_filters.specs.declared.operand.Operand.{Operand}
use Rattle.jt_filters.proofs.DistinctItems.{front_next, unseen_kept, values_left}
use Rattle.jt_filters.proofs.SameCodes.{alike_code}
use Rattle.jt_filters.proofs.SortedInsertion.{cmp, lookup-inserted}
use Rattle.std.proofs.lemmas.Bool.{or_left, or_right}
use Rattle.std.proofs.Math.Bool.{or-false, or_assoc}

abbrev Seen : Type 0
Seen = BTreeMap (Vec ℕ Global) Operand

pub either : (a b : Bool) {P : Type 0} → (a || b) ≡ true → (a ≡ true → P) → (b ≡ true → P) → P
either true b e f g = f refl
either false b e f g = g e

pub alike_more : (u t : Tree) (ts : Items)
    → has_alike u (joined_items ts (item t no_items)) ≡ (has_alike u ts || alike u t)
alike_more u t no_items = or-false (alike u t)
alike_more u t (item x xs) =
    ap (λ (b : Bool). alike u x || b) (alike_more u t xs) ∙ sym (or_assoc (alike u x) (has_alike u xs) (alike u t))

pub still_alike : (u t : Tree) (ts : Items) → has_alike u ts ≡ true
    → has_alike u (joined_items ts (item t no_items)) ≡ true
still_alike u t ts e = alike_more u t ts ∙ or_left (has_alike u ts) (alike u t) e

now_alike : (u t : Tree) (ts : Items) → alike u t ≡ true → has_alike u (joined_items ts (item t no_items)) ≡ true
now_alike u t ts e = alike_more u t ts ∙ or_right (has_alike u ts) (alike u t) e

like_one : (a b : Bool) → (a ≡ true → b ≡ true) → (a || b) ≡ b
like_one true b f = sym (f refl)
like_one false b f = refl

none_there : (o : Option Operand) → o ≡ None → IsSome o → ⊥
none_there o e there = true≢false (sym there ∙ ap is_some e)

pub kept_still : (o : Option Operand) (P Q : Operand → Type 0) → IfSome o P → ((x : Operand) → P x → Q x) → IfSome o Q
kept_still None P Q h f = tt
kept_still (Some x) P Q h f = f x h

-- An item whose code is missing is like no earlier one.
pub new_item : (m : Seen) (ts : Items) (t : Tree) (c : List ℕ) → KnowsCodes m ts → number_like t ≡ None
    → c ≡ item_code t → found m c ≡ None → has_alike t ts ≡ false
new_item m ts t c known plain is none = by (has_alike t ts) refl
  where
    by : (b : Bool) → has_alike t ts ≡ b → has_alike t ts ≡ false
    by true e = absurd (none_there (found m (item_code t)) (ap (found m) (sym is) ∙ none) (known.coded t plain e))
    by false e = e

-- An item whose code is stored is like an earlier one exactly if the comparisons find one.
pub old_item : (m : Seen) (ts : Items) (t : Tree) (c : List ℕ) (o : Operand) → KnowsCodes m ts → found m c ≡ Some o
    → (alike t (tree_of o) || has_alike t ts) ≡ has_alike t ts
old_item m ts t c o known is =
    like_one (alike t (tree_of o)) (has_alike t ts)
    (subst (λ (x : Option Operand). IfSome x (λ y. alike t (tree_of y) ≡ true → has_alike t ts ≡ true)) is
    (known.seen c t))

-- The map knows one more item once its code is inserted.
found_put : (m n : Seen) (k : Vec ℕ Global) (o : Operand) (c : List ℕ)
    → n.entries ≡ insert_entry (λ x y. cmp x.items y.items) m.entries k o
    → found n c ≡ cond (is_eq (cmp c k.items)) (Some o) (found m c)
found_put m n k o c put =
    ap (λ (es : List (Vec ℕ Global × Operand)). lookup (is_at (λ x. cmp c x.items)) es) put
    ∙ lookup-inserted (λ (x : Vec ℕ Global). x.items) k o c m.entries

some_or : (b : Bool) (o : Operand) (x : Option Operand) → IsSome x → IsSome (cond b (Some o) x)
some_or true o x there = refl
some_or false o x there = there

if_some_or : (b : Bool) (o : Operand) (x : Option Operand) (P : Operand → Type 0) → P o → IfSome x P
    → IfSome (cond b (Some o) x) P
if_some_or true o x P here there = here
if_some_or false o x P here there = there

put_there : (c : List ℕ) (k : Vec ℕ Global) (o : Operand) (x : Option Operand) → c ≡ k.items
    → IsSome (cond (is_eq (cmp c k.items)) (Some o) x)
put_there c k o x same =
    ap (λ (b : Bool). is_some (cond b (Some o) x))
    (ap (λ (s : List ℕ). is_eq (cmp s k.items)) same ∙ ap is_eq (tied_itself nat_list_cmp_total k.items))

knows_put : (m n : Seen) (k : Vec ℕ Global) (o : Operand) (ts : Items) → KnowsCodes m ts
    → n.entries ≡ insert_entry (λ x y. cmp x.items y.items) m.entries k o → k.items ≡ item_code (tree_of o)
    → KnowsCodes n (joined_items ts (item (tree_of o) no_items))
knows_put m n k o ts known put is = record {
  coded = λ u plain e. subst (λ (x : Option Operand). IsSome x) (sym (found_put m n k o (item_code u) put))
      (either (has_alike u ts) (alike u (tree_of o)) (sym (alike_more u (tree_of o) ts) ∙ e)
      (λ old. some_or (is_eq (cmp (item_code u) k.items)) o (found m (item_code u)) (known.coded u plain old))
      (λ new. put_there (item_code u) k o (found m (item_code u)) (alike_code u (tree_of o) new ∙ sym is)));
  seen =
      λ c u. subst (λ (x : Option Operand).
      IfSome x (λ y. alike u (tree_of y) ≡ true → has_alike u (joined_items ts (item (tree_of o) no_items)) ≡ true))
      (sym (found_put m n k o c put))
      (if_some_or (is_eq (cmp c k.items)) o (found m c)
      (λ y. alike u (tree_of y) ≡ true → has_alike u (joined_items ts (item (tree_of o) no_items)) ≡ true)
      (λ e. now_alike u (tree_of o) ts e)
      (kept_still (found m c) (λ y. alike u (tree_of y) ≡ true → has_alike u ts ≡ true)
      (λ y. alike u (tree_of y) ≡ true → has_alike u (joined_items ts (item (tree_of o) no_items)) ≡ true)
      (known.seen c u) (λ y h e. still_alike u (tree_of o) ts (h e))));
}

pub knows_new : (m n : Seen) (all : Items) (count : ℕ) (k : Vec ℕ Global) (o : Operand) (rest : Items)
    → KnowsCodes m (front count all) → n.entries ≡ insert_entry (λ x y. cmp x.items y.items) m.entries k o
    → k.items ≡ item_code (tree_of o)
    → joined_items (front count all) (item (tree_of o) rest) ≡ all → KnowsCodes n (front (count + 1) all)
knows_new m n all count k o rest known put is whole =
    subst (λ (ts : Items). KnowsCodes n ts) (sym (front_next all count (tree_of o) rest whole))
    (knows_put m n k o (front count all) known put is)

-- Operands with one more at the end.
operands_pushed : (before : List Operand) (o : Operand) (us : Items)
    → joined_items (operand_items (before ++ o ∷ [])) us ≡ joined_items (operand_items before) (item (tree_of o) us)
operands_pushed [] o us = refl
operands_pushed (x ∷ before) o us = ap (item (tree_of x)) (operands_pushed before o us)

pub firsts_kept : (all : Items) (n : ℕ) (o : Operand) (rest : Items) (before after : List Operand)
    → joined_items (front n all) (item (tree_of o) rest) ≡ all → has_alike (tree_of o) (front n all) ≡ false
    → after ≡ before ++ o ∷ []
    → joined_items (operand_items after) (unseen (front (n + 1) all) rest)
    ≡ joined_items (operand_items before) (unseen (front n all) (item (tree_of o) rest))
firsts_kept all n o rest before after e new is = search (arith, rules, operands_pushed, unseen_kept)

pub ruleset first_items = (values_left, firsts_kept)
