-- The pieces that a join has still to append, and the joins that are values.
use Rattle.std.proofs.Common.{◌≡◌, ℕ, ◌≤◌, Bool, true, false, List, [], ◌∷◌, ◌++◌, length, Option, Some, None, refl}
use Rattle.std.proofs.Common.{sym, ap, ◌∙◌, true≢false, arith}
use Rattle.std.specs.Prelude.{◌&&◌, option_map, option_and_then}
use Rattle.std.specs.List.{join_by}
use Rattle.std.specs.Option.{is_some}
use Rattle.jt_value.specs.Tree as tree
use Rattle.jt_value.specs.Tree.{Tree, Items, no_items, item, printed}
use Rattle.jt_value.specs.View.{view, items_view}
use Rattle.jt_value.specs.declared.value.Value.{Value}
use Rattle.jt_escape.specs.Joining.{piece, pieces, joined_text}
use Rattle.jt_escape.specs.internal.Appending.{are_printable, led_pieces}

-- The text that is appended so far, followed by the remaining pieces.
abbrev pub with_led : Bool → List ℕ → List ℕ → Items → Option (List ℕ)
with_led escaping between into items = option_map (λ text. into ++ text) (led_pieces escaping between items)

piece_some : (b : Bool) (t : Tree) → is_some (piece b t) ≡ is_some (printed t)
piece_some false t = refl
piece_some true tree.undefined = refl
piece_some true tree.nothing = refl
piece_some true (tree.truth_value true) = refl
piece_some true (tree.truth_value false) = refl
piece_some true (tree.number z) = refl
piece_some true (tree.text bytes) = refl
piece_some true (tree.markup bytes) = refl
piece_some true (tree.list ts) = refl
piece_some true (tree.map es) = refl

both_some : {A B C : Type 0} (f : A → B → C) (o : Option A) (p : Option B)
    → is_some (option_and_then (λ a. option_map (f a) p) o) ≡ (is_some o && is_some p)
both_some f None p = refl
both_some f (Some a) None = refl
both_some f (Some a) (Some b) = refl

pieces_some : (b : Bool) (ts : Items) → is_some (pieces b ts) ≡ are_printable ts
pieces_some b no_items = refl
pieces_some b (item t ts) =
    both_some (λ (x : List ℕ) (xs : List (List ℕ)). x ∷ xs) (piece b t) (pieces b ts)
    ∙ rw (piece_some b t, pieces_some b ts) refl

-- A join has a text exactly if the separator and each item have one.
pub joined_some : (b : Bool) (ts : Items) (separator : Tree)
    → is_some (joined_text b ts separator) ≡ (is_some (printed separator) && are_printable ts)
joined_some b ts separator =
    both_some (λ (between : List ℕ). join_by (λ (text : List ℕ). text) between) (piece b separator) (pieces b ts)
    ∙ rw (piece_some b separator, pieces_some b ts) refl

-- The pieces joined by a separator's piece, if it exists.
abbrev joined : List ℕ → Option (List (List ℕ)) → Option (List ℕ)
joined between ps = option_map (join_by (λ (text : List ℕ). text) between) ps

abbrev joined_by : Option (List (List ℕ)) → Option (List ℕ) → Option (List ℕ)
joined_by ps o = option_and_then (λ (between : List ℕ). joined between ps) o

-- The piece of the only item.
abbrev only : Option (List ℕ) → Option (List (List ℕ))
only o = option_and_then (λ (x : List ℕ). option_map (λ (rest : List (List ℕ)). x ∷ rest) (Some [])) o

only_joined : (d : List ℕ) (o : Option (List ℕ)) → joined [] (only o) ≡ joined d (only o)
only_joined d None = refl
only_joined d (Some x) = refl

few_by : (b : Bool) (vs : List Value) (o : Option (List ℕ)) → length vs ≤ 1
    → is_some (joined_by (pieces b (items_view vs)) o) ≡ true
    → joined [] (pieces b (items_view vs)) ≡ joined_by (pieces b (items_view vs)) o
few_by b vs None few there = absurd (true≢false (sym there))
few_by b [] (Some d) few there = refl
few_by b (v ∷ []) (Some d) few there = only_joined d (piece b (view v))
few_by b (v ∷ w ∷ vs) (Some d) few there = absurd (omega (arith, few))

-- At most one item is joined without the separator.
pub few_joined : (b : Bool) (vs : List Value) (separator : Tree) → length vs ≤ 1
    → is_some (joined_text b (items_view vs) separator) ≡ true
    → option_map (join_by (λ (text : List ℕ). text) []) (pieces b (items_view vs))
    ≡ joined_text b (items_view vs) separator
few_joined b vs separator few there = few_by b vs (piece b separator) few there

with_piece : (ps : Option (List (List ℕ))) (o : Option (List ℕ)) (d : List ℕ)
    → option_map (λ (text : List ℕ). [] ++ text) o ≡ Some d → joined d ps ≡ joined_by ps o
with_piece ps None d e = cc
with_piece ps (Some x) d e = ap (joined_by ps) (sym e)

-- Items are joined by the separator's piece.
pub joined_with : (b : Bool) (ts : Items) (separator : Tree) (d : List ℕ)
    → option_map (λ (text : List ℕ). [] ++ text) (piece b separator) ≡ Some d
    → option_map (join_by (λ (text : List ℕ). text) d) (pieces b ts) ≡ joined_text b ts separator
joined_with b ts separator d e = with_piece (pieces b ts) (piece b separator) d e

-- A join that has a text has a separator.
pub has_separator : (b : Bool) (ts : Items) (separator : Tree) → is_some (joined_text b ts separator) ≡ true
    → piece b separator ≡ None → ⊥
has_separator b ts separator there e =
    true≢false (sym there ∙ ap (λ (o : Option (List ℕ)). is_some (joined_by (pieces b ts) o)) e)

pub ruleset separations = (few_joined, joined_with, has_separator)
