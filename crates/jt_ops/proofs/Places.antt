-- Items and entries of values, by index and by key.
use Rattle.std.proofs.Common.{◌≡◌, ℕ, zero, suc, ◌<◌, ◌≤◌, List, [], ◌∷◌, length, get_or, map, Option, Some, None, Bor}
use Rattle.std.proofs.Common.{refl, sym, ap, ◌∙◌, arith}
use Rattle.std.specs.Prelude.{option_map, option_copied}
use Rattle.std.specs.Slice.{IsItemAt}
use Rattle.jt_value.specs.View.{view, items_view}
use Rattle.jt_value.specs.declared.value.Value.{Value}
use Rattle.jt_op_semantics.specs.ItemOf.{item_at, items_count}

pub items_count_view : (vs : List Value) → items_count (items_view vs) ≡ length vs
items_count_view [] = refl
items_count_view (v ∷ vs) = omega (arith, items_count_view vs)

past : (vs : List Value) (i : ℕ) → length vs ≤ i → None ≡ item_at (items_view vs) i
past [] i h = refl
past (v ∷ vs) zero h = absurd (omega arith)
past (v ∷ vs) (suc i) h = past vs i (omega arith)

there : (vs : List Value) (i : ℕ) (v : Value) → i < length vs → v ≡ get_or vs i v
    → Some (view v) ≡ item_at (items_view vs) i
there [] i v h e = absurd (omega arith)
there (w ∷ vs) zero v h e = ap (λ (x : Value). Some (view x)) e
there (w ∷ vs) (suc i) v h e = there vs i v (omega arith) e

pub item_at_view : (vs : List Value) (i : ℕ) (r : Option (Bor Value)) → IsItemAt vs i r
    → option_map view (option_copied r) ≡ item_at (items_view vs) i
item_at_view vs i None h = past vs i h.3
item_at_view vs i (Some x) h = there vs i x.now h.3.0 (h.3.1 x.now)

pub same_option : (r : Option ℕ) → r ≡ option_map (λ c. c) r
same_option None = refl
same_option (Some c) = refl

-- The values of a slice of one, two or three values.
pub one_value : (vs : List Value) (u : Value) → 1 ≤ length vs → length vs < 2 → u ≡ get_or vs 0 u
    → map view vs ≡ view u ∷ []
one_value [] u least most e = absurd (omega arith)
one_value (v ∷ []) u least most e = ap (λ x. view x ∷ []) (sym e)
one_value (v ∷ w ∷ vs) u least most e = absurd (omega arith)

pub two_values : (vs : List Value) (t u : Value) → 2 ≤ length vs → length vs < 3 → t ≡ get_or vs 0 t → u ≡ get_or vs 1 u
    → map view vs ≡ view t ∷ view u ∷ []
two_values [] t u least most d e = absurd (omega arith)
two_values (v ∷ []) t u least most d e = absurd (omega arith)
two_values (v ∷ w ∷ []) t u least most d e =
    ap (λ x. view x ∷ view w ∷ []) (sym d) ∙ ap (λ x. view t ∷ view x ∷ []) (sym e)
two_values (v ∷ w ∷ x ∷ vs) t u least most d e = absurd (omega arith)

pub three_values : (vs : List Value) (s t u : Value) → 3 ≤ length vs → length vs < 4 → s ≡ get_or vs 0 s
    → t ≡ get_or vs 1 t → u ≡ get_or vs 2 u
    → map view vs ≡ view s ∷ view t ∷ view u ∷ []
three_values [] s t u least most c d e = absurd (omega arith)
three_values (v ∷ []) s t u least most c d e = absurd (omega arith)
three_values (v ∷ w ∷ []) s t u least most c d e = absurd (omega arith)
three_values (v ∷ w ∷ x ∷ []) s t u least most c d e =
    ap (λ y. view y ∷ view w ∷ view x ∷ []) (sym c) ∙ ap (λ y. view s ∷ view y ∷ view x ∷ []) (sym d)
    ∙ ap (λ y. view s ∷ view t ∷ view y ∷ []) (sym e)
three_values (v ∷ w ∷ x ∷ y ∷ vs) s t u least most c d e = absurd (omega arith)
