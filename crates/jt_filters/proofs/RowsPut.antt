-- The rows of a map with one more.
use Rattle.std.proofs.Common.{◌≡◌, ℕ, ◌+◌, ◌<◌, List, ◌∷◌, length, drop, get_or, sym, ap, ◌∙◌}
use Rattle.std.proofs.lemmas.List.{at_drop_more}
use Rattle.std.specs.BTreeMap.{insert_entry}
use Rattle.std.specs.Prelude.{Vec}
use Rattle.std.specs.declared.alloc.Global.{Global}
use denote.Ref.{Bor}
use Rattle.jt_value.proofs.Lists.{Pair}
use Rattle.jt_value.specs.View.{view, entries_view}
use Rattle.jt_filters.specs.internal.Codes.{Rows, code, rows, rows_in}
use Rattle.jt_filters.proofs.SortedInsertion.{cmp}

pub row_put : (xs : List Pair) (n i : ℕ) (e : Pair) (before after : List (Bor (List ℕ) × Vec ℕ Global))
    (k : Bor (List ℕ)) (v : Vec ℕ Global)
    → i + 1 ≡ n → i < length xs → e ≡ get_or xs i e
    → rows_in after ≡ insert_entry cmp (rows_in before) k.now v.items → k.now ≡ e.0
    → v.items ≡ code (view e.1)
    → rows_in before ≡ rows (entries_view (drop n xs)) → rows_in after ≡ rows (entries_view (drop i xs))
row_put xs n i e before after k v next inside at put key value same =
    put
    ∙ ap (λ (rs : Rows). insert_entry cmp rs k.now v.items)
    (same ∙ ap (λ (j : ℕ). rows (entries_view (drop j xs))) (sym next))
    ∙ ap (λ (l : List ℕ). insert_entry cmp (rows (entries_view (drop (i + 1) xs))) l v.items) key
    ∙ ap (λ (c : List ℕ). insert_entry cmp (rows (entries_view (drop (i + 1) xs))) e.0 c) value
    ∙ ap (λ (p : Pair). rows (entries_view (p ∷ drop (i + 1) xs))) at
    ∙ sym (at_drop_more (λ (ys : List Pair). rows (entries_view ys)) xs i e inside)
