-- Equal constants have one index in the merged table, and it holds the same constant.
use Rattle.std.proofs.Common.{◌≡◌, ℕ, zero, suc, ◌+◌, ◌<◌, ◌≤◌, ◌^◌, Bool, true, false, ◌||◌, List, [], ◌∷◌, ◌++◌}
use Rattle.std.proofs.Common.{length, fold, Option, Some, None, refl, sym, ap, ◌∙◌, subst, arith, length-append, rules}
use Rattle.std.specs.Prelude.{slice_get, nat_lt, unwrap_or, option_map}
use Rattle.std.specs.List.{list_any}
use Rattle.std.proofs.lemmas.Bool.Decides.{nat_tests}
use Rattle.std.proofs.lemmas.List.Folds.{list_any-append}
use Rattle.std.proofs.lemmas.Option.{slice_get-map, slice_get_past, slice_get_within}
use Rattle.std.proofs.lemmas.Slice.Eq.{bytes_eq-Decides}
use Rattle.std.proofs.lemmas.Bool.{or_left, or_right}
use Rattle.jt_image.specs.Code.{Constant}
use Rattle.jt_constants.specs.Merged.{same, with_new, each_once, index_in, new_indices, moved}

pub same_is : (c d : Constant) → same c d ≡ true → c ≡ d
same_is c d e = search (arith, rules, bytes_eq-Decides)

pub same_self : (c : Constant) → same c c ≡ true
same_self c = search (arith, rules, bytes_eq-Decides)

-- ---- constants that occur in a list

abbrev pub Has : List Constant → Constant → Type 0
Has cs c = list_any (same c) cs ≡ true

kept : (cs : List Constant) (c d : Constant) → Has cs c → Has (with_new cs d) c
kept cs c d h = search (arith, rules, list_any-append, or_left)

added : (cs : List Constant) (c : Constant) → Has (with_new cs c) c
added cs c = search (arith, rules, or_left, same_self, list_any-append, or_right)

pub all_kept : (acc cs : List Constant) (c : Constant) → Has acc c → Has (fold with_new acc cs) c
all_kept acc [] c h = h
all_kept acc (d ∷ ds) c h = all_kept (with_new acc d) ds c (kept acc c d h)

has_each : (acc cs : List Constant) (n : ℕ) (c : Constant) → slice_get cs n ≡ Some c → Has (fold with_new acc cs) c
has_each acc [] n c e = absurd cc
has_each acc (d ∷ ds) zero c e =
    let is : d ≡ c = cc in all_kept (with_new acc d) ds c (subst (λ x. Has (with_new acc d) x) is (added acc d))
has_each acc (d ∷ ds) (suc n) c e = has_each (with_new acc d) ds n c e

pub at_index : (cs : List Constant) (c : Constant) → Has cs c → slice_get cs (index_in cs c) ≡ Some c
at_index [] c h = absurd cc
at_index (d ∷ ds) c h = search (arith, rules, at_index ds c, same_is)

-- An index stays if other constants are appended.
pub index_kept : (cs ds : List Constant) (c : Constant) → Has cs c → index_in (cs ++ ds) c ≡ index_in cs c
index_kept [] ds c h = absurd cc
index_kept (d ∷ cs) ds c h = search (arith, rules, index_kept cs ds c)

pub once_len : (acc cs : List Constant) → length (fold with_new acc cs) ≤ length acc + length cs
once_len acc [] = omega arith
once_len acc (c ∷ cs) = search (arith, rules, once_len (with_new acc c) cs, length-append)

-- The table only grows.
pub no_fewer : (acc cs : List Constant) → length acc ≤ length (fold with_new acc cs)
no_fewer acc [] = omega arith
no_fewer acc (c ∷ cs) = search (arith, rules, no_fewer (with_new acc c) cs, length-append)

pub fewer : (cs : List Constant) → length (each_once cs) ≤ length cs
fewer cs = omega (arith, once_len [] cs)

-- ---- the constant at the new index of an index is the constant at that index

past : (cs : List Constant) (n : ℕ) → slice_get cs n ≡ None → length cs ≤ n
past [] n e = omega arith
past (c ∷ cs) zero e = absurd cc
past (c ∷ cs) (suc n) e = omega (arith, past cs n e)

moved_by : (cs : List Constant) (n : ℕ) (o : Option Constant) → slice_get cs n ≡ o
    → moved (new_indices cs) n ≡ unwrap_or (option_map (index_in (each_once cs)) o) n
moved_by cs n o e =
    ap (λ (x : Option ℕ). unwrap_or x n)
    (slice_get-map (index_in (each_once cs)) cs n ∙ ap (option_map (index_in (each_once cs))) e)

pub reads : (cs : List Constant) (n : ℕ) → slice_get (each_once cs) (moved (new_indices cs) n) ≡ slice_get cs n
reads cs n = by (slice_get cs n) refl
  where
    by : (o : Option Constant) → slice_get cs n ≡ o
        → slice_get (each_once cs) (moved (new_indices cs) n) ≡ slice_get cs n
    by None e =
        ap (slice_get (each_once cs)) (moved_by cs n None e)
        ∙ slice_get_past (each_once cs) n (omega (arith, fewer cs, past cs n e)) ∙ sym e
    by (Some c) e =
        ap (slice_get (each_once cs)) (moved_by cs n (Some c) e) ∙ at_index (each_once cs) c (has_each [] cs n c e)
        ∙ sym e

-- A new index is in the merged table if and only if the old index is in the table.
pub inside : (cs : List Constant) (n : ℕ)
    → nat_lt (moved (new_indices cs) n) (length (each_once cs)) ≡ nat_lt n (length cs)
inside cs n = by (slice_get cs n) refl
  where
    by : (o : Option Constant) → slice_get cs n ≡ o
        → nat_lt (moved (new_indices cs) n) (length (each_once cs)) ≡ nat_lt n (length cs)
    by None e =
        let same_index : moved (new_indices cs) n ≡ n = moved_by cs n None e in
        let out = past cs n e in
        let less = fewer cs in
        grind (arith, nat_tests)
    by (Some c) e =
        let old : n < length cs = slice_get_within cs n c e in
        let new : moved (new_indices cs) n < length (each_once cs) =
        slice_get_within (each_once cs) (moved (new_indices cs) n) c (reads cs n ∙ e) in
        grind (arith, nat_tests)

pub has_room : (cs : List Constant) (n : ℕ) → length cs ≤ 2 ^ 32 → n < 2 ^ 32 → moved (new_indices cs) n < 2 ^ 32
has_room cs n le lt = by (slice_get cs n) refl
  where
    by : (o : Option Constant) → slice_get cs n ≡ o → moved (new_indices cs) n < 2 ^ 32
    by None e = omega (arith, moved_by cs n None e, lt)
    by (Some c) e =
        omega (arith, slice_get_within (each_once cs) (moved (new_indices cs) n) c (reads cs n ∙ e), fewer cs, le)
