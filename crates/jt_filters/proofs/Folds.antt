-- Comparisons of texts by fold.
use Rattle.std.proofs.Common.{◌≡◌, ℕ, ◌+◌, ◌<◌, ◌≤◌, Bool, true, false, List, [], ◌∷◌, length, get_or, drop, refl, sym}
use Rattle.std.proofs.Common.{◌∙◌, arith}
use Rattle.std.specs.Prelude.{nat_lt}
use Rattle.std.proofs.lemmas.List.{at_drop_more, at_drop_all}
use Rattle.std.proofs.lemmas.Bool.Decides.{nat_tests}
use Rattle.jt_filter_semantics.specs.Ordering.{text_precedes}

-- If the second text ends first, the first text does not precede it.
pub precedes_past : (l r : List ℕ) (i : ℕ) → i < length l → length r ≤ i → text_precedes (drop i l) (drop i r) ≡ false
precedes_past l r i inside past =
    at_drop_more (λ (s : List ℕ). text_precedes s (drop i r)) l i 0 inside
    ∙ at_drop_all (λ (s : List ℕ). text_precedes (get_or l i 0 ∷ drop (i + 1) l) s) r i past

-- If the first text ends, it precedes the second one exactly if that one is longer.
precedes_by : (more : Bool) (l r : List ℕ) (i : ℕ) → nat_lt (length l) (length r) ≡ more → i ≡ length l
    → text_precedes (drop i l) (drop i r) ≡ more
precedes_by true l r i e at =
    let inside : i < length r = grind (arith, nat_tests) in
    at_drop_all (λ (s : List ℕ). text_precedes s (drop i r)) l i (omega arith)
    ∙ at_drop_more (λ (s : List ℕ). text_precedes [] s) r i 0 inside
precedes_by false l r i e at =
    let past : length r ≤ i = grind (arith, nat_tests) in
    at_drop_all (λ (s : List ℕ). text_precedes s (drop i r)) l i (omega arith)
    ∙ at_drop_all (λ (s : List ℕ). text_precedes [] s) r i past

pub precedes_end : (l r : List ℕ) (i : ℕ) → i ≡ length l
    → nat_lt (length l) (length r) ≡ text_precedes (drop i l) (drop i r)
precedes_end l r i at = sym (precedes_by (nat_lt (length l) (length r)) l r i refl at)
