-- Ranges of numbers, number by number, and the items of lists that are stored.
use Rattle.std.proofs.Common.{◌≡◌, ℕ, zero, suc, ◌-◌, ◌<◌, ℤ, pos, negsuc, ◌+ℤ◌, ◌*ℤ◌, List, [], ◌∷◌, ◌++◌}
use Rattle.std.proofs.Common.{refl, sym, ap, ◌∙◌, subst, arith, to_z, of_z, Bool, true, false, eqb, true≢false}
use Rattle.std.specs.Prelude.{FitsSigned}
use Rattle.std.specs.Int.{w64}
use Rattle.std.proofs.lemmas.Bool.Decides.{nat_tests}
use Rattle.std.proofs.lemmas.Int.{ints, to_z-of_z}
use Rattle.jt_value.specs.ListItems.{items_count}
use Rattle.jt_value.specs.Numbers.{stepped, HaveRoom}
use Rattle.jt_value.specs.Payload.{more_items, joined_items}
use Rattle.jt_value.specs.Tree.{Tree, number, Items, no_items, item, items_size, items_nesting}
use Rattle.jt_value.specs.View.{view, items_view}
use Rattle.jt_value.specs.declared.value.Value.{Value}
use Rattle.jt_value.proofs.Lists.{items_view-push}

pub stepped_count : (n : ℕ) (s d : ℤ) → items_count (stepped n s d) ≡ n
stepped_count zero s d = refl
stepped_count (suc n) s d = omega (arith, stepped_count n (s +ℤ d) d)

pub stepped_size : (n : ℕ) (s d : ℤ) → items_size (stepped n s d) ≡ n
stepped_size zero s d = refl
stepped_size (suc n) s d = omega (arith, stepped_size n (s +ℤ d) d)

pub stepped_nesting : (n : ℕ) (s d : ℤ) → items_nesting (stepped n s d) ≡ 0
stepped_nesting zero s d = refl
stepped_nesting (suc n) s d = omega (arith, stepped_nesting n (s +ℤ d) d)

one_further : (s d : ℤ) (n : ℕ) → s +ℤ pos (suc n) *ℤ d ≡ (s +ℤ d) +ℤ pos n *ℤ d
one_further s (pos d) n = omega (arith, ints)
one_further s (negsuc d) n = omega (arith, ints)

one_step : (s d : ℤ) → s +ℤ pos 1 *ℤ d ≡ s +ℤ d
one_step s (pos d) = omega (arith, ints)
one_step s (negsuc d) = omega (arith, ints)

-- The sum of a number and the step, for arguments that a call reads by their bits.
abbrev pub IsNext : ℤ → ℤ → ℤ → Type 0
IsNext s d r =
    FitsSigned w64 (to_z w64 (of_z w64 s) +ℤ to_z w64 (of_z w64 d))
    → r ≡ to_z w64 (of_z w64 s) +ℤ to_z w64 (of_z w64 d)

next_is : (n : ℕ) (s d r : ℤ) → FitsSigned w64 s → FitsSigned w64 d → HaveRoom n s d → 1 < n → IsNext s d r
    → r ≡ s +ℤ d
next_is n s d r f g room lt add =
    let e : to_z w64 (of_z w64 s) +ℤ to_z w64 (of_z w64 d) ≡ s +ℤ d =
    ap (λ x. x +ℤ to_z w64 (of_z w64 d)) (to_z-of_z w64 s f) ∙ ap (λ x. s +ℤ x) (to_z-of_z w64 d g) in
    add (subst (FitsSigned w64) (one_step s d ∙ sym e) (room 1 lt)) ∙ e

-- The numbers after the first one have 64 bits.
pub room_behind : (n : ℕ) (s d r : ℤ) → FitsSigned w64 s → FitsSigned w64 d → FitsSigned w64 r → HaveRoom n s d
    → IsNext s d r → HaveRoom (n - 1) (to_z w64 (of_z w64 r)) (to_z w64 (of_z w64 d))
room_behind n s d r f g h room add k lt =
    rw (to_z-of_z w64 r h, to_z-of_z w64 d g, next_is n s d r f g room (omega (arith, lt)) add)
    (subst (FitsSigned w64) (one_further s d k) (room (suc k) (omega (arith, lt))))

-- The first number, and the range of the numbers after it.
pub first_stepped : (n : ℕ) (s d r : ℤ) → ¬ (n ≡ 0) → FitsSigned w64 s → FitsSigned w64 d → FitsSigned w64 r
    → HaveRoom n s d → IsNext s d r
    → stepped n s d
    ≡ item (number (to_z w64 (of_z w64 s))) (stepped (n - 1) (to_z w64 (of_z w64 r)) (to_z w64 (of_z w64 d)))
first_stepped zero s d r some f g h room add = absurd (some refl)
first_stepped (suc zero) s d r some f g h room add = ap (λ x. item (number x) no_items) (sym (to_z-of_z w64 s f))
first_stepped (suc (suc n)) s d r some f g h room add =
    let first : to_z w64 (of_z w64 s) ≡ s = to_z-of_z w64 s f in
    let rest : to_z w64 (of_z w64 r) ≡ s +ℤ d =
    to_z-of_z w64 r h ∙ next_is (suc (suc n)) s d r f g room (omega arith) add in
    let fewer : suc n ≡ suc (suc n) - 1 = omega arith in
    rw (first, rest, to_z-of_z w64 d g)
    (ap (λ (m : ℕ). item (number s) (stepped m (s +ℤ d) d)) fewer)

-- The list with one more item, before what is left.
pub moved_before : (ws : Items) (t : Tree) (us : Items)
    → joined_items (more_items ws t) us ≡ joined_items ws (item t us)
moved_before no_items t us = refl
moved_before (item w ws) t us = ap (item w) (moved_before ws t us)

-- A value that is pushed stands before what is left.
pub pushed_before : (ts us : Items) (t : Tree) (before after : List Value) (v : Value) → after ≡ before ++ v ∷ []
    → view v ≡ t → ts ≡ item t us → joined_items (items_view after) us ≡ joined_items (items_view before) ts
pushed_before ts us t before after v push shown is =
    ap (λ (vs : List Value). joined_items (items_view vs) us) push
    ∙ ap (λ (ws : Items). joined_items ws us) (items_view-push before v)
    ∙ moved_before (items_view before) (view v) us
    ∙ ap (λ (u : Tree). joined_items (items_view before) (item u us)) shown
    ∙ ap (joined_items (items_view before)) (sym is)

-- A range that is empty has no items.
pub none_stepped : (n : ℕ) (s d : ℤ) (b : Bool) → b ≡ eqb (items_count (stepped n s d)) 0 → b ≡ true
    → stepped n s d ≡ no_items
none_stepped zero s d b is some = refl
none_stepped (suc n) s d b is some =
    let many : eqb (items_count (stepped (suc n) s d)) 0 ≡ false = grind (arith, nat_tests) in
    absurd (true≢false (sym some ∙ is ∙ many))
