-- Lists and texts with one more at the end.
use Rattle.std.proofs.Common.{◌≡◌, ℕ, zero, suc, ◌+◌, ◌*◌, ◌/◌, ◌%◌, ◌<◌, List, [], ◌∷◌, ◌++◌, length}
use Rattle.std.proofs.Common.{take, get_or, ℤ, pos, negsuc, refl, sym, ap, ◌∙◌, append_assoc, add-one}
use Rattle.std.proofs.Common.{arith, length-append}
use Rattle.std.specs.List.{repeat}
use Rattle.std.specs.Prelude.{◌≢◌}
use Rattle.std.proofs.lemmas.List.{append-nil}
use Rattle.jt_value.proofs.Lists.{items_view-push, joined_items-take_more, joined_size, joined_nesting}
use Rattle.jt_value.specs.Payload.{more_items, joined_items}
use Rattle.std.specs.Prelude.{Ok}
use Rattle.jt_value.specs.Tree.{Tree, list, Items}
use Rattle.jt_value.specs.View.{view, items_view}
use Rattle.jt_value.specs.declared.value.Value.{Value}
use Rattle.jt_escape.specs.Escaping.{escaped, escaped_byte}
use Rattle.jt_escape.proofs.EscapedPrefix.{escaped_more}
use Rattle.jt_value.specs.Numbers.{stepped, range_count}
use Rattle.jt_op_semantics.specs.Ranges.{numbers_between}

pub escaped_length_more : (text : List ℕ) (at : ℕ) → at < length text
    → length (escaped (take (at + 1) text)) ≡ length (escaped (take at text)) + length (escaped_byte (get_or text at 0))
escaped_length_more text at inside =
    ap length (escaped_more text at inside) ∙ length-append (escaped (take at text)) (escaped_byte (get_or text at 0))

pub repeat_more : (n : ℕ) (s : List ℕ) → repeat (n + 1) s ≡ repeat n s ++ s
repeat_more zero s = append-nil s
repeat_more (suc n) s =
    ap (λ (m : ℕ). repeat m s) (add-one (suc n))
    ∙ ap (λ (xs : List ℕ). s ++ xs) (ap (λ (m : ℕ). repeat m s) (sym (add-one n)) ∙ repeat_more n s)
    ∙ sym (append_assoc s (repeat n s) s)

-- A text with n copies after it, and one more.
pub repeat_pushed : (n : ℕ) (before now after s : List ℕ) → now ≡ before ++ repeat n s → after ≡ now ++ s
    → after ≡ before ++ repeat (n + 1) s
repeat_pushed n before now after s is push =
    push ∙ ap (λ (xs : List ℕ). xs ++ s) is ∙ append_assoc before (repeat n s) s
    ∙ ap (λ (xs : List ℕ). before ++ xs) (sym (repeat_more n s))

-- Copies of the doubled text are twice as many copies of the text.
repeat_double : (n : ℕ) (s : List ℕ) → repeat n (s ++ s) ≡ repeat (n * 2) s
repeat_double zero s = refl
repeat_double (suc n) s =
    append_assoc s s (repeat n (s ++ s))
    ∙ ap (λ (xs : List ℕ). s ++ (s ++ xs)) (repeat_double n s)
    ∙ ap (λ (m : ℕ). repeat m s) (let e : suc (suc (n * 2)) ≡ suc n * 2 = omega arith in e)

pub repeat_even : (n : ℕ) (before s : List ℕ) → n % 2 ≡ 0 → before ++ repeat (n / 2) (s ++ s) ≡ before ++ repeat n s
repeat_even n before s even =
    let e : n / 2 * 2 ≡ n = omega (arith, even) in
    ap (λ (xs : List ℕ). before ++ xs) (repeat_double (n / 2) s ∙ ap (λ (m : ℕ). repeat m s) e)

pub repeat_odd : (n : ℕ) (before after s : List ℕ) → ¬ (n % 2 ≡ 0) → after ≡ before ++ s
    → after ++ repeat (n / 2) (s ++ s) ≡ before ++ repeat n s
repeat_odd n before after s odd push =
    let e : suc (n / 2 * 2) ≡ n = omega arith in
    ap (λ (xs : List ℕ). xs ++ repeat (n / 2) (s ++ s)) push
    ∙ append_assoc before s (repeat (n / 2) (s ++ s))
    ∙ ap (λ (xs : List ℕ). before ++ (s ++ xs)) (repeat_double (n / 2) s)
    ∙ ap (λ (m : ℕ). before ++ repeat m s) e

pub repeat_length : (n : ℕ) (s : List ℕ) → length (repeat n s) ≡ length s * n
repeat_length zero s = omega arith
repeat_length (suc n) s = length-append s (repeat n s) ∙ omega (arith, repeat_length n s)

repeat_nothing : (n : ℕ) → repeat {A = ℕ} n [] ≡ []
repeat_nothing zero = refl
repeat_nothing (suc n) = repeat_nothing n

-- The empty text repeated is empty.
pub repeat_empty : (n : ℕ) (s : List ℕ) → length s ≡ 0 → [] ≡ repeat n s
repeat_empty n [] e = sym (repeat_nothing n)
repeat_empty n (b ∷ bs) e = absurd (omega arith)

-- The copies of i items with a copy of the next one are the copies of i + 1 items.
pub joined_push : (ts : Items) (before after xs : List Value) (copy v : Value) (i : ℕ) → i < length xs
    → v ≡ get_or xs i v → after ≡ before ++ copy ∷ [] → view copy ≡ view v
    → items_view before ≡ joined_items ts (items_view (take i xs))
    → items_view after ≡ joined_items ts (items_view (take (i + 1) xs))
joined_push ts before after xs copy v i lt is push same inv =
    ap items_view push
    ∙ items_view-push before copy
    ∙ ap (λ (u : Tree). more_items (items_view before) u) same
    ∙ ap (λ (us : Items). more_items us (view v)) inv
    ∙ sym (joined_items-take_more ts xs i v lt is)

pub numbers_nonzero : (start stop step : ℤ) → pos 0 ≢ step
    → numbers_between start stop step ≡ Ok (list (stepped (range_count start stop step) start step))
numbers_nonzero start stop (pos zero) n = absurd (n refl)
numbers_nonzero start stop (pos (suc d)) n = refl
numbers_nonzero start stop (negsuc d) n = refl

pub ruleset joined_measures = (joined_size, joined_nesting)

pub ruleset halved_repetitions = (repeat_odd, repeat_even)
