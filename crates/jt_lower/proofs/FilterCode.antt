-- The code of the filters of a tag is appended filter by filter, and its height is decided so.
use Rattle.std.proofs.Common.{◌≡◌, ℕ, suc, ◌+◌, ◌-◌, ◌<◌, ◌≤◌, Bool, true, false, ◌&&◌, List, [], ◌∷◌, length, take}
use Rattle.std.proofs.Common.{get_or, Option, sym, ap, ◌∙◌, subst, max, arith, rules}
use Rattle.std.specs.Prelude.{nat_le, not, ◌||◌}
use Rattle.std.proofs.lemmas.Bool.Decides.{nat_tests}
use Rattle.std.proofs.Math.Bool.{and-true}
use Rattle.jt_value.specs.Place.{Place}
use Rattle.jt_ast.specs.Expressions.{Text}
use Rattle.jt_ids.specs.FilterTable.{filter_id}
use Rattle.jt_ir.specs.Slots as slots
use Rattle.jt_ir.specs.Slots.{SlotExpr, none, required_if}
use Rattle.jt_ir.specs.Size.{row_count, expr_height, row_height}
use Rattle.jt_ir.specs.View.{row_view, filters_after}
use Rattle.jt_ir.specs.declared.program.SlotFilter.{SlotFilter}
use Rattle.jt_ir.proofs.ExpressionViews.{Entry, filters_next}
use Rattle.jt_lower.specs.Asm.{Asm, one, both}
use Rattle.jt_lower.specs.Lower.{nary_op, expr_asm, row_asm}
use Rattle.jt_lower.specs.Emission.{Puts}
use Rattle.jt_lower.specs.declared.emitter.Emitter.{Emitter}
use Rattle.jt_lower.proofs.JumpPatching.{puts_then}
use Rattle.jt_lower.proofs.HeightsDecided.{height_some}

-- ---- code

-- If the code of the first filters is appended, the arguments of the next one and the filter append
-- its code.
pub filter_step : (ts : List Text) (o : Option Place) (fs : List SlotFilter) (i : ℕ) (f : SlotFilter) (x : SlotExpr ℕ)
    (es : List Entry) (n h : ℕ) (c0 c1 c2 c3 : Emitter)
    → i < length fs → f ≡ get_or fs i f → es ≡ f.row.items → n ≡ suc (row_count (row_view f.row.items none))
    → Puts ts c0 (expr_asm o (required_if f.required (filters_after (take i fs) x)) h) c1
    → Puts ts c1 (row_asm o (row_view es none) (suc h)) c2
    → Puts ts c2 (one o (nary_op (slots.filter (filter_id f.filter) f.escaping) n)) c3
    → Puts ts c0 (expr_asm o (filters_after (take (i + 1) fs) x) h) c3
filter_step ts o fs i f x es n h c0 c1 c2 c3 lt is same counted p q r =
    let y = required_if f.required (filters_after (take i fs) x) in
    let k = λ (m : ℕ). one o (nary_op (slots.filter (filter_id f.filter) f.escaping) m) in
    let row : Asm = row_asm o (row_view f.row.items none) (suc h) in
    subst (λ z. Puts ts c0 (expr_asm o z h) c3) (sym (filters_next fs i f x lt is))
    (puts_then ts c0 c2 c3 (both (expr_asm o y h) row) (k (suc (row_count (row_view f.row.items none))))
    (puts_then ts c0 c1 c2 (expr_asm o y h) row p
    (subst (λ (l : List Entry). Puts ts c1 (row_asm o (row_view l none) (suc h)) c2) same q))
    (subst (λ m. Puts ts c2 (k m) c3) counted r))

-- ---- number of values

pub count_low : (es : List Entry) → row_count (row_view es none) ≤ length es
count_low [] = omega arith
count_low (e ∷ es) = search (arith, rules, count_low es)

-- ---- heights

-- The check of a value, if the flag is true, is within the limit: the value and its copy.
abbrev pub required_low : Bool → ℕ → Bool
required_low required room = not required || nat_le 2 room

-- Each filter's input, and its arguments above the input, are within the limit.
abbrev pub steps_low : ℕ → List SlotFilter → Bool
steps_low room [] = true
steps_low room (f ∷ fs) =
    (required_low f.required room && nat_le (row_height (row_view f.row.items none)) (room - 1)) && steps_low room fs

one_low : (a r room : ℕ) → 1 ≤ a → nat_le (max 1 (max a (1 + r))) room ≡ nat_le a room && nat_le r (room - 1)
one_low a r room some = grind (arith, nat_tests)

copy_low : (a room : ℕ) → 1 ≤ a → nat_le (max 2 (max a (1 + 0))) room ≡ nat_le a room && nat_le 2 room
copy_low a room some = grind (arith, nat_tests)

-- A value that may be required is within the limit if and only if the value and its check are.
pub required_decided : (b : Bool) (room : ℕ) (x : SlotExpr ℕ)
    → nat_le (expr_height (required_if b x)) room ≡ nat_le (expr_height x) room && required_low b room
required_decided false room x = sym (and-true (nat_le (expr_height x) room))
required_decided true room x = copy_low (expr_height x) room (height_some x)

and_again : (a b c : Bool) → (a && b) && c ≡ a && (b && c)
and_again a b c = search (arith, rules)

-- A value with filters is within the limit if and only if the value, its checks and the arguments are.
pub filters_low : (room : ℕ) (fs : List SlotFilter) (x : SlotExpr ℕ)
    → nat_le (expr_height (filters_after fs x)) room ≡ nat_le (expr_height x) room && steps_low room fs
filters_low room [] x = sym (and-true (nat_le (expr_height x) room))
filters_low room (f ∷ fs) x =
    search (arith, rules, one_low, height_some, required_decided, and_again, filters_low room fs)

-- A printed value is within the limit if and only if the value, its filters and the check of the result are.
pub filtered_low : (b : Bool) (room : ℕ) (fs : List SlotFilter) (x : SlotExpr ℕ)
    → nat_le (expr_height (required_if b (filters_after fs x))) room
    ≡ (nat_le (expr_height x) room && steps_low room fs) && required_low b room
filtered_low b room fs x =
    required_decided b room (filters_after fs x) ∙ ap (λ c. c && required_low b room) (filters_low room fs x)
