-- The test of heights decides whether the height of an expression is within a limit.
use Rattle.std.proofs.Common.{◌≡◌, ℕ, ◌+◌, ◌-◌, max, ◌<◌, ◌≤◌, true, ◌&&◌, List, length, drop, get_or, if◌then◌else◌}
use Rattle.std.proofs.Common.{arith, rules}
use Rattle.std.specs.Prelude.{nat_le}
use Rattle.std.specs.Option.{is_some}
use Rattle.std.proofs.lemmas.Bool.Decides.{nat_tests}
use Rattle.jt_ir.specs.Slots as slots
use Rattle.jt_ir.specs.Slots.{NaryOp, SlotExpr, SRow, none}
use Rattle.jt_ir.specs.Size.{nary_op_height, expr_height, row_count, row_height}
use Rattle.jt_ir.specs.View.{expr_view, row_view}
use Rattle.jt_ir.proofs.ExpressionViews.{Entry, row_left}

-- The maximum of two heights is within the limit if and only if both are.
pub both_low : (a b c : ℕ) → nat_le (max a b) c ≡ nat_le a c && nat_le b c
both_low a b c = grind (arith, nat_tests)

made_some : (k : NaryOp) → 1 ≤ nary_op_height k
made_some k = search (arith, rules)

-- An expression needs at least one entry, for its value.
pub height_some : (e : SlotExpr ℕ) → 1 ≤ expr_height e
height_some (slots.choice c a b) = omega (arith, height_some c)
height_some (slots.made k es) = omega (arith, made_some k)
height_some e = omega arith

-- Each value of a sequence is an entry.
pub row_room : (r : SRow ℕ) → row_count r ≤ row_height r
row_room none = omega arith
row_room (slots.item e r) = omega (arith, row_room r)
row_room (slots.aside i e r) = omega (arith, row_room r)

-- If an expression is within the limit, it and the sequence after it are within exactly if the
-- sequence is within one entry less.
item_low : (h r left : ℕ) → nat_le h left ≡ true → 1 ≤ h → nat_le (max h (1 + r)) left ≡ nat_le r (left - 1)
item_low h r left low some = grind (arith, nat_tests)

aside_low : (h r left : ℕ) → nat_le h left ≡ true → nat_le (max h r) left ≡ nat_le r left
aside_low h r left low = grind (arith, nat_tests)

-- The rest of a sequence is within `left` if and only if the sequence is within `room`.
abbrev pub Left : List Entry → ℕ → ℕ → ℕ → Type 0
Left es room i left = nat_le (row_height (row_view es none)) room ≡ nat_le (row_height (row_view (drop i es) none)) left

pub row_more : (es : List Entry) (room i left next : ℕ) (e : Entry) → i < length es → e ≡ get_or es i e
    → nat_le (expr_height (expr_view e.1)) left ≡ true → next ≡ (if is_some e.0 then left else left - 1)
    → Left es room i left → Left es room (i + 1) next
row_more es room i left next e lt is low stays l =
    search (
      arith,
      rules,
      row_left es i e lt is,
      item_low (expr_height (expr_view e.1)) (row_height (row_view (drop (i + 1) es) none)) left low
          (height_some (expr_view e.1)),
      height_some (expr_view e.1),
      aside_low (expr_height (expr_view e.1)) (row_height (row_view (drop (i + 1) es) none)) left low,
    )

pub some_left : (e : SlotExpr ℕ) (left : ℕ) → nat_le (expr_height e) left ≡ true → 1 ≤ left
some_left e left low = let some = height_some e in grind (arith, nat_tests)

pub made_low : (h r room : ℕ) → h ≤ room → nat_le (max h r) room ≡ nat_le r room
made_low h r room low = grind (arith, nat_tests)

pub invoke_low : (r room : ℕ) → 1 ≤ room → nat_le (1 + r) room ≡ nat_le r (room - 1)
invoke_low r room some = grind (arith, nat_tests)
