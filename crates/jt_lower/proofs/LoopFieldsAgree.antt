-- The fields of loops agree in images and in meanings.
use Rattle.std.proofs.Common.{◌≡◌, ℕ, suc, ◌-◌, ◌≤◌, Bool, false, if◌then◌else◌, List, ◌∷◌, length, Option}
use Rattle.std.proofs.Common.{Some, Ok, Err, refl, ap, arith, rules}
use Rattle.std.specs.Prelude.{pos, ◌-ℤ◌, not, nat_lt, ◌==◌}
use Rattle.std.proofs.lemmas.Bool.Decides.{nat_tests}
use Rattle.jt_value.specs.Tree as tree
use Rattle.jt_value.specs.Tree.{Tree, Items, no_items, item}
use Rattle.jt_value.specs.declared.fault.Fault.TheVariants as faults
use Rattle.jt_op_semantics.specs.Arithmetic.{as_number}
use Rattle.jt_ids.specs.declared.loop_field.LoopField.{LoopField}
use Rattle.jt_image.specs.Config.{Frame}
use Rattle.jt_image.specs.Loops as image
use Rattle.jt_ids.specs.LoopTable.{field_id, field_of}
use Rattle.jt_image.specs.Loops.{trees_of, loop_field_value}
use Rattle.jt_eval.specs.Eval.{checked}
use Rattle.jt_eval.specs.Loops as loops
use Rattle.jt_eval.specs.Loops.{Loop, items_listed, field_at}

-- The items of a value are equal in both definitions.
pub listed_same : (ts : Items) → trees_of ts ≡ items_listed ts
listed_same no_items = refl
listed_same (item t ts) = ap (λ xs. t ∷ xs) (listed_same ts)

pub has_field : (f : LoopField) → field_of (field_id f) ≡ Some f
unfolding field_of
has_field f = search (arith, rules)

either_test : (n : ℕ) → nat_lt n 9223372036854775808 ≡ not (nat_lt 9223372036854775807 n)
either_test n = grind (arith, nat_tests)

counted_if : (n : ℕ) (b c : Bool) → b ≡ not c
    → as_number (if b then Ok (pos n) else Err faults.Overflow)
    ≡ (if c then Err faults.Overflow else Ok (tree.number (pos n)))
counted_if n b c e = search (arith, rules)

-- Counts are equal in both definitions.
counted_same : (n : ℕ) → image.counted (pos n) ≡ loops.counted n
counted_same n = counted_if n (nat_lt n 9223372036854775808) (nat_lt 9223372036854775807 n) (either_test n)

pub lt_false : (a b : ℕ) → b ≤ a → nat_lt a b ≡ false
lt_false a b h = grind (arith, nat_tests)

less : (a b : ℕ) → b ≤ a → pos a -ℤ pos b ≡ pos (a - b)
less a b h = search (arith, rules, lt_false)

first_same : (b : ℕ) → (suc b == 1) ≡ (b == 0)
first_same b = grind (arith, nat_tests)

-- The frame of an image at a turn is the loop of the meaning.
pub record IsTurn (f : Frame) (l : Option Loop) : Type 0 where
  pub before : ℕ
  pub loop : l ≡ Some (record { items = f.items; before = before })
  pub position : f.position ≡ suc before
  pub within : suc before ≤ length f.items

told_at : (x : LoopField) (items : List Tree) (kept : List Tree) (b : ℕ) → suc b ≤ length items
    → loop_field_value x (record { items = items; position = suc b; kept = kept })
    ≡ field_at x (record { items = items; before = b })
told_at x items kept b h = search (arith, rules, counted_same, less, first_same)

pub told_same : (x : LoopField) (f : Frame) (l : Option Loop) → IsTurn f l
    → checked (loop_field_value x f) ≡ loops.loop_field x l
told_same x f l t = search (arith, rules, told_at x f.items f.kept t.before t.within)
