-- The number of instructions of a program's code is the size of the program.
use Rattle.std.proofs.Common.{◌≡◌, ℕ, suc, ◌+◌, List, [], ◌∷◌, length, map, Option, Some, None, refl, arith}
use Rattle.std.proofs.Common.{length-append, rules}
use Rattle.jt_image.specs.IsCode.{total_len}
use Rattle.jt_value.specs.Place.{Place}
use Rattle.jt_ir.specs.Slots as slots
use Rattle.jt_ir.specs.Slots.{Slot, NaryOp, SlotExpr, SRow, Targets, SlotStmt, SBody, Routine, Program}
use Rattle.jt_lower.specs.Asm.{Asm, nil, one, both, choose, when, each, invoke, flat}
use Rattle.jt_lower.specs.Lower.{made_asm, expr_asm, row_asm, stores_asm, take_asm, kept_asm, stmt_asm, body_asm}
use Rattle.jt_lower.specs.Lower.{unit_of, lowered}
use Rattle.jt_ir.specs.Size.{row_count, nary_op_size, expr_size, row_size, targets_size, condition_size, stmt_size}
use Rattle.jt_ir.specs.Size.{body_size, routines_size}

abbrev pub asm_size : Asm → ℕ
asm_size nil = 0
asm_size (one o i) = 1
asm_size (both a b) = asm_size a + asm_size b
asm_size (choose a b) = asm_size a + asm_size b + 2
asm_size (when a) = asm_size a + 1
asm_size (each a) = asm_size a + 2
asm_size (invoke o u) = 1

pub flat_size : (a : Asm) (n : ℕ) → length (flat a n) ≡ asm_size a
flat_size (both a b) n = search (arith, rules, length-append, flat_size a n, flat_size b)
flat_size (choose a b) n = search (arith, rules, flat_size a (n + 1), flat_size b, length-append)
flat_size (when a) n = omega (arith, flat_size a (n + 1))
flat_size (each a) n = search (arith, rules, flat_size a (n + 1), length-append)
flat_size a n = refl

nary_op_sized : (k : NaryOp) (n : ℕ) (o : Option Place) → asm_size (made_asm o k n) ≡ nary_op_size k
nary_op_sized k n o = search (arith, rules)

mutual
  expr_sized : (e : SlotExpr ℕ) (o : Option Place) (h : ℕ) → asm_size (expr_asm o e h) ≡ expr_size e
  expr_sized (slots.made k r) o h = omega (arith, row_sized r o h, nary_op_sized k (row_count r) o)
  expr_sized (slots.conjunction a b) o h = omega (arith, expr_sized a o h, expr_sized b o h)
  expr_sized (slots.disjunction a b) o h = omega (arith, expr_sized a o h, expr_sized b o h)
  expr_sized (slots.choice c a b) o h = omega (arith, expr_sized c o h, expr_sized a o h, expr_sized b o h)
  expr_sized (slots.invoke u escaping r) o h = omega (arith, row_sized r o (suc h))
  expr_sized e o h = refl

  row_sized : (r : SRow ℕ) (o : Option Place) (h : ℕ) → asm_size (row_asm o r h) ≡ row_size r
  row_sized slots.none o h = refl
  row_sized (slots.item e r) o h = omega (arith, expr_sized e o h, row_sized r o (suc h))
  row_sized (slots.aside i e r) o h = omega (arith, expr_sized e o h, row_sized r o h)

stores_sized : (ss : List (Option Slot)) (o : Option Place) → asm_size (stores_asm o ss) ≡ length ss
stores_sized [] o = refl
stores_sized (s ∷ ss) o = omega (arith, stores_sized ss o)

take_sized : (xs : Targets) (o : Option Place) → asm_size (take_asm o xs) ≡ targets_size xs
take_sized xs o = search (arith, rules, stores_sized)

kept_sized : (c : Option (SlotExpr ℕ)) (xs : Targets) (o : Option Place)
    → asm_size (kept_asm o xs c) ≡ condition_size xs c
kept_sized c xs o = search (arith, rules, take_sized, expr_sized)

mutual
  stmt_sized : (s : SlotStmt ℕ) (h : ℕ) → asm_size (stmt_asm s h) ≡ stmt_size s
  stmt_sized (slots.put_pooled i) h = refl
  stmt_sized (slots.print tag escaping e) h = omega (arith, expr_sized e (Some tag) h)
  stmt_sized (slots.assign tag xs e) h = omega (arith, expr_sized e (Some tag) h, take_sized xs (Some tag))
  stmt_sized (slots.if_else tag c a b) h = omega (arith, expr_sized c (Some tag) h, body_sized a h, body_sized b h)
  stmt_sized (slots.for_each tag xs e c body other) h =
      search (arith, rules, expr_sized, kept_sized, take_sized, body_sized body, body_sized other h)
  stmt_sized (slots.capture escaping s body) h = omega (arith, body_sized body (suc h))
  stmt_sized (slots.run u r) h = omega (arith, row_sized r None h)

  body_sized : (b : SBody ℕ) (h : ℕ) → asm_size (body_asm b h) ≡ body_size b
  body_sized slots.end h = refl
  body_sized (slots.stmt s rest) h = omega (arith, stmt_sized s h, body_sized rest h)

units_sized : (rs : List (Routine ℕ)) → total_len (map unit_of rs) ≡ routines_size rs
units_sized [] = refl
units_sized (r ∷ rs) = search (arith, rules, length-append, flat_size, body_sized, units_sized rs)

pub program_sized : (p : Program) → total_len (lowered p).units ≡ routines_size p.routines
program_sized p = units_sized p.routines
