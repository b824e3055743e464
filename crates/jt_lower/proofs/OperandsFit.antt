-- If a program is within the limits of images, the operands of each instruction fit their fields.
use Rattle.std.proofs.Common.{◌≡◌, ℕ, zero, suc, ◌+◌, ◌<◌, ◌≤◌, ◌^◌, Bool, true, false, List, [], ◌∷◌, length, map}
use Rattle.std.proofs.Common.{Option, Some, None, refl, arith, rules}
use Rattle.std.proofs.lemmas.List.{length-map}
use Rattle.std.specs.Prelude.{slice_get, IsTrue}
use Rattle.std.specs.List.{find, AllByRecursion}
use Rattle.std.proofs.lemmas.Option.{slice_get_within}
use Rattle.std.proofs.lemmas.Bool.Decides.{nat_tests}
use Rattle.jt_ids.specs.declared.op_id.OpId.{OpId}
use Rattle.jt_ids.specs.declared.test_id.TestId.{TestId}
use Rattle.jt_ids.specs.declared.test_id.TestId.TheVariants as tests
use Rattle.jt_ids.specs.OpTable.{op_id}
use Rattle.jt_ids.specs.TestTable.{test_id}
use Rattle.jt_ids.specs.declared.filter_id.FilterId.{FilterId}
use Rattle.jt_ids.specs.FilterTable.{filter_id}
use Rattle.jt_filter_semantics.specs.FilterIds.{filter_of, accepts}
use Rattle.jt_image.specs.declared.instruction.Instruction.TheVariants as op
use Rattle.jt_ids.specs.declared.loop_field.LoopField.{LoopField}
use Rattle.jt_ids.specs.LoopTable.{field_id}
use Rattle.jt_image.specs.Code.{Section}
use Rattle.jt_image.specs.IsCode.{IsInstruction, total_len, max_locals, max_instructions}
use Rattle.jt_image.specs.Parts.{KeepsLimits}
use Rattle.jt_image.specs.Typed.{max_entries}
use Rattle.jt_value.specs.Place.{Place}
use Rattle.jt_ir.specs.Slots as slots
use Rattle.jt_ir.specs.Slots.{Slot, local, global, NaryOp, SlotExpr, SRow, Targets, SlotStmt, SBody, Routine, Program}
use Rattle.jt_ir.specs.Size.{row_count, targets_height, expr_height, row_height, condition_height, stmt_height}
use Rattle.jt_ir.specs.Size.{body_height}
use Rattle.jt_constants.specs.Merged.{moved_unit}
use Rattle.jt_constants.proofs.MergeIsNoLarger.{units_len, units_room}
use Rattle.jt_lower.specs.Asm.{Asm, nil, one, both, choose, when, each, invoke, flat}
use Rattle.jt_lower.specs.Lower.{half, flag, nary_op, made_asm, load_of, store_of, store_if_of, expr_asm, row_asm}
use Rattle.jt_lower.specs.Lower.{stores_asm}
use Rattle.jt_lower.specs.Lower.{take_asm, kept_asm, stmt_asm, body_asm, unit_of, compiled}
use Rattle.jt_lower.specs.Fits.{OfSlots, OfSome, OfTargets, NaryOpFits, TakesRow, SlotFits, ExprFits, RowFits}
use Rattle.jt_lower.specs.Fits.{ConditionFits, StmtFits, BodyFits, RoutineFits, ProgramFits}
use Rattle.jt_lower.proofs.CodeSize.{asm_size, flat_size}
use Rattle.jt_lower.proofs.LawfulProgramsFit.{all_append}
use Rattle.jt_lower.proofs.HeightsDecided.{row_room}

-- ---- all instructions fit if the points and the instructions that are no jumps do

abbrev Plain : Asm → Type 0
Plain nil = Unit {0}
Plain (one o i) = IsInstruction i
Plain (both a b) = Plain a × Plain b
Plain (choose a b) = Plain a × Plain b
Plain (when a) = Plain a
Plain (each a) = Plain a
Plain (invoke o u) = u < 2 ^ 32

flat_fits : (a : Asm) (p : ℕ) → Plain a → p + asm_size a < 2 ^ 32 → AllByRecursion IsInstruction (flat a p)
flat_fits (both a b) p h room =
    search (arith, rules, all_append, flat_fits a p h.0 (omega (arith, room)), flat_fits b, flat_size)
flat_fits (choose a b) p h room = search (arith, rules, flat_size, all_append, flat_fits a, flat_fits b)
flat_fits (when a) p h room = (omega (arith, room, flat_size a (p + 1)), flat_fits a (p + 1) h (omega (arith, room)))
flat_fits (each a) p h room = search (arith, rules, flat_size, all_append, flat_fits a (p + 1) h (omega (arith, room)))
flat_fits a p h room = search (arith, rules)

-- ---- ids

flag_fits : (b : Bool) → flag b < 2 ^ 8
flag_fits b = search (arith, rules)

field_fits : (f : LoopField) → field_id f < 2 ^ 8
field_fits f = search (arith, rules)

op_fits : (x : OpId) → op_id x < 2 ^ 8
op_fits x = search (arith, rules)

test_fits : (x : TestId) → test_id x < 2 ^ 8
test_fits x = search (arith, rules)

filter_fits : (x : FilterId) → filter_id x < 2 ^ 8
filter_fits x = search (arith, rules)

found_passes : {A : Type 0} (p : A → Bool) (xs : List A) (x : A) → find p xs ≡ Some x → p x ≡ true
found_passes p [] x e = absurd cc
found_passes p (y ∷ ys) x e = search (arith, rules, found_passes p ys x)

-- The id of a filter fits one byte.
accepted_fits : (f n : ℕ) → IsTrue (accepts (filter_of f) n) → f < 2 ^ 8
unfolding filter_of
accepted_fits f n h = search (arith, rules, found_passes, filter_fits, nat_tests)

half_le : (n : ℕ) → half n ≤ n
half_le zero = omega arith
half_le (suc zero) = omega arith
half_le (suc (suc n)) = omega (arith, half_le n)

nary_op_fits : (k : NaryOp) (n : ℕ) → NaryOpFits k n → n ≤ max_entries → IsInstruction (nary_op k n)
nary_op_fits k n takes room = search (arith, rules, op_fits, test_fits, accepted_fits, flag_fits, half_le)

made_fits : (k : NaryOp) (n : ℕ) (o : Option Place) → NaryOpFits k n → n ≤ max_entries → Plain (made_asm o k n)
made_fits slots.required n o takes room =
    (tt, ((test_fits tests.Undefined, omega arith), nary_op_fits slots.required n takes room))
made_fits k n o takes room = search (arith, rules, nary_op_fits)

-- ---- instructions that are no jumps

module _ (p : Program) (locals : ℕ) (pool : length p.pool ≤ 2 ^ 32) (globals : p.globals ≤ 2 ^ 32)
    (stored : locals ≤ 2 ^ 32) (units : length p.routines ≤ 2 ^ 32) where
  load_plain : (s : Slot) → SlotFits p locals s → IsInstruction (load_of s)
  load_plain s h = search (arith, rules)

  store_plain : (s : Slot) → SlotFits p locals s → IsInstruction (store_of s)
  store_plain s h = search (arith, rules)

  called_plain : (u n : ℕ) → TakesRow p.routines u n → u < 2 ^ 32
  called_plain u n h = omega (arith, units, slice_get_within p.routines u h.routine h.is)

  mutual
    expr_plain : (inside : Bool) (e : SlotExpr ℕ) (o : Option Place) (h : ℕ) → ExprFits p locals inside e
        → h + expr_height e ≤ max_entries → Plain (expr_asm o e h)
    expr_plain inside (slots.pooled i) o h f low = omega (arith, f, pool)
    expr_plain inside (slots.variable s) o h f low = load_plain s f
    expr_plain inside (slots.field k) o h f low = (field_fits k, omega (arith, low))
    expr_plain inside slots.absent o h f low = tt
    expr_plain inside (slots.made k es) o h f low = (
      row_plain inside es o h f.1 (omega (arith, low)),
      made_fits k (row_count es) o f.0 (omega (arith, low, row_room es)),
    )
    expr_plain inside (slots.conjunction a b) o h f low = (
      expr_plain inside a o h f.0 (omega (arith, low)),
      (tt, ((tt, expr_plain inside b o h f.1 (omega (arith, low))), tt)),
    )
    expr_plain inside (slots.disjunction a b) o h f low = (
      expr_plain inside a o h f.0 (omega (arith, low)),
      (tt, (tt, (tt, expr_plain inside b o h f.1 (omega (arith, low))))),
    )
    expr_plain inside (slots.choice c a b) o h f low = (
      expr_plain inside c o h f.0 (omega (arith, low)),
      (expr_plain inside a o h f.1 (omega (arith, low)), expr_plain inside b o h f.2 (omega (arith, low))),
    )
    expr_plain inside (slots.invoke u escaping es) o h f low = (
      tt,
      (
        row_plain inside es o (suc h) f.1 (omega (arith, low)),
        (called_plain u (row_count es) f.0, flag_fits escaping),
      ),
    )

    row_plain : (inside : Bool) (es : SRow ℕ) (o : Option Place) (h : ℕ) → RowFits p locals inside es
        → h + row_height es ≤ max_entries → Plain (row_asm o es h)
    row_plain inside slots.none o h f low = tt
    row_plain inside (slots.item e es) o h f low =
        (expr_plain inside e o h f.0 (omega (arith, low)), row_plain inside es o (suc h) f.1 (omega (arith, low)))
    row_plain inside (slots.aside i e es) o h f low = (
      expr_plain inside e o h f.1 (omega (arith, low)),
      (omega (arith, f.0, stored), row_plain inside es o h f.2 (omega (arith, low))),
    )

  some_plain : (s : Option Slot) → OfSome (SlotFits p locals) s → IsInstruction (store_if_of s)
  some_plain s f = search (arith, rules, store_plain)

  stores_plain : (ss : List (Option Slot)) (o : Option Place) → OfSlots (SlotFits p locals) ss → Plain (stores_asm o ss)
  stores_plain [] o f = tt
  stores_plain (s ∷ ss) o f = (stores_plain ss o f.1, some_plain s f.0)

  take_plain : (xs : Targets) (o : Option Place) → OfTargets (SlotFits p locals) xs → targets_height xs ≤ max_entries
      → Plain (take_asm o xs)
  take_plain xs o f low = search (arith, rules, store_plain, stores_plain)

  item_plain : (o : Option Place) → Plain (one o (op.LoopGet 0 0))
  item_plain o = (omega arith, omega arith)

  kept_plain : (c : Option (SlotExpr ℕ)) (xs : Targets) (o : Option Place) → OfTargets (SlotFits p locals) xs
      → targets_height xs ≤ max_entries → ConditionFits p locals c → condition_height c ≤ max_entries
      → Plain (kept_asm o xs c)
  kept_plain c xs o f low g under = search (arith, rules, item_plain, take_plain, expr_plain)

  mutual
    stmt_plain : (inside : Bool) (s : SlotStmt ℕ) (h : ℕ) → StmtFits p locals inside s → h + stmt_height s ≤ max_entries
        → Plain (stmt_asm s h)
    stmt_plain inside (slots.put_pooled i) h f low = omega (arith, pool, slice_get_within p.pool i _ f.1)
    stmt_plain inside (slots.print q escaping e) h f low = (expr_plain inside e (Some q) h f low, flag_fits escaping)
    stmt_plain inside (slots.assign q xs e) h f low = search (arith, rules, expr_plain, take_plain)
    stmt_plain inside (slots.if_else q c a b) h f low = (
      expr_plain inside c (Some q) h f.0 (omega (arith, low)),
      (body_plain inside a h f.1 (omega (arith, low)), body_plain inside b h f.2 (omega (arith, low))),
    )
    stmt_plain inside (slots.for_each q xs e c body other) h f low =
        search (
          arith,
          rules,
          take_plain,
          expr_plain,
          kept_plain,
          item_plain,
          body_plain true body 0 f.3 (omega (arith, low)),
          body_plain inside other h f.4 (omega (arith, low)),
        )
    stmt_plain inside (slots.capture escaping s body) h f low =
        (tt, (body_plain inside body (suc h) f.1 (omega (arith, low)), (flag_fits escaping, store_plain s f.0)))
    stmt_plain inside (slots.run u es) h f low = (row_plain inside es None h f.1 low, called_plain u (row_count es) f.0)

    body_plain : (inside : Bool) (b : SBody ℕ) (h : ℕ) → BodyFits p locals inside b → h + body_height b ≤ max_entries
        → Plain (body_asm b h)
    body_plain inside slots.end h f low = tt
    body_plain inside (slots.stmt s rest) h f low =
        (stmt_plain inside s h f.0 (omega (arith, low)), body_plain inside rest h f.1 (omega (arith, low)))

-- ---- programs

abbrev pub Written : Section → Type 0
Written u = AllByRecursion IsInstruction u.code

routine_written : (p : Program) (r : Routine ℕ) → length p.pool ≤ 2 ^ 32 → p.globals ≤ 2 ^ 32
    → length p.routines ≤ 2 ^ 32 → r.locals ≤ max_locals → length (unit_of r).code ≤ max_instructions → RoutineFits p r
    → Written (unit_of r)
routine_written p r pool globals units locals len fits =
    let a = body_asm r.body 0 in
    let plain : Plain (both a (one None op.Return)) = (
      body_plain p r.locals pool globals (omega (arith, locals)) units false r.body 0 fits.body
          (omega (arith, fits.low)),
      tt,
    ) in
    flat_fits (both a (one None op.Return)) 0 plain (omega (arith, len, flat_size (both a (one None op.Return)) 0))

pub routines_written : (p : Program) → length p.pool ≤ 2 ^ 32 → p.globals ≤ 2 ^ 32 → length p.routines ≤ 2 ^ 32
    → (rs : List (Routine ℕ)) → ((u : ℕ) (r : Routine ℕ) → slice_get rs u ≡ Some r → RoutineFits p r)
    → AllByRecursion (λ u. u.locals ≤ max_locals) (map unit_of rs) → total_len (map unit_of rs) ≤ max_instructions
    → AllByRecursion Written (map unit_of rs)
routines_written p pool globals units [] fits locals len = tt
routines_written p pool globals units (r ∷ rs) fits locals len = (
  routine_written p r pool globals units locals.0 (omega (arith, len)) (fits 0 r refl),
  routines_written p pool globals units rs (λ u s e. fits (suc u) s e) locals.1 (omega (arith, len)),
)

-- The numbers of locals are those before constants were moved.
locals_before : (places : List ℕ) (us : List Section)
    → AllByRecursion (λ u. u.locals ≤ max_locals) (map (moved_unit places) us)
    → AllByRecursion (λ u. u.locals ≤ max_locals) us
locals_before places [] h = tt
locals_before places (u ∷ us) h = (h.0, locals_before places us h.1)

-- The operands fit their fields before constants get indices into the table.
pub lowered_written : (p : Program) → ProgramFits p → p.globals < 2 ^ 16 → length p.pool ≤ 2 ^ 32
    → KeepsLimits (compiled p) → AllByRecursion Written (map unit_of p.routines)
lowered_written p fit globals pool limits =
    search (arith, rules, length-map, routines_written, locals_before, units_len)

pub program_written : (p : Program) → ProgramFits p → p.globals < 2 ^ 16 → length p.pool ≤ 2 ^ 32
    → KeepsLimits (compiled p) → AllByRecursion Written (compiled p).units
program_written p fit globals pool limits = search (arith, rules, units_room, length-map, lowered_written)
