-- The structured code of resolved programs.
use Rattle.std.specs.Prelude.{ℕ, zero, suc, Bool, true, false, List, [], ◌∷◌, ◌++◌, length, map, Option, Some, None}
use Rattle.std.specs.List.{flat_map}
use Rattle.jt_ids.specs.OpTable.{op_id}
use Rattle.jt_ids.specs.TestTable.{test_id}
use Rattle.jt_ids.specs.declared.op_id.OpId.TheVariants as operators
use Rattle.jt_ids.specs.declared.test_id.TestId.TheVariants as tests
use Rattle.jt_image.specs.declared.instruction.Instruction.{Instruction}
use Rattle.jt_image.specs.declared.instruction.Instruction.TheVariants as op
use Rattle.jt_ids.specs.LoopTable.{field_id}
use Rattle.jt_image.specs.declared.version.Version.TheVariants as version
use Rattle.jt_image.specs.Code.{Name, Section, Code}
pub use Rattle.jt_constants.specs.Merged.{constant_of}
use Rattle.jt_constants.specs.Merged.{merged}
use Rattle.jt_value.specs.Place.{Place}
use Rattle.jt_ast.specs.Expressions.{Text}
use Rattle.jt_ir.specs.Size.{row_count}
use Rattle.jt_ir.specs.Slots as slots
use Rattle.jt_ir.specs.Slots.{Slot, local, global, NaryOp, SlotExpr, SRow, Targets, SlotStmt, SBody, Routine, Program}
use Rattle.jt_lower.specs.Asm.{Asm, nil, one, both, choose, when, each, invoke, flat, places}
use Rattle.jt_lower.specs.SourceLocs.{templates_of, loc_of}

-- Half of a number of values: the number of entries that alternating keys and values make.
abbrev pub half : ℕ → ℕ
half zero = zero
half (suc zero) = zero
half (suc (suc n)) = suc (half n)

-- The flag of an instruction: 1 for escaped or markup, 0 for plain.
abbrev pub flag : Bool → ℕ
flag true = 1
flag false = 0

-- The instruction that makes one value of `n` values. For a required value it is an operator that
-- fails for undefined.
abbrev pub nary_op : NaryOp → ℕ → Instruction
nary_op (slots.operator o) n = op.Op (op_id o)
nary_op (slots.test t) n = op.Test (test_id t) n
nary_op (slots.filter f escaping) n = op.Filter f n (flag escaping)
nary_op slots.a_list n = op.MakeList n
nary_op slots.a_map n = op.MakeMap (half n)
nary_op slots.required n = op.Op (op_id operators.Negate)

-- The check of the value on top, which stays there. Only undefined reaches the operator, which fails.
abbrev pub required_asm : Option Place → Asm
required_asm o =
    both (one o op.Dup)
    (both (one o (op.Test (test_id tests.Undefined) 1)) (when (one o (nary_op slots.required 1))))

-- The code that makes one value of `n` values.
abbrev pub made_asm : Option Place → NaryOp → ℕ → Asm
made_asm o slots.required n = required_asm o
made_asm o k n = one o (nary_op k n)

abbrev pub load_of : Slot → Instruction
load_of (local i) = op.Load i
load_of (global i) = op.GLoad i

abbrev pub store_of : Slot → Instruction
store_of (local i) = op.Store i
store_of (global i) = op.GStore i

-- The structured code of expressions. The arguments are the place of the tag, which faults get, and
-- the number of entries above the innermost loop of the routine.
abbrev mutual
  pub expr_asm : Option Place → SlotExpr ℕ → ℕ → Asm
  expr_asm o (slots.pooled i) h = one o (op.Const i)
  expr_asm o (slots.variable s) h = one o (load_of s)
  expr_asm o (slots.field f) h = one o (op.LoopGet (field_id f) h)
  expr_asm o slots.absent h = nil
  expr_asm o (slots.made k es) h = both (row_asm o es h) (made_asm o k (row_count es))
  -- The right operand replaces the left one.
  expr_asm o (slots.conjunction a b) h =
      both (expr_asm o a h)
      (both (one o op.Dup) (choose (both (one o op.Drop) (expr_asm o b h)) nil))
  expr_asm o (slots.disjunction a b) h =
      both (expr_asm o a h)
      (both (one o op.Dup) (choose nil (both (one o op.Drop) (expr_asm o b h))))
  expr_asm o (slots.choice c a b) h =
      both (expr_asm o c h) (choose (expr_asm o a h) (expr_asm o b h))
  expr_asm o (slots.invoke u escaping es) h =
      both (one o op.CaptureBegin)
      (both (row_asm o es (suc h)) (both (invoke o u) (one o (op.CaptureEnd (flag escaping)))))

  pub row_asm : Option Place → SRow ℕ → ℕ → Asm
  row_asm o slots.none h = nil
  row_asm o (slots.item e es) h = both (expr_asm o e h) (row_asm o es (suc h))
  row_asm o (slots.aside i e es) h =
      both (expr_asm o e h) (both (one o (op.Store i)) (row_asm o es h))

-- The store of a value into a slot; without a slot the value is dropped.
abbrev pub store_if_of : Option Slot → Instruction
store_if_of None = op.Drop
store_if_of (Some s) = store_of s

-- The stores of values into slots, the last value first.
abbrev pub stores_asm : Option Place → List (Option Slot) → Asm
stores_asm o [] = nil
stores_asm o (s ∷ ss) = both (stores_asm o ss) (one o (store_if_of s))

abbrev pub take_asm : Option Place → Targets → Asm
take_asm o (slots.one s) = one o (store_of s)
take_asm o (slots.several ss) = both (one o (op.Unpack (length ss))) (stores_asm o ss)

-- A turn: the item is stored in the targets, then the body is executed.
abbrev pub turn_asm : Option Place → Targets → Asm → Asm
turn_asm o xs body = both (both (one o (op.LoopGet 0 0)) (take_asm o xs)) body

-- The turns of the loop on top, and the `else` part if it has no turn.
abbrev pub over_asm : Option Place → Targets → Asm → Asm → Asm
over_asm o xs body other = both (each (turn_asm o xs body)) (both (one o op.LoopEnd) (when other))

-- The pass that keeps the items for which the condition holds.
abbrev pub kept_asm : Option Place → Targets → Option (SlotExpr ℕ) → Asm
kept_asm o xs None = nil
kept_asm o xs (Some c) =
    both (each (turn_asm o xs (both (expr_asm o c 0) (one o (op.LoopKeep 0)))))
    (one o op.LoopRewind)

abbrev mutual
  pub stmt_asm : SlotStmt ℕ → ℕ → Asm
  stmt_asm (slots.put_pooled i) h = one None (op.Data i)
  stmt_asm (slots.print p escaping e) h =
      both (expr_asm (Some p) e h) (one (Some p) (op.Emit (flag escaping)))
  stmt_asm (slots.assign p xs e) h = both (expr_asm (Some p) e h) (take_asm (Some p) xs)
  stmt_asm (slots.if_else p c a b) h =
      both (expr_asm (Some p) c h) (choose (body_asm a h) (body_asm b h))
  stmt_asm (slots.for_each p xs e c body other) h =
      both
      (both (expr_asm (Some p) e h) (both (one (Some p) op.LoopStart) (kept_asm (Some p) xs c)))
      (over_asm (Some p) xs (body_asm body 0) (body_asm other h))
  stmt_asm (slots.capture escaping s body) h =
      both (one None op.CaptureBegin) (both (body_asm body (suc h))
      (both (one None (op.CaptureEnd (flag escaping))) (one None (store_of s))))
  stmt_asm (slots.run u es) h = both (row_asm None es h) (invoke None u)

  pub body_asm : SBody ℕ → ℕ → Asm
  body_asm slots.end h = nil
  body_asm (slots.stmt s rest) h = both (stmt_asm s h) (body_asm rest h)

-- The unit of a routine: its body, then `Return`.
abbrev pub unit_of : Routine ℕ → Section
unit_of r =
    record {
      parameters = r.parameters;
      kind = 0;
      locals = r.locals;
      code = flat (body_asm r.body 0) 0 ++ op.Return ∷ [];
    }

-- The names with their slots.
abbrev pub numbered : ℕ → List Text → List Name
numbered n [] = []
numbered n (x ∷ xs) = record { slot = n; text = x } ∷ numbered (suc n) xs

-- The places of a routine's instructions; `Return` has none.
abbrev pub routine_places : Routine ℕ → List (Option Place)
routine_places r = places (body_asm r.body 0) ++ None ∷ []

-- The places of all instructions.
abbrev pub places_of : Program → List (Option Place)
places_of p = flat_map routine_places p.routines

-- The code of a program, with one constant for each value of the pool.
abbrev pub lowered : Program → Code
lowered program =
    record {
      version = version.Two;
      globals = program.globals;
      names = numbered 0 program.names;
      constants = map constant_of program.pool;
      units = map unit_of program.routines;
      templates = templates_of (places_of program);
      places = map (loc_of (templates_of (places_of program))) (places_of program);
    }

-- The code of a program, in which equal constants are merged.
abbrev pub compiled : Program → Code
compiled program = merged (lowered program)
