-- The conditions on resolved routines, other than arity, before constants have indices into the
-- pool. With them the program fits.
use Rattle.std.specs.Prelude.{◌≡◌, ℕ, ◌<◌, ◌≤◌, false, List, ◌++◌, length, Option, Some, None, slice_get}
use Rattle.std.specs.List.{AllByRecursion}
use Rattle.jt_value.specs.Tree as tree
use Rattle.jt_value.specs.Tree.{Tree}
use Rattle.jt_image.specs.Typed.{max_entries}
use Rattle.jt_ast.specs.Expressions.{Text}
use Rattle.jt_ir.specs.Slots as slots
use Rattle.jt_ir.specs.Slots.{Slot, local, global, SlotExpr, SRow, Targets, SlotStmt, SBody, Routine, Program}
use Rattle.jt_eval.specs.TheFilters.{the_filters}
use Rattle.jt_ir.specs.Takes.{BodyTakes}
use Rattle.jt_ir.specs.Locals.{body_locals}
use Rattle.jt_ir.specs.Pool.{Constant, own, known, routines_values, placed_routines}
use Rattle.jt_ir.specs.Size.{body_height}
use Rattle.jt_lower.specs.Fits.{IsBare, OfTargets, IsPooled}

-- `front` is the number of given values before the pool's own, and `globals` the number of globals.
-- Locals need no condition, since a routine has the locals that its body uses.
module _ (front globals : ℕ) where
  abbrev pub ConstantLawful : Constant → Type 0
  ConstantLawful (own v) = IsPooled v
  ConstantLawful (known i) = i < front

  -- The constant is a plain text.
  abbrev pub TextLawful : Constant → Type 0
  TextLawful (own (tree.text t)) = Unit {0}
  TextLawful k = ⊥

  abbrev pub SlotLawful : Slot → Type 0
  SlotLawful (local i) = Unit {0}
  SlotLawful (global i) = i < globals

  abbrev mutual
    pub ExprLawful : SlotExpr Constant → Type 0
    ExprLawful (slots.pooled k) = ConstantLawful k
    ExprLawful (slots.variable s) = SlotLawful s
    ExprLawful (slots.field f) = Unit {0}
    ExprLawful slots.absent = Unit {0}
    ExprLawful (slots.made k es) = RowLawful es
    ExprLawful (slots.conjunction a b) = ExprLawful a × ExprLawful b
    ExprLawful (slots.disjunction a b) = ExprLawful a × ExprLawful b
    ExprLawful (slots.choice c a b) = ExprLawful c × ExprLawful a × ExprLawful b
    ExprLawful (slots.invoke u escaping es) = RowLawful es

    pub RowLawful : SRow Constant → Type 0
    RowLawful slots.none = Unit {0}
    RowLawful (slots.item e es) = ExprLawful e × RowLawful es
    RowLawful (slots.aside i e es) = ExprLawful e × RowLawful es

  abbrev pub ConditionLawful : Option (SlotExpr Constant) → Type 0
  ConditionLawful None = Unit {0}
  ConditionLawful (Some c) = ExprLawful c

  abbrev mutual
    pub StmtLawful : SlotStmt Constant → Type 0
    StmtLawful (slots.put_pooled k) = TextLawful k
    StmtLawful (slots.print q escaping e) = ExprLawful e
    StmtLawful (slots.assign q xs e) = OfTargets SlotLawful xs × ExprLawful e
    StmtLawful (slots.if_else q c a b) = ExprLawful c × BodyLawful a × BodyLawful b
    StmtLawful (slots.for_each q xs e c body other) =
        OfTargets SlotLawful xs
        × ExprLawful e
        × ConditionLawful c
        × BodyLawful body
        × BodyLawful other
    StmtLawful (slots.capture escaping s body) = SlotLawful s × BodyLawful body
    StmtLawful (slots.run u es) = RowLawful es × IsBare es

    pub BodyLawful : SBody Constant → Type 0
    BodyLawful slots.end = Unit {0}
    BodyLawful (slots.stmt s rest) = StmtLawful s × BodyLawful rest

-- The routine has the locals that it uses.
pub record RoutineLawful (front globals : ℕ) (r : Routine Constant) : Type 0 where
  pub body : BodyLawful front globals r.body
  pub locals : body_locals r.body ≤ r.locals

-- The program of these routines, with the given values first in the pool.
abbrev pub program_with : List Text → ℕ → List Tree → List (Routine Constant) → Program
program_with names globals front rs =
    record {
      names = names;
      globals = globals;
      pool = front ++ routines_values rs;
      routines = placed_routines rs (length front);
    }

pub record AreLawful (names : List Text) (globals : ℕ) (front : List Tree) (rs : List (Routine Constant)) : Type 0 where
  pub few : length names ≤ globals
  pub pooled : AllByRecursion IsPooled front
  pub routines : AllByRecursion (RoutineLawful (length front) globals) rs
  -- Each operation and each call has the number of values that it takes, and loop fields occur in
  -- loops.
  pub takes :
      AllByRecursion (λ (r : Routine ℕ).
      BodyTakes the_filters (program_with names globals front rs).routines false r.body)
      (program_with names globals front rs).routines
  pub entry : Routine Constant
  pub is_entry : slice_get rs 0 ≡ Some entry

-- No routine needs more entries than a shape may have.
abbrev pub AreLow : List (Routine Constant) → Type 0
AreLow rs = AllByRecursion (λ (r : Routine Constant). body_height r.body ≤ max_entries) rs
