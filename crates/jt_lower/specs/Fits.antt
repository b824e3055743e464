-- The conditions under which a program's code agrees with the program's meaning. Each number is in
-- its table, each operation has the values that it takes, and loop fields occur only in loops.
use Rattle.std.specs.Prelude.{◌≡◌, ℕ, ◌<◌, ◌≤◌, Bool, true, false, IsTrue, List, [], ◌∷◌, length, Option, Some, None}
use Rattle.std.specs.Prelude.{slice_get}
use Rattle.jt_value.specs.Tree as tree
use Rattle.jt_value.specs.Tree.{Tree}
use Rattle.jt_ids.specs.OpTable.{op_operands}
use Rattle.jt_ids.specs.TestTable.{test_values}
use Rattle.jt_filter_semantics.specs.FilterIds.{filter_of, accepts}
use Rattle.jt_image.specs.Typed.{max_entries}
use Rattle.jt_ir.specs.Takes.{InPairs}
use Rattle.jt_ast.specs.Expressions.{Text}
use Rattle.jt_ir.specs.Slots as slots
use Rattle.jt_ir.specs.Slots.{Slot, local, global, NaryOp, SlotExpr, SRow, Targets, SlotStmt, SBody, Routine, Program}
use Rattle.jt_ir.specs.Size.{row_count, body_height}

-- The operation takes `n` values.
abbrev pub NaryOpFits : NaryOp → ℕ → Type 0
NaryOpFits (slots.operator o) n = op_operands o ≡ n
NaryOpFits (slots.test t) n = test_values t ≡ n
NaryOpFits (slots.filter f escaping) n = IsTrue (accepts (filter_of f) n)
NaryOpFits slots.a_list n = Unit {0}
NaryOpFits slots.a_map n = InPairs n
NaryOpFits slots.required n = n ≡ 1

-- The routine of a call exists and takes `n` values.
pub record TakesRow (rs : List (Routine ℕ)) (u : ℕ) (n : ℕ) : Type 0 where
  pub routine : Routine ℕ
  pub is : slice_get rs u ≡ Some routine
  pub parameters : routine.parameters ≡ n

-- The arguments are only constants and variables and cannot fail: each fault of a statement occurs
-- in a tag.
abbrev pub IsBare : {K : Type 0} → SRow K → Type 0
IsBare slots.none = Unit {0}
IsBare (slots.item (slots.pooled i) es) = IsBare es
IsBare (slots.item (slots.variable s) es) = IsBare es
IsBare (slots.item e es) = ⊥
IsBare (slots.aside i e es) = ⊥

-- A property of a slot, if it exists; of each slot in a list; and of each slot of the targets.
abbrev pub OfSome : (Slot → Type 0) → Option Slot → Type 0
OfSome P None = Unit {0}
OfSome P (Some s) = P s

abbrev pub OfSlots : (Slot → Type 0) → List (Option Slot) → Type 0
OfSlots P [] = Unit {0}
OfSlots P (s ∷ ss) = OfSome P s × OfSlots P ss

abbrev pub OfTargets : (Slot → Type 0) → Targets → Type 0
OfTargets P (slots.one s) = P s
OfTargets P (slots.several ss) = OfSlots P ss

-- The conditions in a program and a routine with this number of locals.
module _ (p : Program) (locals : ℕ) where
  abbrev pub SlotFits : Slot → Type 0
  SlotFits (local i) = i < locals
  SlotFits (global i) = i < p.globals

  -- The conditions on expressions; the flag is true inside a loop of the routine.
  abbrev mutual
    pub ExprFits : Bool → SlotExpr ℕ → Type 0
    ExprFits inside (slots.pooled i) = i < length p.pool
    ExprFits inside (slots.variable s) = SlotFits s
    ExprFits inside (slots.field f) = inside ≡ true
    ExprFits inside slots.absent = ⊥
    ExprFits inside (slots.made k es) = NaryOpFits k (row_count es) × RowFits inside es
    ExprFits inside (slots.conjunction a b) = ExprFits inside a × ExprFits inside b
    ExprFits inside (slots.disjunction a b) = ExprFits inside a × ExprFits inside b
    ExprFits inside (slots.choice c a b) = ExprFits inside c × ExprFits inside a × ExprFits inside b
    ExprFits inside (slots.invoke u escaping es) =
        TakesRow p.routines u (row_count es) × RowFits inside es

    pub RowFits : Bool → SRow ℕ → Type 0
    RowFits inside slots.none = Unit {0}
    RowFits inside (slots.item e es) = ExprFits inside e × RowFits inside es
    RowFits inside (slots.aside i e es) = (i < locals) × ExprFits inside e × RowFits inside es

  -- The condition of a loop fits; it sees no loop.
  abbrev pub ConditionFits : Option (SlotExpr ℕ) → Type 0
  ConditionFits None = Unit {0}
  ConditionFits (Some c) = ExprFits false c

  -- The value is a plain text.
  abbrev pub TextFits : ℕ → Type 0
  TextFits i = (t : Text) × (slice_get p.pool i ≡ Some (tree.text t))

  abbrev mutual
    pub StmtFits : Bool → SlotStmt ℕ → Type 0
    StmtFits inside (slots.put_pooled i) = TextFits i
    StmtFits inside (slots.print q escaping e) = ExprFits inside e
    StmtFits inside (slots.assign q xs e) = OfTargets SlotFits xs × ExprFits inside e
    StmtFits inside (slots.if_else q c a b) =
        ExprFits inside c × BodyFits inside a × BodyFits inside b
    StmtFits inside (slots.for_each q xs e c body other) =
        OfTargets SlotFits xs
        × ExprFits inside e
        × ConditionFits c
        × BodyFits true body
        × BodyFits inside other
    StmtFits inside (slots.capture escaping s body) = SlotFits s × BodyFits inside body
    StmtFits inside (slots.run u es) =
        TakesRow p.routines u (row_count es) × RowFits inside es × IsBare es

    pub BodyFits : Bool → SBody ℕ → Type 0
    BodyFits inside slots.end = Unit {0}
    BodyFits inside (slots.stmt s rest) = StmtFits inside s × BodyFits inside rest

-- A routine starts outside loops, and needs no more entries than a shape may have.
pub record RoutineFits (program : Program) (routine : Routine ℕ) : Type 0 where
  pub body : BodyFits program routine.locals false routine.body
  pub low : body_height routine.body ≤ max_entries

-- The value is neither a list nor a map.
abbrev pub IsPooled : Tree → Type 0
IsPooled (tree.list ts) = ⊥
IsPooled (tree.map es) = ⊥
IsPooled t = Unit {0}

pub record ProgramFits (p : Program) : Type 0 where
  pub routines : (u : ℕ) (r : Routine ℕ) → slice_get p.routines u ≡ Some r → RoutineFits p r
  pub entry : Routine ℕ
  pub is_entry : slice_get p.routines 0 ≡ Some entry
  pub pooled : (i : ℕ) (t : Tree) → slice_get p.pool i ≡ Some t → IsPooled t
  pub names : length p.names ≤ p.globals
