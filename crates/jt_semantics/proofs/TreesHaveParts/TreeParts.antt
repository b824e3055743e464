-- Trees of parts: the forms that a resolved tree consists of, with the tokens that pay for each.
use Rattle.std.specs.Prelude.{◌≡◌, ℕ, zero, suc, ◌+◌, ◌*◌, max, min, ◌≤◌, Bool, List, [], ◌∷◌, length, Option, Some}
use Rattle.std.specs.Prelude.{None}
use Rattle.std.proofs.Common.{arith}
use Rattle.jt_ast.specs.Expressions.{enclosed, Text}
use Rattle.jt_value.specs.Tree as tree
use Rattle.jt_value.specs.Tree.{Tree}
use Rattle.jt_value.specs.Place.{Place}
use Rattle.jt_ids.specs.declared.loop_field.LoopField.{LoopField}
use Rattle.jt_ir.specs.Slots.{Slot, local, NaryOp, required, SlotExpr, pooled, variable, field, absent, made}
use Rattle.jt_ir.specs.Slots.{conjunction, disjunction, choice, invoke, SRow, none, item, aside, Targets, one, several}
use Rattle.jt_ir.specs.Slots.{SlotStmt, put_pooled, print, assign, if_else, for_each, capture, run, SBody, end, stmt}
use Rattle.jt_ir.specs.Pool.{Constant, own, known}
use Rattle.jt_semantics.specs.Resolve.{followed}

-- What a property demands of the parts of a tree.
pub record Parts : Type 1 where
  -- Of a slot that is loaded or stored, and of a constant.
  pub slot : Slot → Type 0
  pub constant : Constant → Type 0
  -- Of the number of parameters of a macro or a block that is called, and of a filter.
  pub called : ℕ → Type 0
  pub filtered : ℕ → Type 0
  -- Of the number of targets, and of the number of names of a chain that is included.
  pub targets : ℕ → Type 0
  pub names : ℕ → Type 0

-- The demand on each slot that is there.
abbrev pub SomeSlot : Parts → Option Slot → Type 0
SomeSlot p None = Unit {0}
SomeSlot p (Some s) = p.slot s

abbrev pub EachSlot : Parts → List (Option Slot) → Type 0
EachSlot p [] = Unit {0}
EachSlot p (s ∷ ss) = SomeSlot p s × EachSlot p ss

-- A read of a slot or of a shared value.
pub data IsRead (p : Parts) : SlotExpr Constant → Type 0 where
  known_read : {i : ℕ} → p.constant (known i) → IsRead p (pooled (known i))
  variable_read : {s : Slot} → p.slot s → IsRead p (variable s)

pub data IsLeaf (p : Parts) : SlotExpr Constant → Type 0 where
  read_leaf : {e : SlotExpr Constant} → IsRead p e → IsLeaf p e
  own_leaf : {v : Tree} → p.constant (own v) → IsLeaf p (pooled (own v))
  field_leaf : {f : LoopField} → IsLeaf p (field f)
  absent_leaf : IsLeaf p absent

-- A row of loads. The first number counts them. The second number is at least that of the defaults
-- of a filter among them, which are values of their own.
pub data LoadsOf (p : Parts) : ℕ → ℕ → SRow Constant → Type 0 where
  no_loads : LoadsOf p zero zero none
  load : {n k j : ℕ} {e : SlotExpr Constant} {es : SRow Constant} → k ≤ j → IsRead p e → LoadsOf p n k es
      → LoadsOf p (suc n) j (item e es)
  default : {n k : ℕ} {v : Tree} {es : SRow Constant} → p.constant (own v) → LoadsOf p n k es
      → LoadsOf p (suc n) (suc k) (item (pooled (own v)) es)

mutual
  -- An expression of parts that the given number of tokens pays for.
  pub data ExprOf (p : Parts) : ℕ → SlotExpr Constant → Type 0 where
    leaf : {e : SlotExpr Constant} → IsLeaf p e → ExprOf p 1 e
    single : {w : ℕ} {k : NaryOp} {a : SlotExpr Constant} → ExprOf p w a → ExprOf p (1 + w) (made k (item a none))
    pair : {w v : ℕ} {k : NaryOp} {a b : SlotExpr Constant} → OperandOf p w a → OperandOf p v b
        → ExprOf p (w + 1 + v) (made k (item a (item b none)))
    -- An operation on a row without arguments by name.
    operation : {w : ℕ} {k : NaryOp} {es : SRow Constant} → RowOf p w 0 0 0 es → ExprOf p (max 1 w) (made k es)
    -- A filter. Its row has loads only if it has arguments by name.
    filter : {w v n m : ℕ} {k : NaryOp} {es : SRow Constant} → p.filtered m → n ≤ m → min 1 n ≤ v
        → RowOf p w v n n es → ExprOf p (w + v + 1) (made k es)
    both : {w v : ℕ} {a b : SlotExpr Constant} → OperandOf p w a → OperandOf p v b
        → ExprOf p (w + 1 + v) (conjunction a b)
    either : {w v : ℕ} {a b : SlotExpr Constant} → OperandOf p w a → OperandOf p v b
        → ExprOf p (w + 1 + v) (disjunction a b)
    when : {w v : ℕ} {c a b : SlotExpr Constant} → ExprOf p w c → ExprOf p v a → IsRead p b
        → ExprOf p (1 + w + v) (choice c a b)
    chosen : {w v u : ℕ} {c a b : SlotExpr Constant} → ExprOf p w c → ExprOf p v a → ExprOf p u b
        → ExprOf p (2 + w + v + u) (choice c a b)
    call : {w v n m u : ℕ} {escaping : Bool} {es : SRow Constant} → p.called m → n ≤ m → RowOf p w v n 0 es
        → ExprOf p (1 + enclosed (w + v)) (invoke u escaping es)
    more : {w v : ℕ} {e : SlotExpr Constant} → w ≤ v → ExprOf p w e → ExprOf p v e

  -- An expression whose value is perhaps required, for which nothing more is paid.
  pub data OperandOf (p : Parts) : ℕ → SlotExpr Constant → Type 0 where
    plain : {w : ℕ} {e : SlotExpr Constant} → ExprOf p w e → OperandOf p w e
    needed : {w : ℕ} {e : SlotExpr Constant} → ExprOf p w e → OperandOf p w (made required (item e none))

  -- A row of parts: arguments by position, arguments by name, and loads. The tokens of the first
  -- and of the second ones pay for the row. The other numbers are those of the loads.
  pub data RowOf (p : Parts) : ℕ → ℕ → ℕ → ℕ → SRow Constant → Type 0 where
    loads : {n k : ℕ} {es : SRow Constant} → LoadsOf p n k es → RowOf p 0 0 n k es
    named : {w v n k i : ℕ} {e : SlotExpr Constant} {es : SRow Constant} → p.slot (local i)
        → ExprOf p w e → RowOf p 0 v n k es → RowOf p 0 (3 + w + v) n k (aside i e es)
    positional : {w v x n k : ℕ} {e : SlotExpr Constant} {es : SRow Constant} → OperandOf p w e → RowOf p x v n k es
        → RowOf p (1 + w + x) v n k (item e es)
    wider : {w v x n k : ℕ} {es : SRow Constant} → w ≤ x → RowOf p w v n k es → RowOf p x v n k es

pub data ConditionOf (p : Parts) : ℕ → Option (SlotExpr Constant) → Type 0 where
  no_condition : ConditionOf p 0 None
  condition : {w : ℕ} {c : SlotExpr Constant} → ExprOf p w c → ConditionOf p (1 + w) (Some c)

pub data TargetsOf (p : Parts) : ℕ → Targets → Type 0 where
  one_target : {s : Slot} → p.slot s → TargetsOf p 1 (one s)
  targets : {n : ℕ} {ss : List (Option Slot)} → length ss ≡ n → EachSlot p ss → TargetsOf p n (several ss)

-- The second body is the first one after the given number of assignments of reads to slots.
pub data CopiesOf (p : Parts) : ℕ → SBody Constant → SBody Constant → Type 0 where
  no_copies : {b : SBody Constant} → CopiesOf p zero b b
  copy : {n : ℕ} {q : Place} {s : Slot} {e : SlotExpr Constant} {b d : SBody Constant} → p.slot s → IsRead p e
      → CopiesOf p n b d → CopiesOf p (suc n) b (stmt (assign q (one s) e) d)

-- The second body is the first one after the given number of assignments of a `with`, whose names
-- are local to its body. The first number is that of their tokens.
pub data ValuesOf (p : Parts) : ℕ → ℕ → SBody Constant → SBody Constant → Type 0 where
  no_values : {b : SBody Constant} → ValuesOf p 0 zero b b
  value : {w v n : ℕ} {q : Place} {s : Slot} {e : SlotExpr Constant} {b d : SBody Constant} → p.slot s → ExprOf p w e
      → ValuesOf p v n b d → ValuesOf p (1 + w + v) (suc n) b (stmt (assign q (one s) e) d)

mutual
  -- A statement of parts: the tokens that pay for it, in addition 2 for each name that it binds,
  -- and the number of names that it sets in its scope.
  pub data StmtOf (p : Parts) : ℕ → ℕ → ℕ → SlotStmt Constant → Type 0 where
    data_part : {t : Text} → p.constant (own (tree.text t)) → StmtOf p 1 0 0 (put_pooled (own (tree.text t)))
    print_part : {w : ℕ} {q : Place} {escaping : Bool} {e : SlotExpr Constant} → OperandOf p w e
        → StmtOf p (4 + w) 0 0 (print q escaping e)
    -- An assignment of a `set`.
    set_part : {w n : ℕ} {q : Place} {xs : Targets} {e : SlotExpr Constant} → p.targets n → TargetsOf p n xs
        → ExprOf p w e → StmtOf p (5 + w) n n (assign q xs e)
    branch_part : {w v u m k c d : ℕ} {q : Place} {e : SlotExpr Constant} {a b : SBody Constant} → ExprOf p w e
        → BodyOf p v m c a → BodyOf p u k d b → StmtOf p (5 + w + v + u) (m + k) (c + d) (if_else q e a b)
    loop_part : {w v u x n m k d : ℕ} {q : Place} {xs : Targets} {e : SlotExpr Constant}
        {c : Option (SlotExpr Constant)} {body other : SBody Constant}
        → p.targets n → TargetsOf p n xs → OperandOf p w e → ConditionOf p v c → BodyOf p u m 0 body
        → BodyOf p x k d other → StmtOf p (8 + w + v + u + x) (n + m + k) d (for_each q xs e c body other)
    capture_part : {w m c : ℕ} {s : Slot} {escaping : Bool} {body : SBody Constant} → c ≤ 1 → p.slot s
        → BodyOf p w m 0 body → StmtOf p (2 + w) m c (capture escaping s body)
    run_part : {n m u : ℕ} {es : SRow Constant} → p.called m → n ≤ m → LoadsOf p n 0 es → StmtOf p 3 0 0 (run u es)

  -- A body of parts. Its numbers add up those of its statements. A scope sets no names outside.
  pub data BodyOf (p : Parts) : ℕ → ℕ → ℕ → SBody Constant → Type 0 where
    empty : BodyOf p 0 0 0 end
    alone : {w m c : ℕ} {s : SlotStmt Constant} → StmtOf p w m c s → BodyOf p w m c (stmt s end)
    after : {w v m k c d : ℕ} {a b : SBody Constant} → BodyOf p w m c a → BodyOf p v k d b
        → BodyOf p (w + v) (m + k) (c + d) (followed a b)
    -- A scope begins with a copy of each name that it sets.
    scope : {w m c : ℕ} {a b : SBody Constant} → 2 * min 1 c ≤ w → CopiesOf p c a b → BodyOf p w m c a
        → BodyOf p w m 0 b
    -- A `with`.
    within : {w v n m : ℕ} {a b : SBody Constant} → ValuesOf p w n a b → BodyOf p v m 0 a
        → BodyOf p (2 + w + v) (n + m) 0 b
    -- An include hands the names of its chain on.
    handed : {n u : ℕ} {b : SBody Constant} → p.names n → CopiesOf p n (stmt (run u none) end) b → BodyOf p 7 0 0 b
    wide : {w v m k c d : ℕ} {b : SBody Constant} → w ≤ v → m ≤ k → d ≤ c → BodyOf p w m c b → BodyOf p v k d b

-- ---- What is paid

pub pays : {p : Parts} {w : ℕ} {e : SlotExpr Constant} → ExprOf p w e → 1 ≤ w
pays (more l e) = omega (arith, pays e)
pays e = omega arith

-- Arguments by name have at least four tokens.
pub names_pay : {p : Parts} {w v n k : ℕ} {es : SRow Constant} → RowOf p w v n k es → 4 * min 1 v ≤ v
names_pay (loads l) = omega arith
names_pay (named s e r) = omega (arith, pays e)
names_pay (positional e r) = names_pay r
names_pay (wider l r) = names_pay r
