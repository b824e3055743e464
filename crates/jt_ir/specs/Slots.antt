-- The resolved templates and their meaning. Each name is a slot of the locals or of the globals,
-- and each macro, block and chain is a routine. `K` represents a constant: its value, or its index
-- in a pool of values.
use Rattle.std.specs.Prelude.{ℕ, zero, suc, Bool, true, false, List, [], ◌∷◌, ◌++◌, map, Option, Some, None, Result}
use Rattle.std.specs.Prelude.{Err, slice_get, if◌then◌else◌}
use Rattle.jt_value.specs.Tree as tree
use Rattle.jt_value.specs.Tree.{Tree}
use Rattle.jt_value.specs.Pairs.{Pairs}
use Rattle.jt_value.specs.declared.fault.Fault.{Fault}
use Rattle.jt_value.specs.declared.fault.Fault.TheVariants as faults
use Rattle.jt_ids.specs.declared.op_id.OpId.{OpId}
use Rattle.jt_ids.specs.declared.test_id.TestId.{TestId}
use Rattle.jt_op_semantics.specs.Operation.{operation, as_truth}
use Rattle.jt_op_semantics.specs.Testing.{tested}
use Rattle.jt_op_semantics.specs.Making.{listed, mapped}
use Rattle.jt_value.specs.Place.{Place}
use Rattle.jt_eval.specs.Eval.{Eval, gives, fails, deeper, bind, checked, at}
use Rattle.jt_eval.specs.Values.{shown, bytes_of, value_in, as_value, defined}
use Rattle.jt_ast.specs.Expressions.{Text}
use Rattle.jt_ids.specs.declared.loop_field.LoopField.{LoopField}
use Rattle.jt_eval.specs.Loops.{Loop, loop_field, items_of_value, tree_at}
use Rattle.jt_eval.specs.Filters.{Filters}

-- The slot that keeps the value of a name.
pub data Slot : Type 0 where
  local : ℕ → Slot
  global : ℕ → Slot

-- An operation that makes one value of a sequence of values.
pub data NaryOp : Type 0 where
  operator : OpId → NaryOp
  test : TestId → NaryOp
  -- The filter's number, and whether escaping is on.
  filter : ℕ → Bool → NaryOp
  a_list : NaryOp
  -- The map of alternating keys and values.
  a_map : NaryOp
  -- The one value itself. An undefined value is the fault Undefined.
  required : NaryOp

mutual
  pub data SlotExpr (K : Type 0) : Type 0 where
    pooled : K → SlotExpr K
    variable : Slot → SlotExpr K
    -- A field of the innermost loop.
    field : LoopField → SlotExpr K
    -- The expression of a name without meaning. It has no instruction, and neither a text nor a
    -- fault at any depth.
    absent : SlotExpr K
    made : NaryOp → SRow K → SlotExpr K
    -- The first operand if it is false, else the second one. A disjunction is the first operand if
    -- it is true, else the second one.
    conjunction : SlotExpr K → SlotExpr K → SlotExpr K
    disjunction : SlotExpr K → SlotExpr K → SlotExpr K
    -- The second operand if the first one is true, else the third one.
    choice : SlotExpr K → SlotExpr K → SlotExpr K → SlotExpr K
    -- The text of a routine that is called with arguments, as markup if the flag is true, else as a
    -- plain text.
    invoke : ℕ → Bool → SRow K → SlotExpr K

  -- A sequence of expressions, from left to right: each is a value of the sequence, or is stored in
  -- a local.
  pub data SRow (K : Type 0) : Type 0 where
    none : SRow K
    item : SlotExpr K → SRow K → SRow K
    aside : ℕ → SlotExpr K → SRow K → SRow K

-- The expression, whose undefined value is a fault if the flag is true.
abbrev pub required_if : {K : Type 0} → Bool → SlotExpr K → SlotExpr K
required_if false e = e
required_if true e = made required (item e none)

-- The target of an assignment: one slot, or slots for the items of the value, each of which may be
-- missing.
pub data Targets : Type 0 where
  one : Slot → Targets
  several : List (Option Slot) → Targets

mutual
  pub data SlotStmt (K : Type 0) : Type 0 where
    -- A statement that appends a plain text as it is.
    put_pooled : K → SlotStmt K
    print : Place → Bool → SlotExpr K → SlotStmt K
    assign : Place → Targets → SlotExpr K → SlotStmt K
    if_else : Place → SlotExpr K → SBody K → SBody K → SlotStmt K
    -- A loop over the items of a value, with a condition or without. The last body is its `else` part.
    for_each : Place → Targets → SlotExpr K → Option (SlotExpr K) → SBody K → SBody K → SlotStmt K
    -- A statement that stores the text of a body in a slot, as markup if the flag is true, else as
    -- a plain text.
    capture : Bool → Slot → SBody K → SlotStmt K
    -- A statement that prints the text of a routine that is called with arguments.
    run : ℕ → SRow K → SlotStmt K

  pub data SBody (K : Type 0) : Type 0 where
    end : SBody K
    stmt : SlotStmt K → SBody K → SBody K

-- A routine, which becomes a unit of code. The parameters are among the locals.
pub record Routine (K : Type 0) : Type 0 where
  pub parameters : ℕ
  pub locals : ℕ
  pub body : SBody K

-- A program:
-- - the names of the first globals, in the order of their slots;
-- - the number of globals;
-- - the pool;
-- - the routines, of which routine 0 is the entry's.
pub record Program : Type 0 where
  pub names : List Text
  pub globals : ℕ
  pub pool : List Tree
  pub routines : List (Routine ℕ)

-- ---- The meaning over slots

-- The memory of a routine: its variables, and the text so far.
pub record Memory : Type 0 where
  pub locals : List Tree
  pub globals : List Tree
  pub out : Text

-- A value, and the memory after it. An argument may be stored in a local, and a call fills the
-- globals of included chains.
pub record Valued : Type 0 where
  pub value : Tree
  pub memory : Memory

pub record Listed : Type 0 where
  pub values : List Tree
  pub memory : Memory

-- The result of a routine: its text, and the globals after it.
pub record Written : Type 0 where
  pub text : Text
  pub globals : List Tree

-- The meaning of calls: from the routine, its arguments and the globals to the result.
abbrev pub SCalls : Type 0
SCalls = ℕ → List Tree → List Tree → Eval Written

-- The value of a slot. A slot outside its table holds undefined.
abbrev pub load : Slot → Memory → Tree
load (local i) memory = tree_at memory.locals i
load (global i) memory = tree_at memory.globals i

abbrev pub put_at : ℕ → Tree → List Tree → List Tree
put_at zero v [] = v ∷ []
put_at zero v (t ∷ ts) = v ∷ ts
put_at (suc i) v [] = tree.undefined ∷ put_at i v []
put_at (suc i) v (t ∷ ts) = t ∷ put_at i v ts

abbrev pub store : Slot → Tree → Memory → Memory
store (local i) v memory = record memory { locals = put_at i v memory.locals }
store (global i) v memory = record memory { globals = put_at i v memory.globals }

abbrev pub store_if : Option Slot → Tree → Memory → Memory
store_if None v memory = memory
store_if (Some s) v memory = store s v memory

-- The memory after one value is stored in each target, the last one first. Another number of values
-- is a fault.
abbrev pub store_each : List (Option Slot) → List Tree → Memory → Eval Memory
store_each [] [] memory = gives memory
store_each (s ∷ ss) (v ∷ vs) memory = bind (store_each ss vs memory) (λ n. gives (store_if s v n))
store_each ss vs memory = fails faults.Unpack None

abbrev pub take : Targets → Tree → Memory → Eval Memory
take (one s) v memory = gives (store s v memory)
take (several ss) v memory = bind (checked (items_of_value v)) (λ vs. store_each ss vs memory)

abbrev pub make : Filters → NaryOp → List Tree → Result Tree Fault
make fs (operator o) vs = operation o vs
make fs (test t) vs = as_truth (tested t vs)
make fs (filter f escaping) vs = fs.operation f escaping vs
make fs a_list vs = listed vs
make fs a_map vs = mapped vs
make fs required (v ∷ []) = defined v
make fs required vs = Err faults.BadType

abbrev pub valued : Memory → Tree → Eval Valued
valued memory v = gives (record { value = v; memory = memory })

-- The memory after the turns of a loop from turn i on.
abbrev pub sturns : (Option Loop → Memory → Eval Memory) → Targets → Place → List Tree → ℕ
    → List Tree → Memory → Eval Memory
sturns body targets place all i [] memory = gives memory
sturns body targets place all i (v ∷ vs) memory =
    bind (at place (take targets v memory)) (λ n.
    bind (body (Some (record { items = all; before = i })) n)
    (sturns body targets place all (suc i) vs))

-- The memory after the turns of a loop, or after the `else` part if there are no items.
abbrev pub seval_loop : (Option Loop → Memory → Eval Memory) → (Memory → Eval Memory) → Targets
    → Place → List Tree → Memory → Eval Memory
seval_loop body other targets place [] memory = other memory
seval_loop body other targets place (v ∷ vs) memory = sturns body targets place (v ∷ vs) 0 (v ∷ vs) memory

-- The results with one more value before them.
abbrev pub in_front : Tree → Listed → Listed
in_front v r = record { values = v ∷ r.values; memory = r.memory }

-- The first n arguments, followed by undefined values up to n.
abbrev pub with_locals : ℕ → List Tree → List Tree
with_locals zero ts = []
with_locals (suc n) [] = tree.undefined ∷ with_locals n []
with_locals (suc n) (t ∷ ts) = t ∷ with_locals n ts

module _ {K : Type 0} (filters : Filters) (constant : K → Tree) (call : SCalls) where
  abbrev mutual
    pub svalue : SlotExpr K → Option Loop → Memory → Eval Valued
    svalue (pooled k) loop memory = valued memory (constant k)
    svalue (variable s) loop memory = valued memory (load s memory)
    svalue (field f) loop memory = bind (loop_field f loop) (valued memory)
    svalue absent loop memory = deeper
    svalue (made k es) loop memory =
        bind (svalues es loop memory) (λ r. bind (checked (make filters k r.values)) (valued r.memory))
    svalue (conjunction a b) loop memory =
        bind (svalue a loop memory) (λ r. if tree.truth r.value then svalue b loop r.memory else gives r)
    svalue (disjunction a b) loop memory =
        bind (svalue a loop memory) (λ r. if tree.truth r.value then gives r else svalue b loop r.memory)
    svalue (choice c a b) loop memory =
        bind (svalue c loop memory)
        (λ r. if tree.truth r.value then svalue a loop r.memory else svalue b loop r.memory)
    svalue (invoke u escaping es) loop memory =
        bind (svalues es loop memory) (λ r. bind (call u r.values r.memory.globals) (λ w.
        valued (record r.memory { globals = w.globals }) (as_value escaping w.text)))

    pub svalues : SRow K → Option Loop → Memory → Eval Listed
    svalues none loop memory = gives (record { values = []; memory = memory })
    svalues (item e es) loop memory =
        bind (svalue e loop memory) (λ r. bind (svalues es loop r.memory) (λ rs. gives (in_front r.value rs)))
    svalues (aside i e es) loop memory =
        bind (svalue e loop memory) (λ r. svalues es loop (store (local i) r.value r.memory))

  -- The items for which the condition holds. Each item is first stored in the targets, and the
  -- condition sees no loop.
  abbrev pub skept : Option (SlotExpr K) → Targets → List Tree → Memory → Eval Listed
  skept None targets vs memory = gives (record { values = vs; memory = memory })
  skept (Some c) targets [] memory = gives (record { values = []; memory = memory })
  skept (Some c) targets (v ∷ vs) memory =
      bind (take targets v memory) (λ n. bind (svalue c None n) (λ r. bind (skept (Some c) targets vs r.memory) (λ rest.
      gives (if tree.truth r.value then in_front v rest else rest))))

  abbrev mutual
    pub smeaning : SlotStmt K → Option Loop → Memory → Eval Memory
    smeaning (put_pooled k) loop memory = gives (record memory { out = memory.out ++ bytes_of (constant k) })
    smeaning (print place escaping e) loop memory =
        at place (bind (svalue e loop memory) (λ r.
        bind (shown escaping r.value)
        (λ s. gives (record r.memory { out = r.memory.out ++ s }))))
    smeaning (assign place targets e) loop memory =
        at place (bind (svalue e loop memory) (λ r. take targets r.value r.memory))
    smeaning (if_else place c a b) loop memory =
        bind (at place (svalue c loop memory))
        (λ r. if tree.truth r.value then smeanings a loop r.memory else smeanings b loop r.memory)
    smeaning (for_each place targets e c body other) loop memory =
        bind (at place (bind (svalue e loop memory)
        (λ r. bind (checked (items_of_value r.value)) (λ vs. skept c targets vs r.memory)))) (λ r.
        seval_loop (smeanings body) (smeanings other loop) targets place r.values r.memory)
    smeaning (capture escaping s body) loop memory =
        bind (smeanings body loop (record memory { out = [] }))
        (λ n. gives (store s (as_value escaping n.out) (record n { out = memory.out })))
    smeaning (run u es) loop memory =
        bind (svalues es loop memory) (λ r.
        bind (call u r.values r.memory.globals)
        (λ w. gives (record r.memory { globals = w.globals; out = r.memory.out ++ w.text })))

    pub smeanings : SBody K → Option Loop → Memory → Eval Memory
    smeanings end loop memory = gives memory
    smeanings (stmt s rest) loop memory = bind (smeaning s loop memory) (smeanings rest loop)

  -- The result of a routine that is called with arguments. Locals after the arguments begin as
  -- undefined.
  abbrev pub seval_invocation : Option (Routine K) → List Tree → List Tree → Eval Written
  seval_invocation None ts gs = deeper
  seval_invocation (Some r) ts gs =
      bind (smeanings r.body None
      (record { locals = with_locals r.locals ts; globals = gs; out = [] }))
      (λ m. gives (record { text = m.out; globals = m.globals }))

-- The results of calls of these routines, at most n deep.
abbrev pub scalls : {K : Type 0} → Filters → (K → Tree) → List (Routine K) → ℕ → SCalls
scalls filters constant rs zero u ts gs = deeper
scalls filters constant rs (suc n) u ts gs =
    seval_invocation filters constant (scalls filters constant rs n) (slice_get rs u) ts gs

-- The named globals of a run: the context's values of these names.
abbrev pub globals_of : Pairs → List Text → List Tree
globals_of context ns = map (value_in context) ns

-- The text of routine 0 with these globals, with calls at most n deep.
abbrev pub smean_of : {K : Type 0} → Filters → (K → Tree) → List (Routine K) → List Tree → ℕ
    → Eval Text
smean_of filters constant rs gs n =
    bind (seval_invocation filters constant (scalls filters constant rs n) (slice_get rs 0) [] gs)
    (λ w. gives w.text)

-- The text of a program in a context, with calls at most n deep. Globals without a name begin as
-- undefined.
abbrev pub smean : Filters → Program → Pairs → ℕ → Eval Text
smean filters p context n =
    smean_of filters (tree_at p.pool) p.routines
    (with_locals p.globals (globals_of context p.names)) n
