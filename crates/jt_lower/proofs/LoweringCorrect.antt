-- The structured code of a resolved program does what the program means.
use Rattle.std.proofs.Common.{◌≡◌, ◌≢◌, ℕ, zero, suc, ◌+◌, ◌-◌, ◌*◌, ◌<◌, ◌≤◌, Bool, arith, Result, Ok, Err, append-nil}
use Rattle.std.proofs.Common.{append_assoc, true, false, if◌then◌else◌, eqb, List, [], ◌∷◌, ◌++◌, length, Option, Some}
use Rattle.std.proofs.Common.{None, refl, sym, ap, ◌∙◌, subst, length-append, rules}
use Rattle.std.specs.Prelude.{slice_get, slice_set, ◌==◌, nat_lt, unwrap_or}
use Rattle.std.specs.Option.{option_map}
use Rattle.std.proofs.lemmas.Bool.Decides.{Decides-eqb, nat_tests}
use Rattle.std.proofs.lemmas.List.{length-set}
use Rattle.std.proofs.lemmas.Option.{slice_get-map}
use Rattle.jt_value.specs.Tree as tree
use Rattle.jt_value.specs.Tree.{Tree, Items}
use Rattle.jt_value.specs.Iteration.{items_of_tree}
use Rattle.jt_value.specs.declared.fault.Fault.{Fault}
use Rattle.jt_value.specs.declared.fault.Fault.TheVariants as faults
use Rattle.jt_escape.specs.Escaping.{escaped}
use Rattle.jt_image.specs.declared.instruction.Instruction.TheVariants as op
use Rattle.jt_ids.specs.declared.loop_field.LoopField.TheVariants as of_loop
use Rattle.jt_image.specs.Code.{Code}
use Rattle.jt_image.specs.Config.{Frame, StackEntry, value, frame, capture, State}
use Rattle.jt_ids.specs.LoopTable.{field_of, field_id}
use Rattle.jt_image.specs.Loops.{trees_of, loop_over, item_at, loop_field_value}
use Rattle.jt_image.specs.Step as step
use Rattle.jt_image.specs.Ids.{operator_of, operands_of, filter_of, test_of}
use Rattle.jt_image.specs.Step.{broken, goes, plain, as_frame, on_values, push_given, loop_field_or_undefined, piled}
use Rattle.jt_image.specs.Step.{spreads, unpacks, begins, makes, operated, filtered_by, tested_by, with_entries}
use Rattle.jt_image.specs.Step.{put_printed, constant_value, text_of}
use Rattle.jt_ids.specs.declared.op_id.OpId.{OpId}
use Rattle.jt_ids.specs.declared.op_id.OpId.TheVariants as operators
use Rattle.jt_ids.specs.declared.test_id.TestId.{TestId}
use Rattle.jt_ids.specs.declared.test_id.TestId.TheVariants as tests
use Rattle.jt_op_semantics.specs.Testing.{is_undefined}
use Rattle.jt_ids.specs.OpTable.{op_id}
use Rattle.jt_ids.specs.TestTable.{test_id}
use Rattle.jt_op_semantics.specs.Making.{listed, mapped}
use Rattle.jt_ir.specs.Takes.{InPairs}
use Rattle.jt_value.specs.Place.{Place}
use Rattle.jt_eval.specs.Eval.{Eval, gives, fails, deeper, bind, checked, at}
use Rattle.jt_eval.specs.Values.{shown, shown_text, bytes_of, as_value, defined}
use Rattle.jt_ast.specs.Expressions.{Text}
use Rattle.jt_eval.specs.TheFilters.{the_filters}
use Rattle.jt_ids.specs.declared.loop_field.LoopField.{LoopField}
use Rattle.jt_eval.specs.Loops.{Loop, result_listed, items_of_value, tree_at}
use Rattle.jt_ir.specs.Slots as slots
use Rattle.jt_ir.specs.Slots.{Slot, local, global, NaryOp, SlotExpr, SRow, Targets, SlotStmt, SBody, Program, Memory}
use Rattle.jt_ir.specs.Slots.{Valued, Listed, Written, SCalls, load, put_at, store, store_if, store_each, take, make}
use Rattle.jt_ir.specs.Slots.{valued, sturns, seval_loop, in_front, svalue, svalues, skept, smeaning, smeanings}
use Rattle.jt_lower.specs.Asm.{Asm, one, both, choose, when, each, invoke, AsmEval, does, stops, bad, and_then}
use Rattle.jt_lower.specs.Asm.{of_plain, turns, of_written, run}
use Rattle.jt_ir.specs.Size.{row_count}
use Rattle.jt_lower.specs.Lower.{half, required_asm, made_asm, flag, load_of, store_of, expr_asm, row_asm}
use Rattle.jt_lower.specs.Lower.{store_if_of, stores_asm}
use Rattle.jt_lower.specs.Lower.{take_asm, turn_asm, over_asm, kept_asm, stmt_asm, body_asm, unit_of, lowered}
use Rattle.jt_lower.specs.Fits.{OfSlots, OfSome, OfTargets, NaryOpFits, TakesRow, SlotFits, ExprFits, RowFits}
use Rattle.jt_lower.specs.Fits.{ConditionFits, StmtFits, BodyFits}
use Rattle.jt_lower.proofs.LoopFieldsAgree.{lt_false, listed_same, has_field, IsTurn, told_same}
use Rattle.jt_lower.proofs.Simulation.{Does, same_run, same_meaning, then_does, then_gives, finished, carried}
use Rattle.jt_lower.proofs.Simulation.{mapped_does, placed, either, and_then_assoc}

-- The state with the variables of a memory.
abbrev pub at_bufs : List StackEntry → List (List ℕ) → Memory → State
at_bufs es bs m = record { entries = es; locals = m.locals; globals = m.globals; buffers = bs }

-- The state with the variables of a memory, and with its text after the given one.
abbrev pub at_memory : List StackEntry → Text → List (List ℕ) → Memory → State
at_memory es pre bufs m = at_bufs es ((pre ++ m.out) ∷ bufs) m

pub lt_true : (a b : ℕ) → a < b → nat_lt a b ≡ true
lt_true a b h = grind (arith, nat_tests)

pub eq_true : (a b : ℕ) → a ≡ b → (a == b) ≡ true
eq_true a b h = grind (arith, nat_tests)

eq_untold : (a b : ℕ) → (a == b) ≡ false → a ≢ b
eq_untold a b h = grind (arith, nat_tests)

-- ---- sequences of values

pub popped : {A : Type 0} (vs acc : List Tree) (es : List StackEntry) (n : ℕ) (z : A)
    (f : List Tree → List StackEntry → A)
    → on_values (length vs + n) acc (piled vs es) z f ≡ on_values n (vs ++ acc) es z f
popped [] acc es n z f = let e : 0 + n ≡ n = omega arith in ap (λ i. on_values i acc es z f) e
popped (v ∷ vs) acc es n z f = search (arith, rules, popped vs acc (value v ∷ es) (suc n) z f)

pub popped_all : {A : Type 0} (vs : List Tree) (es : List StackEntry) (n : ℕ) (z : A)
    (f : List Tree → List StackEntry → A)
    → length vs ≡ n → on_values n [] (piled vs es) z f ≡ f vs es
popped_all vs es n z f e = search (arith, rules, popped vs [] es 0 z f, append-nil vs)

pub has_operator : (x : OpId) → operator_of (op_id x) ≡ Some x
unfolding operator_of
has_operator x = search (arith, rules)

pub has_test : (x : TestId) → test_of (test_id x) ≡ Some x
unfolding test_of
has_test x = search (arith, rules)

-- Keys and values in turn are two for each entry.
pub halved : (n : ℕ) → InPairs n → 2 * half n ≡ n
halved zero h = refl
halved (suc zero) h = absurd h
halved (suc (suc n)) h = omega (arith, halved n h)

-- ---- slots

put_same : (i : ℕ) (v : Tree) (ts : List Tree) → i < length ts → slice_set ts i v ≡ put_at i v ts
put_same i v [] h = absurd (omega arith)
put_same zero v (t ∷ ts) h = refl
put_same (suc i) v (t ∷ ts) h = ap (λ xs. t ∷ xs) (put_same i v ts (omega arith))

put_len : (i : ℕ) (v : Tree) (ts : List Tree) → i < length ts → length (put_at i v ts) ≡ length ts
put_len i v ts h = ap length (sym (put_same i v ts h)) ∙ length-set ts i v

-- The constants of a code are the values of the pool.
pub record HasPool (k : Code) (pool : List Tree) : Type 0 where
  pub values : (i : ℕ) → constant_value (slice_get k.constants i) ≡ tree_at pool i
  pub texts : (i : ℕ) → text_of (slice_get k.constants i) ≡ bytes_of (tree_at pool i)

abbrev pub put_text : Memory → Text → Memory
put_text m s = record m { out = m.out ++ s }

-- A call preserves the number of globals.
abbrev pub Keeps : ℕ → Eval Written → Type 0
Keeps g (gives w) = length w.globals ≡ g
Keeps g (fails e q) = Unit {0}
Keeps g deeper = Unit {0}

abbrev pub CallsKeep : ℕ → SCalls → Type 0
CallsKeep g call = (u : ℕ) (ts gs : List Tree) → length gs ≡ g → Keeps g (call u ts gs)

-- Some buffer is open.
abbrev pub IsOpen : List (List ℕ) → Type 0
IsOpen [] = ⊥
IsOpen (b ∷ bs) = Unit {0}

-- In a loop, its frame lies below `h` entries.
abbrev pub FrameAt : Bool → ℕ → List StackEntry → Option Loop → Type 0
FrameAt false h es l = Unit {0}
FrameAt true h es l = (f : Frame) × (slice_get es h ≡ Some (frame f)) × IsTurn f l

pub raise : (inside : Bool) (h : ℕ) (e : StackEntry) (es : List StackEntry) (l : Option Loop) → FrameAt inside h es l
    → FrameAt inside (suc h) (e ∷ es) l
raise inside h e es l f = search (arith, rules)

-- The memory of a routine: `count` locals, and the globals of the program.
pub record SizedIn (p : Program) (count : ℕ) (m : Memory) : Type 0 where
  pub locals : length m.locals ≡ count
  pub globals : length m.globals ≡ p.globals

-- The memory of a routine with this text.
pub record KeptIn (p : Program) (count : ℕ) (out : Text) (m : Memory) : Type 0 where
  pub locals : length m.locals ≡ count
  pub globals : length m.globals ≡ p.globals
  pub text : m.out ≡ out

wrong_count : (ss : List (Option Slot)) (vs : List Tree) (m : Memory) → length vs ≢ length ss
    → store_each ss vs m ≡ fails faults.Unpack None
wrong_count (s ∷ ss) (v ∷ vs) m h = search (arith, rules, wrong_count ss vs m)
wrong_count ss vs m h = search (arith, rules)

module _ (p : Program) (call : SCalls) (has : HasPool (lowered p) p.pool) (keep : CallsKeep p.globals call)
    (count : ℕ) where
  abbrev k : Code
  k = lowered p

  abbrev code : Asm → State → AsmEval
  code a s = run k call a s

  abbrev Kept : Text → Memory → Type 0
  Kept out m = KeptIn p count out m

  abbrev Sized : Memory → Type 0
  Sized m = SizedIn p count m

  abbrev KeptValue : Text → Valued → Type 0
  KeptValue out r = Kept out r.memory

  abbrev ValueOn : List StackEntry → List (List ℕ) → Valued → State
  ValueOn es bs r = at_bufs (value r.value ∷ es) bs r.memory

  -- ---- stores

  store_does : (s : Slot) (v : Tree) (q : Option Place) (es : List StackEntry) (bs : List (List ℕ)) (out : Text)
      (m : Memory)
      → SlotFits p count s → Kept out m
      → (code (one q (store_of s)) (at_bufs (value v ∷ es) bs m) ≡ does (at_bufs es bs (store s v m)))
      × Kept out (store s v m)
  store_does s v q es bs out m fit w = search (arith, rules, put_same, put_len)

  store_if_does : (s : Option Slot) (v : Tree) (q : Option Place) (es : List StackEntry) (bs : List (List ℕ))
      (out : Text) (m : Memory)
      → OfSome (SlotFits p count) s → Kept out m
      → (code (one q (store_if_of s)) (at_bufs (value v ∷ es) bs m) ≡ does (at_bufs es bs (store_if s v m)))
      × Kept out (store_if s v m)
  store_if_does None v q es bs out m fit w = (refl, w)
  store_if_does (Some s) v q es bs out m fit w = store_does s v q es bs out m fit w

  stores_do : (ss : List (Option Slot)) (vs : List Tree) (q : Option Place) (es : List StackEntry) (bs : List (List ℕ))
      (out : Text) (m : Memory)
      → length vs ≡ length ss → OfSlots (SlotFits p count) ss → Kept out m
      → Does q (Kept out) (at_bufs es bs) (code (stores_asm q ss) (at_bufs (piled vs es) bs m)) (store_each ss vs m)
  stores_do [] [] q es bs out m e fit w = (refl, w)
  stores_do [] (v ∷ vs) q es bs out m e fit w = absurd (omega arith)
  stores_do (s ∷ ss) [] q es bs out m e fit w = absurd (omega arith)
  stores_do (s ∷ ss) (v ∷ vs) q es bs out m e fit w =
      then_gives q (Kept out) (at_bufs (value v ∷ es) bs) (Kept out) (at_bufs es bs)
      (code (stores_asm q ss) (at_bufs (piled vs (value v ∷ es)) bs m)) (store_each ss vs m)
      (code (one q (store_if_of s))) (store_if s v)
      (stores_do ss vs q (value v ∷ es) bs out m (omega arith) fit.1 w)
      (λ n w'. store_if_does s v q es bs out n fit.0 w')

  spread_does : (b : Bool) (ss : List (Option Slot)) (vs : List Tree) (q : Option Place) (es : List StackEntry)
      (bs : List (List ℕ)) (out : Text) (m : Memory) (fs : List StackEntry)
      → (length vs == length ss) ≡ b → OfSlots (SlotFits p count) ss → Kept out m
      → Does q (Kept out) (at_bufs es bs)
      (and_then (of_plain q (spreads (length ss) vs es (at_bufs fs bs m))) (code (stores_asm q ss)))
      (store_each ss vs m)
  spread_does true ss vs q es bs out m fs e fit w =
      same_run q (Kept out) (at_bufs es bs) _ (code (stores_asm q ss) (at_bufs (piled vs es) bs m)) (store_each ss vs m)
      (ap (λ t. and_then (of_plain q (if t
      then goes (with_entries (at_bufs fs bs m) (piled vs es)) (step.pushing_all vs) else step.faults_by faults.Unpack))
      (code (stores_asm q ss))) e)
      (stores_do ss vs q es bs out m ((Decides-eqb (length vs) (length ss)).0 e) fit w)
  spread_does false ss vs q es bs out m fs e fit w = search (arith, rules, same_meaning, wrong_count, eq_untold)

  unpack_does : (r : Result Items Fault) (ss : List (Option Slot)) (q : Option Place) (es : List StackEntry)
      (bs : List (List ℕ)) (out : Text) (m : Memory) (fs : List StackEntry)
      → OfSlots (SlotFits p count) ss → Kept out m
      → Does q (Kept out) (at_bufs es bs)
      (and_then (of_plain q (unpacks (length ss) r es (at_bufs fs bs m))) (code (stores_asm q ss)))
      (bind (checked (result_listed r)) (λ vs. store_each ss vs m))
  unpack_does (Ok ts) ss q es bs out m fs fit w =
      subst (λ vs. Does q (Kept out) (at_bufs es bs)
      (and_then (of_plain q (spreads (length ss) (trees_of ts) es (at_bufs fs bs m))) (code (stores_asm q ss)))
      (store_each ss vs m))
      (listed_same ts)
      (spread_does (length (trees_of ts) == length ss) ss (trees_of ts) q es bs out m fs refl fit w)
  unpack_does (Err e) ss q es bs out m fs fit w = refl

  take_does : (xs : Targets) (v : Tree) (q : Option Place) (es : List StackEntry) (bs : List (List ℕ)) (out : Text)
      (m : Memory)
      → OfTargets (SlotFits p count) xs → Kept out m
      → Does q (Kept out) (at_bufs es bs) (code (take_asm q xs) (at_bufs (value v ∷ es) bs m)) (take xs v m)
  take_does (slots.one s) v q es bs out m fit w = store_does s v q es bs out m fit w
  take_does (slots.several ss) v q es bs out m fit w =
      unpack_does (items_of_tree v) ss q es bs out m (value v ∷ es) fit w

  -- ---- operations on sequences

  checked_does : (r : Result Tree Fault) (q : Option Place) (es : List StackEntry) (bs : List (List ℕ)) (out : Text)
      (m : Memory) (fs : List StackEntry)
      → Kept out m
      → Does q (KeptValue out) (ValueOn es bs) (of_plain q (push_given r es (at_bufs fs bs m)))
      (bind (checked r) (valued m))
  checked_does r q es bs out m fs w = search (arith, rules)

  made_by : (n : ℕ) (operate : List Tree → Result Tree Fault) (vs : List Tree) (q : Option Place) (es : List StackEntry)
      (bs : List (List ℕ)) (out : Text) (m : Memory)
      → length vs ≡ n → Kept out m
      → Does q (KeptValue out) (ValueOn es bs) (of_plain q (makes n operate (at_bufs (piled vs es) bs m)))
      (bind (checked (operate vs)) (valued m))
  made_by n operate vs q es bs out m e w = search (arith, rules, same_run, popped_all, checked_does)

  -- The test replaces the copy of the value.
  copy_tested : (v : Tree) (q : Option Place) (es : List StackEntry) (bs : List (List ℕ)) (m : Memory)
      → code (one q (op.Test (test_id tests.Undefined) 1)) (at_bufs (value v ∷ value v ∷ es) bs m)
      ≡ does (at_bufs (value (tree.truth_value (is_undefined v)) ∷ value v ∷ es) bs m)
  copy_tested v q es bs m =
      ap (λ x. of_plain q (makes 1 (tested_by x) (at_bufs (value v ∷ value v ∷ es) bs m))) (has_test tests.Undefined)

  -- The operator fails for undefined.
  operator_fails : (q : Option Place) (es : List StackEntry) (bs : List (List ℕ)) (m : Memory)
      → code (one q (op.Op (op_id operators.Negate))) (at_bufs (value tree.undefined ∷ es) bs m)
      ≡ stops faults.Undefined q
  operator_fails q es bs m =
      ap (λ x. of_plain q (makes (operands_of x) (operated x) (at_bufs (value tree.undefined ∷ es) bs m)))
      (has_operator operators.Negate)

  -- Only undefined reaches the operator.
  undefined_fails : (v : Tree) (q : Option Place) (es : List StackEntry) (bs : List (List ℕ)) (out : Text) (m : Memory)
      → Kept out m
      → Does q (KeptValue out) (ValueOn es bs)
      (code (when (one q (op.Op (op_id operators.Negate))))
      (at_bufs (value (tree.truth_value (is_undefined v)) ∷ value v ∷ es) bs m))
      (bind (checked (defined v)) (valued m))
  undefined_fails tree.undefined q es bs out m w = operator_fails q es bs m
  undefined_fails v q es bs out m w = search (arith, rules)

  required_does : (v : Tree) (q : Option Place) (es : List StackEntry) (bs : List (List ℕ)) (out : Text) (m : Memory)
      → Kept out m
      → Does q (KeptValue out) (ValueOn es bs)
      (code (required_asm q) (at_bufs (value v ∷ es) bs m)) (bind (checked (defined v)) (valued m))
  required_does v q es bs out m w =
      same_run q (KeptValue out) (ValueOn es bs) _
      (code (when (one q (op.Op (op_id operators.Negate))))
      (at_bufs (value (tree.truth_value (is_undefined v)) ∷ value v ∷ es) bs m))
      (bind (checked (defined v)) (valued m))
      (ap (λ x. and_then x (code (when (one q (op.Op (op_id operators.Negate)))))) (copy_tested v q es bs m))
      (undefined_fails v q es bs out m w)

  need_does : (vs : List Tree) (q : Option Place) (es : List StackEntry) (bs : List (List ℕ)) (out : Text) (m : Memory)
      → length vs ≡ 1 → Kept out m
      → Does q (KeptValue out) (ValueOn es bs)
      (code (required_asm q) (at_bufs (piled vs es) bs m))
      (bind (checked (make the_filters slots.required vs)) (valued m))
  need_does (v ∷ []) q es bs out m e w = required_does v q es bs out m w
  need_does [] q es bs out m e w = absurd (omega arith)
  need_does (v ∷ u ∷ vs) q es bs out m e w = absurd (omega arith)

  made_does : (h : NaryOp) (n : ℕ) (vs : List Tree) (q : Option Place) (es : List StackEntry) (bs : List (List ℕ))
      (out : Text) (m : Memory)
      → NaryOpFits h n → length vs ≡ n → Kept out m
      → Does q (KeptValue out) (ValueOn es bs) (code (made_asm q h n) (at_bufs (piled vs es) bs m))
      (bind (checked (make the_filters h vs)) (valued m))
  unfolding the_filters
  made_does (slots.operator x) n vs q es bs out m fit e w = search (arith, rules, same_run, has_operator, made_by)
  made_does (slots.test x) n vs q es bs out m fit e w = search (arith, rules, same_run, has_test, made_by)
  made_does (slots.filter f true) n vs q es bs out m fit e w =
      made_by n (filtered_by (filter_of f) true) vs q es bs out m e w
  made_does (slots.filter f false) n vs q es bs out m fit e w =
      made_by n (filtered_by (filter_of f) false) vs q es bs out m e w
  made_does slots.a_list n vs q es bs out m fit e w = made_by n listed vs q es bs out m e w
  made_does slots.a_map n vs q es bs out m fit e w =
      made_by (2 * half n) mapped vs q es bs out m (e ∙ sym (halved n fit)) w
  made_does slots.required n vs q es bs out m fit e w = need_does vs q es bs out m (e ∙ fit) w

  -- ---- calls

  unit_at : (u n : ℕ) (x : TakesRow p.routines u n) → slice_get k.units u ≡ Some (unit_of x.routine)
  unit_at u n x = slice_get-map unit_of p.routines u ∙ ap (option_map unit_of) x.is

  call_runs : (u n : ℕ) (vs : List Tree) (q : Option Place) (es : List StackEntry) (out : Text) (bufs : List (List ℕ))
      (m : Memory)
      → TakesRow p.routines u n → length vs ≡ n → length m.globals ≡ p.globals
      → code (invoke q u) (at_bufs (piled vs es) (out ∷ bufs) m)
      ≡ of_written q (call u vs m.globals) es m.locals out bufs
  call_runs u n vs q es out bufs m x e g =
      search (arith, rules, unit_at u n x, popped_all vs es x.routine.parameters bad, eq_true (length m.globals))

  captured : (g : Eval Written) (escaping : Bool) (q : Option Place) (es : List StackEntry) (bs : List (List ℕ))
      (out : Text) (m : Memory)
      → Keeps p.globals g → Kept out m → IsOpen bs
      → Does q (KeptValue out) (ValueOn es bs)
      (and_then (of_written q g (capture ∷ es) m.locals [] bs) (code (one q (op.CaptureEnd (flag escaping)))))
      (bind g (λ w. valued (record m { globals = w.globals }) (as_value escaping w.text)))
  captured g escaping q es bs out m fit h opened = search (arith, rules)

  -- ---- expressions

  abbrev Means : SlotExpr ℕ → Option Loop → Memory → Eval Valued
  Means e l m = svalue the_filters (tree_at p.pool) call e l m

  abbrev MeansRow : SRow ℕ → Option Loop → Memory → Eval Listed
  MeansRow r l m = svalues the_filters (tree_at p.pool) call r l m

  abbrev KeptRow : Text → ℕ → Listed → Type 0
  KeptRow out n y = Kept out y.memory × (length y.values ≡ n)

  abbrev RowOn : List StackEntry → List (List ℕ) → Listed → State
  RowOn es bs y = at_bufs (piled y.values es) bs y.memory

  field_does : (x : LoopField) (q : Option Place) (inside : Bool) (h : ℕ) (l : Option Loop) (es : List StackEntry)
      (bs : List (List ℕ)) (out : Text) (m : Memory)
      → inside ≡ true → FrameAt inside h es l → Kept out m
      → Does q (KeptValue out) (ValueOn es bs) (code (expr_asm q (slots.field x) h) (at_bufs es bs m))
      (Means (slots.field x) l m)
  field_does x q false h l es bs out m e fr w = absurd cc
  field_does x q true h l es bs out m e fr w =
      same_run q (KeptValue out) (ValueOn es bs) _
      (of_plain q (push_given (loop_field_value x fr.0) es (at_bufs es bs m))) (Means (slots.field x) l m)
      (ap (λ y. of_plain q
      (as_frame y broken (λ f. push_given (loop_field_or_undefined (field_of (field_id x)) f) es (at_bufs es bs m))))
      fr.1
      ∙ ap (λ y. of_plain q (push_given (loop_field_or_undefined y fr.0) es (at_bufs es bs m))) (has_field x))
      (same_meaning q (KeptValue out) (ValueOn es bs) _ (Means (slots.field x) l m)
      (bind (checked (loop_field_value x fr.0)) (valued m))
      (ap (λ g. bind g (valued m)) (sym (told_same x fr.0 l fr.2)))
      (checked_does (loop_field_value x fr.0) q es bs out m es w))

  load_does : (s : Slot) (q : Option Place) (es : List StackEntry) (bs : List (List ℕ)) (m : Memory)
      → code (one q (load_of s)) (at_bufs es bs m) ≡ does (at_bufs (value (load s m) ∷ es) bs m)
  load_does s q es bs m = search (arith, rules)

  mutual
    pub expr_does : (e : SlotExpr ℕ) (q : Option Place) (inside : Bool) (h : ℕ) (l : Option Loop) (es : List StackEntry)
        (bs : List (List ℕ)) (out : Text) (m : Memory)
        → ExprFits p count inside e → FrameAt inside h es l → Kept out m → IsOpen bs
        → Does q (KeptValue out) (ValueOn es bs) (code (expr_asm q e h) (at_bufs es bs m)) (Means e l m)
    expr_does (slots.pooled i) q inside h l es bs out m fit fr w opened = search (arith, rules)
    expr_does (slots.variable s) q inside h l es bs out m fit fr w opened = (load_does s q es bs m, w)
    expr_does (slots.field x) q inside h l es bs out m fit fr w opened = field_does x q inside h l es bs out m fit fr w
    expr_does slots.absent q inside h l es bs out m fit fr w opened = absurd fit
    expr_does (slots.made x r) q inside h l es bs out m fit fr w opened =
        then_does q (KeptRow out (row_count r)) (RowOn es bs) (KeptValue out) (ValueOn es bs)
        (code (row_asm q r h) (at_bufs es bs m)) (MeansRow r l m) (code (made_asm q x (row_count r)))
        (λ y. bind (checked (make the_filters x y.values)) (valued y.memory))
        (row_does r q inside h l es bs out m fit.1 fr w opened)
        (λ y j. made_does x (row_count r) y.values q es bs out y.memory fit.0 j.1 j.0)
    expr_does (slots.conjunction a b) q inside h l es bs out m fit fr w opened =
        search (
          arith,
          rules,
          then_does,
          expr_does a q inside h l es bs out m fit.0 fr w opened,
          either,
          expr_does b q inside h l es bs out,
        )
    expr_does (slots.disjunction a b) q inside h l es bs out m fit fr w opened =
        search (
          arith,
          rules,
          then_does,
          expr_does a q inside h l es bs out m fit.0 fr w opened,
          either,
          expr_does b q inside h l es bs out,
        )
    expr_does (slots.choice c a b) q inside h l es bs out m fit fr w opened =
        search (
          arith,
          rules,
          then_does,
          expr_does c q inside h l es bs out m fit.0 fr w opened,
          either,
          expr_does a q inside h l es bs out,
          expr_does b q inside h l es bs out,
        )
    expr_does (slots.invoke u escaping r) q inside h l es bs out m fit fr w opened =
        search (
          arith,
          rules,
          then_does,
          row_does r q inside (suc h) l (capture ∷ es) ([] ∷ bs) out m fit.1 (raise inside h capture es l fr) w tt,
          raise,
          same_run,
          call_runs,
          captured,
        )

    -- A sequence has one result for each of its values.
    pub row_does : (r : SRow ℕ) (q : Option Place) (inside : Bool) (h : ℕ) (l : Option Loop) (es : List StackEntry)
        (bs : List (List ℕ)) (out : Text) (m : Memory)
        → RowFits p count inside r → FrameAt inside h es l → Kept out m → IsOpen bs
        → Does q (KeptRow out (row_count r)) (RowOn es bs) (code (row_asm q r h) (at_bufs es bs m)) (MeansRow r l m)
    row_does slots.none q inside h l es bs out m fit fr w opened = (refl, (w, refl))
    row_does (slots.item e r) q inside h l es bs out m fit fr w opened =
        then_does q (KeptValue out) (ValueOn es bs) (KeptRow out (suc (row_count r))) (RowOn es bs)
        (code (expr_asm q e h) (at_bufs es bs m)) (Means e l m) (code (row_asm q r (suc h)))
        (λ y. bind (MeansRow r l y.memory) (λ ys. gives (in_front y.value ys)))
        (expr_does e q inside h l es bs out m fit.0 fr w opened)
        (λ y w'. mapped_does q (KeptRow out (row_count r)) (RowOn (value y.value ∷ es) bs)
        (KeptRow out (suc (row_count r))) (RowOn es bs)
        (code (row_asm q r (suc h)) (at_bufs (value y.value ∷ es) bs y.memory)) (MeansRow r l y.memory)
        (in_front y.value)
        (row_does r q inside (suc h) l (value y.value ∷ es) bs out y.memory fit.1
        (raise inside h (value y.value) es l fr) w' opened)
        (λ ys j. (refl, (j.0, ap suc j.1))))
    row_does (slots.aside i e r) q inside h l es bs out m fit fr w opened =
        then_does q (KeptValue out) (ValueOn es bs) (KeptRow out (row_count r)) (RowOn es bs)
        (code (expr_asm q e h) (at_bufs es bs m)) (Means e l m) (code (both (one q (op.Store i)) (row_asm q r h)))
        (λ y. MeansRow r l (store (local i) y.value y.memory))
        (expr_does e q inside h l es bs out m fit.1 fr w opened)
        (λ y w'.
        let s = store_does (local i) y.value q es bs out y.memory fit.0 w' in
        same_run q (KeptRow out (row_count r)) (RowOn es bs) _
        (code (row_asm q r h) (at_bufs es bs (store (local i) y.value y.memory)))
        (MeansRow r l (store (local i) y.value y.memory)) (ap (λ z. and_then z (code (row_asm q r h))) s.0)
        (row_does r q inside h l es bs out (store (local i) y.value y.memory) fit.2 fr s.1 opened))

  -- ---- loops

  abbrev framed : List Tree → ℕ → List Tree → List StackEntry → List StackEntry
  framed all b kept es = frame (record { items = all; position = b; kept = kept }) ∷ es

  slice_seam : (done rest : List Tree) (v : Tree) → slice_get (done ++ v ∷ rest) (length done) ≡ Some v
  slice_seam [] rest v = refl
  slice_seam (d ∷ done) rest v = slice_seam done rest v

  current_is : (all done rest : List Tree) (v : Tree) (b : ℕ) → all ≡ done ++ v ∷ rest → b ≡ length done
      → slice_get all b ≡ Some v
  current_is all done rest v b e n = search (arith, rules, slice_seam)

  -- A loop with an item left executes another turn.
  goes_round : (body : State → AsmEval) (all done rest : List Tree) (v : Tree) (b : ℕ) (kept : List Tree)
      (es : List StackEntry) (bs : List (List ℕ)) (m : Memory) (j : ℕ)
      → all ≡ done ++ v ∷ rest → b ≡ length done
      → turns body (suc j) (at_bufs (framed all b kept es) bs m)
      ≡ and_then (body (at_bufs (framed all (suc b) kept es) bs m)) (turns body j)
  goes_round body all done rest v b kept es bs m j e n = search (arith, rules, lt_true, length-append)

  is_over : (body : State → AsmEval) (all done : List Tree) (b : ℕ) (kept : List Tree) (es : List StackEntry)
      (bs : List (List ℕ)) (m : Memory)
      → all ≡ done ++ [] → b ≡ length done
      → turns body 0 (at_bufs (framed all b kept es) bs m) ≡ does (at_bufs (framed all (length all) kept es) bs m)
  is_over body all done b kept es bs m e n = search (arith, rules, append-nil, lt_false)

  -- The instruction that reads the item of a loop pushes the item of the turn.
  item_got : (all done rest : List Tree) (v : Tree) (b : ℕ) (kept : List Tree) (q : Option Place) (es : List StackEntry)
      (bs : List (List ℕ)) (m : Memory)
      → all ≡ done ++ v ∷ rest → b ≡ length done
      → code (one q (op.LoopGet 0 0)) (at_bufs (framed all (suc b) kept es) bs m)
      ≡ does (at_bufs (value v ∷ framed all (suc b) kept es) bs m)
  item_got all done rest v b kept q es bs m e n =
      ap (λ x. of_plain q (push_given
      (loop_field_or_undefined x (record { items = all; position = suc b; kept = kept })) (framed all (suc b) kept es)
      (at_bufs (framed all (suc b) kept es) bs m)))
      (has_field of_loop.Item)
      ∙ ap (λ x. does (at_bufs (value (unwrap_or x tree.undefined) ∷ framed all (suc b) kept es) bs m))
      (current_is all done rest v b e n)

  -- The item of a turn is kept if the condition holds.
  kept_if : (c : Bool) (all : List Tree) (v : Tree) (b : ℕ) (kept : List Tree) (q : Option Place) (es : List StackEntry)
      (bs : List (List ℕ)) (m : Memory)
      → slice_get all b ≡ Some v
      → does (with_entries (at_bufs es bs m)
      (if c then framed all (suc b) (kept ++ item_at (suc b) all ∷ []) es else framed all (suc b) kept es))
      ≡ does (at_bufs (framed all (suc b) (if c then kept ++ v ∷ [] else kept) es) bs m)
  kept_if c all v b kept q es bs m e = search (arith, rules)

  item_kept : (all : List Tree) (v : Tree) (b : ℕ) (kept : List Tree) (t : Tree) (q : Option Place)
      (es : List StackEntry) (bs : List (List ℕ)) (m : Memory)
      → slice_get all b ≡ Some v
      → code (one q (op.LoopKeep 0)) (at_bufs (value t ∷ framed all (suc b) kept es) bs m)
      ≡ does (at_bufs (framed all (suc b) (if tree.truth t then kept ++ v ∷ [] else kept) es) bs m)
  item_kept all v b kept t q es bs m e = kept_if (tree.truth t) all v b kept q es bs m e

  abbrev KeptItems : Text → Listed → Type 0
  KeptItems out x = Kept out x.memory

  -- The frame of a loop at its end, with the kept items followed by those of the meaning.
  abbrev SiftedOn : List Tree → List Tree → List StackEntry → List (List ℕ) → Listed → State
  SiftedOn all kept es bs x = at_bufs (framed all (length all) (kept ++ x.values) es) bs x.memory

  abbrev LoopOn : List StackEntry → List (List ℕ) → Listed → State
  LoopOn es bs x = at_bufs (frame (loop_over x.values) ∷ es) bs x.memory

  abbrev Sifts : SlotExpr ℕ → Targets → List Tree → Memory → Eval Listed
  Sifts c xs vs m = skept the_filters (tree_at p.pool) call (Some c) xs vs m

  one_more : (c : Bool) (all kept : List Tree) (v : Tree) (es : List StackEntry) (bs : List (List ℕ)) (x : Listed)
      → SiftedOn all (if c then kept ++ v ∷ [] else kept) es bs x
      ≡ SiftedOn all kept es bs (if c then in_front v x else x)
  one_more c all kept v es bs x = search (arith, rules, append_assoc)

  one_more_kept : (c : Bool) (v : Tree) (out : Text) (x : Listed) → KeptItems out x
      → KeptItems out (if c then in_front v x else x)
  one_more_kept c v out x w = search (arith, rules)

  -- The pass of the condition keeps the items for which it holds.
  sift_does : (c : SlotExpr ℕ) (xs : Targets) (q : Option Place) (es : List StackEntry) (bs : List (List ℕ))
      (out : Text) (all vs done : List Tree) (b : ℕ) (kept : List Tree) (m : Memory)
      → OfTargets (SlotFits p count) xs → ExprFits p count false c
      → all ≡ done ++ vs → b ≡ length done → Kept out m → IsOpen bs
      → Does q (KeptItems out) (SiftedOn all kept es bs)
      (turns (code (turn_asm q xs (both (expr_asm q c 0) (one q (op.LoopKeep 0))))) (length vs)
      (at_bufs (framed all b kept es) bs m)) (Sifts c xs vs m)
  sift_does c xs q es bs out all [] done b kept m fx fc e n w opened = search (arith, rules, is_over, append-nil)
  sift_does c xs q es bs out all (v ∷ vs) done b kept m fx fc e n w opened =
      let keep_asm = both (expr_asm q c 0) (one q (op.LoopKeep 0)) in
      let turn = code (turn_asm q xs keep_asm) in
      let later = turns turn (length vs) in
      let fs = framed all (suc b) kept es in
      let rest = λ (r : Valued) (x : Listed). gives (if tree.truth r.value then in_front v x else x) in
      same_run q (KeptItems out) (SiftedOn all kept es bs) _
      (and_then (code (take_asm q xs) (at_bufs (value v ∷ fs) bs m)) (λ s. and_then (code keep_asm s) later)) _
      (goes_round turn all done vs v b kept es bs m (length vs) e n
      ∙ ap (λ s. and_then (and_then (and_then s (code (take_asm q xs))) (code keep_asm)) later)
      (item_got all done vs v b kept q es bs m e n)
      ∙ and_then_assoc (code (take_asm q xs) (at_bufs (value v ∷ fs) bs m)) (code keep_asm) later)
      (then_does q (Kept out) (at_bufs fs bs) (KeptItems out) (SiftedOn all kept es bs)
      (code (take_asm q xs) (at_bufs (value v ∷ fs) bs m)) (take xs v m) (λ s. and_then (code keep_asm s) later)
      (λ x. bind (Means c None x) (λ r. bind (Sifts c xs vs r.memory) (rest r)))
      (take_does xs v q fs bs out m fx w)
      (λ x w1.
      same_run q (KeptItems out) (SiftedOn all kept es bs) _
      (and_then (code (expr_asm q c 0) (at_bufs fs bs x)) (λ s. and_then (code (one q (op.LoopKeep 0)) s) later)) _
      (and_then_assoc (code (expr_asm q c 0) (at_bufs fs bs x)) (code (one q (op.LoopKeep 0))) later)
      (then_does q (KeptValue out) (ValueOn fs bs) (KeptItems out) (SiftedOn all kept es bs)
      (code (expr_asm q c 0) (at_bufs fs bs x)) (Means c None x) (λ s. and_then (code (one q (op.LoopKeep 0)) s) later)
      (λ r. bind (Sifts c xs vs r.memory) (rest r))
      (expr_does c q false 0 None fs bs out x fc tt w1 opened)
      (λ r w2.
      let kept' = if tree.truth r.value then kept ++ v ∷ [] else kept in
      same_run q (KeptItems out) (SiftedOn all kept es bs) _ (later (at_bufs (framed all (suc b) kept' es) bs r.memory))
      _ (ap (λ s. and_then s later) (item_kept all v b kept r.value q es bs r.memory (current_is all done vs v b e n)))
      (mapped_does q (KeptItems out) (SiftedOn all kept' es bs) (KeptItems out) (SiftedOn all kept es bs)
      (later (at_bufs (framed all (suc b) kept' es) bs r.memory)) (Sifts c xs vs r.memory)
      (λ y. if tree.truth r.value then in_front v y else y)
      (sift_does c xs q es bs out all vs (done ++ v ∷ []) (suc b) kept' r.memory fx fc
      (e ∙ sym (append_assoc done (v ∷ []) vs)) (omega (arith, n, length-append done (v ∷ []))) w2 opened)
      (λ y w3. (one_more (tree.truth r.value) all kept v es bs y, one_more_kept (tree.truth r.value) v out y w3)))))))

  keep_does : (c : Option (SlotExpr ℕ)) (xs : Targets) (q : Option Place) (es : List StackEntry) (bs : List (List ℕ))
      (out : Text) (vs : List Tree) (m : Memory)
      → OfTargets (SlotFits p count) xs → ConditionFits p count c → Kept out m → IsOpen bs
      → Does q (KeptItems out) (LoopOn es bs) (code (kept_asm q xs c) (at_bufs (frame (loop_over vs) ∷ es) bs m))
      (skept the_filters (tree_at p.pool) call c xs vs m)
  keep_does None xs q es bs out vs m fx fc w opened = (refl, w)
  keep_does (Some c) xs q es bs out vs m fx fc w opened =
      let turn = code (turn_asm q xs (both (expr_asm q c 0) (one q (op.LoopKeep 0)))) in
      let left : length vs - 0 ≡ length vs = omega arith in
      finished q (KeptItems out) (SiftedOn vs [] es bs) (LoopOn es bs)
      (code (each (turn_asm q xs (both (expr_asm q c 0) (one q (op.LoopKeep 0)))))
      (at_bufs (frame (loop_over vs) ∷ es) bs m)) (Sifts c xs vs m) (code (one q op.LoopRewind))
      (same_run q (KeptItems out) (SiftedOn vs [] es bs) _ (turns turn (length vs) (at_bufs (framed vs 0 [] es) bs m))
      (Sifts c xs vs m) (ap (λ j. turns turn j (at_bufs (framed vs 0 [] es) bs m)) left)
      (sift_does c xs q es bs out vs vs [] 0 [] m fx fc refl refl w opened))
      (λ x w1. refl)

  begin_does : (r : Result Items Fault) (q : Option Place) (es : List StackEntry) (bs : List (List ℕ)) (m : Memory)
      (fs : List StackEntry) (inv : Listed → Type 0) (to : Listed → State) (g : State → AsmEval)
      (f : List Tree → Eval Listed)
      → ((vs : List Tree) → Does q inv to (g (at_bufs (frame (loop_over vs) ∷ es) bs m)) (f vs))
      → Does q inv to (and_then (of_plain q (begins r es (at_bufs fs bs m))) g) (bind (checked (result_listed r)) f)
  begin_does r q es bs m fs inv to g f h = search (arith, rules, listed_same)

  -- ---- statements

  abbrev MeansStmt : SlotStmt ℕ → Option Loop → Memory → Eval Memory
  MeansStmt s l m = smeaning the_filters (tree_at p.pool) call s l m

  abbrev MeansBody : SBody ℕ → Option Loop → Memory → Eval Memory
  MeansBody b l m = smeanings the_filters (tree_at p.pool) call b l m

  kept_of : (m : Memory) → Sized m → Kept m.out m
  kept_of m w = record { locals = w.locals; globals = w.globals; text = refl }

  sized_of : (out : Text) (m : Memory) → Kept out m → Sized m
  sized_of out m w = record { locals = w.locals; globals = w.globals }

  -- The text so far is that of the memory.
  settled : (es : List StackEntry) (pre : Text) (bufs : List (List ℕ)) (out : Text) (m : Memory) → Kept out m
      → at_bufs es ((pre ++ out) ∷ bufs) m ≡ at_memory es pre bufs m
  settled es pre bufs out m w = ap (λ t. at_bufs es ((pre ++ t) ∷ bufs) m) (sym w.text)

  put_runs : (s : Text) (es : List StackEntry) (pre : Text) (bufs : List (List ℕ)) (m : Memory)
      → does (at_bufs es (((pre ++ m.out) ++ s) ∷ bufs) m) ≡ does (at_memory es pre bufs (put_text m s))
  put_runs s es pre bufs m = ap (λ t. does (at_bufs es (t ∷ bufs) m)) (append_assoc pre m.out s)

  printed_does : (escaping : Bool) (t : Option Text) (q : Option Place) (es : List StackEntry) (pre : Text)
      (bufs : List (List ℕ)) (m : Memory)
      → Sized m
      → Does q Sized (at_memory es pre bufs)
      (of_plain q (put_printed (if escaping then option_map escaped t else t) (at_memory es pre bufs m)))
      (bind (shown_text escaping t) (λ s. gives (put_text m s)))
  printed_does true None q es pre bufs m w = refl
  printed_does true (Some s) q es pre bufs m w =
      (put_runs (escaped s) es pre bufs m, record { locals = w.locals; globals = w.globals })
  printed_does false None q es pre bufs m w = refl
  printed_does false (Some s) q es pre bufs m w =
      (put_runs s es pre bufs m, record { locals = w.locals; globals = w.globals })

  shown_does : (escaping : Bool) (v : Tree) (q : Option Place) (es : List StackEntry) (pre : Text)
      (bufs : List (List ℕ)) (m : Memory)
      → Sized m
      → Does q Sized (at_memory es pre bufs)
      (of_plain q (put_printed (step.shown (eqb (flag escaping) 1) v) (at_memory es pre bufs m)))
      (bind (shown escaping v) (λ s. gives (put_text m s)))
  shown_does true (tree.markup s) q es pre bufs m w =
      (put_runs s es pre bufs m, record { locals = w.locals; globals = w.globals })
  shown_does false (tree.markup s) q es pre bufs m w =
      (put_runs s es pre bufs m, record { locals = w.locals; globals = w.globals })
  shown_does true v q es pre bufs m w = printed_does true (tree.printed v) q es pre bufs m w
  shown_does false v q es pre bufs m w = printed_does false (tree.printed v) q es pre bufs m w

  -- The turns of a loop do what they mean.
  rounds_do : (xs : Targets) (tag : Place) (body : Asm) (means : Option Loop → Memory → Eval Memory)
      (es : List StackEntry) (pre : Text) (bufs : List (List ℕ)) (all : List Tree)
      → OfTargets (SlotFits p count) xs
      → ((b : ℕ) (m : Memory) → suc b ≤ length all → Sized m
      → Does None Sized (at_memory (framed all (suc b) [] es) pre bufs)
      (code body (at_memory (framed all (suc b) [] es) pre bufs m))
      (means (Some (record { items = all; before = b })) m))
      → (vs done : List Tree) (b : ℕ) (m : Memory) → all ≡ done ++ vs → b ≡ length done → Sized m
      → Does None Sized (at_memory (framed all (length all) [] es) pre bufs)
      (turns (code (turn_asm (Some tag) xs body)) (length vs) (at_memory (framed all b [] es) pre bufs m))
      (sturns means xs tag all b vs m)
  rounds_do xs tag body means es pre bufs all fx hb [] done b m e n w = search (arith, rules, is_over)
  rounds_do xs tag body means es pre bufs all fx hb (v ∷ vs) done b m e n w =
      let q = Some tag in
      let turn = code (turn_asm q xs body) in
      let later = turns turn (length vs) in
      let fs = framed all (suc b) [] es in
      let bs = (pre ++ m.out) ∷ bufs in
      let to = at_memory (framed all (length all) [] es) pre bufs in
      same_run None Sized to _
      (and_then (code (take_asm q xs) (at_bufs (value v ∷ fs) bs m)) (λ s. and_then (code body s) later)) _
      (goes_round turn all done vs v b [] es bs m (length vs) e n
      ∙ ap (λ s. and_then (and_then (and_then s (code (take_asm q xs))) (code body)) later)
      (item_got all done vs v b [] q es bs m e n)
      ∙ and_then_assoc (code (take_asm q xs) (at_bufs (value v ∷ fs) bs m)) (code body) later)
      (then_does None Sized (at_memory fs pre bufs) Sized to (code (take_asm q xs) (at_bufs (value v ∷ fs) bs m))
      (at tag (take xs v m)) (λ s. and_then (code body s) later)
      (λ x. bind (means (Some (record { items = all; before = b })) x) (sturns means xs tag all (suc b) vs))
      (placed tag Sized (at_memory fs pre bufs) (code (take_asm q xs) (at_bufs (value v ∷ fs) bs m)) (take xs v m)
      (carried q (Kept m.out) (at_bufs fs bs) Sized (at_memory fs pre bufs)
      (code (take_asm q xs) (at_bufs (value v ∷ fs) bs m)) (take xs v m)
      (take_does xs v q fs bs m.out m fx (kept_of m w))
      (λ x w1. (settled fs pre bufs m.out x w1, sized_of m.out x w1))))
      (λ x w1.
      then_does None Sized (at_memory fs pre bufs) Sized to (code body (at_memory fs pre bufs x))
      (means (Some (record { items = all; before = b })) x) later (sturns means xs tag all (suc b) vs)
      (hb b x (omega (arith, n, ap length e, length-append done (v ∷ vs))) w1)
      (λ y w2. rounds_do xs tag body means es pre bufs all fx hb vs (done ++ v ∷ []) (suc b) y
      (e ∙ sym (append_assoc done (v ∷ []) vs)) (omega (arith, n, length-append done (v ∷ []))) w2)))

  -- The turns of a loop, or its `else` part, do what they mean.
  over_does : (xs : Targets) (tag : Place) (body other : Asm) (means : Option Loop → Memory → Eval Memory)
      (otherwise : Memory → Eval Memory) (es : List StackEntry) (pre : Text) (bufs : List (List ℕ))
      → OfTargets (SlotFits p count) xs
      → ((all : List Tree) (b : ℕ) (m : Memory) → suc b ≤ length all → Sized m
      → Does None Sized (at_memory (framed all (suc b) [] es) pre bufs)
      (code body (at_memory (framed all (suc b) [] es) pre bufs m))
      (means (Some (record { items = all; before = b })) m))
      → ((m : Memory) → Sized m
      → Does None Sized (at_memory es pre bufs) (code other (at_memory es pre bufs m)) (otherwise m))
      → (vs : List Tree) (m : Memory) → Sized m
      → Does None Sized (at_memory es pre bufs)
      (code (over_asm (Some tag) xs body other) (at_memory (frame (loop_over vs) ∷ es) pre bufs m))
      (seval_loop means otherwise xs tag vs m)
  over_does xs tag body other means otherwise es pre bufs fx hb ho [] m w = ho m w
  over_does xs tag body other means otherwise es pre bufs fx hb ho (v ∷ vs) m w =
      let q = Some tag in
      let all = v ∷ vs in
      let turn = code (turn_asm q xs body) in
      let left : length all - 0 ≡ length all = omega arith in
      let none : (length all == 0) ≡ false = grind (arith, nat_tests) in
      finished None Sized (at_memory (framed all (length all) [] es) pre bufs) (at_memory es pre bufs)
      (code (each (turn_asm q xs body)) (at_memory (frame (loop_over all) ∷ es) pre bufs m))
      (sturns means xs tag all 0 all m) (code (both (one q op.LoopEnd) (when other)))
      (same_run None Sized (at_memory (framed all (length all) [] es) pre bufs) _
      (turns turn (length all) (at_memory (framed all 0 [] es) pre bufs m)) (sturns means xs tag all 0 all m)
      (ap (λ j. turns turn j (at_memory (framed all 0 [] es) pre bufs m)) left)
      (rounds_do xs tag body means es pre bufs all fx (hb all) all [] 0 m refl refl w))
      (λ x w1. ap (λ t. if t then code other (at_memory es pre bufs x) else does (at_memory es pre bufs x)) none)

  -- A capture leaves its text in the slot.
  closed : (escaping : Bool) (s : Slot) (es : List StackEntry) (pre : Text) (bufs : List (List ℕ)) (out : Text)
      (m : Memory)
      → SlotFits p count s → Sized m
      → (code (both (one None (op.CaptureEnd (flag escaping))) (one None (store_of s)))
      (at_memory (capture ∷ es) [] ((pre ++ out) ∷ bufs) m)
      ≡ does (at_memory es pre bufs (store s (as_value escaping m.out) (record m { out = out }))))
      × Sized (store s (as_value escaping m.out) (record m { out = out }))
  closed escaping s es pre bufs out m fit w =
      search (
        arith,
        rules,
        store_does s (as_value escaping m.out) None es ((pre ++ out) ∷ bufs) out,
        settled es pre bufs out,
        sized_of out,
      )

  -- The output of a called routine is appended to the text.
  printed_by : (g : Eval Written) (es : List StackEntry) (pre : Text) (bufs : List (List ℕ)) (out : Text) (m : Memory)
      → Keeps p.globals g → Kept out m
      → Does None Sized (at_memory es pre bufs) (of_written None g es m.locals (pre ++ out) bufs)
      (bind g (λ w. gives (record m { globals = w.globals; out = m.out ++ w.text })))
  printed_by g es pre bufs out m fit h = search (arith, rules, append_assoc)

  mutual
    pub stmt_does : (s : SlotStmt ℕ) (inside : Bool) (h : ℕ) (l : Option Loop) (es : List StackEntry) (pre : Text)
        (bufs : List (List ℕ)) (m : Memory)
        → StmtFits p count inside s → FrameAt inside h es l → Sized m
        → Does None Sized (at_memory es pre bufs) (code (stmt_asm s h) (at_memory es pre bufs m)) (MeansStmt s l m)
    stmt_does (slots.put_pooled i) inside h l es pre bufs m fit fr w = (
      ap (λ t. does (at_bufs es (((pre ++ m.out) ++ t) ∷ bufs) m)) (has.texts i)
          ∙ put_runs (bytes_of (tree_at p.pool i)) es pre bufs m,
      record { locals = w.locals; globals = w.globals },
    )
    stmt_does (slots.print tag escaping e) inside h l es pre bufs m fit fr w =
        let bs = (pre ++ m.out) ∷ bufs in
        let emit = code (one (Some tag) (op.Emit (flag escaping))) in
        placed tag Sized (at_memory es pre bufs)
        (code (stmt_asm (slots.print tag escaping e) h) (at_memory es pre bufs m))
        (bind (Means e l m) (λ r. bind (shown escaping r.value) (λ s. gives (put_text r.memory s))))
        (then_does (Some tag) (KeptValue m.out) (ValueOn es bs) Sized (at_memory es pre bufs)
        (code (expr_asm (Some tag) e h) (at_bufs es bs m)) (Means e l m) emit
        (λ r. bind (shown escaping r.value) (λ s. gives (put_text r.memory s)))
        (expr_does e (Some tag) inside h l es bs m.out m fit fr (kept_of m w) tt)
        (λ r w1.
        same_run (Some tag) Sized (at_memory es pre bufs) _
        (of_plain (Some tag)
        (put_printed (step.shown (eqb (flag escaping) 1) r.value) (at_memory es pre bufs r.memory)))
        (bind (shown escaping r.value) (λ s. gives (put_text r.memory s)))
        (ap (λ x. of_plain (Some tag) (put_printed (step.shown (eqb (flag escaping) 1) r.value) x))
        (settled es pre bufs m.out r.memory w1))
        (shown_does escaping r.value (Some tag) es pre bufs r.memory (sized_of m.out r.memory w1))))
    stmt_does (slots.assign tag xs e) inside h l es pre bufs m fit fr w =
        let bs = (pre ++ m.out) ∷ bufs in
        placed tag Sized (at_memory es pre bufs) (code (stmt_asm (slots.assign tag xs e) h) (at_memory es pre bufs m))
        (bind (Means e l m) (λ r. take xs r.value r.memory))
        (then_does (Some tag) (KeptValue m.out) (ValueOn es bs) Sized (at_memory es pre bufs)
        (code (expr_asm (Some tag) e h) (at_bufs es bs m)) (Means e l m) (code (take_asm (Some tag) xs))
        (λ r. take xs r.value r.memory)
        (expr_does e (Some tag) inside h l es bs m.out m fit.1 fr (kept_of m w) tt)
        (λ r w1. carried (Some tag) (Kept m.out) (at_bufs es bs) Sized (at_memory es pre bufs)
        (code (take_asm (Some tag) xs) (at_bufs (value r.value ∷ es) bs r.memory)) (take xs r.value r.memory)
        (take_does xs r.value (Some tag) es bs m.out r.memory fit.0 w1)
        (λ x w2. (settled es pre bufs m.out x w2, sized_of m.out x w2))))
    stmt_does (slots.if_else tag c a b) inside h l es pre bufs m fit fr w =
        let bs = (pre ++ m.out) ∷ bufs in
        let to = at_memory es pre bufs in
        then_does None (KeptValue m.out) (ValueOn es bs) Sized to (code (expr_asm (Some tag) c h) (at_bufs es bs m))
        (at tag (Means c l m)) (code (choose (body_asm a h) (body_asm b h)))
        (λ r. if tree.truth r.value then MeansBody a l r.memory else MeansBody b l r.memory)
        (placed tag (KeptValue m.out) (ValueOn es bs) (code (expr_asm (Some tag) c h) (at_bufs es bs m)) (Means c l m)
        (expr_does c (Some tag) inside h l es bs m.out m fit.0 fr (kept_of m w) tt))
        (λ r w1.
        let same = settled es pre bufs m.out r.memory w1 in
        either (tree.truth r.value) None Sized to (code (body_asm a h) (at_bufs es bs r.memory))
        (code (body_asm b h) (at_bufs es bs r.memory)) (MeansBody a l r.memory) (MeansBody b l r.memory)
        (same_run None Sized to _ (code (body_asm a h) (at_memory es pre bufs r.memory)) (MeansBody a l r.memory)
        (ap (code (body_asm a h)) same)
        (body_does a inside h l es pre bufs r.memory fit.1 fr (sized_of m.out r.memory w1)))
        (same_run None Sized to _ (code (body_asm b h) (at_memory es pre bufs r.memory)) (MeansBody b l r.memory)
        (ap (code (body_asm b h)) same)
        (body_does b inside h l es pre bufs r.memory fit.2 fr (sized_of m.out r.memory w1))))
    stmt_does (slots.for_each tag xs e c body other) inside h l es pre bufs m fit fr w =
        let q = Some tag in
        let bs = (pre ++ m.out) ∷ bufs in
        let to = at_memory es pre bufs in
        let first = both (expr_asm q e h) (both (one q op.LoopStart) (kept_asm q xs c)) in
        let over = over_asm q xs (body_asm body 0) (body_asm other h) in
        let items = λ (r : Valued).
        bind (checked (items_of_value r.value)) (λ vs. skept the_filters (tree_at p.pool) call c xs vs r.memory) in
        then_does None (KeptItems m.out) (LoopOn es bs) Sized to (code first (at_bufs es bs m))
        (at tag (bind (Means e l m) items)) (code over)
        (λ x. seval_loop (MeansBody body) (MeansBody other l) xs tag x.values x.memory)
        (placed tag (KeptItems m.out) (LoopOn es bs) (code first (at_bufs es bs m)) (bind (Means e l m) items)
        (then_does q (KeptValue m.out) (ValueOn es bs) (KeptItems m.out) (LoopOn es bs)
        (code (expr_asm q e h) (at_bufs es bs m)) (Means e l m) (code (both (one q op.LoopStart) (kept_asm q xs c)))
        items
        (expr_does e q inside h l es bs m.out m fit.1 fr (kept_of m w) tt)
        (λ r w1. begin_does (items_of_tree r.value) q es bs r.memory (value r.value ∷ es) (KeptItems m.out)
        (LoopOn es bs) (code (kept_asm q xs c)) (λ vs. skept the_filters (tree_at p.pool) call c xs vs r.memory)
        (λ vs. keep_does c xs q es bs m.out vs r.memory fit.0 fit.2 w1 tt))))
        (λ x w1.
        same_run None Sized to _ (code over (at_memory (frame (loop_over x.values) ∷ es) pre bufs x.memory))
        (seval_loop (MeansBody body) (MeansBody other l) xs tag x.values x.memory)
        (ap (code over) (settled (frame (loop_over x.values) ∷ es) pre bufs m.out x.memory w1))
        (over_does xs tag (body_asm body 0) (body_asm other h) (MeansBody body) (MeansBody other l) es pre bufs fit.0
        (λ all b y lt w2. body_does body true 0 (Some (record { items = all; before = b })) (framed all (suc b) [] es)
        pre bufs y fit.3 (
          record { items = all; position = suc b; kept = [] },
          refl,
          record { before = b; loop = refl; position = refl; within = lt },
        ) w2)
        (λ y w2. body_does other inside h l es pre bufs y fit.4 fr w2)
        x.values x.memory (sized_of m.out x.memory w1)))
    stmt_does (slots.capture escaping s body) inside h l es pre bufs m fit fr w =
        let m0 = record m { out = [] } in
        then_gives None Sized (at_memory (capture ∷ es) [] ((pre ++ m.out) ∷ bufs)) Sized (at_memory es pre bufs)
        (code (body_asm body (suc h)) (at_memory (capture ∷ es) [] ((pre ++ m.out) ∷ bufs) m0)) (MeansBody body l m0)
        (code (both (one None (op.CaptureEnd (flag escaping))) (one None (store_of s))))
        (λ n. store s (as_value escaping n.out) (record n { out = m.out }))
        (body_does body inside (suc h) l (capture ∷ es) [] ((pre ++ m.out) ∷ bufs) m0 fit.1
        (raise inside h capture es l fr) (record { locals = w.locals; globals = w.globals }))
        (λ n w1. closed escaping s es pre bufs m.out n fit.0 w1)
    stmt_does (slots.run u r) inside h l es pre bufs m fit fr w =
        let bs = (pre ++ m.out) ∷ bufs in
        let text = λ (y : Listed). bind (call u y.values y.memory.globals)
        (λ g. gives (record y.memory { globals = g.globals; out = y.memory.out ++ g.text })) in
        then_does None (KeptRow m.out (row_count r)) (RowOn es bs) Sized (at_memory es pre bufs)
        (code (row_asm None r h) (at_bufs es bs m)) (MeansRow r l m) (code (invoke None u)) text
        (row_does r None inside h l es bs m.out m fit.1 fr (kept_of m w) tt)
        (λ y j.
        same_run None Sized (at_memory es pre bufs) _
        (of_written None (call u y.values y.memory.globals) es y.memory.locals (pre ++ m.out) bufs) (text y)
        (call_runs u (row_count r) y.values None es (pre ++ m.out) bufs y.memory fit.0 j.1 j.0.globals)
        (printed_by (call u y.values y.memory.globals) es pre bufs m.out y.memory
        (keep u y.values y.memory.globals j.0.globals) j.0))

    pub body_does : (b : SBody ℕ) (inside : Bool) (h : ℕ) (l : Option Loop) (es : List StackEntry) (pre : Text)
        (bufs : List (List ℕ)) (m : Memory)
        → BodyFits p count inside b → FrameAt inside h es l → Sized m
        → Does None Sized (at_memory es pre bufs) (code (body_asm b h) (at_memory es pre bufs m)) (MeansBody b l m)
    body_does slots.end inside h l es pre bufs m fit fr w = (refl, w)
    body_does (slots.stmt s rest) inside h l es pre bufs m fit fr w =
        search (
          arith,
          rules,
          then_does,
          stmt_does s inside h l es pre bufs m fit.0 fr w,
          body_does rest inside h l es pre bufs,
        )
