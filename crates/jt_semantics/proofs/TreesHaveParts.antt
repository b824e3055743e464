-- Resolved trees are trees of parts, and their sources pay for them.
pub mod TreeParts
pub use TreeParts.*
use Rattle.std.proofs.Common.{◌≡◌, ℕ, zero, suc, ◌+◌, ◌*◌, max, min, ◌<◌, ◌≤◌, Bool, true, false, ◌&&◌, if◌then◌else◌}
use Rattle.std.proofs.Common.{List, [], ◌∷◌, length, Option, Some, None, arith, refl, ap, length-append, rules}
use Rattle.std.specs.Option.{is_none}
use Rattle.std.specs.List.{AllByRecursion as Each}
use Rattle.std.specs.Prelude.{pos}
use Rattle.jt_value.specs.Tree as tree
use Rattle.jt_value.specs.Tree.{Tree}
use Rattle.jt_ids.specs.declared.op_id.OpId.TheVariants as op
use Rattle.jt_ids.specs.declared.test_id.TestId.{TestId}
use Rattle.jt_ast.specs.Expressions as written
use Rattle.jt_ast.specs.Expressions.{Expr, Literal, constant, name, group, list_of, map_of, attribute, item, unary}
use Rattle.jt_ast.specs.Expressions.{binary, choice, Exprs, no_exprs, expr, Pairs, no_pairs, weight, is_weight}
use Rattle.jt_ast.specs.Expressions.{enclosed, literal_weight, operator_weight, exprs_weight, pairs_weight, Text}
use Rattle.jt_ast.specs.declared.expression.BinaryOperator.{BinaryOperator}
use Rattle.jt_ast.specs.declared.expression.BinaryOperator.TheVariants as o
use Rattle.jt_semantics.specs.Operators.{form, joins}
use Rattle.jt_ast.specs.Sizes.{literal_bytes, expr_bytes, exprs_bytes, pairs_bytes, condition_bytes, filter_call_bytes}
use Rattle.jt_ast.specs.Sizes.{stmt_bytes, body_bytes, branch_bytes}
use Rattle.jt_value.specs.Place.{Place}
use Rattle.jt_eval.specs.Values.{literal}
use Rattle.jt_eval.specs.Tests.{test_named}
use Rattle.jt_eval.specs.Filters.{default_value, some_given}
use Rattle.jt_chains.specs.Uses.{count, keywords, set_by, set_in, set_under}
use Rattle.jt_ast.specs.Statements.{Parameter, FilterCall, Stmt, data_of, print, choose, for_each, set, set_block}
use Rattle.jt_ast.specs.Statements.{with_values, filter_block, autoescape, include, block, Body, end, stmt, Branches}
use Rattle.jt_ast.specs.Statements.{no_branches, branch, condition_weight, filter_call_weight, stmt_bound, body_bound}
use Rattle.jt_ast.specs.Statements.{branch_bound, pairs_count}
use Rattle.jt_chains.specs.Chain.{Sources, Namespace, a_chain, MacroBody, Definition, given, Callee, a_macro, a_range}
use Rattle.jt_chains.specs.Chain.{a_super, a_block, a_cycle, no_callee, callee, named_alone, of_library, in_library}
use Rattle.jt_chains.specs.Chain.{is_loop, Template}
use Rattle.jt_ids.specs.declared.loop_field.LoopField.{LoopField}
use Rattle.jt_ids.specs.declared.loop_field.LoopField.TheVariants.{Index0}
use Rattle.jt_ids.specs.LoopTable.{field_named}
use Rattle.jt_ast.specs.Texts.{among}
use Rattle.jt_rules.specs.CompileEnv.{CompileEnv}
use Rattle.jt_semantics.specs.Expressions.{filter_parameters, requires_input}
use Rattle.jt_semantics.specs.Layout.{Table, slot_in, names, globals, block_parameters, numbered_of, first_slot, unit}
use Rattle.jt_semantics.specs.Layout.{of_chain, default_index}
use Rattle.jt_ir.specs.Slots as slots
use Rattle.jt_ir.specs.Slots.{Slot, local, global, SlotExpr, SRow, SBody, variable, run, required_if}
use Rattle.jt_ir.specs.Size.{row_count}
use Rattle.jt_ir.specs.Pool.{Constant, own, known}
use Rattle.jt_semantics.specs.Resolve.{value_or, turned_round, tested_by, filtered_by, in_form, field_from, followed}
use Rattle.jt_semantics.specs.Resolve.{operation_of, locals_from, fresh, fresh_targets, kept_slots, slot_of}
use Rattle.jt_semantics.specs.Resolve.{set_targets, filled, filled_some, first_locals, reads, handed_on, Part}
use Rattle.jt_semantics.specs.Resolve.{StaticEnv, place, grown, left_out, bound_table, bound_all, copied, scoped}
use Rattle.jt_semantics.specs.Resolve.{next_given, first_body, invoked_body, invoked_super, invoked, resolved}
use Rattle.jt_semantics.specs.Resolve.{resolved_row, resolved_asides, resolved_entries, resolved_condition}
use Rattle.jt_semantics.specs.Resolve.{resolved_filters, resolved_values, placed_body, resolved_stmt, resolved_body}
use Rattle.jt_semantics.specs.Resolve.{resolved_choice, resolved_sets, top_senv, resolved_chain}
use Rattle.jt_semantics.specs.Meaning.{is_set}
use Rattle.jt_semantics.proofs.FreeNameWeights.{stmt_free, body_free, branch_free, stmt_binds, body_binds, branch_binds}
use Rattle.jt_semantics.proofs.FreeNameWeights.{stmt_own, body_own, branch_own, pairs_bound, templates_bound}

-- ---- Weights are positive

literal_some : (l : Literal) → 1 ≤ literal_weight l
literal_some l = search (arith, rules)

pub operator_some : (b : BinaryOperator) → 1 ≤ operator_weight b
operator_some b = search (arith, rules)

pub expr_some : (e : Expr) → 1 ≤ weight e
expr_some (constant l) = literal_some l
expr_some (written.call a ts ps) = omega (arith, expr_some a)
expr_some (written.test a n x ts ps) = omega (arith, expr_some a)
expr_some (binary b x y) = omega (arith, expr_some x)
expr_some e = omega arith

pub is_some_weight : (b : Bool) → 2 ≤ is_weight b
is_some_weight b = search (arith, rules)

-- ---- The weights of the templates of a chain

abbrev pub templates_free : List Template → ℕ
templates_free [] = 0
templates_free (t ∷ ts) = body_free t.body + templates_free ts

abbrev pub templates_bind : List Template → ℕ
templates_bind [] = 0
templates_bind (t ∷ ts) = body_binds t.body + templates_bind ts

abbrev pub templates_own : List Template → ℕ
templates_own ts = templates_free ts + 2 * templates_bind ts

-- The bytes of the longest template.
abbrev pub longest : List Template → ℕ
longest [] = 0
longest (t ∷ ts) = max (body_bytes t.body) (longest ts)

-- Holds if no template has more than n bytes.
abbrev pub AreShort : ℕ → List Template → Type 0
AreShort n ts = Each (λ t. body_bytes t.body ≤ n) ts

pub are_short : (n : ℕ) (ts : List Template) → longest ts ≤ n → AreShort n ts
are_short n [] h = tt
are_short n (t ∷ ts) h = (omega arith, are_short n ts (omega arith))

pub names_few : (ps : Pairs) → length (keywords ps) ≤ pairs_weight 2 ps
names_few no_pairs = omega arith
names_few (written.pair k a ps) = omega (arith, names_few ps)

mutual
  by_few : (s : Stmt) → (2 * min 1 (length (set_by s)) ≤ stmt_free s) × (length (set_by s) ≤ stmt_own s)
  by_few (choose bs other) = omega (arith, under_few bs, in_few other, length-append (set_under bs) (set_in other))
  by_few (for_each line xs e c body other) = omega (arith, in_few other)
  by_few s = omega arith

  in_few : (b : Body) → (2 * min 1 (length (set_in b)) ≤ body_free b) × (length (set_in b) ≤ body_own b)
  in_few end = omega arith
  in_few (stmt s rest) = omega (arith, by_few s, in_few rest, length-append (set_by s) (set_in rest))

  under_few : (bs : Branches)
      → (2 * min 1 (length (set_under bs)) ≤ branch_free bs) × (length (set_under bs) ≤ branch_own bs)
  under_few no_branches = omega arith
  under_few (branch line c body rest) = search (arith, rules, in_few body, under_few rest, length-append)

-- ---- The callee `loop.cycle` has three tokens

abbrev CycleWeighs : ℕ → Callee → Type 0
CycleWeighs w a_cycle = 3 ≤ w
CycleWeighs w c = Unit {0}

module _ (sources : Sources) where
  alone_weighs : (d : Option Definition) (x : Text) (w : ℕ) → CycleWeighs w (named_alone sources d x)
  alone_weighs d x w = search (arith, rules)

  offered_weighs : (l : Text) (m : Option MacroBody) (w : ℕ) → CycleWeighs w (of_library sources l m)
  offered_weighs l m w = search (arith, rules)

  library_weighs : (d : Option Definition) (x : Text) (w : ℕ) → CycleWeighs w (in_library sources d x)
  library_weighs d x w = search (arith, rules, offered_weighs)

  callee_weighs : (ds : List (Text × Definition)) (f : Expr) → CycleWeighs (weight f) (callee sources ds f)
  callee_weighs ds f = search (arith, rules, alone_weighs, library_weighs)

either_of : {A : Type 0} (P : A → Type 0) (b : Bool) (x y : A) → P x → P y → P (if b then x else y)
either_of P true x y h k = h
either_of P false x y h k = k

-- ---- Operations, rows and tables

module _ (p : Parts) where
  abbrev pub Fine : Table → Type 0
  Fine t = Each (λ e. p.slot e.1) t

  pub all_fine : ((s : Slot) → p.slot s) → (t : Table) → Fine t
  all_fine h [] = tt
  all_fine h (b ∷ bs) = (h b.1, all_fine h bs)

  slot_fine : (t : Table) (x : Text) → Fine t → SomeSlot p (slot_in x t)
  slot_fine [] x h = tt
  slot_fine (b ∷ bs) x h = search (arith, rules, slot_fine bs x h.1)

  of_fine : p.slot (local 0) → (t : Table) (x : Text) → Fine t → p.slot (slot_of x t)
  of_fine f [] x h = f
  of_fine f (b ∷ bs) x h = search (arith, rules, of_fine f bs x h.1)

  known_is : (s : Option Slot) (i : ℕ) → SomeSlot p s → p.constant (known i) → IsRead p (value_or s (known i))
  known_is None i h c = known_read c
  known_is (Some s) i h c = variable_read h

  default_is : (s : Option Slot) (v : Tree) (i : ℕ) (es : SRow Constant) → SomeSlot p s → p.constant (own v)
      → LoadsOf p i i es → LoadsOf p (suc i) (suc i) (slots.item (value_or s (own v)) es)
  default_is None v i es h c l = default c l
  default_is (Some s) v i es h c l = load (omega arith) (variable_read h) l

  field_is : (f : Option LoopField) → IsLeaf p (field_from f)
  field_is None = absent_leaf
  field_is (Some f) = field_leaf

  turned_of : (b : Bool) (w v : ℕ) (e : SlotExpr Constant) → w + is_weight b ≤ v + 2 → ExprOf p w e
      → ExprOf p v (turned_round b e)
  turned_of false w v e l h = more (omega arith) h
  turned_of true w v e l h = more (omega arith) (single h)

  tested_of : (t : Option TestId) (w : ℕ) (es : SRow Constant) → RowOf p w 0 0 0 es
      → ExprOf p (max 1 w) (tested_by t es)
  tested_of None w es h = more (omega arith) (leaf absent_leaf)
  tested_of (Some t) w es h = operation h

  filtered_of : (f : Option ℕ) (on : Bool) (w v n m : ℕ) (es : SRow Constant) → p.filtered m → n ≤ m → min 1 n ≤ v
      → RowOf p w v n n es → ExprOf p (w + v + 1) (filtered_by f on es)
  filtered_of None on w v n m es a b c h = more (omega arith) (leaf absent_leaf)
  filtered_of (Some f) on w v n m es a b c h = filter a b c h

  required_of : (b : Bool) (w : ℕ) (e : SlotExpr Constant) → ExprOf p w e → OperandOf p w (required_if b e)
  required_of false w e h = plain h
  required_of true w e h = needed h

  form_of : (on : Bool) (b : BinaryOperator) (w v : ℕ) (x y : SlotExpr Constant) → OperandOf p w x → OperandOf p v y
      → ExprOf p (w + operator_weight b + v) (in_form (form on b) x y)
  form_of on o.Or w v x y h k = either h k
  form_of on o.And w v x y h k = both h k
  form_of on o.NotIn w v x y h k = more (omega arith) (single (pair h k))
  form_of on b w v x y h k = pair h k

  filled_of : (ps : List Parameter) (m d : ℕ) (ks : Table) → Fine ks
      → ((i : ℕ) → d ≤ i → i < d + length ps → p.constant (known i))
      → LoadsOf p (row_count (filled ps m d ks)) 0 (filled ps m d ks)
  filled_of [] m d ks h c = no_loads
  filled_of (q ∷ ps) (suc m) d ks h c = filled_of ps m (suc d) ks h (λ i l g. c i (omega arith) (omega arith))
  filled_of (q ∷ ps) zero d ks h c =
      load (omega arith) (known_is (slot_in q.name ks) d (slot_fine ks q.name h) (c d (omega arith) (omega arith)))
      (filled_of ps zero (suc d) ks h (λ i l g. c i (omega arith) (omega arith)))

  -- The demand on the defaults of parameters.
  abbrev pub Defaults : List Parameter → Type 0
  Defaults ps = Each (λ q. p.constant (own (default_value q.default))) ps

  pub all_defaults : ((k : Constant) → p.constant k) → (ps : List Parameter) → Defaults ps
  all_defaults h [] = tt
  all_defaults h (q ∷ ps) = (h (own (default_value q.default)), all_defaults h ps)

  some_of : (ps : List Parameter) (m : ℕ) (xs : List Text) (ks : Table) → Fine ks → Defaults ps
      → LoadsOf p (row_count (filled_some ps m xs ks)) (row_count (filled_some ps m xs ks)) (filled_some ps m xs ks)
  some_of [] m xs ks h d = no_loads
  some_of (q ∷ ps) (suc m) xs ks h d = some_of ps m xs ks h d.1
  some_of (q ∷ ps) zero xs ks h d =
      let rest = filled_some ps zero xs ks in
      let v = default_value q.default in
      either_of (λ es. LoadsOf p (row_count es) (row_count es) es) (some_given (q ∷ ps) xs)
      (slots.item (value_or (slot_in q.name ks) (own v)) rest) slots.none
      (default_is (slot_in q.name ks) v (row_count rest) rest (slot_fine ks q.name h) d.0 (some_of ps zero xs ks h d.1))
      no_loads

  first_of : (m : ℕ) (xs : List Text) → ((i : ℕ) → m ≤ i → i < m + length xs → p.slot (local i))
      → LoadsOf p (length xs) 0 (first_locals m xs)
  first_of m [] h = no_loads
  first_of m (x ∷ xs) h =
      load (omega arith) (variable_read (h m (omega arith) (omega arith)))
      (first_of (suc m) xs (λ i l g. h i (omega arith) (omega arith)))

  reads_of : p.constant (known 0) → (t : Table) (xs : List Text) → Fine t → LoadsOf p (length xs) 0 (reads t xs)
  reads_of c t [] h = no_loads
  reads_of c t (x ∷ xs) h = load (omega arith) (known_is (slot_in x t) 0 (slot_fine t x h) c) (reads_of c t xs h)

none_given : (ps : List Parameter) → some_given ps [] ≡ false
none_given [] = refl
none_given (p ∷ ps) = none_given ps

-- No argument of a filter is filled in if no name is given.
pub none_filled : (ps : List Parameter) (n : ℕ) (ks : Table) → filled_some ps n [] ks ≡ slots.none
none_filled [] n ks = refl
none_filled (p ∷ ps) (suc n) ks = none_filled ps n ks
none_filled (p ∷ ps) zero ks = search (arith, rules, none_given)

pub fresh_len : (n : ℕ) (xs : List Text) → length (fresh n xs) ≡ length xs
fresh_len n [] = refl
fresh_len n (x ∷ xs) = omega (arith, fresh_len (suc n) xs)

pub kept_len : (t : Table) (xs : List Text) → length (kept_slots t xs) ≡ length xs
kept_len t [] = refl
kept_len t (x ∷ xs) = omega (arith, kept_len t xs)

filled_few : (ps : List Parameter) (m d : ℕ) (ks : Table) → row_count (filled ps m d ks) ≤ length ps
filled_few [] m d ks = omega arith
filled_few (q ∷ ps) (suc m) d ks = omega (arith, filled_few ps m (suc d) ks)
filled_few (q ∷ ps) zero d ks = omega (arith, filled_few ps zero (suc d) ks)

some_few : (ps : List Parameter) (m : ℕ) (xs : List Text) (ks : Table)
    → row_count (filled_some ps m xs ks) ≤ length ps
some_few [] m xs ks = omega arith
some_few (q ∷ ps) (suc m) xs ks = omega (arith, some_few ps m xs ks)
some_few (q ∷ ps) zero xs ks = search (arith, rules, some_few ps zero xs ks)

some_paid : (ps : List Parameter) (m : ℕ) (xs : List Text) (ks : Table)
    → min 1 (row_count (filled_some ps m xs ks)) ≤ length xs
some_paid ps m [] ks = omega (arith, ap row_count (none_filled ps m ks))
some_paid ps m (x ∷ xs) ks = omega arith

-- ---- The chains of a program

-- Holds if the parts of the trees of a program meet the demands. Trees use locals below n, and no
-- tree is longer than z bytes. `Known` is what is known of each chain.
pub record Meets (p : Parts) (n z : ℕ) (cenv : CompileEnv) (order : List Namespace) (Known : Namespace → Type 0)
    : Type 0 where
  pub first : p.slot (local 0)
  pub locals : (i : ℕ) → i < n → p.slot (local i)
  pub global_slots : (h : Namespace) (i : ℕ) → first_slot cenv order h ≤ i
      → i < first_slot cenv order h + length (names cenv order h) → p.slot (global i)
  pub tables : (h : Namespace) → Fine p (globals cenv order h)
  pub undefined : p.constant (known 0)
  pub literals : (l : Literal) → literal_bytes l ≤ z → p.constant (own (literal l))
  pub macros : (h : Namespace) → Known h → (f : Expr) (k : Namespace) (m : MacroBody)
      → callee cenv.sources (given cenv.sources h) f ≡ a_macro k m
      → p.called (length m.parameters)
      × ((i : ℕ) → default_index cenv order k m.name ≤ i
      → i < default_index cenv order k m.name + length m.parameters → p.constant (known i))
  pub blocks : (h : Namespace) → Known h → (x : Text) → p.called (length (block_parameters cenv order h x))
  pub parameters : (h : Namespace) (x : Text) (i : ℕ) → i < length (block_parameters cenv order h x)
      → p.slot (local i)
  pub filters : (h : Namespace) → Known h → (f : Option ℕ)
      → p.filtered (length (filter_parameters cenv.filters f)) × Defaults p (filter_parameters cenv.filters f)
  pub name_counts : (h : Namespace) → Known h → (k : Namespace) → p.names (length (names cenv order k))

module _ (p : Parts) (n z : ℕ) (cenv : CompileEnv) (order : List Namespace) (Known : Namespace → Type 0)
    (m : Meets p n z cenv order Known) where
  -- Holds if there are locals for the tokens of a tree, except for c of them, and the tree is no
  -- longer than z bytes.
  abbrev Fits : StaticEnv → ℕ → ℕ → ℕ → Type 0
  Fits sp w c bytes = (sp.free + w ≤ n + c) × (bytes ≤ z)

  from_of : (d : ℕ) (xs : List Text) → d + length xs ≤ n → Fine p (locals_from d xs)
  from_of d [] h = tt
  from_of d (x ∷ xs) h = (m.locals d (omega arith), from_of (suc d) xs (omega arith))

  pub bound_of : (xs : List Text) (d : ℕ) (t : Table) → d + length xs ≤ n → Fine p t → Fine p (bound_table xs d t)
  bound_of [] d t h g = g
  bound_of (x ∷ xs) d t h g = bound_of xs (suc d) ((x, local d) ∷ t) (omega arith) (m.locals d (omega arith), g)

  read_is : (t : Table) (x : Text) → Fine p t → IsRead p (value_or (slot_in x t) (known 0))
  read_is t x h = known_is p (slot_in x t) 0 (slot_fine p t x h) m.undefined

  -- ---- Calls: a function puts arguments before a row

  abbrev IsFront : ℕ → (SRow Constant → SRow Constant) → Type 0
  IsFront w f = (v i j : ℕ) (b : SRow Constant) → RowOf p 0 v i j b → RowOf p w v i j (f b)

  abbrev IsNamed : ℕ → (SRow Constant → SRow Constant) → Type 0
  IsNamed v f = (i j : ℕ) (b : SRow Constant) → LoadsOf p i j b → RowOf p 0 v i j (f b)

  body_called : (h : Namespace) (on : Bool) (i : Option ℕ) (c : ℕ) (es : SRow Constant) → p.called c → LoadsOf p c 0 es
      → ExprOf p 3 (invoked_body cenv order h on i es)
  body_called h on None c es k l = more (omega arith) (leaf absent_leaf)
  body_called h on (Some i) c es k l = more (omega arith) (call k (omega arith) (loads l))

  super_called : (sp : StaticEnv) (o : Option Part) → Known sp.namespace → ExprOf p 3 (invoked_super cenv order sp o)
  super_called sp None k = more (omega arith) (leaf absent_leaf)
  super_called sp (Some o) k =
      let xs = block_parameters cenv order sp.namespace o.name in
      body_called sp.namespace sp.escaping (next_given o.behind) (length xs) (first_locals 0 xs)
      (m.blocks sp.namespace k o.name)
      (first_of p 0 xs (λ i l g. m.parameters sp.namespace o.name i (omega arith)))

  invoked_of : (c : Callee) (sp : StaticEnv) (row asides : SRow Constant → SRow Constant) (i : ℕ) (ks : Table)
      (u w v : ℕ)
      → 1 ≤ u → CycleWeighs u c → Known sp.namespace
      → ((k : Namespace) (b : MacroBody) → c ≡ a_macro k b → p.called (length b.parameters)
      × ((j : ℕ) → default_index cenv order k b.name ≤ j
      → j < default_index cenv order k b.name + length b.parameters → p.constant (known j)))
      → Fine p ks → IsFront w row → IsNamed v asides
      → ExprOf p (u + enclosed (w + v)) (invoked cenv order c sp row asides i ks)
  invoked_of (a_macro k b) sp row asides i ks u w v s t g f h r a =
      let d = default_index cenv order k b.name in
      let rest = filled b.parameters i d ks in
      let fits = f k b refl in
      more (omega arith)
      (call fits.0 (filled_few b.parameters i d ks)
      (r v (row_count rest) 0 (asides rest) (a (row_count rest) 0 rest (filled_of p b.parameters i d ks h fits.1))))
  invoked_of a_range sp row asides i ks u w v s t g f h r a =
      more (omega arith) (operation (r 0 0 0 slots.none (loads no_loads)))
  invoked_of a_super sp row asides i ks u w v s t g f h r a = more (omega arith) (super_called sp sp.part g)
  invoked_of (a_block x) sp row asides i ks u w v s t g f h r a =
      let xs = block_parameters cenv order sp.namespace x in
      more (omega arith)
      (body_called sp.namespace sp.escaping (first_body (numbered_of cenv sp.namespace x)) (length xs)
      (reads (globals cenv order sp.namespace) xs) (m.blocks sp.namespace g x)
      (reads_of p m.undefined (globals cenv order sp.namespace) xs (m.tables sp.namespace)))
  invoked_of a_cycle sp row asides i ks u w v s t g f h r a =
      let index : ExprOf p 3 (operation_of op.Remainder (slots.field Index0) (slots.pooled (own (tree.number (pos i)))))
      = pair (plain (leaf field_leaf)) (plain (leaf (own_leaf (m.literals (written.number (pos i)) (omega arith))))) in
      more (omega arith)
      (pair (plain (operation {k = slots.a_list} (r 0 0 0 slots.none (loads no_loads)))) (plain index))
  invoked_of no_callee sp row asides i ks u w v s t g f h r a = more (omega arith) (leaf absent_leaf)

  -- ---- Expressions

  mutual
    expr_of : (e : Expr) (sp : StaticEnv) → Known sp.namespace → Fine p sp.table → Fits sp (weight e) 0 (expr_bytes e)
        → ExprOf p (weight e) (resolved cenv order e sp)
    expr_of (constant l) sp g t k = more (expr_some (constant l)) (leaf (own_leaf (m.literals l k.1)))
    expr_of (name x) sp g t k = leaf (read_leaf (read_is sp.table x t))
    expr_of (group a) sp g t k = more (omega arith) (expr_of a sp g t (omega arith))
    expr_of (list_of ts) sp g t k =
        more (omega arith) (operation (row_of ts sp g t (omega arith) 0 0 0 slots.none (loads no_loads)))
    expr_of (map_of ps) sp g t k = more (omega arith) (operation (entries_of ps sp g t (omega arith)))
    expr_of (attribute a x) sp g t k =
        either_of (ExprOf p (2 + weight a)) (is_loop a) (field_from (field_named x))
        (operation_of op.Item (resolved cenv order a sp) (slots.pooled (own (tree.text x))))
        (more (omega arith) (leaf (field_is p (field_named x))))
        (more (omega arith)
        (pair (plain (expr_of a sp g t (omega arith)))
        (plain (leaf (own_leaf (m.literals (written.text x) (omega arith)))))))
    expr_of (item a b) sp g t k =
        more (omega arith) (pair (plain (expr_of a sp g t (omega arith))) (plain (expr_of b sp g t (omega arith))))
    expr_of (written.call f ts ps) sp g t k =
        invoked_of (callee cenv.sources (given cenv.sources sp.namespace) f) sp (resolved_row cenv order ts sp)
        (resolved_asides cenv order ps sp) (count ts) (locals_from sp.free (keywords ps)) (weight f) (exprs_weight ts)
        (pairs_weight 2 ps) (expr_some f) (callee_weighs cenv.sources (given cenv.sources sp.namespace) f) g
        (m.macros sp.namespace g f) (from_of sp.free (keywords ps) (omega (arith, names_few ps)))
        (row_of ts sp g t (omega arith)) (named_of ps sp g t (omega arith))
    expr_of (written.filter a x ts ps) sp g t k =
        let i = cenv.filters.named x ts ps in
        let ks = locals_from sp.free (keywords ps) in
        let qs = filter_parameters cenv.filters i in
        let rest = filled_some qs (count ts) (keywords ps) ks in
        more (omega arith)
        (filtered_of p i sp.escaping (1 + weight a + exprs_weight ts) (pairs_weight 2 ps) (row_count rest) (length qs)
        (slots.item (required_if (requires_input cenv.strict i) (resolved cenv order a sp))
        (resolved_row cenv order ts sp (resolved_asides cenv order ps sp rest))) (m.filters sp.namespace g i).0
        (some_few qs (count ts) (keywords ps) ks)
        (omega (arith, some_paid qs (count ts) (keywords ps) ks, names_few ps))
        (positional
        (required_of p (requires_input cenv.strict i) (weight a) (resolved cenv order a sp)
        (expr_of a sp g t (omega arith)))
        (row_of ts sp g t (omega arith) (pairs_weight 2 ps) (row_count rest) (row_count rest)
        (resolved_asides cenv order ps sp rest)
        (named_of ps sp g t (omega arith) (row_count rest) (row_count rest) rest
        (some_of p qs (count ts) (keywords ps) ks (from_of sp.free (keywords ps) (omega (arith, names_few ps)))
        (m.filters sp.namespace g i).1)))))
    expr_of (written.test a b x ts ps) sp g t k =
        let es = slots.item (resolved cenv order a sp) (resolved_row cenv order ts sp slots.none) in
        turned_of p b (max 1 (1 + weight a + exprs_weight ts)) (weight (written.test a b x ts ps))
        (tested_by (test_named x) es) (omega (arith, is_some_weight b))
        (tested_of p (test_named x) (1 + weight a + exprs_weight ts) es
        (positional (plain (expr_of a sp g t (omega (arith, is_some_weight b))))
        (row_of ts sp g t (omega (arith, is_some_weight b)) 0 0 0 slots.none (loads no_loads))))
    expr_of (unary u a) sp g t k = single (expr_of a sp g t (omega arith))
    expr_of (binary b x y) sp g t k =
        let strict = cenv.strict && joins b in
        let first = resolved cenv order x sp in
        let second = resolved cenv order y sp in
        form_of p sp.escaping b (weight x) (weight y) (required_if strict first) (required_if strict second)
        (required_of p strict (weight x) first (expr_of x sp g t (omega arith)))
        (required_of p strict (weight y) second (expr_of y sp g t (omega arith)))
    expr_of (written.when c a) sp g t k =
        when (expr_of c sp g t (omega arith)) (expr_of a sp g t (omega arith)) (known_read m.undefined)
    expr_of (choice c a b) sp g t k =
        chosen (expr_of c sp g t (omega arith)) (expr_of a sp g t (omega arith)) (expr_of b sp g t (omega arith))

    row_of : (ts : Exprs) (sp : StaticEnv) → Known sp.namespace → Fine p sp.table
        → Fits sp (exprs_weight ts) 0 (exprs_bytes ts) → IsFront (exprs_weight ts) (resolved_row cenv order ts sp)
    row_of no_exprs sp g t k v i j b h = h
    row_of (expr a ts) sp g t k v i j b h =
        positional (plain (expr_of a sp g t (omega arith))) (row_of ts sp g t (omega arith) v i j b h)

    named_of : (ps : Pairs) (sp : StaticEnv) → Known sp.namespace → Fine p sp.table
        → Fits sp (pairs_weight 2 ps) 0 (pairs_bytes ps)
        → IsNamed (pairs_weight 2 ps) (resolved_asides cenv order ps sp)
    named_of no_pairs sp g t k i j b h = loads h
    named_of (written.pair x a ps) sp g t k i j b h =
        named (m.locals sp.free (omega (arith, expr_some a))) (expr_of a sp g t (omega arith))
        (named_of ps (grown sp) g t (omega arith) i j b h)

    entries_of : (ps : Pairs) (sp : StaticEnv) → Known sp.namespace → Fine p sp.table
        → Fits sp (pairs_weight 3 ps) 0 (pairs_bytes ps)
        → RowOf p (pairs_weight 3 ps) 0 0 0 (resolved_entries cenv order ps sp)
    entries_of no_pairs sp g t k = loads no_loads
    entries_of (written.pair x a ps) sp g t k =
        wider (omega arith)
        (positional (plain (leaf (own_leaf (m.literals (written.text x) (omega arith)))))
        (positional (plain (expr_of a sp g t (omega arith))) (entries_of ps sp g t (omega arith))))

  -- ---- Statements: the names that a scope sets have their locals before its statements

  condition_of : (c : Option Expr) (sp : StaticEnv) → Known sp.namespace → Fine p sp.table
      → Fits sp (condition_weight c) 0 (condition_bytes c)
      → ConditionOf p (condition_weight c) (resolved_condition cenv order c sp)
  condition_of None sp g t k = no_condition
  condition_of (Some c) sp g t k = condition (expr_of c sp g t (omega arith))

  filters_of : (fs : List FilterCall) (sp : StaticEnv) (w : ℕ) (e : SlotExpr Constant) → Known sp.namespace
      → Fine p sp.table → Fits sp (filter_call_weight fs) 0 (filter_call_bytes fs) → ExprOf p w e
      → ExprOf p (w + filter_call_weight fs) (resolved_filters cenv order fs sp e)
  filters_of [] sp w e g t k h = more (omega arith) h
  filters_of (f ∷ fs) sp w e g t k h =
      let i = cenv.filters.named f.name f.arguments f.keywords in
      let ts = f.arguments in
      let ps = f.keywords in
      let ks = locals_from sp.free (keywords ps) in
      let qs = filter_parameters cenv.filters i in
      let rest = filled_some qs (count ts) (keywords ps) ks in
      let strict = requires_input cenv.strict i in
      let es =
      slots.item (required_if strict e) (resolved_row cenv order ts sp (resolved_asides cenv order ps sp rest)) in
      more (omega arith)
      (filters_of fs sp (1 + w + exprs_weight ts + pairs_weight 2 ps + 1) (filtered_by i sp.escaping es) g t
      (omega arith)
      (filtered_of p i sp.escaping (1 + w + exprs_weight ts) (pairs_weight 2 ps) (row_count rest) (length qs) es
      (m.filters sp.namespace g i).0 (some_few qs (count ts) (keywords ps) ks)
      (omega (arith, some_paid qs (count ts) (keywords ps) ks, names_few ps))
      (positional (required_of p strict w e h)
      (row_of ts sp g t (omega arith) (pairs_weight 2 ps) (row_count rest) (row_count rest)
      (resolved_asides cenv order ps sp rest)
      (named_of ps sp g t (omega arith) (row_count rest) (row_count rest) rest
      (some_of p qs (count ts) (keywords ps) ks (from_of sp.free (keywords ps) (omega (arith, names_few ps)))
      (m.filters sp.namespace g i).1))))))

  fresh_each : (d : ℕ) (xs : List Text) → d + length xs ≤ n → EachSlot p (fresh d xs)
  fresh_each d [] h = tt
  fresh_each d (x ∷ xs) h = (m.locals d (omega arith), fresh_each (suc d) xs (omega arith))

  fresh_of : (d : ℕ) (xs : List Text) → d + length xs ≤ n → TargetsOf p (length xs) (fresh_targets d xs)
  fresh_of d [] h = targets refl tt
  fresh_of d (x ∷ []) h = one_target (m.locals d (omega arith))
  fresh_of d (x ∷ (y ∷ ys)) h = targets (fresh_len d (x ∷ (y ∷ ys))) (fresh_each d (x ∷ (y ∷ ys)) h)

  kept_each : (t : Table) (xs : List Text) → Fine p t → EachSlot p (kept_slots t xs)
  kept_each t [] h = tt
  kept_each t (x ∷ xs) h =
      (either_of (SomeSlot p) (among x xs) None (slot_in x t) tt (slot_fine p t x h), kept_each t xs h)

  set_of : (t : Table) (xs : List Text) → Fine p t → TargetsOf p (length xs) (set_targets t xs)
  set_of t [] h = targets refl tt
  set_of t (x ∷ []) h = one_target (of_fine p m.first t x h)
  set_of t (x ∷ (y ∷ ys)) h = targets (kept_len t (x ∷ (y ∷ ys))) (kept_each t (x ∷ (y ∷ ys)) h)

  copied_of : (q : Place) (t : Table) (d : ℕ) (xs : List Text) (b : SBody Constant) → d + length xs ≤ n → Fine p t
      → CopiesOf p (length xs) b (copied q t d xs b)
  copied_of q t d [] b h g = no_copies
  copied_of q t d (x ∷ xs) b h g =
      copy (m.locals d (omega arith)) (read_is t x g) (copied_of q t (suc d) xs b (omega arith) g)

  handed_of : (q : Place) (t : Table) (d : ℕ) (xs : List Text) (b : SBody Constant) → Fine p t
      → ((i : ℕ) → d ≤ i → i < d + length xs → p.slot (global i))
      → CopiesOf p (length xs) b (followed (handed_on q t d xs) b)
  handed_of q t d [] b g h = no_copies
  handed_of q t d (x ∷ xs) b g h =
      copy (h d (omega arith) (omega arith)) (read_is t x g)
      (handed_of q t (suc d) xs b g (λ i l r. h i (omega arith) (omega arith)))

  -- The body of a scope with the copies at its start, by the body alone.
  inner_of : (b : Body) (sp : StaticEnv) → Fine p sp.table → Fits sp (body_own b) 0 (body_bytes b)
      → (Fine p (bound_table (set_in b) sp.free sp.table)
      → Fits (bound_all (set_in b) sp) (body_own b) (length (set_in b)) (body_bytes b)
      → BodyOf p (body_free b) (body_binds b) (length (set_in b))
      (resolved_body cenv order b (bound_all (set_in b) sp)))
      → BodyOf p (body_free b) (body_binds b) 0 (scoped (set_in b) sp (resolved_body cenv order b))
  inner_of b sp t k h =
      let few : sp.free + length (set_in b) ≤ n = omega (arith, k, in_few b) in
      scope (in_few b).0
      (copied_of (place sp 1) sp.table sp.free (set_in b) (resolved_body cenv order b (bound_all (set_in b) sp)) few t)
      (h (bound_of (set_in b) sp.free sp.table few t) (omega arith))

  values_of : (ps : Pairs) (sp : StaticEnv) (line : ℕ) (b : SBody Constant) → Known sp.namespace
      → Fine p sp.table → Fits sp (pairs_weight 2 ps) 0 (pairs_bytes ps)
      → ValuesOf p (pairs_weight 0 ps) (pairs_count ps) b (resolved_values cenv order ps sp line b)
  values_of no_pairs sp line b g t k = no_values
  values_of (written.pair x e ps) sp line b g t k =
      value (m.locals sp.free (omega (arith, expr_some e))) (expr_of e sp g t (omega arith))
      (values_of ps (grown sp) line b g t (omega arith))

  left_of : (sp : StaticEnv) (line : ℕ) (missing : Bool) → BodyOf p 7 0 0 (left_out sp line missing)
  left_of sp line true = wide (omega arith) (omega arith) (omega arith) empty
  left_of sp line false = wide (omega arith) (omega arith) (omega arith) (alone (print_part (plain (leaf absent_leaf))))

  placed_of : (sp : StaticEnv) (i : Option ℕ) (x : Text) (t : Table) → Known sp.namespace → Fine p t
      → BodyOf p 9 0 0 (placed_body cenv order sp i x t)
  placed_of sp None x t g h =
      wide (omega arith) (omega arith) (omega arith) (alone (print_part (plain (leaf absent_leaf))))
  placed_of sp (Some i) x t g h =
      let xs = block_parameters cenv order sp.namespace x in
      wide (omega arith) (omega arith) (omega arith)
      (alone (run_part {n = length xs} (m.blocks sp.namespace g x) (omega arith) (reads_of p m.undefined t xs h)))

  abbrev AreFew : ℕ → Type 0
  AreFew c = (i : ℕ) → i ≤ c → p.targets i

  mutual
    stmt_of : (s : Stmt) (sp : StaticEnv) → Known sp.namespace → Fine p sp.table
        → Fits sp (stmt_own s) (length (set_by s)) (stmt_bytes s) → AreFew (stmt_bound s)
        → BodyOf p (stmt_free s) (stmt_binds s) (length (set_by s)) (resolved_stmt cenv order s sp)
    stmt_of (data_of x) sp g t k f = alone (data_part (m.literals (written.text x) k.1))
    stmt_of (print line e) sp g t k f =
        alone
        (print_part
        (required_of p cenv.strict (weight e) (resolved cenv order e sp) (expr_of e sp g t (omega arith))))
    stmt_of (choose bs other) sp g t k f =
        let l = length-append (set_under bs) (set_in other) in
        wide (omega arith) (omega arith) (omega (arith, l))
        (choice_of bs sp (body_free other) (body_binds other) (length (set_in other))
        (resolved_body cenv order other sp)
        g t (omega (arith, k, l, in_few other)) (λ i h. f i (omega arith))
        (body_of other sp g t (omega (arith, k, l, under_few bs)) (λ i h. f i (omega arith))))
    stmt_of (for_each line xs e c body other) sp g t k f =
        let inner = bound_all xs sp in
        let few : sp.free + length xs ≤ n = omega (arith, k, in_few other) in
        let bound = bound_of xs sp.free sp.table few t in
        wide (omega arith) (omega arith) (omega arith)
        (alone (loop_part (f (length xs) (omega arith)) (fresh_of sp.free xs few)
        (required_of p cenv.strict (weight e) (resolved cenv order e sp)
        (expr_of e sp g t (omega (arith, k, in_few other))))
        (condition_of c inner g bound (omega (arith, k, in_few other)))
        (inner_of body inner bound (omega (arith, k, in_few other))
        (λ r l. body_of body (bound_all (set_in body) inner) g r l (λ i h. f i (omega arith))))
        (body_of other sp g t (omega arith) (λ i h. f i (omega arith)))))
    stmt_of (set line xs e) sp g t k f =
        alone (set_part (f (length xs) (omega arith)) (set_of sp.table xs t) (expr_of e sp g t (omega arith)))
    stmt_of (set_block line x body) sp g t k f =
        wide (omega arith) (omega arith) (omega arith)
        (alone (capture_part {c = 1} (omega arith) (of_fine p m.first sp.table x t)
        (inner_of body sp t (omega arith)
        (λ r l. body_of body (bound_all (set_in body) sp) g r l (λ i h. f i (omega arith))))))
    stmt_of (with_values line ps body) sp g t k f =
        let inner = bound_all (keywords ps) sp in
        let bound = bound_of (keywords ps) sp.free sp.table (omega (arith, k, names_few ps, pairs_bound ps)) t in
        wide (omega arith) (omega arith) (omega arith)
        (within
        (values_of ps sp line (scoped (set_in body) inner (resolved_body cenv order body)) g t
        (omega (arith, k, pairs_bound ps)))
        (inner_of body inner bound (omega (arith, k, names_few ps, pairs_bound ps))
        (λ r l. body_of body (bound_all (set_in body) inner) g r l (λ i h. f i (omega arith)))))
    stmt_of (filter_block line fs body) sp g t k f =
        let inner = grown sp in
        wide (omega arith) (omega arith) (omega arith)
        (after
        (alone (capture_part {c = 0} (omega arith) (m.locals sp.free (omega arith))
        (inner_of body inner t (omega arith)
        (λ r l. body_of body (bound_all (set_in body) inner) g r l (λ i h. f i (omega arith))))))
        (alone
        (print_part
        (required_of p cenv.strict (1 + filter_call_weight fs)
        (resolved_filters cenv order fs inner (variable (local sp.free)))
        (filters_of fs inner 1 (variable (local sp.free)) g t (omega arith)
        (leaf (read_leaf (variable_read (m.locals sp.free (omega arith))))))))))
    stmt_of (autoescape line on body) sp g t k f =
        let inner = record sp { escaping = on } in
        wide (omega arith) (omega arith) (omega arith)
        (inner_of body inner t (omega arith)
        (λ r l. body_of body (bound_all (set_in body) inner) g r l (λ i h. f i (omega arith))))
    stmt_of (include line x missing with_context) sp g t k f =
        let h = a_chain x in
        let table = if with_context then sp.table else [] in
        either_of (BodyOf p 7 0 0) (is_none (cenv.sources x)) (left_out sp line missing)
        (followed (handed_on (place sp line) table (first_slot cenv order h) (names cenv order h))
        (slots.stmt (run (unit cenv order (of_chain x)) slots.none) slots.end)) (left_of sp line missing)
        (handed (m.name_counts sp.namespace g h)
        (handed_of (place sp line) table (first_slot cenv order h) (names cenv order h)
        (slots.stmt (run (unit cenv order (of_chain x)) slots.none) slots.end)
        (either_of (Fine p) with_context sp.table [] t tt) (m.global_slots h)))
    stmt_of (block line x is required body) sp g t k f =
        placed_of sp (first_body (numbered_of cenv sp.namespace x)) x
        (if is then sp.table else globals cenv order sp.namespace) g
        (either_of (Fine p) is sp.table (globals cenv order sp.namespace) t (m.tables sp.namespace))
    stmt_of s sp g t k f = wide (omega arith) (omega arith) (omega arith) empty

    body_of : (b : Body) (sp : StaticEnv) → Known sp.namespace → Fine p sp.table
        → Fits sp (body_own b) (length (set_in b)) (body_bytes b) → AreFew (body_bound b)
        → BodyOf p (body_free b) (body_binds b) (length (set_in b)) (resolved_body cenv order b sp)
    body_of end sp g t k f = empty
    body_of (stmt s rest) sp g t k f =
        let l = length-append (set_by s) (set_in rest) in
        wide (omega arith) (omega arith) (omega (arith, l))
        (after (stmt_of s sp g t (omega (arith, k, l, in_few rest)) (λ i h. f i (omega arith)))
        (body_of rest sp g t (omega (arith, k, l, by_few s)) (λ i h. f i (omega arith))))

    choice_of : (bs : Branches) (sp : StaticEnv) (w c d : ℕ) (other : SBody Constant) → Known sp.namespace
        → Fine p sp.table → Fits sp (branch_own bs) (length (set_under bs)) (branch_bytes bs)
        → AreFew (branch_bound bs)
        → BodyOf p w c d other
        → BodyOf p (branch_free bs + w) (branch_binds bs + c) (length (set_under bs) + d)
        (resolved_choice cenv order bs sp other)
    choice_of no_branches sp w c d other g t k f h = wide (omega arith) (omega arith) (omega arith) h
    choice_of (branch line e body rest) sp w c d other g t k f h =
        let l = length-append (set_in body) (set_under rest) in
        wide (omega arith) (omega arith) (omega (arith, l))
        (alone (branch_part (expr_of e sp g t (omega (arith, k, l, in_few body, under_few rest)))
        (body_of body sp g t (omega (arith, k, l, under_few rest)) (λ i h. f i (omega arith)))
        (choice_of rest sp w c d other g t (omega (arith, k, l, in_few body)) (λ i h. f i (omega arith)) h)))

  -- ---- Routines

  sets_of : (h : Namespace) (b : Body) (x : Text) → Known h
      → Fits (top_senv cenv order h x) (body_own b) 0 (body_bytes b) → AreFew (body_bound b)
      → BodyOf p (body_free b) (body_binds b) 0 (resolved_sets cenv order b (top_senv cenv order h x))
  sets_of h end x g k f = empty
  sets_of h (stmt s rest) x g k f =
      let sp = top_senv cenv order h x in
      let left = resolved_sets cenv order rest sp in
      let later = sets_of h rest x g (omega arith) (λ i l. f i (omega arith)) in
      either_of (BodyOf p (body_free (stmt s rest)) (body_binds (stmt s rest)) 0) (is_set s)
      (followed (resolved_stmt cenv order s sp) left) left
      (wide (omega arith) (omega arith) (omega arith)
      (after (stmt_of s sp g (m.tables h) (omega arith) (λ i l. f i (omega arith))) later))
      (wide (omega arith) (omega arith) (omega arith) later)

  pub chain_of : (h : Namespace) (ts : List Template) → Known h → templates_own ts ≤ n → AreShort z ts
      → AreFew (templates_bound ts)
      → BodyOf p (templates_free ts) (templates_bind ts) 0 (resolved_chain cenv order h ts)
  chain_of h [] g k y f = empty
  chain_of h (t ∷ []) g k y f =
      wide (omega arith) (omega arith) (omega arith)
      (body_of t.body (top_senv cenv order h t.name) g (m.tables h) (omega (arith, y.0)) (λ i l. f i (omega arith)))
  chain_of h (t ∷ (u ∷ us)) g k y f =
      after (sets_of h t.body t.name g (omega (arith, y.0)) (λ i l. f i (omega arith)))
      (chain_of h (u ∷ us) g (omega arith) y.1 (λ i l. f i (omega arith)))

  -- A body with parameters, in a scope of its own.
  pub routine_of : (xs : List Text) (b : Body) (sp : StaticEnv) → Known sp.namespace → Fine p sp.table
      → Fits sp (length xs + body_own b) 0 (body_bytes b) → AreFew (body_bound b)
      → BodyOf p (body_free b) (body_binds b) 0
      (scoped (set_in b) (bound_all xs sp) (resolved_body cenv order b))
  routine_of xs b sp g t k f =
      let inner = bound_all xs sp in
      inner_of b inner (bound_of xs sp.free sp.table (omega arith) t) (omega arith)
      (λ r l. body_of b (bound_all (set_in b) inner) g r l f)

-- The parts of chains and of routines, if no demand depends on the number of locals or on the length
-- of trees.
module _ (p : Parts) (cenv : CompileEnv) (order : List Namespace) (Known : Namespace → Type 0)
    (m : (n z : ℕ) → Meets p n z cenv order Known) where
  pub chain_parts : (h : Namespace) (ts : List Template) → Known h
      → ((i : ℕ) → i ≤ templates_bound ts → p.targets i)
      → BodyOf p (templates_free ts) (templates_bind ts) 0 (resolved_chain cenv order h ts)
  chain_parts h ts g f =
      let n = templates_own ts in
      let z = longest ts in
      chain_of p n z cenv order Known (m n z) h ts g (omega arith) (are_short z ts (omega arith)) f

  pub routine_parts : (xs : List Text) (b : Body) (sp : StaticEnv) → Known sp.namespace → Fine p sp.table
      → ((i : ℕ) → i ≤ body_bound b → p.targets i)
      → BodyOf p (body_free b) (body_binds b) 0
      (scoped (set_in b) (bound_all xs sp) (resolved_body cenv order b))
  routine_parts xs b sp g t f =
      let n = sp.free + (length xs + body_own b) in
      let z = body_bytes b in
      routine_of p n z cenv order Known (m n z) xs b sp g t (omega arith) f
