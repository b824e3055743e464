-- The meaning of an expression by names is its meaning by slots.
use Rattle.std.proofs.Common.{◌≡◌, ℕ, zero, suc, pos, ◌+◌, ◌≤◌, Bool, true, false, if◌then◌else◌, List, [], ◌∷◌}
use Rattle.std.proofs.Common.{◌++◌, length, map, Option, Some, None, refl, sym, ap, ◌∙◌, subst, arith, append_assoc}
use Rattle.std.proofs.Common.{inl, inr, rules}
use Rattle.std.proofs.lemmas.List.{append-nil, length-map}
use Rattle.std.specs.Prelude.{unwrap_or, Result, filter, ◌&&◌}
use Rattle.std.specs.Str.{bytes_eq}
use Rattle.jt_value.specs.Tree as tree
use Rattle.jt_value.specs.Tree.{Tree}
use Rattle.jt_value.specs.Pairs.{Pairs, look}
use Rattle.jt_value.specs.View.{items_of}
use Rattle.jt_value.specs.declared.fault.Fault.{Fault}
use Rattle.jt_ids.specs.declared.op_id.OpId.{OpId}
use Rattle.jt_ids.specs.declared.op_id.OpId.TheVariants as op
use Rattle.jt_ids.specs.declared.test_id.TestId.{TestId}
use Rattle.jt_op_semantics.specs.Operation as operators
use Rattle.jt_op_semantics.specs.Operation.{as_truth}
use Rattle.jt_op_semantics.specs.Testing.{tested}
use Rattle.jt_op_semantics.specs.Ranges.{ranged}
use Rattle.jt_op_semantics.specs.Making.{listed}
use Rattle.jt_ast.specs.Expressions as written
use Rattle.jt_ast.specs.Expressions.{Expr, constant, name, group, list_of, attribute, item, unary, binary, when}
use Rattle.jt_ast.specs.Expressions.{choice, Exprs, no_exprs, expr, no_pairs, pair, Text}
use Rattle.jt_eval.specs.Eval.{Eval, gives, bind, checked}
use Rattle.jt_semantics.specs.Operators.{unary_operation, OperatorForm, operation, negation, conjunction, disjunction}
use Rattle.jt_semantics.specs.Operators.{form, joins, range_of}
use Rattle.jt_eval.specs.Tests.{test_named}
use Rattle.jt_eval.specs.Values.{literal, as_value, defined, required_if}
use Rattle.jt_semantics.specs.Expressions.{operated, asked, turned, either, combined, filtered, filter_parameters}
use Rattle.jt_semantics.specs.Expressions.{requires_input}
use Rattle.jt_semantics.specs.Expressions.{entries_of, field_of, cycled, block_text, super_text, seen_by, valued_text}
use Rattle.jt_semantics.specs.Expressions.{called, value, values, named_values}
use Rattle.jt_chains.specs.Uses.{count, keywords, expr_names, row_names, pair_names}
use Rattle.jt_ast.specs.Statements.{Parameter}
use Rattle.jt_semantics.specs.Env.{Env, read, top}
use Rattle.jt_chains.specs.Chain.{Namespace, a_library, BlockBody, bodies, all_bodies, from_given, MacroBody, given}
use Rattle.jt_chains.specs.Chain.{Callee, a_macro, a_range, a_super, a_block, callee}
use Rattle.jt_ids.specs.declared.loop_field.LoopField.{LoopField}
use Rattle.jt_ids.specs.declared.loop_field.LoopField.TheVariants.{Index0}
use Rattle.jt_ids.specs.LoopTable.{field_named}
use Rattle.jt_eval.specs.Loops.{Loop, loop_field}
use Rattle.jt_eval.specs.Filters.{Filters, parameters, by_name, arguments}
use Rattle.jt_rules.specs.CompileEnv.{CompileEnv}
use Rattle.jt_semantics.specs.EvalContext.{Placement, the_macro, the_block, Calls}
use Rattle.jt_ir.specs.Slots as slots
use Rattle.jt_ir.specs.Slots.{Slot, local, NaryOp, operator, a_list, SlotExpr, made, SRow, none, Memory, Valued}
use Rattle.jt_ir.specs.Slots.{Listed, Written, SCalls, load, store, make, valued, in_front, svalue, svalues}
use Rattle.jt_semantics.specs.Layout.{Table, slot_in, first_slot, of_macro, of_body, names, globals, block_parameters}
use Rattle.jt_semantics.specs.Layout.{is_scoped, numbered_of, numbered_bodies, counted_from, unit, default_index}
use Rattle.jt_semantics.specs.Layout.{scopes}
use Rattle.jt_semantics.specs.Programs.{pool}
use Rattle.jt_ir.specs.Pool.{Constant, own, known, constant_in}
use Rattle.jt_semantics.specs.Resolve.{no_value, value_or, read_from, operation_of, turned_round, tested_by}
use Rattle.jt_semantics.specs.Resolve.{filtered_by, in_form, field_from, locals_from, filled, filled_some, first_locals}
use Rattle.jt_semantics.specs.Resolve.{reads, StaticEnv, Part, grown, next_given, first_body, invoked_body}
use Rattle.jt_semantics.specs.Resolve.{invoked_super, invoked, resolved, resolved_row, resolved_asides}
use Rattle.jt_semantics.specs.Resolve.{resolved_entries}
use Rattle.jt_semantics.proofs.SameEval.{SameEval, both, fault, deep, bind_both, if_both, weaken, right_both}
use Rattle.jt_semantics.proofs.SameEval.{bind_gives, bind_assoc, bind_ext, by_left, by_right}
use Rattle.jt_semantics.proofs.EnvLookup.{held, put_here}
use Rattle.jt_semantics.proofs.EnvMemoryAgreement.{Kept, kept_same, kept_then, kept_less, kept_store, Held, limit}
use Rattle.jt_semantics.proofs.EnvMemoryAgreement.{global_reads, read_names, GlobalsAgree, library_agrees, seen_agree}
use Rattle.jt_semantics.proofs.DefinedNames.{LeadsTo, Found, called_macro}
use Rattle.jt_semantics.proofs.CallInvariant.{Evaluated, Rowed, Known, Sees, Tail, PartHolds, Good, good_kept}
use Rattle.jt_semantics.proofs.CallInvariant.{good_grown, around_of, Wrote, CallsMean, DefaultsAt, Laid}
use Rattle.jt_semantics.proofs.Among.{Among, AllAmong, among_front, among_back}

-- ---- Rows of values

abbrev pub prefixed : List Tree → Listed → Listed
prefixed [] r = r
prefixed (v ∷ vs) r = in_front v (prefixed vs r)

prefixed_values : (vs : List Tree) (r : Listed) → (prefixed vs r).values ≡ vs ++ r.values
prefixed_values [] r = refl
prefixed_values (v ∷ vs) r = ap (λ ts. v ∷ ts) (prefixed_values vs r)

prefixed_memory : (vs : List Tree) (r : Listed) → (prefixed vs r).memory ≡ r.memory
prefixed_memory [] r = refl
prefixed_memory (v ∷ vs) r = prefixed_memory vs r

-- Holds if the second list begins with the first one.
abbrev pub FrontOf : List Tree → List Tree → Type 0
FrontOf [] ts = Unit {0}
FrontOf (v ∷ vs) [] = ⊥
FrontOf (v ∷ vs) (t ∷ ts) = (t ≡ v) × FrontOf vs ts

pub held_behind : (t : Tree) (ts : List Tree) (k : ℕ) (vs : List Tree) → Held ts k vs → Held (t ∷ ts) (suc k) vs
held_behind t ts k [] h = tt
held_behind t ts k (v ∷ vs) h = (h.0, held_behind t ts (suc k) vs h.1)

front_held : (vs ts : List Tree) → FrontOf vs ts → Held ts 0 vs
front_held [] ts f = tt
front_held (v ∷ vs) [] f = absurd f
front_held (v ∷ vs) (t ∷ ts) f = (f.0, held_behind t ts 0 vs (front_held vs ts f.1))

-- ---- Arguments by name, and the locals that hold them

abbrev pub Looked : Option Tree → Option Slot → Memory → Type 0
Looked None None m = Unit {0}
Looked None (Some s) m = ⊥
Looked (Some v) None m = ⊥
Looked (Some v) (Some s) m = load s m ≡ v

abbrev pub KeywordsHeld : Table → Pairs → Memory → Type 0
KeywordsHeld table ks m = (x : Text) → Looked (look x ks) (slot_in x table) m

keywords_held : (m : Memory) (k : ℕ) (ks : Pairs) → Held m.locals k (map (λ p. p.1) ks)
    → KeywordsHeld (locals_from k (map (λ p. p.0) ks)) ks m
keywords_held m k [] h x = tt
keywords_held m k (p ∷ ps) h x = search (arith, rules, keywords_held m (suc k) ps h.1 x)

parameter_names : (ps : List Parameter) (vs : List Tree) (ks : Pairs)
    → map (λ p. p.0) (parameters ps vs ks) ≡ map (λ p. p.name) ps
parameter_names [] vs ks = refl
parameter_names (p ∷ ps) [] ks = ap (λ xs. p.name ∷ xs) (parameter_names ps [] ks)
parameter_names (p ∷ ps) (v ∷ vs) ks = ap (λ xs. p.name ∷ xs) (parameter_names ps vs ks)

-- ---- Bodies and their indices

pub counted_are : {A : Type 0} (n : ℕ) (xs : List A) → map (λ c. c.1) (counted_from n xs) ≡ xs
counted_are n [] = refl
counted_are n (x ∷ xs) = ap (λ ys. x ∷ ys) (counted_are (suc n) xs)

filter_map : (p : BlockBody → Bool) (bs : List (ℕ × BlockBody))
    → map (λ c. c.1) (filter (λ c. p c.1) bs) ≡ filter p (map (λ c. c.1) bs)
filter_map p [] = refl
filter_map p (b ∷ bs) = search (arith, rules, filter_map p bs)

pub numbered_are : (cenv : CompileEnv) (h : Namespace) (x : Text)
    → bodies cenv.sources cenv.escaping h x ≡ map (λ c. c.1) (numbered_of cenv h x)
numbered_are cenv h x =
    search (
      arith,
      rules,
      counted_are 0 (all_bodies cenv.sources cenv.escaping h),
      filter_map (λ b. bytes_eq b.name x) (numbered_bodies cenv h),
    )

-- Holds if the body that `super()` calls has the index that resolution finds.
abbrev pub GivenBy : List (ℕ × BlockBody) → List BlockBody → Option ℕ → Type 0
GivenBy bs [] None = Unit {0}
GivenBy bs [] (Some i) = ⊥
GivenBy bs (c ∷ cs) None = ⊥
GivenBy bs (c ∷ cs) (Some i) =
    (before behind : List (ℕ × BlockBody)) × (bs ≡ before ++ ((i, c) ∷ behind)) × (cs ≡ map (λ d. d.1) behind)

pub given_by : (bs : List (ℕ × BlockBody)) → GivenBy bs (from_given (map (λ d. d.1) bs)) (next_given bs)
given_by [] = tt
given_by (b ∷ bs) = through b.1.required (given_by bs)
  where
    later : (cs : List BlockBody) (o : Option ℕ) → GivenBy bs cs o → GivenBy (b ∷ bs) cs o
    later [] None g = g
    later [] (Some i) g = g
    later (c ∷ cs) None g = g
    later (c ∷ cs) (Some i) g = (b ∷ g.0, g.1, ap (λ ds. b ∷ ds) g.2, g.3)

    through : (r : Bool) → GivenBy bs (from_given (map (λ d. d.1) bs)) (next_given bs)
        → GivenBy (b ∷ bs) (if r then from_given (map (λ d. d.1) bs) else b.1 ∷ map (λ d. d.1) bs)
        (if r then next_given bs else Some b.0)
    through true g = later (from_given (map (λ d. d.1) bs)) (next_given bs) g
    through false g = ([], bs, refl, refl)

-- ---- `range` of any number of arguments

range_same : (n : ℕ) (vs : List Tree) → operators.operation (range_of n) vs ≡ ranged vs
range_same n vs = search (arith, rules)

-- ---- Regroupings

regroup : {A B C D : Type 0} (g : Eval A) (h : Eval B) (f : A → B → C) (k : C → Eval D)
    → bind g (λ x. bind h (λ y. k (f x y))) ≡ bind (bind g (λ x. bind h (λ y. gives (f x y)))) k
regroup g h f k = search (arith, rules)

-- ---- Values made of other values, over slots

module _ (cenv : CompileEnv) (order : List Namespace) (calls : Calls) (scall : SCalls)
    (mean : CallsMean cenv order calls scall) (laid : Laid cenv order) (l : Option Loop) (q : Option Placement) where
  abbrev pub fs : Filters
  fs = cenv.filters

  abbrev pub constants : Constant → Tree
  constants = constant_in (pool cenv order)

  abbrev pub seen : SlotExpr Constant → Memory → Eval Valued
  seen e m = svalue fs constants scall e l m

  abbrev pub seen_row : SRow Constant → Memory → Eval Listed
  seen_row es m = svalues fs constants scall es l m

  -- An operation on a sequence of one value is an operation on the value.
  one_after : (g : Eval Valued) (f : List Tree → Memory → Eval Valued)
      → bind (bind g (λ r. gives (in_front r.value (record { values = []; memory = r.memory }))))
      (λ r. f r.values r.memory)
      ≡ bind g (λ r. f (r.value ∷ []) r.memory)
  one_after g f = search (arith, rules)

  on_one : (o : OpId) (e : SlotExpr Constant) (m : Memory)
      → seen (made (operator o) (slots.item e none)) m
      ≡ bind (seen e m) (λ r. bind (operated o (r.value ∷ [])) (valued r.memory))
  on_one o e m = one_after (seen e m) (λ vs n. bind (operated o vs) (valued n))

  two_after : (g : Eval Valued) (h : Memory → Eval Valued) (f : List Tree → Memory → Eval Valued)
      → bind (bind g (λ r. bind
      (bind (h r.memory) (λ s. gives (in_front s.value (record { values = []; memory = s.memory }))))
      (λ rs. gives (in_front r.value rs))))
      (λ r. f r.values r.memory)
      ≡ bind g (λ r. bind (h r.memory) (λ s. f (r.value ∷ s.value ∷ []) s.memory))
  two_after g h f = search (arith, rules)

  on_two : (o : OpId) (e k : SlotExpr Constant) (m : Memory)
      → seen (operation_of o e k) m ≡ bind (seen e m)
      (λ r. bind (seen k r.memory) (λ s. bind (operated o (r.value ∷ s.value ∷ [])) (valued s.memory)))
  on_two o e k m = two_after (seen e m) (λ n. seen k n) (λ vs n. bind (operated o vs) (valued n))

  -- A result over a memory that was kept has the outcome of its evaluation.
  done : {b g : ℕ} {m n : Memory} (r : Eval Tree) → Kept b g m n → n.out ≡ m.out
      → SameEval (Evaluated b g m) r (bind r (valued n))
  done r u o = search (arith, rules, both, fault, deep)

  done_as : {b g : ℕ} {m n : Memory} (r s : Result Tree Fault) → r ≡ s → Kept b g m n → n.out ≡ m.out
      → SameEval (Evaluated b g m) (checked r) (bind (checked s) (valued n))
  done_as r s e u o = by_left (ap checked e) (done (checked s) u o)

  made_both : {b g : ℕ} {m : Memory} {h : Eval (List Tree)} (k : NaryOp) (o : List Tree → Result Tree Fault)
      (es : SRow Constant)
      → ((vs : List Tree) → o vs ≡ make fs k vs)
      → SameEval (Rowed b g m) h (seen_row es m)
      → SameEval (Evaluated b g m) (bind h (λ vs. checked (o vs))) (seen (made k es) m)
  made_both k o es e u = search (arith, rules, bind_both, done_as)

  -- An operator on one operand has one outcome by names and by slots.
  one_both : {b g : ℕ} {m : Memory} {h : Eval Tree} (o : OpId) (e : SlotExpr Constant)
      → SameEval (Evaluated b g m) h (seen e m)
      → SameEval (Evaluated b g m) (bind h (λ v. operated o (v ∷ []))) (seen (made (operator o) (slots.item e none)) m)
  one_both {m = m} o e u = search (arith, rules, by_right, on_one, bind_both, done_as)

  on_required : (e : SlotExpr Constant) (m : Memory)
      → seen (made slots.required (slots.item e none)) m
      ≡ bind (seen e m) (λ r. bind (checked (defined r.value)) (valued r.memory))
  on_required e m = one_after (seen e m) (λ vs n. bind (checked (make fs slots.required vs)) (valued n))

  -- A value that may be required has one outcome by names and by slots.
  pub required_both : {b g : ℕ} {m : Memory} {h : Eval Tree} (n : Bool) (e : SlotExpr Constant)
      → SameEval (Evaluated b g m) h (seen e m)
      → SameEval (Evaluated b g m) (required_if n h) (seen (slots.required_if n e) m)
  required_both false e u = u
  required_both {m = m} true e u =
      by_right (on_required e m) (bind_both u (λ v r w. done_as (defined v) (defined r.value)
      (ap defined (sym w.value)) w.kept w.out))

  turned_both : {b g : ℕ} {m : Memory} {h : Eval Tree} (n : Bool) (e : SlotExpr Constant)
      → SameEval (Evaluated b g m) h (seen e m) → SameEval (Evaluated b g m) (turned n h) (seen (turned_round n e) m)
  turned_both false e u = u
  turned_both true e u = one_both op.Not e u

  -- Holds if the outcomes by names and by slots agree from each memory that was kept.
  abbrev Later : ℕ → ℕ → Memory → Eval Tree → SlotExpr Constant → Type 0
  Later b g m h e = (n : Memory) → Kept b g m n → n.out ≡ m.out → SameEval (Evaluated b g n) h (seen e n)

  after : {b g : ℕ} {m n : Memory} {v : Tree} {r : Valued} → Kept b g m n → n.out ≡ m.out → Evaluated b g n v r
      → Evaluated b g m v r
  after u o w = record { value = w.value; kept = kept_then u w.kept; out = w.out ∙ o }

  then_both : {b g : ℕ} {m : Memory} {h : Eval Tree} (e : SlotExpr Constant) → Later b g m h e → (n : Memory)
      → Kept b g m n → n.out ≡ m.out → SameEval (Evaluated b g m) h (seen e n)
  then_both e later n u o = weaken (λ v r w. after u o w) (later n u o)

  two_both : {b g : ℕ} {m : Memory} {h k : Eval Tree} (o : OpId) (e f : SlotExpr Constant)
      → SameEval (Evaluated b g m) h (seen e m) → Later b g m k f
      → SameEval (Evaluated b g m) (bind h (λ v. bind k (λ w. operated o (v ∷ w ∷ [])))) (seen (operation_of o e f) m)
  two_both {m = m} o e f u later =
      by_right (on_two o e f m) (bind_both u (λ v r w. bind_both (then_both f later r.memory w.kept w.out) (λ x s z.
      done_as (operators.operation o (v ∷ x ∷ [])) (operators.operation o (r.value ∷ s.value ∷ []))
      (ap (λ y. operators.operation o (y ∷ x ∷ [])) (sym w.value)
      ∙ ap (λ y. operators.operation o (r.value ∷ y ∷ [])) (sym z.value)) z.kept z.out)))

  -- A choice between two values has one outcome by names and by slots, if the condition has.
  truth_both : {b g : ℕ} {m : Memory} {h k : Eval Tree} {p q : Eval Valued} (v w : Tree) → w ≡ v
      → SameEval (Evaluated b g m) h p → SameEval (Evaluated b g m) k q
      → SameEval (Evaluated b g m) (if tree.truth v then h else k) (if tree.truth w then p else q)
  truth_both {h = h} {k = k} {p = p} {q = q} v w e s t = search (arith, rules, by_right, if_both)

  itself : {b g : ℕ} {m : Memory} (v : Tree) (r : Valued) → Evaluated b g m v r
      → SameEval (Evaluated b g m) (gives v) (gives r)
  itself v r w = both w

  form_both : {b g : ℕ} {m : Memory} {h k : Eval Tree} (f : OperatorForm) (e i : SlotExpr Constant)
      → SameEval (Evaluated b g m) h (seen e m) → Later b g m k i
      → SameEval (Evaluated b g m) (combined f h k) (seen (in_form f e i) m)
  form_both (operation o) e i u later = two_both o e i u later
  form_both (negation o) e i u later = turned_both true (operation_of o e i) (two_both o e i u later)
  form_both conjunction e i u later =
      bind_both u (λ v r w. truth_both v r.value w.value (then_both i later r.memory w.kept w.out) (itself v r w))
  form_both disjunction e i u later =
      bind_both u (λ v r w. truth_both v r.value w.value (itself v r w) (then_both i later r.memory w.kept w.out))

  choice_both : {b g : ℕ} {m : Memory} {h k j : Eval Tree} (c e i : SlotExpr Constant)
      → SameEval (Evaluated b g m) h (seen c m) → Later b g m k e → Later b g m j i
      → SameEval (Evaluated b g m) (either h k j) (seen (slots.choice c e i) m)
  choice_both c e i u later other = search (arith, rules, bind_both, truth_both, then_both)

  asked_both : {b g : ℕ} {m : Memory} {h : Eval (List Tree)} (t : Option TestId) (es : SRow Constant)
      → SameEval (Rowed b g m) h (seen_row es m) → SameEval (Evaluated b g m) (asked t h) (seen (tested_by t es) m)
  asked_both None es u = deep
  asked_both (Some t) es u = made_both (slots.test t) (λ vs. as_truth (tested t vs)) es (λ vs. refl) u

  pub filtered_both : {b g : ℕ} {m : Memory} {h : Eval (List Tree)} (f : Option ℕ) (on : Bool) (es : SRow Constant)
      → SameEval (Rowed b g m) h (seen_row es m)
      → SameEval (Evaluated b g m) (filtered fs f on h) (seen (filtered_by f on es) m)
  filtered_both None on es u = deep
  filtered_both (Some f) on es u = made_both (slots.filter f on) (λ vs. fs.operation f on vs) es (λ vs. refl) u

  -- The values of a row are its first value followed by the values of the rest.
  item_gives : (e : SlotExpr Constant) (es : SRow Constant) (m : Memory) (v : Tree) (vs : List Tree)
      → seen e m ≡ gives (record { value = v; memory = m }) → seen_row es m ≡ gives (record { values = vs; memory = m })
      → seen_row (slots.item e es) m ≡ gives (record { values = v ∷ vs; memory = m })
  item_gives e es m v vs p q = search (arith, rules)

  -- A parameter without an argument by position has the value of the argument by name, or the
  -- default.
  value_looked : (o : Option Tree) (s : Option Slot) (d : Constant) (m : Memory) → Looked o s m
      → seen (value_or s d) m ≡ gives (record { value = unwrap_or o (constants d); memory = m })
  value_looked o s d m k = search (arith, rules)

  filled_gives : (ps : List Parameter) (vs : List Tree) (d : ℕ) (table : Table) (ks : Pairs) (m : Memory)
      → KeywordsHeld table ks m → DefaultsAt cenv order d ps
      → (ws : List Tree) × (seen_row (filled ps (length vs) d table) m ≡ gives (record { values = ws; memory = m }))
      × FrontOf (map (λ p. p.1) (parameters ps vs ks)) (vs ++ ws)
  filled_gives [] vs d table ks m k h = ([], refl, tt)
  filled_gives (p ∷ ps) (v ∷ vs) d table ks m k h =
      let r = filled_gives ps vs (suc d) table ks m k h.1 in (r.0, r.1, (refl, r.2))
  filled_gives (p ∷ ps) [] d table ks m k h =
      let r = filled_gives ps [] (suc d) table ks m k h.1 in
      let e = value_looked (look p.name ks) (slot_in p.name table) (known d) m (k p.name) in (
        unwrap_or (look p.name ks) (constants (known d)) ∷ r.0,
        item_gives (value_or (slot_in p.name table) (known d)) (filled ps zero (suc d) table) m
            (unwrap_or (look p.name ks) (constants (known d))) r.0 e r.1,
        (ap (λ x. unwrap_or (look p.name ks) x) h.0, r.2),
      )

  named_gives : (ps : List Parameter) (xs : List Text) (table : Table) (ks : Pairs) (m : Memory)
      → KeywordsHeld table ks m
      → seen_row (filled_some ps zero xs table) m ≡ gives (record { values = by_name ps xs ks; memory = m })
  named_gives [] xs table ks m k = refl
  named_gives (p ∷ ps) xs table ks m k = search (arith, rules, named_gives ps xs table ks m k, item_gives, value_looked)

  some_gives : (ps : List Parameter) (vs : List Tree) (xs : List Text) (table : Table) (ks : Pairs) (m : Memory)
      → KeywordsHeld table ks m
      → (ws : List Tree)
      × (seen_row (filled_some ps (length vs) xs table) m ≡ gives (record { values = ws; memory = m }))
      × (arguments ps vs xs ks ≡ vs ++ ws)
  some_gives ps [] xs table ks m k = (by_name ps xs ks, named_gives ps xs table ks m k, refl)
  some_gives [] (v ∷ vs) xs table ks m k = ([], refl, sym (append-nil (v ∷ vs)))
  some_gives (p ∷ ps) (v ∷ vs) xs table ks m k = search (arith, rules, some_gives ps vs xs table ks m k)

  -- The read of a slot has the value that the slot holds.
  pub read_gives : (s : Option Slot) (m : Memory)
      → seen (read_from s) m ≡ gives (record { value = held s m; memory = m })
  read_gives s m = search (arith, rules)

  pub reads_give : (table : Table) (xs : List Text) (m : Memory)
      → seen_row (reads table xs) m ≡ gives (record { values = map (λ x. held (slot_in x table) m) xs; memory = m })
  reads_give table [] m = refl
  reads_give table (x ∷ xs) m = search (arith, rules, item_gives, held, read_gives, reads_give table xs m)

  locals_give : (n : ℕ) (xs : List Text) (vs : List Tree) (m : Memory) → length vs ≡ length xs → Held m.locals n vs
      → seen_row (first_locals n xs) m ≡ gives (record { values = vs; memory = m })
  locals_give n [] [] m e h = refl
  locals_give n [] (v ∷ vs) m e h = absurd (omega (arith, e))
  locals_give n (x ∷ xs) [] m e h = absurd (omega (arith, e))
  locals_give n (x ∷ xs) (v ∷ vs) m e h =
      item_gives (slots.variable (local n)) (first_locals (suc n) xs) m v vs
      (ap (λ w. gives (record { value = w; memory = m })) h.0)
      (locals_give (suc n) xs vs m (omega (arith, e)) h.1)

  -- ---- Calls

  abbrev pub end : StaticEnv → ℕ
  end sp = limit cenv order sp.namespace

  abbrev pub Same : StaticEnv → Memory → Eval Tree → SlotExpr Constant → Type 0
  Same sp m g e = SameEval (Evaluated sp.free (end sp) m) g (seen e m)

  -- The text of a call has one outcome by names and by slots, over a memory that was kept.
  text_both : {m : Memory} (sp : StaticEnv) (on : Bool) (g : Eval Text) (w : Eval Written) (n : Memory)
      → Kept sp.free (end sp) m n → n.out ≡ m.out → SameEval (Wrote cenv order (end sp) n.globals) g w
      → SameEval (Evaluated sp.free (end sp) m) (valued_text on g)
      (bind w (λ x. valued (record n { globals = x.globals }) (as_value on x.text)))
  text_both {m = m} sp on g w n u o c = search (arith, rules, bind_both, both, kept_then)

  -- A body of a block as a value has one outcome by names and by slots.
  body_both : {m : Memory} (sp : StaticEnv) (on : Bool) (cs : List BlockBody) (o : Option ℕ) (env : Env)
      (es : SRow Constant) (x : Text) (bs : List (ℕ × BlockBody)) (vs : List Tree)
      → Known cenv order sp.namespace → Tail cenv order sp.namespace x bs → GivenBy bs cs o
      → seen_row es m ≡ gives (record { values = vs; memory = m }) → Sees cenv order sp.namespace x env vs m.globals
      → Same sp m (valued_text on (block_text calls sp.namespace cs env)) (invoked_body cenv order sp.namespace on o es)
  body_both sp on [] None env es x bs vs kn tail given r sees = deep
  body_both sp on [] (Some i) env es x bs vs kn tail given r sees = absurd given
  body_both sp on (c ∷ cs) None env es x bs vs kn tail given r sees = absurd given
  body_both {m = m} sp on (c ∷ cs) (Some i) env es x bs vs kn tail given r sees =
      let t : Tail cenv order sp.namespace x ((i, c) ∷ given.1) = (
        tail.0 ++ given.0,
        tail.1 ∙ ap (λ ds. tail.0 ++ ds) given.2 ∙ sym (append_assoc tail.0 given.0 ((i, c) ∷ given.1)),
      ) in
      let call = mean.block_means sp.namespace kn x i c given.1 t env vs m.globals sees in
      let call' = subst (λ ds. SameEval (Wrote cenv order (end sp) m.globals) (calls (the_block sp.namespace c ds env))
      (scall (unit cenv order (of_body sp.namespace i)) vs m.globals))
      (sym given.3) call in
      by_right (ap (λ g. bind g (λ z. bind (scall (unit cenv order (of_body sp.namespace i)) z.values z.memory.globals)
      (λ w. valued (record z.memory { globals = w.globals }) (as_value on w.text)))) r)
      (text_both sp on (calls (the_block sp.namespace c cs env))
      (scall (unit cenv order (of_body sp.namespace i)) vs m.globals) m (kept_same sp.free (end sp) m) refl call')

  -- A literal value has one outcome by names and by slots.
  given_both : {m : Memory} (sp : StaticEnv) (v : Tree)
      → SameEval (Evaluated sp.free (end sp) m) (gives v) (gives (record { value = v; memory = m }))
  given_both {m = m} sp v = both (record { value = refl; kept = kept_same sp.free (end sp) m; out = refl })

  field_both : {m : Memory} (sp : StaticEnv) (f : Option LoopField) → Same sp m (field_of f l) (field_from f)
  field_both sp None = deep
  field_both {m = m} sp (Some f) = done (loop_field f l) (kept_same sp.free (end sp) m) refl

  abbrev pub bound_names : StaticEnv → List Text
  bound_names sp = scopes cenv order sp.namespace

  abbrev pub ns : StaticEnv → List Text
  ns sp = read_names cenv order sp.namespace

  attribute_both : {m : Memory} (b : Bool) (k : Text) (sp : StaticEnv) (h : Eval Tree) (e : SlotExpr Constant)
      (xs : List Text)
      → AllAmong (if b then [] else xs) (ns sp) → (AllAmong xs (ns sp) → Same sp m h e)
      → Same sp m (if b then field_of (field_named k) l else bind h (λ v. operated op.Item (v ∷ tree.text k ∷ [])))
      (if b then field_from (field_named k) else operation_of op.Item e (slots.pooled (own (tree.text k))))
  attribute_both true k sp h e xs i f = field_both sp (field_named k)
  attribute_both false k sp h e xs i f =
      two_both op.Item e (slots.pooled (own (tree.text k))) (f i) (λ n u o. given_both sp (tree.text k))

  -- Holds if the row has these values, and their number is n.
  abbrev pub Counted : StaticEnv → Memory → ℕ → List Tree → Listed → Type 0
  Counted sp m n vs r = Rowed sp.free (end sp) m vs r × (length vs ≡ n)

  -- Holds if the row has the arguments of a macro's parameters.
  record Passed (sp : StaticEnv) (m : Memory) (b : MacroBody) (p : Pairs) (r : Listed) : Type 0 where
    pub names : map (λ c. c.0) p ≡ map (λ c. c.name) b.parameters
    pub values : Held r.values 0 (map (λ c. c.1) p)
    pub kept : Kept sp.free (end sp) m r.memory
    pub out : r.memory.out ≡ m.out

  filled_end : {m n : Memory} (b : MacroBody) (sp : StaticEnv) (vs : List Tree) (c : ℕ) → length vs ≡ c
      → (kw : List Text) (ks : Pairs) → map (λ p. p.0) ks ≡ kw → Held n.locals sp.free (map (λ p. p.1) ks)
      → (d : ℕ) → DefaultsAt cenv order d b.parameters → Kept sp.free (end sp) m n → n.out ≡ m.out
      → SameEval (λ p r. Passed sp m b p (prefixed vs r)) (gives (parameters b.parameters vs ks))
      (seen_row (filled b.parameters c d (locals_from sp.free kw)) n)
  filled_end {m = m} {n = n} b sp vs c len kw ks nm h d ds u o =
      search (
        arith,
        rules,
        filled_gives b.parameters vs d (locals_from sp.free (map (λ p. p.0) ks)) ks n (keywords_held n sp.free ks h)
            ds,
        keywords_held n sp.free ks h,
        by_right,
        both,
        parameter_names b.parameters vs ks,
        prefixed_values vs,
        front_held (map (λ q. q.1) (parameters b.parameters vs ks)),
        prefixed_memory vs,
      )

  pub arguments_end : {m n : Memory} (ps : List Parameter) (sp : StaticEnv) (v w : Tree) → w ≡ v
      → (vs : List Tree) (c : ℕ) → length vs ≡ c → (kw : List Text) (ks : Pairs) → map (λ p. p.0) ks ≡ kw
      → Held n.locals sp.free (map (λ p. p.1) ks) → Kept sp.free (end sp) m n → n.out ≡ m.out
      → SameEval (λ x r. Rowed sp.free (end sp) m x (in_front w (prefixed vs r))) (gives (v ∷ arguments ps vs kw ks))
      (seen_row (filled_some ps c kw (locals_from sp.free kw)) n)
  arguments_end {m = m} {n = n} ps sp v w e vs c len kw ks nm h u o =
      search (
        arith,
        rules,
        some_gives ps vs kw (locals_from sp.free (map (λ p. p.0) ks)) ks n (keywords_held n sp.free ks h),
        keywords_held n sp.free ks h,
        by_right,
        both,
        prefixed_values vs,
        prefixed_memory vs,
      )

  -- A call of `loop.cycle` has one outcome by names and by slots.
  cycle_both : {m : Memory} (sp : StaticEnv) (n : ℕ) (h : Eval (List Tree)) (es : SRow Constant)
      → SameEval (Counted sp m n) h (seen_row es m)
      → Same sp m (bind h (cycled l)) (operation_of op.Item (made a_list es)
      (operation_of op.Remainder (slots.field Index0) (slots.pooled (own (tree.number (pos n))))))
  cycle_both {m = m} sp n h es u =
      by_right (on_two op.Item (made a_list es) left m
      ∙ bind_assoc (seen_row es m) (λ r. gives (record { value = tree.list (items_of r.values); memory = r.memory }))
      (λ r. bind (seen left r.memory) (λ s. bind (operated op.Item (r.value ∷ s.value ∷ [])) (valued s.memory))))
      (bind_both u (λ vs r w.
      let rest : SameEval (Evaluated sp.free (end sp) r.memory)
      (bind (loop_field Index0 l) (λ i. operated op.Remainder (i ∷ tree.number (pos (length vs)) ∷ [])))
      (seen left r.memory) =
      two_both {k = gives (tree.number (pos (length vs)))} op.Remainder (slots.field Index0)
      (slots.pooled (own (tree.number (pos n)))) (done (loop_field Index0 l) (kept_same sp.free (end sp) r.memory) refl)
      (λ o k f. both
      (record { value = ap (λ z. tree.number (pos z)) (sym w.1); kept = kept_same sp.free (end sp) o; out = refl })) in
      by_left (sym (bind_assoc (loop_field Index0 l)
      (λ i. operated op.Remainder (i ∷ tree.number (pos (length vs)) ∷ []))
      (λ k. operated op.Item (tree.list (items_of vs) ∷ k ∷ []))))
      (bind_both rest (λ k s z.
      done_as (operators.operation op.Item (tree.list (items_of vs) ∷ k ∷ []))
      (operators.operation op.Item (tree.list (items_of r.values) ∷ s.value ∷ []))
      (ap (λ y. operators.operation op.Item (tree.list (items_of y) ∷ k ∷ [])) (sym w.0.values)
      ∙ ap (λ y. operators.operation op.Item (tree.list (items_of r.values) ∷ y ∷ [])) (sym z.value))
      (kept_then w.0.kept z.kept) (z.out ∙ w.0.out)))))
    where
      left : SlotExpr Constant
      left = operation_of op.Remainder (slots.field Index0) (slots.pooled (own (tree.number (pos n))))

  -- The row of a block's parameters has the values of their names.
  pub reads_are : (table : Table) (env : Env) (m : Memory) (xs all : List Text)
      → ((x : Text) → Among x all → read env x ≡ held (slot_in x table) m) → AllAmong xs all
      → map (λ x. held (slot_in x table) m) xs ≡ map (read env) xs
  reads_are table env m [] all f i = refl
  reads_are table env m (x ∷ xs) all f i =
      ap (λ v. v ∷ map (λ y. held (slot_in y table) m) xs) (sym (f x i.0))
      ∙ ap (λ ts. read env x ∷ ts) (reads_are table env m xs all f i.1)

  -- The values of a scoped block's parameters are those of their names; other blocks have none.
  pub seen_params : (sp : StaticEnv) (b : Bool) (table : Table) (env : Env) (m : Memory)
      → ((y : Text) → Among y (ns sp) → read env y ≡ held (slot_in y table) m) → AllAmong (bound_names sp) (ns sp)
      → map (λ y. held (slot_in y table) m) (if b then bound_names sp else [])
      ≡ map (read env) (if b then bound_names sp else [])
  seen_params sp b table env m f few = search (arith, rules, reads_are)

  -- A block that is not scoped sees the globals of its chain.
  pub sees_globals : (x : Text) (sp : StaticEnv) (env : Env) (m : Memory) → Good cenv order sp q env m
      → Sees cenv order sp.namespace x (top env.globals)
      (map (λ y. held (slot_in y (globals cenv order sp.namespace)) m) (block_parameters cenv order sp.namespace x))
      m.globals
  sees_globals x sp env m g = record {
    arguments = seen_params sp (is_scoped cenv sp.namespace x) (globals cenv order sp.namespace) (top env.globals) m
        (λ y i. g.agrees.globals y i
        ∙ sym (global_reads (first_slot cenv order sp.namespace) (names cenv order sp.namespace) y m)) g.fits.few;
    globals = g.agrees.globals;
    others = λ y i f. g.agrees.globals y i;
  }

  -- The namespace of a called macro is this one or a later one, and the macro sees the globals of
  -- its own chain.
  reached : (h k : Namespace) (gs : Pairs) (ts : List Tree) → Known cenv order h → LeadsTo cenv.sources h k
      → Known cenv order k × (GlobalsAgree cenv order h gs ts → GlobalsAgree cenv order k (seen_by k gs) ts)
      × (limit cenv order h ≤ limit cenv order k)
  reached h k gs ts kn (inl e) = search (arith, rules, seen_agree, limit)
  reached h k gs ts kn (inr r) =
      let b = laid.libraries h kn r.0 r.2 in
      let back = sym r.1 in (
        subst (λ z. Known cenv order z) back b.known,
        λ a. subst (λ z. GlobalsAgree cenv order z (seen_by z gs) ts) back (library_agrees cenv order r.0 ts),
        subst (λ z. limit cenv order h ≤ limit cenv order z) back
            (let p = b.behind in
            let f : limit cenv order h
            ≤ first_slot cenv order (a_library r.0) + length (names cenv order (a_library r.0)) = omega (arith, p) in
            f),
      )

  -- A call has one outcome by names and by slots, if its arguments have.
  call_both : {m : Memory} (c : Callee) (sp : StaticEnv) (env : Env) (ts : Exprs) (ps : written.Pairs)
      → Good cenv order sp q env m
      → ((k : Namespace) (b : MacroBody) → c ≡ a_macro k b → Found cenv.sources sp.namespace k b)
      → SameEval (Counted sp m (count ts)) (values cenv calls ts (around_of cenv order sp l q) env)
      (seen_row (resolved_row cenv order ts sp none) m)
      → ((b : MacroBody) (d : ℕ) → DefaultsAt cenv order d b.parameters
      → SameEval (Passed sp m b) (bind (values cenv calls ts (around_of cenv order sp l q) env)
      (λ vs. bind (named_values cenv calls ps (around_of cenv order sp l q) env)
      (λ ks. gives (parameters b.parameters vs ks))))
      (seen_row (resolved_row cenv order ts sp
      (resolved_asides cenv order ps sp (filled b.parameters (count ts) d (locals_from sp.free (keywords ps))))) m))
      → Same sp m (called cenv calls c (around_of cenv order sp l q) env
      (values cenv calls ts (around_of cenv order sp l q) env)
      (named_values cenv calls ps (around_of cenv order sp l q) env))
      (invoked cenv order c sp (resolved_row cenv order ts sp) (resolved_asides cenv order ps sp) (count ts)
      (locals_from sp.free (keywords ps)))
  call_both {m = m} (a_macro k b) sp env ts ps g named row passed =
      let x = named k b refl in
      let gs = seen_by k env.globals in
      by_left (regroup (values cenv calls ts (around_of cenv order sp l q) env)
      (named_values cenv calls ps (around_of cenv order sp l q) env) (λ vs ks. parameters b.parameters vs ks)
      (λ p. valued_text sp.escaping (calls (the_macro k b p gs))))
      (bind_both (passed b (default_index cenv order k b.name)
      (laid.defaults k (reached sp.namespace k env.globals [] g.known x.2).0 x.0 b x.1)) (λ p r w.
      let there = reached sp.namespace k env.globals r.memory.globals g.known x.2 in
      text_both sp sp.escaping (calls (the_macro k b p gs))
      (scall (unit cenv order (of_macro k b.name)) r.values r.memory.globals) r.memory w.kept w.out
      (weaken (λ t y z. record {
        text = z.text;
        globals = λ i d. z.globals i (omega (arith, d, there.2));
      })
      (mean.macro_means k there.0 x.0 b x.1 p gs r.values r.memory.globals w.names w.values
      (there.1 (good_kept cenv order g w.kept).agrees.globals)))))
  call_both a_range sp env ts ps g named row passed =
      made_both (operator (range_of (count ts))) ranged (resolved_row cenv order ts sp none)
      (λ vs. sym (range_same (count ts) vs)) (weaken (λ vs r w. w.0) row)
  call_both {m = m} a_super sp env ts ps g named row passed = super_both sp.part q refl refl g.part
    where
      super_both : (p : Option Part) (z : Option Placement) → p ≡ sp.part → z ≡ q
          → PartHolds cenv order sp.namespace p z sp.free m
          → Same sp m (valued_text sp.escaping (super_text calls sp.namespace z)) (invoked_super cenv order sp p)
      super_both None None e f h = deep
      super_both None (Some z) e f h = absurd h
      super_both (Some p) None e f h = absurd h
      super_both (Some p) (Some z) e f h =
          body_both sp sp.escaping (from_given z.behind) (next_given p.behind) z.env
          (first_locals 0 (block_parameters cenv order sp.namespace p.name)) p.name p.behind
          (map (read z.env) (block_parameters cenv order sp.namespace p.name)) g.known h.tail
          (subst (λ bs. GivenBy p.behind (from_given bs) (next_given p.behind)) (sym h.behind) (given_by p.behind))
          (locals_give 0 (block_parameters cenv order sp.namespace p.name)
          (map (read z.env) (block_parameters cenv order sp.namespace p.name)) m
          (length-map (block_parameters cenv order sp.namespace p.name) (read z.env)) h.parameters) h.sees
  call_both {m = m} (a_block x) sp env ts ps g named row passed =
      subst (λ bs. Same sp m (valued_text sp.escaping (block_text calls sp.namespace bs (top env.globals)))
      (invoked_body cenv order sp.namespace sp.escaping (first_body (numbered_of cenv sp.namespace x))
      (reads (globals cenv order sp.namespace) (block_parameters cenv order sp.namespace x))))
      (sym (numbered_are cenv sp.namespace x))
      (body_both sp sp.escaping (map (λ d. d.1) (numbered_of cenv sp.namespace x))
      (first_body (numbered_of cenv sp.namespace x)) (top env.globals)
      (reads (globals cenv order sp.namespace) (block_parameters cenv order sp.namespace x)) x
      (numbered_of cenv sp.namespace x)
      (map (λ y. held (slot_in y (globals cenv order sp.namespace)) m) (block_parameters cenv order sp.namespace x))
      g.known ([], refl) (firsts (numbered_of cenv sp.namespace x))
      (reads_give (globals cenv order sp.namespace) (block_parameters cenv order sp.namespace x) m)
      (sees_globals x sp env m g))
    where
      firsts : (bs : List (ℕ × BlockBody)) → GivenBy bs (map (λ d. d.1) bs) (first_body bs)
      firsts [] = tt
      firsts (b ∷ bs) = ([], bs, refl, refl)
  call_both c sp env ts ps g named row passed = search (arith, rules, cycle_both, around_of, deep)

  -- ---- Arguments before a row

  row_apart : (ts : Exprs) (sp : StaticEnv) (behind : SRow Constant) (m : Memory)
      → seen_row (resolved_row cenv order ts sp behind) m
      ≡ bind (seen_row (resolved_row cenv order ts sp none) m)
      (λ r. bind (seen_row behind r.memory) (λ s. gives (prefixed r.values s)))
  row_apart no_exprs sp behind m = sym (bind_gives (seen_row behind m))
  row_apart (expr e ts) sp behind m = search (arith, rules, bind_ext, row_apart ts sp behind, bind_assoc)

  pub row_in_front : {X : Type 0} {m : Memory} {g : Eval (List Tree)} (ts : Exprs) (sp : StaticEnv)
      (S : X → Listed → Type 0) (f : List Tree → Eval X) (behind : SRow Constant)
      → SameEval (Counted sp m (count ts)) g (seen_row (resolved_row cenv order ts sp none) m)
      → ((vs : List Tree) (n : Memory) → length vs ≡ count ts → Kept sp.free (end sp) m n → n.out ≡ m.out
      → SameEval (λ x r. S x (prefixed vs r)) (f vs) (seen_row behind n))
      → SameEval S (bind g f) (seen_row (resolved_row cenv order ts sp behind) m)
  row_in_front {m = m} ts sp S f behind u k =
      by_right (row_apart ts sp behind m) (bind_both u (λ vs r w. right_both (prefixed r.values)
      (subst (λ ys. SameEval (λ x s. S x (prefixed ys s)) (f vs) (seen_row behind r.memory)) (sym w.0.values)
      (k vs r.memory w.1 w.0.kept w.0.out))))

  -- The memory after the arguments by name are stored.
  abbrev pub kept_aside : written.Pairs → StaticEnv → Memory → Eval Memory
  kept_aside no_pairs sp m = gives m
  kept_aside (pair x e ps) sp m =
      bind (seen (resolved cenv order e sp) m) (λ r. kept_aside ps (grown sp) (store (local sp.free) r.value r.memory))

  aside_apart : (ps : written.Pairs) (sp : StaticEnv) (behind : SRow Constant) (m : Memory)
      → seen_row (resolved_asides cenv order ps sp behind) m ≡ bind (kept_aside ps sp m) (λ n. seen_row behind n)
  aside_apart no_pairs sp behind m = refl
  aside_apart (pair x e ps) sp behind m = search (arith, rules, bind_ext, bind_assoc, aside_apart ps)

  pub record Aside (sp : StaticEnv) (m : Memory) (kw : List Text) (ks : Pairs) (n : Memory) : Type 0 where
    pub names : map (λ p. p.0) ks ≡ kw
    pub values : Held n.locals sp.free (map (λ p. p.1) ks)
    pub kept : Kept sp.free (end sp) m n
    pub out : n.out ≡ m.out

  pub asides_in_front : {X : Type 0} {m : Memory} {g : Eval Pairs} (ps : written.Pairs) (sp : StaticEnv)
      (S : X → Listed → Type 0) (f : Pairs → Eval X) (behind : SRow Constant)
      → SameEval (Aside sp m (keywords ps)) g (kept_aside ps sp m)
      → ((ks : Pairs) (n : Memory) → Aside sp m (keywords ps) ks n → SameEval S (f ks) (seen_row behind n))
      → SameEval S (bind g f) (seen_row (resolved_asides cenv order ps sp behind) m)
  asides_in_front {m = m} ps sp S f behind u k = search (arith, rules, by_right, aside_apart, bind_both)

  -- A filter on the value of an expression has one outcome by names and by slots, if its arguments have.
  pub filter_both : {m : Memory} {h : Eval Tree} (x : Text) (ts : Exprs) (ps : written.Pairs) (sp : StaticEnv)
      (env : Env) (e : SlotExpr Constant)
      → ((n : Memory) → Kept sp.free (end sp) m n
      → SameEval (Counted sp n (count ts)) (values cenv calls ts (around_of cenv order sp l q) env)
      (seen_row (resolved_row cenv order ts sp none) n))
      → ((n : Memory) → Kept sp.free (end sp) m n
      → SameEval (Aside sp n (keywords ps)) (named_values cenv calls ps (around_of cenv order sp l q) env)
      (kept_aside ps sp n))
      → Same sp m h e
      → Same sp m (filtered fs (fs.named x ts ps) sp.escaping
      (bind h (λ v. bind (values cenv calls ts (around_of cenv order sp l q) env)
      (λ vs. bind (named_values cenv calls ps (around_of cenv order sp l q) env) (λ ks.
      gives (v ∷ arguments (filter_parameters fs (fs.named x ts ps)) vs (keywords ps) ks))))))
      (filtered_by (fs.named x ts ps) sp.escaping
      (slots.item e (resolved_row cenv order ts sp
      (resolved_asides cenv order ps sp (filled_some (filter_parameters fs (fs.named x ts ps)) (count ts) (keywords ps)
      (locals_from sp.free (keywords ps)))))))
  filter_both {m = m} x ts ps sp env e row asides u =
      let rest = filled_some (filter_parameters fs (fs.named x ts ps)) (count ts) (keywords ps)
      (locals_from sp.free (keywords ps)) in
      filtered_both (fs.named x ts ps) sp.escaping
      (slots.item e (resolved_row cenv order ts sp (resolved_asides cenv order ps sp rest)))
      (bind_both u (λ v r w. right_both (in_front r.value)
      (row_in_front ts sp (λ y s. Rowed sp.free (end sp) m y (in_front r.value s))
      (λ vs. bind (named_values cenv calls ps (around_of cenv order sp l q) env)
      (λ ks. gives (v ∷ arguments (filter_parameters fs (fs.named x ts ps)) vs (keywords ps) ks)))
      (resolved_asides cenv order ps sp rest) (row r.memory w.kept) (λ vs n len k o.
      asides_in_front ps sp (λ y s. Rowed sp.free (end sp) m y (in_front r.value (prefixed vs s)))
      (λ ks. gives (v ∷ arguments (filter_parameters fs (fs.named x ts ps)) vs (keywords ps) ks)) rest
      (asides n (kept_then w.kept k)) (λ ks n' z.
      arguments_end (filter_parameters fs (fs.named x ts ps)) sp v r.value w.value vs (count ts) len (keywords ps) ks
      z.names z.values (kept_then w.kept (kept_then k z.kept)) (z.out ∙ o ∙ w.out))))))

  -- ---- Every expression

  mutual
    pub value_same : (e : Expr) (sp : StaticEnv) (env : Env) (m : Memory) → Good cenv order sp q env m
        → AllAmong (expr_names e) (ns sp)
        → Same sp m (value cenv calls e (around_of cenv order sp l q) env) (resolved cenv order e sp)
    value_same (constant c) sp env m g i = given_both sp (literal c)
    value_same (name x) sp env m g i = search (arith, rules, by_right, read_gives, both, kept_same)
    value_same (group e) sp env m g i = value_same e sp env m g i
    value_same (list_of ts) sp env m g i =
        made_both a_list listed (resolved_row cenv order ts sp none) (λ vs. refl)
        (weaken (λ vs r w. w.0) (values_same ts sp env m g i))
    value_same (written.map_of ps) sp env m g i =
        search (arith, rules, bind_both, done_as, entries_same ps sp env m g i)
    value_same (attribute e k) sp env m g i = search (arith, rules, attribute_both, around_of, value_same e sp env m g)
    value_same (item e k) sp env m g i =
        two_both op.Item (resolved cenv order e sp) (resolved cenv order k sp)
        (value_same e sp env m g (among_front (expr_names e) (expr_names k) (ns sp) i))
        (λ n u o. value_same k sp env n (good_kept cenv order g u) (among_back (expr_names e) (expr_names k) (ns sp) i))
    value_same (written.call f ts ps) sp env m g i =
        let front = among_front (row_names ts) (pair_names ps) (ns sp) i in
        let back = among_back (row_names ts) (pair_names ps) (ns sp) i in
        call_both (callee cenv.sources (given cenv.sources sp.namespace) f) sp env ts ps g
        (λ k b e. called_macro cenv.sources sp.namespace f k b e) (values_same ts sp env m g front)
        (λ b d ds. row_in_front ts sp (Passed sp m b)
        (λ vs. bind (named_values cenv calls ps (around_of cenv order sp l q) env)
        (λ ks. gives (parameters b.parameters vs ks)))
        (resolved_asides cenv order ps sp (filled b.parameters (count ts) d (locals_from sp.free (keywords ps))))
        (values_same ts sp env m g front) (λ vs n len u o.
        asides_in_front ps sp (λ p r. Passed sp m b p (prefixed vs r)) (λ ks. gives (parameters b.parameters vs ks))
        (filled b.parameters (count ts) d (locals_from sp.free (keywords ps)))
        (asides_same ps sp env n (good_kept cenv order g u) back) (λ ks n' w.
        filled_end b sp vs (count ts) len (keywords ps) ks w.names w.values d ds (kept_then u w.kept) (w.out ∙ o))))
    value_same (written.filter e x ts ps) sp env m g i =
        let front = among_front (expr_names e) (row_names ts ++ pair_names ps) (ns sp) i in
        let back = among_back (expr_names e) (row_names ts ++ pair_names ps) (ns sp) i in
        let back1 = among_front (row_names ts) (pair_names ps) (ns sp) back in
        let back2 = among_back (row_names ts) (pair_names ps) (ns sp) back in
        let strict = requires_input cenv.strict (fs.named x ts ps) in
        filter_both x ts ps sp env (slots.required_if strict (resolved cenv order e sp))
        (λ n k. values_same ts sp env n (good_kept cenv order g k) back1)
        (λ n k. asides_same ps sp env n (good_kept cenv order g k) back2)
        (required_both strict (resolved cenv order e sp) (value_same e sp env m g front))
    value_same (written.test e n x ts ps) sp env m g i =
        let front = among_front (expr_names e) (row_names ts ++ pair_names ps) (ns sp) i in
        let back = among_front (row_names ts) (pair_names ps) (ns sp)
        (among_back (expr_names e) (row_names ts ++ pair_names ps) (ns sp) i) in
        turned_both n
        (tested_by (test_named x) (slots.item (resolved cenv order e sp) (resolved_row cenv order ts sp none)))
        (asked_both (test_named x) (slots.item (resolved cenv order e sp) (resolved_row cenv order ts sp none))
        (bind_both (value_same e sp env m g front)
        (λ v r w. bind_both (values_same ts sp env r.memory (good_kept cenv order g w.kept) back) (λ vs s z.
        both (record {
          values = ap (λ y. y ∷ s.values) w.value ∙ ap (λ ys. v ∷ ys) z.0.values;
          kept = kept_then w.kept z.0.kept;
          out = z.0.out ∙ w.out;
        })))))
    value_same (unary o e) sp env m g i =
        one_both (unary_operation o) (resolved cenv order e sp) (value_same e sp env m g i)
    value_same (binary o e k) sp env m g i =
        let strict = cenv.strict && joins o in
        form_both (form sp.escaping o) (slots.required_if strict (resolved cenv order e sp))
        (slots.required_if strict (resolved cenv order k sp))
        (required_both strict (resolved cenv order e sp)
        (value_same e sp env m g (among_front (expr_names e) (expr_names k) (ns sp) i)))
        (λ n u p. required_both strict (resolved cenv order k sp)
        (value_same k sp env n (good_kept cenv order g u) (among_back (expr_names e) (expr_names k) (ns sp) i)))
    value_same (when c e) sp env m g i =
        choice_both (resolved cenv order c sp) (resolved cenv order e sp) no_value
        (value_same c sp env m g (among_front (expr_names c) (expr_names e) (ns sp) i))
        (λ n u o. value_same e sp env n (good_kept cenv order g u) (among_back (expr_names c) (expr_names e) (ns sp) i))
        (λ n u o. given_both sp tree.undefined)
    value_same (choice c e k) sp env m g i =
        search (
          arith,
          rules,
          among_back,
          choice_both,
          value_same c sp env m g,
          among_front,
          value_same e sp env,
          good_kept,
          value_same k sp env,
        )

    pub values_same : (ts : Exprs) (sp : StaticEnv) (env : Env) (m : Memory) → Good cenv order sp q env m
        → AllAmong (row_names ts) (ns sp)
        → SameEval (Counted sp m (count ts)) (values cenv calls ts (around_of cenv order sp l q) env)
        (seen_row (resolved_row cenv order ts sp none) m)
    values_same no_exprs sp env m g i =
        both (record { values = refl; kept = kept_same sp.free (end sp) m; out = refl }, refl)
    values_same (expr e ts) sp env m g i =
        bind_both (value_same e sp env m g (among_front (expr_names e) (row_names ts) (ns sp) i)) (λ v r w.
        bind_both (values_same ts sp env r.memory (good_kept cenv order g w.kept)
        (among_back (expr_names e) (row_names ts) (ns sp) i)) (λ vs s z.
        both (
          record {
            values = ap (λ y. y ∷ s.values) w.value ∙ ap (λ ys. v ∷ ys) z.0.values;
            kept = kept_then w.kept z.0.kept;
            out = z.0.out ∙ w.out;
          },
          ap suc z.1,
        )))

    -- The arguments by name have one outcome, and each one is stored in a local.
    pub asides_same : (ps : written.Pairs) (sp : StaticEnv) (env : Env) (m : Memory) → Good cenv order sp q env m
        → AllAmong (pair_names ps) (ns sp)
        → SameEval (Aside sp m (keywords ps)) (named_values cenv calls ps (around_of cenv order sp l q) env)
        (kept_aside ps sp m)
    asides_same no_pairs sp env m g i =
        both (record { names = refl; values = tt; kept = kept_same sp.free (end sp) m; out = refl })
    asides_same (pair x e ps) sp env m g i =
        bind_both (value_same e sp env m g (among_front (expr_names e) (pair_names ps) (ns sp) i)) (λ v r w.
        let stored = kept_then w.kept
        (kept_store sp.free (end sp) sp.free r.value r.memory (omega arith)) in
        by_right (sym (bind_gives (kept_aside ps (grown sp) (store (local sp.free) r.value r.memory))))
        (bind_both (asides_same ps (grown sp) env (store (local sp.free) r.value r.memory)
        (good_grown cenv order (good_kept cenv order g stored)) (among_back (expr_names e) (pair_names ps) (ns sp) i))
        (λ ks n z.
        both (record {
          names = ap (λ ys. x ∷ ys) z.names;
          values = (
            z.kept.locals sp.free (omega arith)
                ∙ put_here sp.free r.value r.memory.locals ∙ w.value,
            z.values,
          );
          kept =
              kept_then stored (kept_less (omega arith)
              (omega arith) z.kept);
          out = z.out ∙ w.out;
        }))))

    -- The entries of a map, which alternate keys and values, have one outcome by names and by
    -- slots.
    pub entries_same : (ps : written.Pairs) (sp : StaticEnv) (env : Env) (m : Memory) → Good cenv order sp q env m
        → AllAmong (pair_names ps) (ns sp)
        → SameEval (λ bs r. Rowed sp.free (end sp) m (entries_of bs) r)
        (named_values cenv calls ps (around_of cenv order sp l q) env) (seen_row (resolved_entries cenv order ps sp) m)
    entries_same no_pairs sp env m g i =
        both (record { values = refl; kept = kept_same sp.free (end sp) m; out = refl })
    entries_same (pair x e ps) sp env m g i =
        right_both (in_front (tree.text x))
        (bind_both (value_same e sp env m g (among_front (expr_names e) (pair_names ps) (ns sp) i)) (λ v r w.
        bind_both (entries_same ps sp env r.memory (good_kept cenv order g w.kept)
        (among_back (expr_names e) (pair_names ps) (ns sp) i)) (λ bs s z.
        both (record {
          values = ap (λ y. tree.text x ∷ y ∷ s.values) w.value ∙ ap (λ ys. tree.text x ∷ v ∷ ys) z.values;
          kept = kept_then w.kept z.kept;
          out = z.out ∙ w.out;
        }))))
