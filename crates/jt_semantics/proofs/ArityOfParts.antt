-- If the rules hold and each test and filter is known, each resolved part gets the number of values
-- that it takes.
use Rattle.std.proofs.Common.{◌≡◌, ℕ, zero, suc, ◌+◌, ◌≤◌, Bool, true, false, ◌&&◌, if◌then◌else◌, List, [], ◌∷◌}
use Rattle.std.proofs.Common.{◌++◌, length, map, Option, Some, None, refl, sym, ap, ◌∙◌, subst, arith, append_assoc}
use Rattle.std.proofs.Common.{rules}
use Rattle.std.specs.Prelude.{◌⊎◌, not, nat_lt, max}
use Rattle.std.specs.Option.{is_some}
use Rattle.std.proofs.lemmas.Bool.Decides.{nat_tests}
use Rattle.std.proofs.lemmas.Bool.{and_parts, true_from_ne_false}
use mathlib.Core.Logic.{inl}
use Rattle.jt_ids.specs.declared.op_id.OpId.TheVariants as op
use Rattle.jt_ids.specs.declared.test_id.TestId.{TestId}
use Rattle.jt_ids.specs.OpTable.{op_operands}
use Rattle.jt_ast.specs.declared.expression.UnaryOperator.{UnaryOperator}
use Rattle.jt_ast.specs.declared.expression.BinaryOperator.{BinaryOperator}
use Rattle.jt_value.specs.Tree as tree
use Rattle.jt_ast.specs.Expressions as written
use Rattle.jt_ast.specs.Expressions.{Expr, constant, name, group, list_of, attribute, item, unary, binary, when, choice}
use Rattle.jt_ast.specs.Expressions.{Exprs, no_exprs, expr, no_pairs, pair, Text}
use Rattle.jt_semantics.specs.Operators.{unary_operation, OperatorForm, operation, negation, conjunction, disjunction}
use Rattle.jt_semantics.specs.Operators.{form, range_of}
use Rattle.jt_chains.specs.Uses.{count, keywords}
use Rattle.jt_rules.specs.Arguments.{callee_takes, test_takes, filter_takes, names_rightly, fits, reached}
use Rattle.jt_rules.specs.Rules.{MisusesLoop, CannotBeCalled}
use Rattle.jt_uses.specs.Uses.{Site, at, reads_loop_field, calls, is_called_by_name, place_at, inside_callee}
use Rattle.jt_uses.specs.Uses.{expr_uses, row_uses, pair_uses}
use Rattle.jt_uses.specs.declared.site.Enclosing.{Enclosing}
use Rattle.jt_uses.specs.declared.site.Place.{Place}
use Rattle.jt_ir.specs.Takes.{InPairs, HasParameters, ExprTakes, RowTakes}
use Rattle.jt_ast.specs.Statements.{Parameter}
use Rattle.jt_chains.specs.Chain.{Namespace, listed, BlockBody, bodies, from_given, MacroBody, Callee, a_macro, a_range}
use Rattle.jt_chains.specs.Chain.{a_super, a_block, a_cycle, no_callee, Definition, given, callee, named_alone}
use Rattle.jt_chains.specs.Chain.{of_library, in_library}
use Rattle.jt_ids.specs.declared.loop_field.LoopField.{LoopField}
use Rattle.jt_ids.specs.LoopTable.{field_named}
use Rattle.jt_eval.specs.Filters.{some_given}
use Rattle.jt_rules.specs.CompileEnv.{CompileEnv}
use Rattle.jt_semantics.specs.Expressions.{filter_parameters}
use Rattle.jt_ir.specs.Slots as slots
use Rattle.jt_ir.specs.Slots.{Slot, SlotExpr, SRow, none, Routine}
use Rattle.jt_ir.specs.Size.{row_count}
use Rattle.jt_rules.specs.Known.{IsThere, ExprKnown, RowKnown, PairsKnown}
use Rattle.jt_semantics.specs.Layout.{Table, slot_in, block_parameters, globals, numbered_of, default_index}
use Rattle.jt_ir.specs.Pool.{Constant, own, known}
use Rattle.jt_semantics.specs.Resolve.{value_or, operation_of, turned_round, tested_by, filtered_by, in_form}
use Rattle.jt_semantics.specs.Resolve.{field_from, locals_from, filled, filled_some, first_locals, reads, StaticEnv}
use Rattle.jt_semantics.specs.Resolve.{Part, grown, next_given, first_body, invoked_body, invoked_super, invoked}
use Rattle.jt_semantics.specs.Resolve.{resolved, resolved_row, resolved_asides, resolved_entries}
use Rattle.jt_semantics.specs.Programs.{routines}
use Rattle.jt_semantics.proofs.CallInvariant.{Tail}
use Rattle.jt_semantics.proofs.DefinedNames.{LeadsTo, Found, called_macro}
use Rattle.jt_semantics.proofs.ExpressionCorrect.{GivenBy, given_by, numbered_are}
use Rattle.jt_semantics.proofs.EnvLookup.{no_both}
use Rattle.jt_semantics.proofs.KeptUses.{AllKeep, front, back}
use Rattle.jt_semantics.proofs.RoutineLookup.{macro_is, body_is}
use Rattle.jt_semantics.proofs.WithoutSuper.{right_false}
use Rattle.std.proofs.lemmas.List.{length-map}

first_holds : (a b : Bool) → ((a ≡ false) ⊎ (b ≡ false) → ⊥) → a ≡ true
first_holds a b n = true_from_ne_false a (λ e. n (inl e))

both_first : (a b : Bool) → a && b ≡ true → a ≡ true
both_first a b h = (and_parts a b h).0

both_second : (a b : Bool) → a && b ≡ true → b ≡ true
both_second a b h = (and_parts a b h).1

-- ---- Operators

abbrev TakesTwo : OperatorForm → Type 0
TakesTwo (operation p) = op_operands p ≡ 2
TakesTwo (negation p) = op_operands p ≡ 2
TakesTwo conjunction = Unit {0}
TakesTwo disjunction = Unit {0}

form_two : (escaping : Bool) (p : BinaryOperator) → TakesTwo (form escaping p)
form_two escaping p = search (arith, rules)

unary_one : (p : UnaryOperator) → op_operands (unary_operation p) ≡ 1
unary_one p = search (arith, rules)

range_takes : (n : ℕ) → nat_lt 0 n ≡ true → nat_lt n 4 ≡ true → op_operands (range_of n) ≡ n
range_takes n h k = search (arith, rules, nat_tests)

at_most : (m n : ℕ) → not (nat_lt m n) ≡ true → n ≤ m
at_most m n h = grind (arith, nat_tests, h)

-- ---- Arguments

filled_count : (ps : List Parameter) (n d : ℕ) (table : Table) → n ≤ length ps
    → n + row_count (filled ps n d table) ≡ length ps
filled_count [] n d table l = omega (arith, l)
filled_count (p ∷ ps) zero d table l = let e = filled_count ps zero (suc d) table (omega arith) in omega (arith, e)
filled_count (p ∷ ps) (suc n) d table l = search (arith, rules, filled_count ps n)

none_reached : (ps : List Parameter) (ks : List Text) → some_given ps ks ≡ false → reached ps ks ≡ 0
none_reached [] ks e = refl
none_reached (p ∷ ps) ks e = ap (λ b. if b then suc (reached ps ks) else 0) e

some_zero : (ps : List Parameter) (xs : List Text) (table : Table)
    → row_count (filled_some ps zero xs table) ≡ reached ps xs
some_zero [] xs table = refl
some_zero (p ∷ ps) xs table = search (arith, rules, some_zero ps xs table)

pub some_count : (ps : List Parameter) (n : ℕ) (xs : List Text) (table : Table)
    → n + row_count (filled_some ps n xs table) ≡ max n (reached ps xs)
some_count [] n xs table = omega arith
some_count (p ∷ ps) zero xs table = let e = some_zero (p ∷ ps) xs table in omega (arith, e)
some_count (p ∷ ps) (suc n) xs table = search (arith, rules, some_count ps n xs table, none_reached, right_false)

module _ (cenv : CompileEnv) (order : List Namespace) where
  abbrev pub rs : List (Routine Constant)
  rs = routines cenv order

  abbrev pub ETakes : Bool → SlotExpr Constant → Type 0
  ETakes l e = ExprTakes cenv.filters rs l e

  abbrev pub RTakes : Bool → SRow Constant → Type 0
  RTakes l es = RowTakes cenv.filters rs l es

  pub slot_takes : (l : Bool) (s : Option Slot) (k : Constant) → ETakes l (value_or s k)
  slot_takes l s k = search (arith, rules)

  filled_takes : (l : Bool) (ps : List Parameter) (n d : ℕ) (table : Table) → RTakes l (filled ps n d table)
  filled_takes l [] n d table = tt
  filled_takes l (p ∷ ps) zero d table = search (arith, rules, slot_takes, filled_takes l ps zero)
  filled_takes l (p ∷ ps) (suc n) d table = filled_takes l ps n (suc d) table

  pub some_takes : (l : Bool) (ps : List Parameter) (n : ℕ) (xs : List Text) (table : Table)
      → RTakes l (filled_some ps n xs table)
  some_takes l [] n xs table = tt
  some_takes l (p ∷ ps) (suc n) xs table = some_takes l ps n xs table
  some_takes l (p ∷ ps) zero xs table = search (arith, rules, some_takes l ps zero xs table, slot_takes)

  pub reads_take : (l : Bool) (table : Table) (xs : List Text) → RTakes l (reads table xs)
  reads_take l table [] = tt
  reads_take l table (x ∷ xs) = (slot_takes l (slot_in x table) (known 0), reads_take l table xs)

  pub reads_count : (table : Table) (xs : List Text) → row_count (reads table xs) ≡ length xs
  reads_count table [] = refl
  reads_count table (x ∷ xs) = ap suc (reads_count table xs)

  locals_take : (l : Bool) (n : ℕ) (xs : List Text) → RTakes l (first_locals n xs)
  locals_take l n [] = tt
  locals_take l n (x ∷ xs) = (tt, locals_take l (suc n) xs)

  locals_count : (n : ℕ) (xs : List Text) → row_count (first_locals n xs) ≡ length xs
  locals_count n [] = refl
  locals_count n (x ∷ xs) = ap suc (locals_count (suc n) xs)

  form_takes : (l : Bool) (f : OperatorForm) (a b : SlotExpr Constant) → TakesTwo f → ETakes l a → ETakes l b
      → ETakes l (in_form f a b)
  form_takes l f a b t h k = search (arith, rules)

  pub required_takes : (l b : Bool) (e : SlotExpr Constant) → ETakes l e → ETakes l (slots.required_if b e)
  required_takes l b e h = search (arith, rules)

  turned_takes : (l n : Bool) (e : SlotExpr Constant) → ETakes l e → ETakes l (turned_round n e)
  turned_takes l n e h = search (arith, rules)

  tested_takes : (l : Bool) (t : Option TestId) (ts : Exprs) (ps : written.Pairs) (es : SRow Constant) → IsThere t
      → (test_takes t ts ps ≡ false → ⊥) → row_count es ≡ suc (count ts) → RTakes l es → ETakes l (tested_by t es)
  tested_takes l t ts ps es k h c r = search (arith, rules, true_from_ne_false, nat_tests, both_first)

  pub filtered_takes : (l : Bool) (f : Option ℕ) (on : Bool) (ts : Exprs) (ps : written.Pairs) (es : SRow Constant)
      → IsThere f
      → ((filter_takes cenv.filters f (count ts) (keywords ps) ≡ false)
      ⊎ (names_rightly cenv.filters f ts ps ≡ false) → ⊥)
      → row_count es ≡ suc (max (count ts) (reached (filter_parameters cenv.filters f) (keywords ps))) → RTakes l es
      → ETakes l (filtered_by f on es)
  filtered_takes l f on ts ps es k h c r = search (arith, rules, both_first, first_holds)

  -- Holds if a namespace is in the order, together with the namespaces that its macros come from.
  abbrev pub Stands : Namespace → Type 0
  Stands h = (listed h order ≡ true) × ((k : Namespace) → LeadsTo cenv.sources h k → listed k order ≡ true)

  -- A body of a block gets arguments for its parameters.
  body_takes : (l : Bool) (h : Namespace) (on : Bool) (x : Text) (bs : List (ℕ × BlockBody)) (cs : List BlockBody)
      (i : ℕ) (es : SRow Constant)
      → Stands h → Tail cenv order h x bs → GivenBy bs cs (Some i)
      → row_count es ≡ length (block_parameters cenv order h x) → RTakes l es
      → ETakes l (invoked_body cenv order h on (Some i) es)
  body_takes l h on x bs [] i es e t g c r = absurd g
  body_takes l h on x bs (d ∷ ds) i es e t g c r =
      let found = body_is cenv order h x i d (t.0 ++ g.0) g.1 e.0
      (t.1 ∙ ap (λ z. t.0 ++ z) g.2 ∙ sym (append_assoc t.0 g.0 ((i, d) ∷ g.1))) in (
        subst (λ z. HasParameters z (row_count es)) (sym found.0)
            (ap (λ z. length (block_parameters cenv order h z)) found.1 ∙ sym c),
        r,
      )

  -- The body that `super()` calls gets arguments for its parameters.
  next_takes : (l : Bool) (h : Namespace) (on : Bool) (x : Text) (bs : List (ℕ × BlockBody)) (cs : List BlockBody)
      (o : Option ℕ) (es : SRow Constant)
      → (o ≡ None → ⊥) → Stands h → Tail cenv order h x bs → GivenBy bs cs o
      → row_count es ≡ length (block_parameters cenv order h x) → RTakes l es
      → ETakes l (invoked_body cenv order h on o es)
  next_takes l h on x bs cs o es there e t g c r = search (arith, rules, body_takes)

  -- Holds if the block has a body in the chain.
  abbrev pub HasBody : Namespace → Text → Type 0
  HasBody h x = bodies cenv.sources cenv.escaping h x ≡ [] → ⊥

  pub none_numbered : (h : Namespace) (x : Text) → HasBody h x → numbered_of cenv h x ≡ [] → ⊥
  none_numbered h x there e = there (numbered_are cenv h x ∙ ap (map (λ (c : ℕ × BlockBody). c.1)) e)

  -- The invariant of a block's body that is resolved. If the flag is true, `super()` has a body to
  -- call.
  pub record InPart (goes_on : Bool) (h : Namespace) (p : Part) : Type 0 where
    pub tail : Tail cenv order h p.name p.behind
    pub next : goes_on ≡ true → next_given p.behind ≡ None → ⊥

  -- The invariant of a body that is resolved. Outside a block `super()` has no body to call.
  abbrev pub PartTail : Bool → Namespace → Option Part → Type 0
  PartTail goes_on h None = goes_on ≡ false
  PartTail goes_on h (Some p) = InPart goes_on h p

  is_there : (f : Option LoopField) → (f ≡ None → ⊥) → is_some f ≡ true
  is_there f n = search (arith, rules)

  fields_take : (l : Bool) (f : Option LoopField) → is_some f ≡ true → l ≡ true → ETakes l (field_from f)
  fields_take l f there h = search (arith, rules)

  attribute_takes : (h : Namespace) (here : Place) (b : Bool) (k : Text) (ss : List Site) (e : SlotExpr Constant)
      → AllKeep cenv h (if b then at here (reads_loop_field k) else ss)
      → (AllKeep cenv h ss → ETakes here.around.in_loop e)
      → ETakes here.around.in_loop
      (if b then field_from (field_named k) else operation_of op.Item e (slots.pooled (own (tree.text k))))
  attribute_takes h here b k ss e r f = search (arith, rules, fields_take, is_there, true_from_ne_false)

  alone_no_cycle : (o : Option Definition) (x : Text) → named_alone cenv.sources o x ≡ a_cycle → ⊥
  alone_no_cycle o x e = search (arith, rules)

  offered_no_cycle : (n : Text) (o : Option MacroBody) → of_library cenv.sources n o ≡ a_cycle → ⊥
  offered_no_cycle n o e = search (arith, rules)

  library_no_cycle : (o : Option Definition) (x : Text) → in_library cenv.sources o x ≡ a_cycle → ⊥
  library_no_cycle o x e = search (arith, rules, offered_no_cycle)

  -- A call of `loop.cycle` that does not misuse `loop` is in a loop.
  cycle_inside : (h : Namespace) (f : Expr) (w : Enclosing) → (MisusesLoop f w → ⊥)
      → callee cenv.sources (given cenv.sources h) f ≡ a_cycle → w.in_loop ≡ true
  cycle_inside h f w n e = search (arith, rules, true_from_ne_false, alone_no_cycle, library_no_cycle)

  pub row_counts : (ts : Exprs) (sp : StaticEnv) (behind : SRow Constant)
      → row_count (resolved_row cenv order ts sp behind) ≡ count ts + row_count behind
  row_counts no_exprs sp behind = omega arith
  row_counts (expr a ts) sp behind = let e = row_counts ts sp behind in omega (arith, e)

  pub aside_counts : (ps : written.Pairs) (sp : StaticEnv) (behind : SRow Constant)
      → row_count (resolved_asides cenv order ps sp behind) ≡ row_count behind
  aside_counts no_pairs sp behind = refl
  aside_counts (pair k a ps) sp behind = aside_counts ps (grown sp) behind

  entries_pair : (ps : written.Pairs) (sp : StaticEnv) → InPairs (row_count (resolved_entries cenv order ps sp))
  entries_pair no_pairs sp = tt
  entries_pair (pair k a ps) sp = entries_pair ps sp

  call_takes : (c : Callee) (sp : StaticEnv) (w : Enclosing) (ts : Exprs) (ps : written.Pairs)
      → Stands sp.namespace → PartTail w.in_block sp.namespace sp.part
      → ((k : Namespace) (b : MacroBody) → c ≡ a_macro k b → Found cenv.sources sp.namespace k b)
      → (CannotBeCalled cenv sp.namespace c w → ⊥) → (callee_takes c ts ps ≡ false → ⊥)
      → (c ≡ a_cycle → w.in_loop ≡ true)
      → ((behind : SRow Constant) → RTakes w.in_loop behind → RTakes w.in_loop (resolved_row cenv order ts sp behind))
      → ((behind : SRow Constant) → RTakes w.in_loop behind
      → RTakes w.in_loop (resolved_asides cenv order ps sp behind))
      → ETakes w.in_loop (invoked cenv order c sp (resolved_row cenv order ts sp) (resolved_asides cenv order ps sp)
      (count ts) (locals_from sp.free (keywords ps)))
  call_takes (a_macro k b) sp w ts ps e t named can fit inside rows asides =
      let x = named k b refl in
      let d = default_index cenv order k b.name in
      let table = locals_from sp.free (keywords ps) in
      let few = at_most (length b.parameters) (count ts)
      (both_first (not (nat_lt (length b.parameters) (count ts))) _
      (true_from_ne_false (fits b.parameters (count ts) (keywords ps)) fit)) in
      let n1 = row_counts ts sp (resolved_asides cenv order ps sp (filled b.parameters (count ts) d table)) in
      let n2 = aside_counts ps sp (filled b.parameters (count ts) d table) in
      let n3 = filled_count b.parameters (count ts) d table few in
      let n4 = length-map b.parameters (λ (p : Parameter). p.name) in
      let all : length (map (λ p. p.name) b.parameters)
      ≡ row_count
      (resolved_row cenv order ts sp (resolved_asides cenv order ps sp (filled b.parameters (count ts) d table))) =
      omega (arith, n1, n2, n3, n4) in (
        subst (λ z. HasParameters z (row_count (resolved_row cenv order ts sp
            (resolved_asides cenv order ps sp (filled b.parameters (count ts) d table)))))
            (sym (macro_is cenv order k x.0 b (e.1 k x.2) x.1)) all,
        rows (resolved_asides cenv order ps sp (filled b.parameters (count ts) d table))
            (asides (filled b.parameters (count ts) d table) (filled_takes w.in_loop b.parameters (count ts) d table)),
      )
  call_takes a_range sp w ts ps e t named can fit inside rows asides =
      search (arith, rules, true_from_ne_false, both_second, row_counts, range_takes, both_first)
  call_takes a_super sp w ts ps e t named can fit inside rows asides = super_takes sp.part t
    where
      in_block : w.in_block ≡ true
      in_block = true_from_ne_false w.in_block can

      super_takes : (p : Option Part) → PartTail w.in_block sp.namespace p
          → ETakes w.in_loop (invoked_super cenv order sp p)
      super_takes None t = absurd (no_both in_block t)
      super_takes (Some p) t =
          next_takes w.in_loop sp.namespace sp.escaping p.name p.behind (from_given (map (λ d. d.1) p.behind))
          (next_given p.behind) (first_locals 0 (block_parameters cenv order sp.namespace p.name)) (t.next in_block) e
          t.tail (given_by p.behind)
          (locals_count 0 (block_parameters cenv order sp.namespace p.name))
          (locals_take w.in_loop 0 (block_parameters cenv order sp.namespace p.name))
  call_takes (a_block x) sp w ts ps e t named can fit inside rows asides =
      block_takes (numbered_of cenv sp.namespace x) refl
      (none_numbered sp.namespace x can)
    where
      block_takes : (bs : List (ℕ × BlockBody)) → numbered_of cenv sp.namespace x ≡ bs
          → (numbered_of cenv sp.namespace x ≡ [] → ⊥)
          → ETakes w.in_loop (invoked_body cenv order sp.namespace sp.escaping (first_body bs)
          (reads (globals cenv order sp.namespace) (block_parameters cenv order sp.namespace x)))
      block_takes [] q there = absurd (there q)
      block_takes (b ∷ bs) q there =
          body_takes w.in_loop sp.namespace sp.escaping x (b ∷ bs) (map (λ d. d.1) (b ∷ bs)) b.0
          (reads (globals cenv order sp.namespace) (block_parameters cenv order sp.namespace x)) e ([], q)
          ([], bs, refl, refl)
          (reads_count (globals cenv order sp.namespace) (block_parameters cenv order sp.namespace x))
          (reads_take w.in_loop (globals cenv order sp.namespace) (block_parameters cenv order sp.namespace x))
  call_takes a_cycle sp w ts ps e t named can fit inside rows asides =
      (refl, ((tt, rows none tt), ((refl, (inside refl, (tt, tt))), tt)))
  call_takes no_callee sp w ts ps e t named can fit inside rows asides = absurd (can tt)

  module _ (here : Place) where
    mutual
      pub expr_takes : (e : Expr) (sp : StaticEnv) → Stands sp.namespace
          → PartTail here.around.in_block sp.namespace sp.part
          → AllKeep cenv sp.namespace (expr_uses e here) → ExprKnown cenv.filters e → ETakes here.around.in_loop
          (resolved cenv order e sp)
      expr_takes (constant c) sp e t h k = tt
      expr_takes (name x) sp e t h k = slot_takes here.around.in_loop (slot_in x sp.table) (known 0)
      expr_takes (group a) sp e t h k = expr_takes a sp e t h k
      expr_takes (list_of ts) sp e t h k = (tt, row_takes ts sp e t h k none tt)
      expr_takes (written.map_of ps) sp e t h k = (entries_pair ps sp, entries_take ps sp e t h k)
      expr_takes (attribute a x) sp e t h k = search (arith, rules, attribute_takes, expr_takes a sp e t)
      expr_takes (item a b) sp e t h k = search (arith, rules, front, back, expr_takes a sp e t, expr_takes b sp e t)
      expr_takes (written.call f ts ps) sp e t h k =
          let first =
          (if is_called_by_name f then [] else expr_uses f (place_at here.line (inside_callee here.around))) in
          let parts = row_uses ts here ++ pair_uses ps here in
          let called = back cenv sp.namespace first (at here (calls f ts ps) ++ parts) h in
          let kept = called.0 in
          let rest = called.1 in
          call_takes (callee cenv.sources (given cenv.sources sp.namespace) f) sp here.around ts ps e t
          (called_macro cenv.sources sp.namespace f) kept.callable kept.fitting
          (cycle_inside sp.namespace f here.around kept.in_loops)
          (row_takes ts sp e t (front cenv sp.namespace (row_uses ts here) (pair_uses ps here) rest) k.0)
          (asides_take ps sp e t (back cenv sp.namespace (row_uses ts here) (pair_uses ps here) rest) k.1)
      expr_takes (written.filter a x ts ps) sp e t h k =
          let parts = row_uses ts here ++ pair_uses ps here in
          let rest = back cenv sp.namespace (expr_uses a here) parts h.1 in
          search (
            arith,
            rules,
            filtered_takes,
            required_takes,
            h.0.fitting,
            row_counts,
            aside_counts,
            some_count,
            expr_takes a sp e t (front cenv sp.namespace (expr_uses a here) parts h.1) k.1,
            row_takes ts sp e t (front cenv sp.namespace (row_uses ts here) (pair_uses ps here) rest) k.2,
            asides_take ps sp e t (back cenv sp.namespace (row_uses ts here) (pair_uses ps here) rest) k.3,
            some_takes,
          )
      expr_takes (written.test a n x ts ps) sp e t h k =
          grind (arith, back, row_counts, turned_takes, tested_takes, front, expr_takes a sp e t, row_takes ts sp e t)
      expr_takes (unary p a) sp e t h k = (unary_one p, (expr_takes a sp e t h k, tt))
      expr_takes (binary p a b) sp e t h k =
          search
          (arith, rules, form_takes, required_takes, form_two, front, back, expr_takes a sp e t, expr_takes b sp e t)
      expr_takes (when c a) sp e t h k = search (arith, rules, front, back, expr_takes c sp e t, expr_takes a sp e t)
      expr_takes (choice c a b) sp e t h k =
          search (arith, rules, back, front, expr_takes c sp e t, expr_takes a sp e t, expr_takes b sp e t)

      pub row_takes : (ts : Exprs) (sp : StaticEnv) → Stands sp.namespace
          → PartTail here.around.in_block sp.namespace sp.part
          → AllKeep cenv sp.namespace (row_uses ts here) → RowKnown cenv.filters ts → (behind : SRow Constant)
          → RTakes here.around.in_loop behind → RTakes here.around.in_loop (resolved_row cenv order ts sp behind)
      row_takes no_exprs sp e t h k behind r = r
      row_takes (expr a ts) sp e t h k behind r =
          search (arith, rules, front, back, expr_takes a sp e t, row_takes ts sp e t)

      pub asides_take : (ps : written.Pairs) (sp : StaticEnv) → Stands sp.namespace
          → PartTail here.around.in_block sp.namespace sp.part → AllKeep cenv sp.namespace (pair_uses ps here)
          → PairsKnown cenv.filters ps → (behind : SRow Constant) → RTakes here.around.in_loop behind
          → RTakes here.around.in_loop (resolved_asides cenv order ps sp behind)
      asides_take no_pairs sp e t h k behind r = r
      asides_take (pair x a ps) sp e t h k behind r =
          search (arith, rules, front, back, expr_takes a sp e t, asides_take ps)

      pub entries_take : (ps : written.Pairs) (sp : StaticEnv) → Stands sp.namespace
          → PartTail here.around.in_block sp.namespace sp.part → AllKeep cenv sp.namespace (pair_uses ps here)
          → PairsKnown cenv.filters ps → RTakes here.around.in_loop (resolved_entries cenv order ps sp)
      entries_take no_pairs sp e t h k = tt
      entries_take (pair x a ps) sp e t h k =
          search (arith, rules, front, back, expr_takes a sp e t, entries_take ps sp e t)
