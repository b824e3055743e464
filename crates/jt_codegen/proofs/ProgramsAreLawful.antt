-- Resolved programs are lawful: their slots are existing globals, and their constants are values
-- with a place.
use Rattle.std.proofs.Common.{◌≡◌, ℕ, suc, ◌+◌, ◌<◌, ◌≤◌, Bool, true, false, if◌then◌else◌, List, [], ◌∷◌, ◌++◌}
use Rattle.std.proofs.Common.{length, Option, Some, None, inl, inr, arith, refl, ap, ◌∙◌, length-append, rules}
use Rattle.std.specs.List.{AllByRecursion}
use Rattle.std.specs.Str.{bytes_eq}
use Rattle.std.specs.Prelude as prelude
use Rattle.std.specs.Prelude.{map, flat_map, ◌||◌}
use Rattle.std.proofs.lemmas.List.{length-map}
use Rattle.std.proofs.lemmas.Bool.{or_right}
use Rattle.jt_value.specs.Tree.{Tree}
use Rattle.jt_ast.specs.Expressions.{Expr, Literal, Text}
use Rattle.jt_eval.specs.Values.{literal}
use Rattle.jt_chains.specs.Uses.{own_names}
use Rattle.jt_chains.specs.Includes.{included, InOrder}
use Rattle.jt_ast.specs.Statements.{Parameter, Body}
use Rattle.jt_chains.specs.Chain.{Namespace, a_chain, a_library, same_namespace, listed, Template, templates, BlockBody}
use Rattle.jt_chains.specs.Chain.{MacroBody, macros, macro_of, given, a_macro, callee}
use Rattle.jt_eval.specs.Filters.{default_value}
use Rattle.jt_ast.specs.Texts.{ascending}
use Rattle.jt_rules.specs.CompileEnv.{CompileEnv}
use Rattle.jt_semantics.specs.Expressions.{filter_parameters}
use Rattle.jt_semantics.specs.Layout.{globals_from, in_globals, defaults_of, first_default, names_in}
use Rattle.jt_semantics.specs.Layout.{names, first_in, numbered_bodies, globals, block_parameters, shared}
use Rattle.jt_semantics.specs.Layout.{default_in, default_index, first_slot}
use Rattle.jt_semantics.specs.Programs.{body_routines, entry_routines, chain_routines, routines, count_globals, program}
use Rattle.jt_ir.specs.Slots as slots
use Rattle.jt_ir.specs.Slots.{Slot, SlotExpr, SRow, SBody, Routine}
use Rattle.jt_ir.specs.Takes.{BodyTakes}
use Rattle.jt_eval.specs.TheFilters.{the_filters}
use Rattle.jt_ir.specs.Pool.{Constant}
use Rattle.jt_semantics.specs.Resolve.{followed, StaticEnv, top_senv, resolved_chain, resolved_routine, chain_routine}
use Rattle.jt_semantics.specs.Resolve.{macro_routine}
use Rattle.jt_lower.specs.Fits.{IsBare, OfSlots, OfTargets, IsPooled}
use Rattle.jt_lower.specs.Lawful.{ConstantLawful, SlotLawful, ExprLawful, RowLawful, ConditionLawful, StmtLawful}
use Rattle.jt_lower.specs.Lawful.{BodyLawful, RoutineLawful, AreLawful}
use Rattle.jt_semantics.proofs.TreesHaveParts as trees
use Rattle.jt_semantics.proofs.TreesHaveParts.TreeParts as parts
use Rattle.jt_semantics.proofs.RoutineLookup.{macro_named}
use Rattle.jt_semantics.proofs.DefinedNames.{LeadsTo, called_macro}
use Rattle.jt_semantics.proofs.ChainOrder.{libraries_stand}
use Rattle.jt_semantics.proofs.EnvLookup.{namespace_same, namespace_is}
use Rattle.jt_lower.proofs.LawfulProgramsFit.{all_append}
use Rattle.jt_codegen.proofs.EitherHolds.{either_of}

literal_pooled : (l : Literal) → IsPooled (literal l)
literal_pooled l = search (arith, rules)

default_pooled : (l : Option Literal) → IsPooled (default_value l)
default_pooled None = tt
default_pooled (Some l) = literal_pooled l

module _ (front globals_count : ℕ) (some : 0 < front) where
  abbrev E : SlotExpr Constant → Type 0
  E = ExprLawful front globals_count

  abbrev R : SRow Constant → Type 0
  R = RowLawful front globals_count

  abbrev B : SBody Constant → Type 0
  B = BodyLawful front globals_count

  abbrev S : Slot → Type 0
  S = SlotLawful front globals_count

  abbrev pub Lawful : parts.Parts
  Lawful = record {
    slot = S;
    constant = ConstantLawful front globals_count;
    called = λ c. Unit {0};
    filtered = λ c. Unit {0};
    targets = λ c. Unit {0};
    names = λ c. Unit {0};
  }

  read_lawful : {e : SlotExpr Constant} → parts.IsRead Lawful e → E e
  read_lawful (parts.known_read h) = h
  read_lawful (parts.variable_read h) = h

  leaf_lawful : {e : SlotExpr Constant} → parts.IsLeaf Lawful e → E e
  leaf_lawful (parts.read_leaf e) = read_lawful e
  leaf_lawful (parts.own_leaf h) = h
  leaf_lawful parts.field_leaf = tt
  leaf_lawful parts.absent_leaf = tt

  loads_lawful : {n k : ℕ} {es : SRow Constant} → parts.LoadsOf Lawful n k es → R es × IsBare es
  loads_lawful parts.no_loads = (tt, tt)
  loads_lawful (parts.load l (parts.known_read h) es) = let r = loads_lawful es in ((h, r.0), r.1)
  loads_lawful (parts.load l (parts.variable_read h) es) = let r = loads_lawful es in ((h, r.0), r.1)
  loads_lawful (parts.default h es) = let r = loads_lawful es in ((h, r.0), r.1)

  mutual
    expr_lawful : {w : ℕ} {e : SlotExpr Constant} → parts.ExprOf Lawful w e → E e
    expr_lawful (parts.leaf e) = leaf_lawful e
    expr_lawful (parts.single a) = (expr_lawful a, tt)
    expr_lawful (parts.pair a b) = (operand_lawful a, (operand_lawful b, tt))
    expr_lawful (parts.operation es) = row_lawful es
    expr_lawful (parts.filter f l k es) = row_lawful es
    expr_lawful (parts.both a b) = (operand_lawful a, operand_lawful b)
    expr_lawful (parts.either a b) = (operand_lawful a, operand_lawful b)
    expr_lawful (parts.when c a b) = (expr_lawful c, expr_lawful a, read_lawful b)
    expr_lawful (parts.chosen c a b) = (expr_lawful c, expr_lawful a, expr_lawful b)
    expr_lawful (parts.call f l es) = row_lawful es
    expr_lawful (parts.more l e) = expr_lawful e

    operand_lawful : {w : ℕ} {e : SlotExpr Constant} → parts.OperandOf Lawful w e → E e
    operand_lawful (parts.plain e) = expr_lawful e
    operand_lawful (parts.needed e) = (expr_lawful e, tt)

    row_lawful : {w v n k : ℕ} {es : SRow Constant} → parts.RowOf Lawful w v n k es → R es
    row_lawful (parts.loads l) = (loads_lawful l).0
    row_lawful (parts.named s e es) = (expr_lawful e, row_lawful es)
    row_lawful (parts.positional e es) = (operand_lawful e, row_lawful es)
    row_lawful (parts.wider l es) = row_lawful es

  condition_lawful : {w : ℕ} {c : Option (SlotExpr Constant)} → parts.ConditionOf Lawful w c
      → ConditionLawful front globals_count c
  condition_lawful parts.no_condition = tt
  condition_lawful (parts.condition c) = expr_lawful c

  slots_lawful : (ss : List (Option Slot)) → parts.EachSlot Lawful ss → OfSlots S ss
  slots_lawful [] h = tt
  slots_lawful (None ∷ ss) h = (tt, slots_lawful ss h.1)
  slots_lawful (Some s ∷ ss) h = (h.0, slots_lawful ss h.1)

  targets_lawful : {n : ℕ} {xs : slots.Targets} → parts.TargetsOf Lawful n xs → OfTargets S xs
  targets_lawful (parts.one_target s) = s
  targets_lawful (parts.targets {ss = ss} l h) = slots_lawful ss h

  followed_lawful : (a b : SBody Constant) → B a → B b → B (followed a b)
  followed_lawful slots.end b h k = k
  followed_lawful (slots.stmt s rest) b h k = (h.0, followed_lawful rest b h.1 k)

  copies_lawful : {n : ℕ} {a b : SBody Constant} → parts.CopiesOf Lawful n a b → B a → B b
  copies_lawful parts.no_copies h = h
  copies_lawful (parts.copy s e c) h = ((s, read_lawful e), copies_lawful c h)

  values_lawful : {w n : ℕ} {a b : SBody Constant} → parts.ValuesOf Lawful w n a b → B a → B b
  values_lawful parts.no_values h = h
  values_lawful (parts.value s e v) h = ((s, expr_lawful e), values_lawful v h)

  mutual
    stmt_lawful : {w m c : ℕ} {s : slots.SlotStmt Constant} → parts.StmtOf Lawful w m c s
        → StmtLawful front globals_count s
    stmt_lawful (parts.data_part k) = tt
    stmt_lawful (parts.print_part e) = operand_lawful e
    stmt_lawful (parts.set_part f xs e) = (targets_lawful xs, expr_lawful e)
    stmt_lawful (parts.branch_part e a b) = (expr_lawful e, body_lawful a, body_lawful b)
    stmt_lawful (parts.loop_part f xs e c body other) =
        (targets_lawful xs, operand_lawful e, condition_lawful c, body_lawful body, body_lawful other)
    stmt_lawful (parts.capture_part l s body) = (s, body_lawful body)
    stmt_lawful (parts.run_part f l es) = loads_lawful es

    pub body_lawful : {w m c : ℕ} {b : SBody Constant} → parts.BodyOf Lawful w m c b → B b
    body_lawful parts.empty = tt
    body_lawful (parts.alone s) = (stmt_lawful s, tt)
    body_lawful (parts.after {a = a} {b = b} x y) = followed_lawful a b (body_lawful x) (body_lawful y)
    body_lawful (parts.scope l c b) = copies_lawful c (body_lawful b)
    body_lawful (parts.within v b) = values_lawful v (body_lawful b)
    body_lawful (parts.handed f c) = copies_lawful c ((tt, tt), tt)
    body_lawful (parts.wide l m k b) = body_lawful b

  pub globals_fine : (m : ℕ) (xs : List Text) → m + length xs ≤ globals_count
      → trees.Fine Lawful (globals_from m xs)
  globals_fine m [] h = tt
  globals_fine m (x ∷ xs) h = (omega arith, globals_fine (suc m) xs (omega arith))

  defaults_fine : (ps : List Parameter) → trees.Defaults Lawful ps
  defaults_fine [] = tt
  defaults_fine (p ∷ ps) = (default_pooled p.default, defaults_fine ps)

  -- The globals of each chain and the defaults of its macros exist.
  module _ (cenv : CompileEnv) (order : List Namespace)
      (few : (h : Namespace) → first_slot cenv order h + length (names cenv order h) ≤ globals_count)
      (laid : (h : Namespace) → listed h order ≡ true → (f : Expr) (k : Namespace) (m : MacroBody)
      → callee cenv.sources (given cenv.sources h) f ≡ a_macro k m
      → default_index cenv order k m.name + length m.parameters ≤ front) where
    pub meets : (n z : ℕ) → trees.Meets Lawful n z cenv order (λ h. listed h order ≡ true)
    meets n z = record {
      first = tt;
      locals = λ i l. tt;
      global_slots = λ h i l k. omega (arith, few h);
      tables = λ h. globals_fine (first_slot cenv order h) (names cenv order h) (few h);
      undefined = some;
      literals = λ l b. literal_pooled l;
      macros = λ h i f k m e. (tt, λ j l g. omega (arith, laid h i f k m e));
      blocks = λ h k x. tt;
      parameters = λ h x i l. tt;
      filters = λ h k f. (tt, defaults_fine (filter_parameters cenv.filters f));
      name_counts = λ h k l. tt;
    }

-- ---- the routines of an order of chains and libraries

module _ (cenv : CompileEnv) (order : List Namespace) where
  abbrev front_count : ℕ
  front_count = length (shared cenv order)

  -- ---- globals

  first_le : (ks : List Namespace) (h : Namespace) → first_in cenv order ks h ≤ count_globals cenv order ks
  first_le [] h = omega arith
  first_le (k ∷ ks) h = search (arith, rules, either_of, first_le ks h)

  first_few : (ks : List Namespace) (h : Namespace) → listed h ks ≡ true
      → first_in cenv order ks h + length (names cenv order h) ≤ count_globals cenv order ks
  first_few [] h e = absurd (let none : false ≡ true = e in cc)
  first_few (k ∷ ks) h e = through (same_namespace k h) refl e (first_few ks h)
    where
      through : (b : Bool) → same_namespace k h ≡ b → (b || listed h ks) ≡ true
          → (listed h ks ≡ true → first_in cenv order ks h + length (names cenv order h) ≤ count_globals cenv order ks)
          → (if b then 0 else length (names cenv order k) + first_in cenv order ks h) + length (names cenv order h)
          ≤ length (names cenv order k) + count_globals cenv order ks
      through true p e f =
          let same : length (names cenv order k) ≡ length (names cenv order h) =
          ap (λ x. length (names cenv order x)) (namespace_same k h p) in
          omega (arith, same)
      through false p e f = let l = f e in omega (arith, l)

  names_none : (ks : List Namespace) (h : Namespace) → listed h ks ≡ false → names_in cenv ks h ≡ []
  names_none [] h e = refl
  names_none (k ∷ ks) h e = through (same_namespace k h) e (names_none ks h)
    where
      through : (b : Bool) → (b || listed h ks) ≡ false → (listed h ks ≡ false → names_in cenv ks h ≡ [])
          → (if b then in_globals h
          (ascending (own_names cenv.sources h ++ flat_map (names_in cenv ks) (included cenv.sources h)))
          else names_in cenv ks h)
          ≡ []
      through true e f = absurd (let none : true ≡ false = e in cc)
      through false e f = f e

  pub few_globals : (h : Namespace)
      → first_slot cenv order h + length (names cenv order h) ≤ count_globals cenv order order
  few_globals h = through (listed h order) refl
    where
      through : (b : Bool) → listed h order ≡ b
          → first_slot cenv order h + length (names cenv order h) ≤ count_globals cenv order order
      through true e = first_few order h e
      through false e =
          let none : length (names cenv order h) ≡ 0 = ap length (names_none order h e) in
          omega (arith, first_le order h, none)

  -- ---- defaults

  first_defaults : (x : Text) (b : MacroBody) (ms : List MacroBody) → macro_of x ms ≡ Some b
      → first_default x ms + length b.parameters ≤ length (defaults_of ms)
  first_defaults x b [] e = absurd (let none : None ≡ Some b = e in cc)
  first_defaults x b (m ∷ ms) e = through (bytes_eq m.name x) e (first_defaults x b ms)
    where
      counted : length (defaults_of (m ∷ ms)) ≡ length m.parameters + length (defaults_of ms)
      counted =
          length-append (map (λ p. default_value p.default) m.parameters) (defaults_of ms)
          ∙ ap (λ n. n + length (defaults_of ms)) (length-map m.parameters (λ p. default_value p.default))

      through : (c : Bool) → (if c then Some m else macro_of x ms) ≡ Some b
          → (macro_of x ms ≡ Some b → first_default x ms + length b.parameters ≤ length (defaults_of ms))
          → (if c then 0 else length m.parameters + first_default x ms) + length b.parameters
          ≤ length (defaults_of (m ∷ ms))
      through true e f = search (arith, rules, counted)
      through false e f = omega (arith, f e, counted)

  defaults_in : (ks : List Namespace) (h : Namespace) (x : Text) (b : MacroBody) → listed h ks ≡ true
      → macro_of x (macros cenv.sources h) ≡ Some b
      → default_in cenv order ks h x + length b.parameters
      ≤ length (flat_map (λ g. defaults_of (macros cenv.sources g)) ks)
  defaults_in [] h x b e m = absurd (let none : false ≡ true = e in cc)
  defaults_in (k ∷ ks) h x b e m = through (same_namespace k h) refl e (λ f. defaults_in ks h x b f m)
    where
      behind : List Tree
      behind = flat_map (λ g. defaults_of (macros cenv.sources g)) ks

      counted : length (defaults_of (macros cenv.sources k) ++ behind)
          ≡ length (defaults_of (macros cenv.sources k)) + length behind
      counted = length-append (defaults_of (macros cenv.sources k)) behind

      through : (c : Bool) → same_namespace k h ≡ c → (c || listed h ks) ≡ true
          → (listed h ks ≡ true → default_in cenv order ks h x + length b.parameters ≤ length behind)
          → (if c then first_default x (macros cenv.sources h)
          else length (defaults_of (macros cenv.sources k)) + default_in cenv order ks h x)
          + length b.parameters
          ≤ length (defaults_of (macros cenv.sources k) ++ behind)
      through true p e f = search (arith, rules, namespace_same, first_defaults, counted)
      through false p e f = omega (arith, f e, counted)

  -- A called macro is defined in the order.
  leads_there : InOrder cenv.sources order → (h : Namespace) → listed h order ≡ true → (k : Namespace)
      → LeadsTo cenv.sources h k → listed k order ≡ true
  leads_there ordered h i k (inl e) = ap (λ z. listed z order) e ∙ i
  leads_there ordered h i k (inr r) =
      ap (λ z. listed z order) r.1 ∙ (libraries_stand cenv order ordered h i r.0 r.2).known

  laid_defaults : InOrder cenv.sources order → (h : Namespace) → listed h order ≡ true
      → (f : Expr) (k : Namespace) (m : MacroBody) → callee cenv.sources (given cenv.sources h) f ≡ a_macro k m
      → default_index cenv order k m.name + length m.parameters ≤ front_count
  laid_defaults ordered h i f k m e =
      let ms = macros cenv.sources k in
      let r = called_macro cenv.sources h f k m e in
      let same : macro_of m.name ms ≡ Some m = ap (λ x. macro_of x ms) (macro_named cenv order r.0 m ms r.1) ∙ r.1 in
      omega (arith, defaults_in order k m.name m (leads_there ordered h i k r.2) same)

  some_front : 0 < front_count
  some_front = omega arith

  -- ---- bodies

  abbrev L : SBody Constant → Type 0
  L = BodyLawful front_count (count_globals cenv order order)

  module _ (ordered : InOrder cenv.sources order) where
    abbrev Standing : Namespace → Type 0
    Standing h = listed h order ≡ true

    abbrev Demands : parts.Parts
    Demands = Lawful front_count (count_globals cenv order order) some_front

    standing_meets : (n z : ℕ) → trees.Meets Demands n z cenv order Standing
    standing_meets =
        meets front_count (count_globals cenv order order) some_front cenv order few_globals (laid_defaults ordered)

    chain_lawful : (h : Namespace) → listed h order ≡ true → (ts : List Template) → L (resolved_chain cenv order h ts)
    chain_lawful h i ts =
        body_lawful front_count (count_globals cenv order order) some_front
        (trees.chain_parts Demands cenv order Standing standing_meets h ts i (λ j l. tt))

    abbrev Good : Routine Constant → Type 0
    Good r = RoutineLawful front_count (count_globals cenv order order) r

    -- The routine of a body with parameters at the top of a template is lawful.
    routine_lawful : (ps : List Text) (b : Body) (sp : StaticEnv) → listed sp.namespace order ≡ true
        → trees.Fine Demands sp.table → Good (resolved_routine cenv order ps b sp)
    routine_lawful ps b sp i t = record {
      body = body_lawful front_count (count_globals cenv order order) some_front
          (trees.routine_parts Demands cenv order Standing standing_meets ps b sp i t (λ j l. tt));
      locals = omega arith;
    }

    at_top : (h : Namespace) → trees.Fine Demands (globals cenv order h)
    at_top h = (standing_meets 0 0).tables h

    macros_lawful : (h : Namespace) → listed h order ≡ true → (ms : List MacroBody)
        → AllByRecursion Good (map (macro_routine cenv order h) ms)
    macros_lawful h i [] = tt
    macros_lawful h i (m ∷ ms) = search (arith, rules, routine_lawful, at_top, macros_lawful h i ms)

    bodies_lawful : (h : Namespace) → listed h order ≡ true → (bs : List (ℕ × BlockBody))
        → AllByRecursion Good (body_routines cenv order h bs)
    bodies_lawful h i [] = tt
    bodies_lawful h i (b ∷ bs) = (
      routine_lawful (block_parameters cenv order h b.1.name) b.1.body
          (record (top_senv cenv order h b.1.template) {
            escaping = b.1.escaping;
            part = Some (record { name = b.1.name; behind = prelude.filter (λ c. bytes_eq c.1.name b.1.name) bs });
          }) i (at_top h),
      bodies_lawful h i bs,
    )

    -- The routine of a chain is lawful.
    entry_lawful : (h : Namespace) → listed h order ≡ true → AllByRecursion Good (entry_routines cenv order h)
    entry_lawful (a_chain n) i =
        (record { body = chain_lawful (a_chain n) i (templates cenv.sources (a_chain n)); locals = omega arith }, tt)
    entry_lawful (a_library n) i = tt

    routines_of : (hs : List Namespace) → ((h : Namespace) → listed h hs ≡ true → listed h order ≡ true)
        → AllByRecursion Good (flat_map (chain_routines cenv order) hs)
    routines_of [] i = tt
    routines_of (h ∷ hs) i =
        let here = i h (ap (λ b. b || listed h hs) (namespace_is h)) in
        let ms = map (macro_routine cenv order h) (macros cenv.sources h) in
        let bs = body_routines cenv order h (numbered_bodies cenv h) in
        all_append Good (chain_routines cenv order h) (flat_map (chain_routines cenv order) hs)
        (all_append Good (entry_routines cenv order h) (ms ++ bs) (entry_lawful h here)
        (all_append Good ms bs (macros_lawful h here (macros cenv.sources h))
        (bodies_lawful h here (numbered_bodies cenv h))))
        (routines_of hs (λ g j. i g (or_right (same_namespace h g) (listed g hs) j)))

  defaults_pooled : (ms : List MacroBody) → AllByRecursion IsPooled (defaults_of ms)
  defaults_pooled [] = tt
  defaults_pooled (m ∷ ms) =
      all_append IsPooled (map (λ p. default_value p.default) m.parameters) (defaults_of ms) (each m.parameters)
      (defaults_pooled ms)
    where
      each : (ps : List Parameter) → AllByRecursion IsPooled (map (λ p. default_value p.default) ps)
      each [] = tt
      each (p ∷ ps) = (default_pooled p.default, each ps)

  front_pooled : (hs : List Namespace)
      → AllByRecursion IsPooled (flat_map (λ h. defaults_of (macros cenv.sources h)) hs)
  front_pooled [] = tt
  front_pooled (h ∷ hs) = search (arith, rules, all_append, defaults_pooled, front_pooled hs)

-- The program of an ordered list of chains and libraries is lawful, if each of its operations has
-- the number of values that it takes.
pub program_lawful : (cenv : CompileEnv) (entry : Text) (rest : List Namespace)
    → InOrder cenv.sources (a_chain entry ∷ rest)
    → AllByRecursion
    (λ r. BodyTakes the_filters (program cenv (a_chain entry ∷ rest) (a_chain entry)).routines false r.body)
    (program cenv (a_chain entry ∷ rest) (a_chain entry)).routines
    → AreLawful (names cenv (a_chain entry ∷ rest) (a_chain entry))
    (count_globals cenv (a_chain entry ∷ rest) (a_chain entry ∷ rest)) (shared cenv (a_chain entry ∷ rest))
    (routines cenv (a_chain entry ∷ rest))
program_lawful cenv entry rest ordered takes =
    let order = a_chain entry ∷ rest in
    record {
      few = omega (arith, few_globals cenv order (a_chain entry));
      pooled = (tt, front_pooled cenv order order);
      routines = routines_of cenv order ordered order (λ h e. e);
      takes = takes;
      entry = chain_routine cenv order entry;
      is_entry = refl;
    }
