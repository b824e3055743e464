-- A resolved tree uses at most the locals that are in use before it, and one more for each token.
use Rattle.std.proofs.Common.{◌≡◌, ℕ, suc, ◌+◌, max, ◌≤◌, List, [], ◌∷◌, length, Option, Some, None, arith, rules}
use Rattle.std.specs.List.{AllByRecursion as Each}
use Rattle.jt_ast.specs.Expressions.{Text}
use Rattle.jt_chains.specs.Uses.{set_in}
use Rattle.jt_ast.specs.Statements.{Body}
use Rattle.jt_ast.specs.Sizes.{body_bytes}
use Rattle.jt_chains.specs.Chain.{Namespace, Template}
use Rattle.jt_rules.specs.CompileEnv.{CompileEnv}
use Rattle.jt_semantics.specs.Expressions.{filter_parameters}
use Rattle.jt_semantics.specs.Layout.{Table, globals_from, names, block_parameters, first_slot}
use Rattle.jt_ir.specs.Slots as slots
use Rattle.jt_ir.specs.Slots.{Slot, SlotExpr, SRow, Targets, SlotStmt, SBody}
use Rattle.jt_ir.specs.Pool.{Constant}
use Rattle.jt_semantics.specs.Resolve.{followed, StaticEnv, bound_all, scoped, resolved_body, resolved_chain}
use Rattle.jt_ir.specs.Locals.{slot_locals, slots_locals, targets_locals, expr_locals, row_locals, condition_locals}
use Rattle.jt_ir.specs.Locals.{stmt_locals, body_locals}
use Rattle.jt_semantics.proofs.FreeNameWeights.{body_own}
use Rattle.jt_semantics.proofs.TreesHaveParts as parts
use Rattle.jt_semantics.proofs.TreesHaveParts.{templates_own}

module _ (n : ℕ) (some : 1 ≤ n) where
  -- Each local is below the limit.
  abbrev Local : parts.Parts
  Local = record {
    slot = λ s. slot_locals s ≤ n;
    constant = λ k. Unit {0};
    called = λ c. Unit {0};
    filtered = λ c. Unit {0};
    targets = λ c. Unit {0};
    names = λ c. Unit {0};
  }

  read_local : {e : SlotExpr Constant} → parts.IsRead Local e → expr_locals e ≤ n
  read_local e = search (arith, rules)

  leaf_local : {e : SlotExpr Constant} → parts.IsLeaf Local e → expr_locals e ≤ n
  leaf_local e = search (arith, rules, read_local)

  loads_local : {c d : ℕ} {es : SRow Constant} → parts.LoadsOf Local c d es → row_locals es ≤ n
  loads_local parts.no_loads = omega arith
  loads_local (parts.load l e es) = omega (arith, read_local e, loads_local es)
  loads_local (parts.default k es) = omega (arith, loads_local es)

  mutual
    expr_local : {w : ℕ} {e : SlotExpr Constant} → parts.ExprOf Local w e → expr_locals e ≤ n
    expr_local (parts.leaf e) = leaf_local e
    expr_local (parts.single a) = omega (arith, expr_local a)
    expr_local (parts.pair a b) = omega (arith, operand_local a, operand_local b)
    expr_local (parts.operation es) = row_local es
    expr_local (parts.filter f l m es) = row_local es
    expr_local (parts.both a b) = omega (arith, operand_local a, operand_local b)
    expr_local (parts.either a b) = omega (arith, operand_local a, operand_local b)
    expr_local (parts.when c a b) = omega (arith, expr_local c, expr_local a, read_local b)
    expr_local (parts.chosen c a b) = omega (arith, expr_local c, expr_local a, expr_local b)
    expr_local (parts.call f l es) = row_local es
    expr_local (parts.more l e) = expr_local e

    operand_local : {w : ℕ} {e : SlotExpr Constant} → parts.OperandOf Local w e → expr_locals e ≤ n
    operand_local (parts.plain e) = expr_local e
    operand_local (parts.needed e) = omega (arith, expr_local e)

    row_local : {w v c d : ℕ} {es : SRow Constant} → parts.RowOf Local w v c d es → row_locals es ≤ n
    row_local (parts.loads l) = loads_local l
    row_local (parts.named s e es) = omega (arith, s, expr_local e, row_local es)
    row_local (parts.positional e es) = omega (arith, operand_local e, row_local es)
    row_local (parts.wider l es) = row_local es

  condition_local : {w : ℕ} {c : Option (SlotExpr Constant)} → parts.ConditionOf Local w c → condition_locals c ≤ n
  condition_local c = search (arith, rules, expr_local)

  slots_local : (ss : List (Option Slot)) → parts.EachSlot Local ss → slots_locals ss ≤ n
  slots_local [] h = omega arith
  slots_local (None ∷ ss) h = slots_local ss h.1
  slots_local (Some s ∷ ss) h = omega (arith, h.0, slots_local ss h.1)

  targets_local : {c : ℕ} {xs : Targets} → parts.TargetsOf Local c xs → targets_locals xs ≤ n
  targets_local (parts.one_target s) = s
  targets_local (parts.targets {ss = ss} l h) = slots_local ss h

  copies_local : {c : ℕ} {a b : SBody Constant} → parts.CopiesOf Local c a b → body_locals a ≤ n → body_locals b ≤ n
  copies_local parts.no_copies h = h
  copies_local (parts.copy s e c) h = omega (arith, s, read_local e, copies_local c h)

  values_local : {w c : ℕ} {a b : SBody Constant} → parts.ValuesOf Local w c a b → body_locals a ≤ n → body_locals b ≤ n
  values_local parts.no_values h = h
  values_local (parts.value s e v) h = omega (arith, s, expr_local e, values_local v h)

  followed_local : (a b : SBody Constant) → body_locals (followed a b) ≡ max (body_locals a) (body_locals b)
  followed_local slots.end b = omega arith
  followed_local (slots.stmt s rest) b = omega (arith, followed_local rest b)

  mutual
    stmt_local : {w m c : ℕ} {s : SlotStmt Constant} → parts.StmtOf Local w m c s → stmt_locals s ≤ n
    stmt_local (parts.data_part k) = omega arith
    stmt_local (parts.print_part e) = operand_local e
    stmt_local (parts.set_part f xs e) = omega (arith, targets_local xs, expr_local e)
    stmt_local (parts.branch_part e a b) = omega (arith, expr_local e, body_local a, body_local b)
    stmt_local (parts.loop_part f xs e c body other) =
        omega (arith, targets_local xs, operand_local e, condition_local c, body_local body, body_local other)
    stmt_local (parts.capture_part l s body) = omega (arith, s, body_local body)
    stmt_local (parts.run_part f l es) = loads_local es

    body_local : {w m c : ℕ} {b : SBody Constant} → parts.BodyOf Local w m c b → body_locals b ≤ n
    body_local parts.empty = omega arith
    body_local (parts.alone s) = omega (arith, stmt_local s)
    body_local (parts.after {a = a} {b = b} x y) = omega (arith, followed_local a b, body_local x, body_local y)
    body_local (parts.scope l c b) = copies_local c (body_local b)
    body_local (parts.within v b) = values_local v (body_local b)
    body_local (parts.handed f c) = copies_local c (omega arith)
    body_local (parts.wide l m k b) = body_local b

  -- Holds if each local of the table is below the limit.
  abbrev pub Below : Table → Type 0
  Below t = Each (λ e. slot_locals e.1 ≤ n) t

  pub globals_below : (m : ℕ) (xs : List Text) → Below (globals_from m xs)
  globals_below m [] = tt
  globals_below m (x ∷ xs) = (omega arith, globals_below (suc m) xs)

  module _ (cenv : CompileEnv) (order : List Namespace)
      (few : (h : Namespace) (x : Text) → length (block_parameters cenv order h x) ≤ n) where
    abbrev Any : Namespace → Type 0
    Any h = Unit {0}

    meets : (z : ℕ) → parts.Meets Local n z cenv order Any
    meets z = record {
      first = some;
      locals = λ i l. omega arith;
      global_slots = λ h i l k. omega arith;
      tables = λ h. globals_below (first_slot cenv order h) (names cenv order h);
      undefined = tt;
      literals = λ l b. tt;
      macros = λ h k f z b e. (tt, λ i l g. tt);
      blocks = λ h k x. tt;
      parameters = λ h x i l. omega (arith, few h x);
      filters = λ h k f. (tt, parts.all_defaults Local (λ c. tt) (filter_parameters cenv.filters f));
      name_counts = λ h k l. tt;
    }

    pub chain_localed : (h : Namespace) (ts : List Template) → templates_own ts ≤ n
        → body_locals (resolved_chain cenv order h ts) ≤ n
    chain_localed h ts k =
        let z = parts.longest ts in
        body_local
        (parts.chain_of Local n z cenv order Any (meets z) h ts tt k (parts.are_short z ts (omega arith)) (λ i l. tt))

    -- The bound of the locals of a body with parameters.
    pub routine_localed : (xs : List Text) (b : Body) (sp : StaticEnv) → Below sp.table
        → sp.free + length xs + body_own b ≤ n
        → body_locals (scoped (set_in b) (bound_all xs sp) (resolved_body cenv order b)) ≤ n
    routine_localed xs b sp t k =
        let z = body_bytes b in
        body_local (parts.routine_of Local n z cenv order Any (meets z) xs b sp tt t (omega arith) (λ i l. tt))
