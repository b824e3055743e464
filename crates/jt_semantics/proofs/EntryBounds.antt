-- A resolved tree needs at most half an entry for each of its tokens, and in addition one for each
-- parameter that a call loads.
use Rattle.std.proofs.Common.{◌≡◌, ℕ, suc, ◌+◌, ◌*◌, max, min, ◌≤◌, List, Option, arith, subst, rules}
use Rattle.jt_ast.specs.Expressions.{weight, Text}
use Rattle.jt_chains.specs.Uses.{set_in}
use Rattle.jt_ast.specs.Statements.{Body, body_bound}
use Rattle.jt_chains.specs.Chain.{Namespace, Template, given}
use Rattle.jt_rules.specs.CompileEnv.{CompileEnv}
use Rattle.jt_semantics.specs.Expressions.{filter_parameters}
use Rattle.jt_semantics.specs.Layout.{globals}
use Rattle.jt_ir.specs.Slots as slots
use Rattle.jt_ir.specs.Slots.{NaryOp, SlotExpr, SRow, Targets, SlotStmt, SBody}
use Rattle.jt_ir.specs.Pool.{Constant}
use Rattle.jt_semantics.specs.Resolve.{followed, StaticEnv, bound_all, scoped, resolved_chain, resolved_body}
use Rattle.jt_ir.specs.Size.{targets_height, nary_op_height, expr_height, row_height, condition_height, stmt_height}
use Rattle.jt_ir.specs.Size.{body_height}
use Rattle.jt_semantics.specs.Measure.{HasAtMost}
use Rattle.jt_semantics.proofs.FreeNameWeights.{body_free, templates_bound}
use Rattle.jt_semantics.proofs.TreesHaveParts.{templates_free}
use Rattle.jt_semantics.proofs.InstructionBounds.{filter_few, CalleeFew, callee_few}
use Rattle.jt_semantics.proofs.TreesHaveParts as parts

followed_low : (a b : SBody Constant) → body_height (followed a b) ≡ max (body_height a) (body_height b)
followed_low slots.end b = omega arith
followed_low (slots.stmt s rest) b = omega (arith, followed_low rest b)

made_low : (k : NaryOp) → nary_op_height k ≤ 2
made_low k = search (arith, rules)

module _ (q : ℕ) where
  abbrev pub Low : parts.Parts
  Low = record {
    slot = λ s. Unit {0};
    constant = λ k. Unit {0};
    called = λ n. n ≤ q;
    filtered = λ n. n ≤ 3;
    targets = λ n. n ≤ q;
    names = λ n. Unit {0};
  }

  read_low : {e : SlotExpr Constant} → parts.IsRead Low e → expr_height e ≡ 1
  read_low e = search (arith, rules)

  leaf_low : {e : SlotExpr Constant} → parts.IsLeaf Low e → expr_height e ≡ 1
  leaf_low e = search (arith, rules, read_low)

  loads_low : {n k : ℕ} {es : SRow Constant} → parts.LoadsOf Low n k es → row_height es ≡ n
  loads_low parts.no_loads = omega arith
  loads_low (parts.load l e es) = omega (arith, read_low e, loads_low es)
  loads_low (parts.default k es) = omega (arith, loads_low es)

  copies_low : {n : ℕ} {a b : SBody Constant} → parts.CopiesOf Low n a b
      → body_height b ≤ max (min 1 n) (body_height a)
  copies_low parts.no_copies = omega arith
  copies_low (parts.copy s e c) = omega (arith, read_low e, copies_low c)

  mutual
    expr_lies : {w : ℕ} {e : SlotExpr Constant} → parts.ExprOf Low w e → 2 * expr_height e ≤ w + 1 + 2 * suc q
    expr_lies (parts.leaf e) = omega (arith, leaf_low e)
    expr_lies (parts.single {k = o} a) = omega (arith, made_low o, expr_lies a)
    expr_lies (parts.pair {k = o} a b) = omega (arith, made_low o, operand_lies a, operand_lies b)
    expr_lies (parts.operation {k = o} es) = omega (arith, made_low o, row_lies es)
    expr_lies (parts.filter {k = o} l m k es) = omega (arith, made_low o, l, m, k, row_lies es, parts.names_pay es)
    expr_lies (parts.both a b) = omega (arith, operand_lies a, operand_lies b)
    expr_lies (parts.either a b) = omega (arith, operand_lies a, operand_lies b)
    expr_lies (parts.when c a b) = omega (arith, expr_lies c, expr_lies a, read_low b)
    expr_lies (parts.chosen c a b) = omega (arith, expr_lies c, expr_lies a, expr_lies b)
    expr_lies (parts.call l m es) = omega (arith, l, m, row_lies es)
    expr_lies (parts.more l e) = omega (arith, expr_lies e)

    operand_lies : {w : ℕ} {e : SlotExpr Constant} → parts.OperandOf Low w e
        → (1 ≤ w) × (2 * expr_height e ≤ w + 1 + 2 * suc q)
    operand_lies (parts.plain e) = omega (arith, expr_lies e, parts.pays e)
    operand_lies (parts.needed e) = omega (arith, expr_lies e, parts.pays e)

    row_lies : {w v n k : ℕ} {es : SRow Constant} → parts.RowOf Low w v n k es
        → 2 * row_height es ≤ w + max (v + 2 * suc q) (2 * n)
    row_lies (parts.loads l) = omega (arith, loads_low l)
    row_lies (parts.named s e es) = omega (arith, expr_lies e, row_lies es)
    row_lies (parts.positional e es) = omega (arith, operand_lies e, row_lies es)
    row_lies (parts.wider l es) = omega (arith, row_lies es)

  condition_low : {w : ℕ} {c : Option (SlotExpr Constant)} → parts.ConditionOf Low w c
      → 2 * condition_height c ≤ w + 2 * suc q
  condition_low parts.no_condition = omega arith
  condition_low (parts.condition c) = omega (arith, expr_lies c)

  values_low : {w n : ℕ} {a b : SBody Constant} → parts.ValuesOf Low w n a b
      → 2 * body_height b ≤ max (w + 2 * suc q) (2 * body_height a)
  values_low parts.no_values = omega arith
  values_low (parts.value s e v) = omega (arith, expr_lies e, values_low v)

  targets_low : {n : ℕ} {xs : Targets} → parts.TargetsOf Low n xs → targets_height xs ≤ max 1 n
  targets_low xs = search (arith, rules)

  mutual
    stmt_lies : {w m c : ℕ} {s : SlotStmt Constant} → parts.StmtOf Low w m c s → 2 * stmt_height s ≤ w + 2 * q
    stmt_lies (parts.data_part k) = omega arith
    stmt_lies (parts.print_part e) = omega (arith, operand_lies e)
    stmt_lies (parts.set_part n xs e) = omega (arith, n, targets_low xs, expr_lies e)
    stmt_lies (parts.branch_part e a b) = omega (arith, expr_lies e, body_lies a, body_lies b)
    stmt_lies (parts.loop_part n xs e c body other) =
        omega (arith, n, targets_low xs, operand_lies e, condition_low c, body_lies body, body_lies other)
    stmt_lies (parts.capture_part l s body) = omega (arith, body_lies body)
    stmt_lies (parts.run_part l m es) = omega (arith, l, m, loads_low es)

    body_lies : {w m c : ℕ} {b : SBody Constant} → parts.BodyOf Low w m c b → 2 * body_height b ≤ w + 2 * q
    body_lies parts.empty = omega arith
    body_lies (parts.alone s) = omega (arith, stmt_lies s)
    body_lies (parts.after {a = a} {b = b} x y) = omega (arith, followed_low a b, body_lies x, body_lies y)
    body_lies (parts.scope l c b) = omega (arith, l, copies_low c, body_lies b)
    body_lies (parts.within v b) = omega (arith, values_low v, body_lies b)
    body_lies (parts.handed n c) = omega (arith, copies_low c)
    body_lies (parts.wide l m k b) = omega (arith, body_lies b)

module _ (cenv : CompileEnv) (order : List Namespace) (q : ℕ) where
  meets : (n z : ℕ) → parts.Meets (Low q) n z cenv order (HasAtMost cenv order q)
  meets n z = record {
    first = tt;
    locals = λ i l. tt;
    global_slots = λ h i l k. tt;
    tables = λ h. parts.all_fine (Low q) (λ s. tt) (globals cenv order h);
    undefined = tt;
    literals = λ l b. tt;
    macros =
        λ h k f z b e. (
          subst (CalleeFew q (weight f)) e (callee_few q cenv.sources (given cenv.sources h) f k.macros),
          λ i l g. tt,
        );
    blocks = λ h k. k.blocks;
    parameters = λ h x i l. tt;
    filters =
        λ h k f. (
          filter_few cenv f k.filters,
          parts.all_defaults (Low q) (λ c. tt) (filter_parameters cenv.filters f),
        );
    name_counts = λ h k l. tt;
  }

  -- The bound of the entries of a chain's templates.
  pub chain_low : (h : Namespace) (ts : List Template) → HasAtMost cenv order q h → templates_bound ts ≤ q
      → 2 * body_height (resolved_chain cenv order h ts) ≤ templates_free ts + 2 * q
  chain_low h ts k g =
      body_lies q
      (parts.chain_parts (Low q) cenv order (HasAtMost cenv order q) meets h ts k (λ i l. omega arith))

  -- The bound of the entries of a body with parameters.
  pub routine_low : (xs : List Text) (b : Body) (sp : StaticEnv) → HasAtMost cenv order q sp.namespace
      → body_bound b ≤ q
      → 2 * body_height (scoped (set_in b) (bound_all xs sp) (resolved_body cenv order b)) ≤ body_free b + 2 * q
  routine_low xs b sp k g =
      body_lies q
      (parts.routine_parts (Low q) cenv order (HasAtMost cenv order q) meets xs b sp k
      (parts.all_fine (Low q) (λ s. tt) sp.table) (λ i l. omega arith))
