-- A resolved tree has at most 100 instructions for each token.
use Rattle.std.proofs.Common.{◌≡◌, ℕ, ◌+◌, ◌*◌, min, ◌≤◌, Bool, true, false, if◌then◌else◌, List, [], ◌∷◌, length}
use Rattle.std.proofs.Common.{Option, None, arith, subst, rules}
use Rattle.std.specs.List.{AllByRecursion as Each}
use Rattle.jt_ast.specs.Expressions.{Expr, weight, Text}
use Rattle.jt_chains.specs.Uses.{set_in}
use Rattle.jt_ast.specs.Statements.{Body}
use Rattle.jt_chains.specs.Chain.{Sources, Namespace, MacroBody, macro_of, is_private, public_macro, Definition}
use Rattle.jt_chains.specs.Chain.{given_to, Callee, a_macro, named_alone, of_library, in_library, named_in, callee}
use Rattle.jt_chains.specs.Chain.{a_cycle, given, Template}
use Rattle.jt_rules.specs.CompileEnv.{CompileEnv}
use Rattle.jt_semantics.specs.Expressions.{filter_parameters}
use Rattle.jt_semantics.specs.Layout.{globals, block_parameters}
use Rattle.jt_ir.specs.Slots as slots
use Rattle.jt_ir.specs.Slots.{NaryOp, SlotExpr, SRow, Targets, SlotStmt, SBody}
use Rattle.jt_ir.specs.Pool.{Constant}
use Rattle.jt_semantics.specs.Resolve.{followed, StaticEnv, bound_all, scoped, resolved_body, resolved_chain}
use Rattle.jt_ir.specs.Size.{targets_size, nary_op_size, expr_size, row_size, condition_size, stmt_size, body_size}
use Rattle.jt_semantics.specs.Measure.{GivenFew, IsFew, HasFewNames}
use Rattle.jt_semantics.proofs.FreeNameWeights.{body_own}
use Rattle.jt_semantics.proofs.TreesHaveParts as parts
use Rattle.jt_semantics.proofs.TreesHaveParts.{templates_own}

pub filter_few : (cenv : CompileEnv) (f : Option ℕ) → ((i : ℕ) → length (cenv.filters.parameters i) ≤ 3)
    → length (filter_parameters cenv.filters f) ≤ 3
filter_few cenv f h = search (arith, rules)

-- ---- The callee: its parameters are few, and `loop.cycle` has three tokens

abbrev pub CalleeFew : ℕ → ℕ → Callee → Type 0
CalleeFew q w (a_macro k m) = length m.parameters ≤ q
CalleeFew q w a_cycle = 3 ≤ w
CalleeFew q w _ = Unit {0}

module _ (q : ℕ) where
  abbrev AllGivenFew : Sources → List (Text × Definition) → Type 0
  AllGivenFew sources gs = Each (λ g. GivenFew sources q g.1) gs

  given_few : (sources : Sources) (gs : List (Text × Definition)) (x : Text) → AllGivenFew sources gs
      → CalleeFew q 1 (named_alone sources (given_to x gs) x)
  given_few sources [] x h = search (arith, rules)
  given_few sources (g ∷ gs) x h = search (arith, rules, given_few sources gs x h.1)

  of_few : (sources : Sources) (n x : Text) (ms : List MacroBody) → Each (λ m. length m.parameters ≤ q) ms
      → CalleeFew q 3 (of_library sources n (public_macro x ms))
  of_few sources n x ms h = by (is_private x) (looked ms h)
    where
      looked : (ns : List MacroBody) → Each (λ m. length m.parameters ≤ q) ns
          → CalleeFew q 3 (of_library sources n (macro_of x ns))
      looked [] f = tt
      looked (m ∷ ns) f = search (arith, rules, looked ns f.1)

      by : (b : Bool) → CalleeFew q 3 (of_library sources n (macro_of x ms))
          → CalleeFew q 3 (of_library sources n (if b then None else macro_of x ms))
      by true r = tt
      by false r = r

  library_few : (sources : Sources) (gs : List (Text × Definition)) (of x : Text) → AllGivenFew sources gs
      → CalleeFew q 3 (in_library sources (given_to of gs) x)
  library_few sources [] of x h = tt
  library_few sources (g ∷ gs) of x h = search (arith, rules, library_few sources gs of x h.1, of_few sources)

  in_few : (sources : Sources) (gs : List (Text × Definition)) (of x : Text) → AllGivenFew sources gs
      → CalleeFew q 3 (named_in sources (given_to of gs) of x)
  in_few sources gs of x h = search (arith, rules, library_few)

  pub callee_few : (sources : Sources) (ms : List (Text × Definition)) (e : Expr) → AllGivenFew sources ms
      → CalleeFew q (weight e) (callee sources ms e)
  callee_few sources ms e h = search (arith, rules, given_few, in_few)

followed_size : (a b : SBody Constant) → body_size (followed a b) ≡ body_size a + body_size b
followed_size slots.end b = omega arith
followed_size (slots.stmt s rest) b = omega (arith, followed_size rest b)

abbrev Small : parts.Parts
Small = record {
  slot = λ s. Unit {0};
  constant = λ k. Unit {0};
  called = λ c. c ≤ 200;
  filtered = λ c. c ≤ 3;
  targets = λ c. Unit {0};
  names = λ c. c ≤ 200;
}

read_size : {e : SlotExpr Constant} → parts.IsRead Small e → expr_size e ≤ 1
read_size e = search (arith, rules)

leaf_size : {e : SlotExpr Constant} → parts.IsLeaf Small e → expr_size e ≤ 1
leaf_size e = search (arith, rules, read_size)

loads_size : {c d : ℕ} {es : SRow Constant} → parts.LoadsOf Small c d es → row_size es ≤ c
loads_size parts.no_loads = omega arith
loads_size (parts.load l e es) = omega (arith, read_size e, loads_size es)
loads_size (parts.default k es) = omega (arith, loads_size es)

made_size : (k : NaryOp) → nary_op_size k ≤ 4
made_size k = search (arith, rules)

mutual
  expr_sized : {w : ℕ} {e : SlotExpr Constant} → parts.ExprOf Small w e → expr_size e ≤ 100 * w
  expr_sized (parts.leaf e) = omega (arith, leaf_size e)
  expr_sized (parts.single {k = o} a) = omega (arith, made_size o, expr_sized a)
  expr_sized (parts.pair {k = o} a b) = omega (arith, made_size o, operand_sized a, operand_sized b)
  expr_sized (parts.operation {k = o} es) = omega (arith, made_size o, row_sized es)
  expr_sized (parts.filter {k = o} f l m es) = omega (arith, made_size o, f, l, m, row_sized es)
  expr_sized (parts.both a b) = omega (arith, operand_sized a, operand_sized b)
  expr_sized (parts.either a b) = omega (arith, operand_sized a, operand_sized b)
  expr_sized (parts.when c a b) = omega (arith, expr_sized c, expr_sized a, read_size b)
  expr_sized (parts.chosen c a b) = omega (arith, expr_sized c, expr_sized a, expr_sized b)
  expr_sized (parts.call f l es) = omega (arith, f, l, row_sized es)
  expr_sized (parts.more l e) = omega (arith, l, expr_sized e)

  operand_sized : {w : ℕ} {e : SlotExpr Constant} → parts.OperandOf Small w e → expr_size e ≤ 4 + 100 * w
  operand_sized (parts.plain e) = omega (arith, expr_sized e)
  operand_sized (parts.needed e) = omega (arith, expr_sized e)

  row_sized : {w v c d : ℕ} {es : SRow Constant} → parts.RowOf Small w v c d es
      → row_size es + 90 * min 1 (w + v) ≤ 100 * (w + v) + c
  row_sized (parts.loads l) = omega (arith, loads_size l)
  row_sized (parts.named s e es) = omega (arith, expr_sized e, row_sized es)
  row_sized (parts.positional e es) = omega (arith, operand_sized e, row_sized es)
  row_sized (parts.wider l es) = omega (arith, l, row_sized es)

targets_sized : {c : ℕ} {xs : Targets} → parts.TargetsOf Small c xs → targets_size xs ≤ 1 + c
targets_sized xs = search (arith, rules)

condition_sized : {w : ℕ} {c : Option (SlotExpr Constant)} (xs : Targets) → parts.ConditionOf Small w c
    → condition_size xs c ≤ 5 + targets_size xs + 100 * w
condition_sized xs c = search (arith, rules, expr_sized)

copies_sized : {c : ℕ} {a b : SBody Constant} → parts.CopiesOf Small c a b → body_size b ≤ 2 * c + body_size a
copies_sized parts.no_copies = omega arith
copies_sized (parts.copy s e c) = omega (arith, read_size e, copies_sized c)

values_sized : {w c : ℕ} {a b : SBody Constant} → parts.ValuesOf Small w c a b → body_size b ≤ 100 * w + body_size a
values_sized parts.no_values = omega arith
values_sized (parts.value s e v) = omega (arith, expr_sized e, values_sized v)

mutual
  stmt_size_of : {w m c : ℕ} {s : SlotStmt Constant} → parts.StmtOf Small w m c s
      → stmt_size s + 2 * c ≤ 100 * (w + 2 * m)
  stmt_size_of (parts.data_part k) = omega arith
  stmt_size_of (parts.print_part e) = omega (arith, operand_sized e)
  stmt_size_of (parts.set_part f xs e) = omega (arith, targets_sized xs, expr_sized e)
  stmt_size_of (parts.branch_part e a b) = omega (arith, expr_sized e, body_size_of a, body_size_of b)
  stmt_size_of (parts.loop_part {xs = ts} f xs e c body other) =
      omega (
        arith,
        targets_sized xs,
        operand_sized e,
        condition_sized ts c,
        body_size_of body,
        body_size_of other,
      )
  stmt_size_of (parts.capture_part l s body) = omega (arith, l, body_size_of body)
  stmt_size_of (parts.run_part f l es) = omega (arith, f, l, loads_size es)

  body_size_of : {w m c : ℕ} {b : SBody Constant} → parts.BodyOf Small w m c b
      → body_size b + 2 * c ≤ 100 * (w + 2 * m)
  body_size_of parts.empty = omega arith
  body_size_of (parts.alone s) = omega (arith, stmt_size_of s)
  body_size_of (parts.after {a = a} {b = b} x y) = omega (arith, followed_size a b, body_size_of x, body_size_of y)
  body_size_of (parts.scope l c b) = omega (arith, copies_sized c, body_size_of b)
  body_size_of (parts.within v b) = omega (arith, values_sized v, body_size_of b)
  body_size_of (parts.handed f c) = omega (arith, f, copies_sized c)
  body_size_of (parts.wide l m k b) = omega (arith, l, m, k, body_size_of b)

module _ (cenv : CompileEnv) (order : List Namespace) where
  pub parameters_few : (h : Namespace) (x : Text) → HasFewNames cenv order h
      → length (block_parameters cenv order h x) ≤ 200
  parameters_few h x k = search (arith, rules)

  meets : (n z : ℕ) → parts.Meets Small n z cenv order (IsFew cenv order)
  meets n z = record {
    first = tt;
    locals = λ i l. tt;
    global_slots = λ h i l k. tt;
    tables = λ h. parts.all_fine Small (λ s. tt) (globals cenv order h);
    undefined = tt;
    literals = λ l b. tt;
    macros =
        λ h k f z b e. (
          subst (CalleeFew 200 (weight f)) e (callee_few 200 cenv.sources (given cenv.sources h) f k.macros),
          λ i l g. tt,
        );
    blocks = λ h k x. parameters_few h x (k.names h);
    parameters = λ h x i l. tt;
    filters =
        λ h k f. (
          filter_few cenv f k.filters,
          parts.all_defaults Small (λ c. tt) (filter_parameters cenv.filters f),
        );
    name_counts = λ h k l. (k.names l).0;
  }

  -- The bound of the instructions of a chain's templates.
  pub chain_sized : (h : Namespace) → IsFew cenv order h → (ts : List Template)
      → body_size (resolved_chain cenv order h ts) ≤ 100 * templates_own ts
  chain_sized h k ts =
      omega
      (arith, body_size_of (parts.chain_parts Small cenv order (IsFew cenv order) meets h ts k (λ i l. tt)))

  -- The bound of the instructions of a body with parameters.
  pub routine_sized : (xs : List Text) (b : Body) (sp : StaticEnv) → IsFew cenv order sp.namespace
      → body_size (scoped (set_in b) (bound_all xs sp) (resolved_body cenv order b)) ≤ 100 * body_own b
  routine_sized xs b sp k =
      omega (
        arith,
        body_size_of (parts.routine_parts Small cenv order (IsFew cenv order) meets xs b sp k
            (parts.all_fine Small (λ s. tt) sp.table) (λ i l. tt)),
      )
