-- A resolved tree has at most one constant for each of its tokens, and the texts of its constants
-- are no longer than its source.
use Rattle.std.proofs.Common.{◌≡◌, ℕ, ◌+◌, ◌*◌, max, min, ◌≤◌, List, [], ◌∷◌, ◌++◌, length, Option}
use Rattle.std.proofs.Common.{arith, refl, rules}
use Rattle.std.specs.List.{AllByRecursion as Each}
use Rattle.jt_value.specs.Tree as tree
use Rattle.jt_ast.specs.Expressions.{Literal, Text}
use Rattle.jt_ast.specs.Sizes.{literal_bytes, body_bytes}
use Rattle.jt_chains.specs.Uses.{set_in}
use Rattle.jt_ast.specs.Statements.{Parameter, Body}
use Rattle.jt_chains.specs.Chain.{Namespace, Template}
use Rattle.jt_eval.specs.Filters.{default_value}
use Rattle.jt_eval.specs.Values.{literal}
use Rattle.jt_rules.specs.CompileEnv.{CompileEnv}
use Rattle.jt_semantics.specs.Bytes.{value_bytes}
use Rattle.jt_semantics.specs.Expressions.{filter_parameters}
use Rattle.jt_semantics.specs.Layout.{globals}
use Rattle.jt_ir.specs.Slots as slots
use Rattle.jt_ir.specs.Slots.{SlotExpr, SRow, SlotStmt, SBody}
use Rattle.jt_ir.specs.Pool.{Constant, own, known, expr_values, row_values, condition_values, stmt_values, body_values}
use Rattle.jt_semantics.specs.Resolve.{followed, StaticEnv, bound_all, scoped, resolved_body, resolved_chain}
use Rattle.jt_semantics.proofs.FreeNameWeights.{body_free, body_own}
use Rattle.jt_semantics.proofs.TreesHaveParts.{templates_free, templates_own, longest, AreShort, are_short}
use Rattle.jt_semantics.proofs.TreesHaveParts as parts
use Rattle.jt_semantics.proofs.EachElement.{each_map}

pub literal_is : (l : Literal) → value_bytes (literal l) ≡ literal_bytes l
literal_is l = search (arith, rules)

-- The size of the largest value.
abbrev pub most : (tree.Tree → ℕ) → List tree.Tree → ℕ
most size [] = 0
most size (v ∷ vs) = max (size v) (most size vs)

-- Holds if the defaults of the parameters have size 0.
abbrev pub Bare : (tree.Tree → ℕ) → List Parameter → Type 0
Bare size ps = Each (λ p. size (default_value p.default) ≡ 0) ps

-- Holds if there are at most 3 parameters, and their defaults have size 0.
pub record ArePlain (size : tree.Tree → ℕ) (ps : List Parameter) : Type 0 where
  pub few : length ps ≤ 3
  pub bare : Bare size ps

-- No value is larger than z.
module _ (size : tree.Tree → ℕ) (z : ℕ) where
  abbrev IsSmall : Constant → Type 0
  IsSmall (own v) = size v ≤ z
  IsSmall (known i) = Unit {0}

  abbrev Small : parts.Parts
  Small = record {
    slot = λ s. Unit {0};
    constant = IsSmall;
    called = λ c. Unit {0};
    filtered = λ c. c ≤ 3;
    targets = λ c. Unit {0};
    names = λ c. Unit {0};
  }

  -- Holds if there are at most c values, none of which is larger than z.
  abbrev Within : ℕ → List tree.Tree → Type 0
  Within c vs = (length vs ≤ c) × (most size vs ≤ z)

  -- Holds if there are at most c values more in the second list, none of which is larger than z.
  abbrev Adds : ℕ → List tree.Tree → List tree.Tree → Type 0
  Adds c vs ws = (length ws ≤ c + length vs) × (most size ws ≤ max z (most size vs))

  -- Holds if the first list has the values of the other two.
  abbrev Joins : List tree.Tree → List tree.Tree → List tree.Tree → Type 0
  Joins vs a b = (length vs ≡ length a + length b) × (most size vs ≡ max (most size a) (most size b))

  values_append : (a b : List tree.Tree) → Joins (a ++ b) a b
  values_append [] b = omega arith
  values_append (v ∷ a) b = omega (arith, values_append a b)

  followed_joins : (a b : SBody Constant) → Joins (body_values (followed a b)) (body_values a) (body_values b)
  followed_joins slots.end b = omega arith
  followed_joins (slots.stmt s rest) b = search (arith, rules, values_append, followed_joins rest b)

  read_within : {e : SlotExpr Constant} → parts.IsRead Small e → Within 0 (expr_values e)
  read_within e = search (arith, rules)

  leaf_within : {e : SlotExpr Constant} → parts.IsLeaf Small e → Within 1 (expr_values e)
  leaf_within e = search (arith, rules, read_within)

  loads_within : {n c : ℕ} {es : SRow Constant} → parts.LoadsOf Small n c es → Within c (row_values es)
  loads_within parts.no_loads = omega arith
  loads_within (parts.load l e es) = search (arith, rules, values_append, read_within e, loads_within es)
  loads_within (parts.default k es) = omega (arith, loads_within es)

  mutual
    expr_within : {w : ℕ} {e : SlotExpr Constant} → parts.ExprOf Small w e → Within w (expr_values e)
    expr_within (parts.leaf e) = leaf_within e
    expr_within (parts.single a) = search (arith, rules, values_append, expr_within a)
    expr_within (parts.pair a b) = search (arith, rules, values_append, operand_within a, operand_within b)
    expr_within (parts.operation es) = omega (arith, row_within es)
    expr_within (parts.filter f l k es) = omega (arith, row_within es)
    expr_within (parts.both a b) = search (arith, rules, values_append, operand_within a, operand_within b)
    expr_within (parts.either a b) = search (arith, rules, values_append, operand_within a, operand_within b)
    expr_within (parts.when c a b) =
        search (arith, rules, values_append, expr_within c, expr_within a, read_within b)
    expr_within (parts.chosen c a b) =
        search (arith, rules, values_append, expr_within c, expr_within a, expr_within b)
    expr_within (parts.call f l es) = omega (arith, row_within es)
    expr_within (parts.more l e) = omega (arith, expr_within e)

    operand_within : {w : ℕ} {e : SlotExpr Constant} → parts.OperandOf Small w e → Within w (expr_values e)
    operand_within (parts.plain e) = expr_within e
    operand_within (parts.needed e) = search (arith, rules, values_append, expr_within e)

    -- Arguments by name leave room for three defaults.
    row_within : {w v n c : ℕ} {es : SRow Constant} → parts.RowOf Small w v n c es
        → (length (row_values es) + 3 * min 1 v ≤ w + v + c) × (most size (row_values es) ≤ z)
    row_within (parts.loads l) = omega (arith, loads_within l)
    row_within (parts.named s e es) = search (arith, rules, values_append, expr_within e, row_within es)
    row_within (parts.positional e es) = search (arith, rules, values_append, operand_within e, row_within es)
    row_within (parts.wider l es) = omega (arith, row_within es)

  condition_within : {w : ℕ} {c : Option (SlotExpr Constant)} → parts.ConditionOf Small w c
      → Within w (condition_values c)
  condition_within parts.no_condition = omega arith
  condition_within (parts.condition c) = omega (arith, expr_within c)

  copies_add : {c : ℕ} {a b : SBody Constant} → parts.CopiesOf Small c a b → Adds 0 (body_values a) (body_values b)
  copies_add parts.no_copies = omega arith
  copies_add (parts.copy s e c) = search (arith, rules, values_append, read_within e, copies_add c)

  values_add : {w c : ℕ} {a b : SBody Constant} → parts.ValuesOf Small w c a b
      → Adds w (body_values a) (body_values b)
  values_add parts.no_values = omega arith
  values_add (parts.value s e v) = search (arith, rules, values_append, expr_within e, values_add v)

  mutual
    stmt_within : {w m c : ℕ} {s : SlotStmt Constant} → parts.StmtOf Small w m c s → Within w (stmt_values s)
    stmt_within (parts.data_part k) = omega arith
    stmt_within (parts.print_part e) = omega (arith, operand_within e)
    stmt_within (parts.set_part f xs e) = omega (arith, expr_within e)
    stmt_within (parts.branch_part e a b) =
        search (arith, rules, values_append, expr_within e, body_within a, body_within b)
    stmt_within (parts.loop_part f xs e c body other) =
        search (
          arith,
          rules,
          values_append,
          operand_within e,
          condition_within c,
          body_within body,
          body_within other,
        )
    stmt_within (parts.capture_part l s body) = omega (arith, body_within body)
    stmt_within (parts.run_part f l es) = omega (arith, loads_within es)

    body_within : {w m c : ℕ} {b : SBody Constant} → parts.BodyOf Small w m c b → Within w (body_values b)
    body_within parts.empty = omega arith
    body_within (parts.alone s) = search (arith, rules, values_append, stmt_within s)
    body_within (parts.after x y) = search (arith, rules, followed_joins, body_within x, body_within y)
    body_within (parts.scope l c b) = omega (arith, copies_add c, body_within b)
    body_within (parts.within v b) = omega (arith, values_add v, body_within b)
    body_within (parts.handed f c) = omega (arith, copies_add c)
    body_within (parts.wide l m k b) = omega (arith, body_within b)

  module _ (cenv : CompileEnv) (order : List Namespace)
      (plain : (i : ℕ) → ArePlain size (cenv.filters.parameters i))
      (small : (l : Literal) → literal_bytes l ≤ z → size (literal l) ≤ z) where
    abbrev Any : Namespace → Type 0
    Any h = Unit {0}

    filter_plain : (f : Option ℕ) → ArePlain size (filter_parameters cenv.filters f)
    filter_plain f = search (arith, rules)

    meets : (n : ℕ) → parts.Meets Small n z cenv order Any
    meets n = record {
      first = tt;
      locals = λ i l. tt;
      global_slots = λ h i l k. tt;
      tables = λ h. parts.all_fine Small (λ s. tt) (globals cenv order h);
      undefined = tt;
      literals = small;
      macros = λ h k f c b e. (tt, λ i l g. tt);
      blocks = λ h k x. tt;
      parameters = λ h x i l. tt;
      filters =
          λ h k f. (
            (filter_plain f).few,
            each_map (λ p. size (default_value p.default) ≡ 0) (λ p. size (default_value p.default) ≤ z)
                (filter_parameters cenv.filters f) (λ p e. omega arith) (filter_plain f).bare,
          );
      name_counts = λ h k l. tt;
    }

    pub chain_within : (h : Namespace) (ts : List Template) → AreShort z ts
        → Within (templates_free ts) (body_values (resolved_chain cenv order h ts))
    chain_within h ts y =
        let n = templates_own ts in
        body_within (parts.chain_of Small n z cenv order Any (meets n) h ts tt (omega arith) y (λ i l. tt))

    pub routine_within : (xs : List Text) (b : Body) (sp : StaticEnv) → body_bytes b ≤ z
        → Within (body_free b) (body_values (scoped (set_in b) (bound_all xs sp) (resolved_body cenv order b)))
    routine_within xs b sp y =
        let n = sp.free + (length xs + body_own b) in
        body_within
        (parts.routine_of Small n z cenv order Any (meets n) xs b sp tt (parts.all_fine Small (λ s. tt) sp.table)
        (omega arith) (λ i l. tt))

-- ---- The number of constants alone

abbrev no_size : tree.Tree → ℕ
no_size v = 0

module _ (cenv : CompileEnv) (order : List Namespace) (few : (i : ℕ) → length (cenv.filters.parameters i) ≤ 3) where
  all_plain : (i : ℕ) → ArePlain no_size (cenv.filters.parameters i)
  all_plain i = record { few = few i; bare = bare (cenv.filters.parameters i) }
    where
      bare : (ps : List Parameter) → Bare no_size ps
      bare [] = tt
      bare (p ∷ ps) = (refl, bare ps)

  pub chain_counted : (h : Namespace) (ts : List Template)
      → length (body_values (resolved_chain cenv order h ts)) ≤ templates_own ts
  chain_counted h ts =
      let z = longest ts in
      let all = chain_within no_size z cenv order all_plain (λ l b. omega arith) h ts (are_short z ts (omega arith)) in
      omega arith

  pub routine_counted : (xs : List Text) (b : Body) (sp : StaticEnv)
      → length (body_values (scoped (set_in b) (bound_all xs sp) (resolved_body cenv order b))) ≤ body_own b
  routine_counted xs b sp =
      let z = body_bytes b in
      let all = routine_within no_size z cenv order all_plain (λ l b. omega arith) xs b sp (omega arith) in
      omega arith
