-- If no filter and no test has an unknown name, the tests and filters of chains are known.
use Rattle.std.proofs.Common.{◌≡◌, ℕ, Bool, true, false, ◌||◌, List, [], ◌∷◌, Option, Some, None, refl, arith, rules}
use Rattle.std.specs.Prelude.{not, option_map}
use Rattle.std.proofs.lemmas.Bool.{not-false, or_parts}
use Rattle.std.specs.Option.{is_some, option_or}
use Rattle.std.specs.List.{AllByRecursion}
use Rattle.jt_ids.specs.TestTable.{test_of_name}
use Rattle.jt_expr.specs.declared.named.Named.{Named}
use Rattle.jt_expr.specs.declared.named.Named.TheVariants as n
use Rattle.jt_image.proofs.ReadPrefix.{all_weaker}
use Rattle.jt_ast.specs.Written.{only_name, filter_written}
use Rattle.jt_expr.specs.Named.{is_test, is_filter, filter_unknown, unknown_test, has_unknown}
use Rattle.jt_expr.specs.Named.{exprs_have_unknown, pairs_have_unknown}
use Rattle.jt_ids.specs.FilterTable.{filter_id, filter_of_name, with_only}
use Rattle.jt_ids.specs.declared.filter_id.FilterId.{FilterId}
use Rattle.jt_ids.specs.declared.filter_id.FilterId.TheVariants as which
use Rattle.jt_ast.specs.Expressions as written
use Rattle.jt_ast.specs.Expressions.{Expr, constant, name, group, list_of, map_of, attribute, item, filter, test, unary}
use Rattle.jt_ast.specs.Expressions.{binary, when, choice, Exprs, no_exprs, expr, Pairs, no_pairs, pair, Text}
use Rattle.jt_parse.specs.Names.{blamed, unknown_in, condition_unknown, filter_calls_unknown}
use Rattle.jt_parse.specs.Names.{stmt_unknown, body_unknown, branch_unknown}
use Rattle.jt_ast.specs.Statements.{FilterCall, Stmt, print, choose, for_each, set, set_block, with_values}
use Rattle.jt_ast.specs.Statements.{filter_block, autoescape, macro, block, Body, end, stmt, Branches, no_branches}
use Rattle.jt_ast.specs.Statements.{branch}
use Rattle.jt_chains.specs.Chain.{Namespace}
use Rattle.jt_chains.specs.View.{Seen}
use Rattle.jt_eval.specs.Tests.{test_named}
use Rattle.jt_eval.specs.TheFilters.{the_filters}
use Rattle.jt_rules.specs.CompileEnv.{cenv_of}
use Rattle.jt_rules.specs.Known.{IsThere, ExprKnown, RowKnown, PairsKnown, ConditionKnown, FilterCallKnown, StmtKnown}
use Rattle.jt_rules.specs.Known.{BodyKnown, BranchesKnown, ChainsKnown}
use Rattle.jt_codegen.proofs.EitherHolds.{either_of}
use Rattle.jt_codegen.proofs.ChainTemplates.{chain_has}

-- ---- a known test or filter is found

there : {K : Type 0} (o : Option K) → is_some o ≡ true → IsThere o
there None h = absurd cc
there (Some k) h = tt

test_found : (x : Text) → not (is_test x) ≡ false → IsThere (test_named x)
unfolding is_test test_named
test_found x h = there (test_of_name x) (not-false (is_some (test_of_name x)) h)

-- A filter with its only argument by name may be another filter.
there_with_only : (o : Option FilterId) (only : Option Text) → IsThere o
    → IsThere (option_map filter_id (with_only o only))
there_with_only None only h = h
there_with_only (Some which.Map) None h = tt
there_with_only (Some which.Map) (Some x) h = search (arith, rules, either_of)
there_with_only (Some g) only h = tt

-- The name of a filter denotes a filter, with any arguments.
filter_there : (x : Text) (ts : Exprs) (ps : Pairs) → is_filter x ≡ true → IsThere (the_filters.named x ts ps)
unfolding is_filter the_filters filter_written
filter_there x ts ps h = there_with_only (filter_of_name x) (only_name ts ps) (there (filter_of_name x) h)

-- ---- trees

-- Neither a filter nor a test has an unknown name.
abbrev Clean : (Named → Bool) → Type 0
Clean f = (u : Named) → f u ≡ false

left : (f g : Named → Bool) → Clean (λ u. f u || g u) → Clean f
left f g h = λ u. (or_parts (f u) (g u) (h u)).0

right : (f g : Named → Bool) → Clean (λ u. f u || g u) → Clean g
right f g h = λ u. (or_parts (f u) (g u) (h u)).1

abbrev in_expr : Expr → Named → Bool
in_expr e u = has_unknown u e

abbrev in_row : Exprs → Named → Bool
in_row ts u = exprs_have_unknown u ts

abbrev in_pairs : Pairs → Named → Bool
in_pairs ps u = pairs_have_unknown u ps

abbrev in_given : Exprs → Pairs → Named → Bool
in_given ts ps u = in_row ts u || in_pairs ps u

abbrev in_applied : Expr → Exprs → Pairs → Named → Bool
in_applied a ts ps u = in_expr a u || in_given ts ps u

abbrev in_filter : Text → Exprs → Pairs → Named → Bool
in_filter x ts ps u = filter_unknown u x ts ps

-- A filter with a known name is found, whatever names its arguments have.
filter_found : (x : Text) (ts : Exprs) (ps : Pairs) → filter_unknown n.Filter x ts ps ≡ false
    → IsThere (the_filters.named x ts ps)
unfolding filter_unknown
filter_found x ts ps h = search (arith, rules, filter_there, not-false, or_parts)

mutual
  expr_known : (e : Expr) → Clean (in_expr e) → ExprKnown the_filters e
  expr_known (group a) h = expr_known a h
  expr_known (list_of ts) h = row_known ts h
  expr_known (map_of ps) h = pairs_known ps h
  expr_known (attribute a k) h = expr_known a h
  expr_known (item a b) h =
      (expr_known a (left (in_expr a) (in_expr b) h), expr_known b (right (in_expr a) (in_expr b) h))
  expr_known (written.call a ts ps) h = search (arith, rules, right, row_known ts, left, pairs_known ps)
  expr_known (filter a x ts ps) h =
      search (arith, rules, right, filter_found, left, expr_known a, row_known ts, pairs_known ps)
  expr_known (test a b x ts ps) h =
      let inside = right (λ u. unknown_test u x) (in_applied a ts ps) h in
      let g = right (in_expr a) (in_given ts ps) inside in (
        test_found x (left (λ u. unknown_test u x) (in_applied a ts ps) h n.Test),
        expr_known a (left (in_expr a) (in_given ts ps) inside),
        row_known ts (left (in_row ts) (in_pairs ps) g),
        pairs_known ps (right (in_row ts) (in_pairs ps) g),
      )
  expr_known (unary o a) h = expr_known a h
  expr_known (binary o a b) h =
      (expr_known a (left (in_expr a) (in_expr b) h), expr_known b (right (in_expr a) (in_expr b) h))
  expr_known (when c a) h =
      (expr_known c (left (in_expr c) (in_expr a) h), expr_known a (right (in_expr c) (in_expr a) h))
  expr_known (choice c a b) h = search (arith, rules, right, expr_known c, left, expr_known a, expr_known b)
  expr_known e h = tt

  row_known : (ts : Exprs) → Clean (in_row ts) → RowKnown the_filters ts
  row_known no_exprs h = tt
  row_known (expr a ts) h =
      (expr_known a (left (in_expr a) (in_row ts) h), row_known ts (right (in_expr a) (in_row ts) h))

  pairs_known : (ps : Pairs) → Clean (in_pairs ps) → PairsKnown the_filters ps
  pairs_known no_pairs h = tt
  pairs_known (pair k a ps) h =
      (expr_known a (left (in_expr a) (in_pairs ps) h), pairs_known ps (right (in_expr a) (in_pairs ps) h))

-- ---- tags

none_first : {A : Type 0} (a b : Option A) → option_or a b ≡ None → a ≡ None
none_first None b h = refl
none_first (Some x) b h = absurd cc

none_second : {A : Type 0} (a b : Option A) → option_or a b ≡ None → b ≡ None
none_second None b h = h
none_second (Some x) b h = absurd cc

not_blamed : (line : ℕ) (f t : Bool) → blamed line f t ≡ None → (f ≡ false) × (t ≡ false)
not_blamed line f t h = search (arith, rules)

clean_in : (line : ℕ) (f : Named → Bool) → unknown_in line f ≡ None → Clean f
clean_in line f h n.Filter = (not_blamed line (f n.Filter) (f n.Test) h).0
clean_in line f h n.Test = (not_blamed line (f n.Filter) (f n.Test) h).1

abbrev in_condition : Option Expr → Named → Bool
in_condition c u = condition_unknown u c

condition_known : (c : Option Expr) → Clean (in_condition c) → ConditionKnown the_filters c
condition_known None h = tt
condition_known (Some c) h = expr_known c h

abbrev in_filter_calls : List FilterCall → Named → Bool
in_filter_calls gs u = filter_calls_unknown u gs

filter_calls_known : (gs : List FilterCall) → Clean (in_filter_calls gs) → FilterCallKnown the_filters gs
filter_calls_known [] h = tt
filter_calls_known (g ∷ gs) h =
    search (arith, rules, left, right, filter_found, row_known, pairs_known, filter_calls_known gs)

mutual
  stmt_known : (s : Stmt) → stmt_unknown s ≡ None → StmtKnown the_filters s
  stmt_known (print line e) h = expr_known e (clean_in line (in_expr e) h)
  stmt_known (choose bs other) h = search (arith, rules, branches_known bs, none_first, body_known other, none_second)
  stmt_known (for_each line xs e c body other) h =
      let head = λ (u : Named). in_expr e u || in_condition c u in
      let clean =
      clean_in line head (none_first (unknown_in line head) (option_or (body_unknown body) (body_unknown other)) h) in
      let rest = none_second (unknown_in line head) (option_or (body_unknown body) (body_unknown other)) h in (
        expr_known e (left (in_expr e) (in_condition c) clean),
        condition_known c (right (in_expr e) (in_condition c) clean),
        body_known body (none_first (body_unknown body) (body_unknown other) rest),
        body_known other (none_second (body_unknown body) (body_unknown other) rest),
      )
  stmt_known (set line xs e) h = expr_known e (clean_in line (in_expr e) h)
  stmt_known (set_block line x body) h = body_known body h
  stmt_known (with_values line ps body) h =
      search (arith, rules, pairs_known, clean_in, none_first, body_known body, none_second)
  stmt_known (filter_block line gs body) h =
      search (arith, rules, filter_calls_known, clean_in, none_first, body_known body, none_second)
  stmt_known (autoescape line on body) h = body_known body h
  stmt_known (macro line x ps body) h = body_known body h
  stmt_known (block line x scoped required body) h = body_known body h
  stmt_known s h = tt

  body_known : (b : Body) → body_unknown b ≡ None → BodyKnown the_filters b
  body_known end h = tt
  body_known (stmt s rest) h = search (arith, rules, stmt_known s, none_first, body_known rest, none_second)

  branches_known : (bs : Branches) → branch_unknown bs ≡ None → BranchesKnown the_filters bs
  branches_known no_branches h = tt
  branches_known (branch line c body rest) h =
      search (arith, rules, none_first, expr_known, clean_in, body_known body, none_second, branches_known rest)

-- ---- chains

pub chains_known : (c : Seen) → AllByRecursion (λ t. body_unknown t.body ≡ None) c.templates → (hs : List Namespace)
    → ChainsKnown (cenv_of c) hs
chains_known c a [] = tt
chains_known c a (h ∷ hs) =
    let all = all_weaker (λ t. body_unknown t.body ≡ None) (λ t. BodyKnown the_filters t.body) c.templates
    (λ t e. body_known t.body e) a in
    (chain_has (λ m b. BodyKnown the_filters b) c.templates all h, chains_known c a hs)
