-- The names that trees read or bind.
use Rattle.std.specs.Prelude.{if◌then◌else◌, List, [], ◌∷◌, ◌++◌, map, flat_map, Option, Some, None}
use Rattle.jt_ast.specs.Expressions.{Expr, name, group, list_of, map_of, attribute, item, call, filter, test, unary}
use Rattle.jt_ast.specs.Expressions.{binary, when, choice, Exprs, no_exprs, expr, Pairs, no_pairs, pair, Text}
pub use Rattle.jt_ast.specs.Expressions.{count}
use Rattle.jt_chains.specs.Chain.{is_loop, Sources, Namespace, templates}
use Rattle.jt_ast.specs.Texts.{ascending}
use Rattle.jt_ast.specs.Statements.{FilterCall, Stmt, print, choose, for_each, set, set_block, with_values}
use Rattle.jt_ast.specs.Statements.{filter_block, autoescape, macro, block, Body, end, stmt, Branches, no_branches}
use Rattle.jt_ast.specs.Statements.{branch}

-- The names of keyword arguments, or the keys of a map.
abbrev pub keywords : Pairs → List Text
keywords no_pairs = []
keywords (pair key value rest) = key ∷ keywords rest

-- ---- the names that an expression reads

-- A callee and `loop` are no values, so they are not read.

abbrev mutual
  pub expr_names : Expr → List Text
  expr_names (name x) = x ∷ []
  expr_names (group inner) = expr_names inner
  expr_names (list_of items) = row_names items
  expr_names (map_of entries) = pair_names entries
  expr_names (attribute value key) = if is_loop value then [] else expr_names value
  expr_names (item value index) = expr_names value ++ expr_names index
  expr_names (call callee arguments pairs) = row_names arguments ++ pair_names pairs
  expr_names (filter value filter_name arguments pairs) = expr_names value ++ (row_names arguments ++ pair_names pairs)
  expr_names (test value negated test_name arguments pairs) =
      expr_names value ++ (row_names arguments ++ pair_names pairs)
  expr_names (unary op operand) = expr_names operand
  expr_names (binary op left right) = expr_names left ++ expr_names right
  expr_names (when condition value) = expr_names condition ++ expr_names value
  expr_names (choice condition value other) = expr_names condition ++ (expr_names value ++ expr_names other)
  expr_names e = []

  pub row_names : Exprs → List Text
  row_names no_exprs = []
  row_names (expr first rest) = expr_names first ++ row_names rest

  pub pair_names : Pairs → List Text
  pair_names no_pairs = []
  pair_names (pair key value rest) = expr_names value ++ pair_names rest

abbrev pub condition_names : Option Expr → List Text
condition_names None = []
condition_names (Some c) = expr_names c

abbrev pub filter_call_names : List FilterCall → List Text
filter_call_names [] = []
filter_call_names (f ∷ fs) = row_names f.arguments ++ (pair_names f.keywords ++ filter_call_names fs)

-- ---- the names that a template reads or binds, once for each occurrence

abbrev mutual
  pub stmt_names : Stmt → List Text
  stmt_names (print line value) = expr_names value
  stmt_names (choose branches other) = branch_names branches ++ body_names other
  stmt_names (for_each line targets over condition body other) =
      expr_names over ++ (targets ++ (condition_names condition ++ (body_names body ++ body_names other)))
  stmt_names (set line targets value) = expr_names value ++ targets
  stmt_names (set_block line target body) = target ∷ body_names body
  stmt_names (with_values line values body) = pair_names values ++ (keywords values ++ body_names body)
  stmt_names (filter_block line filters body) = body_names body ++ filter_call_names filters
  stmt_names (autoescape line on body) = body_names body
  stmt_names (macro line macro_name parameters body) = map (λ p. p.name) parameters ++ body_names body
  stmt_names (block line block_name scoped required body) = body_names body
  stmt_names s = []

  pub body_names : Body → List Text
  body_names end = []
  body_names (stmt first rest) = stmt_names first ++ body_names rest

  pub branch_names : Branches → List Text
  branch_names no_branches = []
  branch_names (branch line condition body rest) = expr_names condition ++ (body_names body ++ branch_names rest)

-- ---- the names that a body sets in its own scope

-- An `if` and the `else` part of a loop have no scope of their own.

abbrev mutual
  pub set_by : Stmt → List Text
  set_by (set line targets value) = targets
  set_by (set_block line target body) = target ∷ []
  set_by (choose branches other) = set_under branches ++ set_in other
  set_by (for_each line targets over condition body other) = set_in other
  set_by s = []

  pub set_in : Body → List Text
  set_in end = []
  set_in (stmt first rest) = set_by first ++ set_in rest

  pub set_under : Branches → List Text
  set_under no_branches = []
  set_under (branch line condition body rest) = set_in body ++ set_under rest

-- ---- the names that scopes bind

-- Scopes bind targets of loops, parameters, values of `with`, and the names that are set in them.

abbrev mutual
  pub scope_names_by : Stmt → List Text
  scope_names_by (choose branches other) = scope_names_under branches ++ scope_names_in other
  scope_names_by (for_each line targets over condition body other) =
      targets ++ (set_in body ++ (scope_names_in body ++ scope_names_in other))
  scope_names_by (set_block line target body) = set_in body ++ scope_names_in body
  scope_names_by (with_values line values body) = keywords values ++ (set_in body ++ scope_names_in body)
  scope_names_by (filter_block line filters body) = set_in body ++ scope_names_in body
  scope_names_by (autoescape line on body) = set_in body ++ scope_names_in body
  scope_names_by (block line block_name scoped required body) = set_in body ++ scope_names_in body
  scope_names_by (macro line macro_name parameters body) =
      map (λ p. p.name) parameters ++ (set_in body ++ scope_names_in body)
  scope_names_by s = []

  pub scope_names_in : Body → List Text
  scope_names_in end = []
  scope_names_in (stmt first rest) = scope_names_by first ++ scope_names_in rest

  pub scope_names_under : Branches → List Text
  scope_names_under no_branches = []
  scope_names_under (branch line condition body rest) = scope_names_in body ++ scope_names_under rest

-- The names in a chain's templates, or in a library's own.
abbrev pub own_names : Sources → Namespace → List Text
own_names sources namespace = flat_map (λ file. body_names file.body) (templates sources namespace)

-- The names that the scopes of a chain or a library bind.
abbrev pub scope_names : Sources → Namespace → List Text
scope_names sources namespace = ascending (flat_map (λ file. scope_names_in file.body) (templates sources namespace))
