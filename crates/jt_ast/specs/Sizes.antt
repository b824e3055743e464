-- The total length of the names and texts of a tree, in bytes.
use Rattle.std.specs.Prelude.{ℕ, ◌+◌, List, [], ◌∷◌, length, Option, Some, None}
use Rattle.jt_ast.specs.Expressions.{Text, Literal, number, text, truth, nothing, Expr, constant, name, group, list_of}
use Rattle.jt_ast.specs.Expressions.{map_of, attribute, item, call, filter, test, unary, binary, when, choice, Exprs}
use Rattle.jt_ast.specs.Expressions.{no_exprs, expr, Pairs, no_pairs, pair}
use Rattle.jt_ast.specs.Statements.{Parameter, FilterCall, Stmt, data_of, print, choose, for_each, set, set_block}
use Rattle.jt_ast.specs.Statements.{with_values, filter_block, autoescape, macro, include, import_as, import_from}
use Rattle.jt_ast.specs.Statements.{extends, block, Body, end, stmt, Branches, no_branches, branch}

abbrev pub literal_bytes : Literal → ℕ
literal_bytes (number n) = 0
literal_bytes (text x) = length x
literal_bytes (truth b) = 0
literal_bytes nothing = 0

abbrev mutual
  pub expr_bytes : Expr → ℕ
  expr_bytes (constant literal) = literal_bytes literal
  expr_bytes (name x) = length x
  expr_bytes (group inner) = expr_bytes inner
  expr_bytes (list_of items) = exprs_bytes items
  expr_bytes (map_of entries) = pairs_bytes entries
  expr_bytes (attribute value key) = expr_bytes value + length key
  expr_bytes (item value index) = expr_bytes value + expr_bytes index
  expr_bytes (call callee arguments keywords) = expr_bytes callee + exprs_bytes arguments + pairs_bytes keywords
  expr_bytes (filter value filter_name arguments keywords) =
      expr_bytes value + length filter_name + exprs_bytes arguments + pairs_bytes keywords
  expr_bytes (test value negated test_name arguments keywords) =
      expr_bytes value + length test_name + exprs_bytes arguments + pairs_bytes keywords
  expr_bytes (unary op operand) = expr_bytes operand
  expr_bytes (binary op left right) = expr_bytes left + expr_bytes right
  expr_bytes (when condition value) = expr_bytes condition + expr_bytes value
  expr_bytes (choice condition value other) = expr_bytes condition + expr_bytes value + expr_bytes other

  pub exprs_bytes : Exprs → ℕ
  exprs_bytes no_exprs = 0
  exprs_bytes (expr first rest) = expr_bytes first + exprs_bytes rest

  pub pairs_bytes : Pairs → ℕ
  pairs_bytes no_pairs = 0
  pairs_bytes (pair key value rest) = length key + expr_bytes value + pairs_bytes rest

abbrev pub texts_bytes : List Text → ℕ
texts_bytes [] = 0
texts_bytes (x ∷ xs) = length x + texts_bytes xs

abbrev pub condition_bytes : Option Expr → ℕ
condition_bytes None = 0
condition_bytes (Some c) = expr_bytes c

abbrev pub filter_call_bytes : List FilterCall → ℕ
filter_call_bytes [] = 0
filter_call_bytes (f ∷ fs) =
    length f.name + exprs_bytes f.arguments + pairs_bytes f.keywords + filter_call_bytes fs

abbrev pub default_bytes : Option Literal → ℕ
default_bytes None = 0
default_bytes (Some l) = literal_bytes l

abbrev pub parameters_bytes : List Parameter → ℕ
parameters_bytes [] = 0
parameters_bytes (p ∷ ps) = length p.name + default_bytes p.default + parameters_bytes ps

-- The total length of the names that the macros are bound to.
abbrev pub given_bytes : List (Text × Text) → ℕ
given_bytes [] = 0
given_bytes (x ∷ xs) = length x.1 + given_bytes xs

abbrev mutual
  pub stmt_bytes : Stmt → ℕ
  stmt_bytes (data_of characters) = length characters
  stmt_bytes (print line value) = expr_bytes value
  stmt_bytes (choose branches other) = branch_bytes branches + body_bytes other
  stmt_bytes (for_each line targets over condition body other) =
      texts_bytes targets + expr_bytes over + condition_bytes condition + body_bytes body + body_bytes other
  stmt_bytes (set line targets value) = texts_bytes targets + expr_bytes value
  stmt_bytes (set_block line target body) = length target + body_bytes body
  stmt_bytes (with_values line values body) = pairs_bytes values + body_bytes body
  stmt_bytes (filter_block line filters body) = filter_call_bytes filters + body_bytes body
  stmt_bytes (autoescape line on body) = body_bytes body
  stmt_bytes (macro line macro_name parameters body) = length macro_name + parameters_bytes parameters + body_bytes body
  stmt_bytes (include line template missing context) = length template
  stmt_bytes (import_as line library alias) = length library + length alias
  stmt_bytes (import_from line library macros) = length library + given_bytes macros
  stmt_bytes (extends line parent) = length parent
  stmt_bytes (block line block_name scoped required body) = length block_name + body_bytes body

  pub body_bytes : Body → ℕ
  body_bytes end = 0
  body_bytes (stmt first rest) = stmt_bytes first + body_bytes rest

  pub branch_bytes : Branches → ℕ
  branch_bytes no_branches = 0
  branch_bytes (branch line condition body rest) = expr_bytes condition + body_bytes body + branch_bytes rest
