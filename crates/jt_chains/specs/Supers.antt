-- Calls of `super()` in the body of a block, nested blocks excluded.
use Rattle.std.specs.Prelude.{ℕ, Bool, false, ◌||◌, if◌then◌else◌, List, [], ◌∷◌, codes, Option, Some, None}
use Rattle.std.specs.Option.{is_some, option_or}
use Rattle.std.specs.Str.{bytes_eq}
use Rattle.jt_ast.specs.Expressions.{Expr, name, group, list_of, map_of, attribute, item, call, filter, test}
use Rattle.jt_ast.specs.Expressions.{unary, binary, when, choice, Exprs, no_exprs, expr, Pairs, no_pairs, pair}
use Rattle.jt_ast.specs.Statements.{FilterCall, Stmt, print, choose, for_each, set, set_block, with_values}
use Rattle.jt_ast.specs.Statements.{filter_block, autoescape, Body, end, stmt, Branches, no_branches, branch}

abbrev pub is_super : Expr → Bool
is_super (name x) = bytes_eq x (codes "super")
is_super f = false

abbrev mutual
  pub has_super : Expr → Bool
  has_super (group inner) = has_super inner
  has_super (list_of items) = row_super items
  has_super (map_of entries) = pairs_super entries
  has_super (attribute value key) = has_super value
  has_super (item value index) = has_super value || has_super index
  has_super (call callee arguments keywords) =
      is_super callee || (has_super callee || (row_super arguments || pairs_super keywords))
  has_super (filter value filter_name arguments keywords) =
      has_super value || (row_super arguments || pairs_super keywords)
  has_super (test value negated test_name arguments keywords) =
      has_super value || (row_super arguments || pairs_super keywords)
  has_super (unary op operand) = has_super operand
  has_super (binary op left right) = has_super left || has_super right
  has_super (when condition value) = has_super condition || has_super value
  has_super (choice condition value other) = has_super condition || (has_super value || has_super other)
  has_super e = false

  pub row_super : Exprs → Bool
  row_super no_exprs = false
  row_super (expr first rest) = has_super first || row_super rest

  pub pairs_super : Pairs → Bool
  pairs_super no_pairs = false
  pairs_super (pair key value rest) = has_super value || pairs_super rest

abbrev pub condition_super : Option Expr → Bool
condition_super None = false
condition_super (Some c) = has_super c

abbrev pub filter_call_super : List FilterCall → Bool
filter_call_super [] = false
filter_call_super (f ∷ fs) = row_super f.arguments || (pairs_super f.keywords || filter_call_super fs)

-- The line if the condition holds.
abbrev pub line_if : Bool → ℕ → Option ℕ
line_if condition line = if condition then Some line else None

-- The line of the first tag that calls `super()`.
abbrev mutual
  pub stmt_super_line : Stmt → Option ℕ
  stmt_super_line (print line value) = line_if (has_super value) line
  stmt_super_line (choose branches other) = option_or (branches_super_line branches) (super_line other)
  stmt_super_line (for_each line targets over condition body other) =
      option_or (line_if (has_super over || condition_super condition) line)
      (option_or (super_line body) (super_line other))
  stmt_super_line (set line targets value) = line_if (has_super value) line
  stmt_super_line (set_block line target body) = super_line body
  stmt_super_line (with_values line values body) = option_or (line_if (pairs_super values) line) (super_line body)
  stmt_super_line (filter_block line filters body) =
      option_or (line_if (filter_call_super filters) line) (super_line body)
  stmt_super_line (autoescape line on body) = super_line body
  stmt_super_line s = None

  pub super_line : Body → Option ℕ
  super_line end = None
  super_line (stmt first rest) = option_or (stmt_super_line first) (super_line rest)

  pub branches_super_line : Branches → Option ℕ
  branches_super_line no_branches = None
  branches_super_line (branch line condition body rest) =
      option_or (line_if (has_super condition) line) (option_or (super_line body) (branches_super_line rest))

abbrev pub calls_super : Body → Bool
calls_super body = is_some (super_line body)
