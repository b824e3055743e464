-- Unknown filters and tests in templates.
use Rattle.std.specs.Prelude.{ℕ, Bool, false, ◌||◌, List, [], ◌∷◌, Option, Some, None, if◌then◌else◌}
use Rattle.std.specs.Option.{option_or}
use Rattle.jt_expr.specs.declared.named.Named.{Named}
use Rattle.jt_expr.specs.declared.named.Named.TheVariants as named
use Rattle.jt_expr.specs.Named.{has_unknown, exprs_have_unknown, pairs_have_unknown, filter_unknown}
use Rattle.jt_ast.specs.Expressions.{Expr}
use Rattle.jt_ast.specs.Statements.{FilterCall, Stmt, data_of, print, choose, for_each, set, set_block, with_values}
use Rattle.jt_ast.specs.Statements.{filter_block, autoescape, macro, include, import_as, import_from, extends, block}
use Rattle.jt_ast.specs.Statements.{Body, end, stmt, Branches, no_branches, branch}

-- The line of a tag with an unknown name, and whether the name is that of a filter or a test.
abbrev pub Found : Type 0
Found = Option (ℕ × Named)

-- The tag of the line, if a filter or a test in it is unknown. An unknown filter is reported before
-- an unknown test.
abbrev pub blamed : ℕ → Bool → Bool → Found
blamed line filters tests =
    if filters then Some (line, named.Filter) else (if tests then Some (line, named.Test) else None)

abbrev pub unknown_in : ℕ → (Named → Bool) → Found
unknown_in line has = blamed line (has named.Filter) (has named.Test)

abbrev pub condition_unknown : Named → Option Expr → Bool
condition_unknown wanted None = false
condition_unknown wanted (Some condition) = has_unknown wanted condition

abbrev pub filter_call_unknown : Named → FilterCall → Bool
filter_call_unknown wanted filter_call =
    filter_unknown wanted filter_call.name filter_call.arguments filter_call.keywords
    || (exprs_have_unknown wanted filter_call.arguments || pairs_have_unknown wanted filter_call.keywords)

abbrev pub filter_calls_unknown : Named → List FilterCall → Bool
filter_calls_unknown wanted [] = false
filter_calls_unknown wanted (first ∷ rest) = filter_call_unknown wanted first || filter_calls_unknown wanted rest

-- The first tag with an unknown name.
abbrev mutual
  pub stmt_unknown : Stmt → Found
  stmt_unknown (data_of text) = None
  stmt_unknown (print line value) = unknown_in line (λ wanted. has_unknown wanted value)
  stmt_unknown (choose branches other) = option_or (branch_unknown branches) (body_unknown other)
  stmt_unknown (for_each line targets over condition body other) =
      option_or (unknown_in line (λ wanted. has_unknown wanted over || condition_unknown wanted condition))
      (option_or (body_unknown body) (body_unknown other))
  stmt_unknown (set line targets value) = unknown_in line (λ wanted. has_unknown wanted value)
  stmt_unknown (set_block line target body) = body_unknown body
  stmt_unknown (with_values line values body) =
      option_or (unknown_in line (λ wanted. pairs_have_unknown wanted values)) (body_unknown body)
  stmt_unknown (filter_block line filters body) =
      option_or (unknown_in line (λ wanted. filter_calls_unknown wanted filters)) (body_unknown body)
  stmt_unknown (autoescape line on body) = body_unknown body
  stmt_unknown (macro line macro_name parameters body) = body_unknown body
  stmt_unknown (include line template missing context) = None
  stmt_unknown (import_as line library alias) = None
  stmt_unknown (import_from line library macros) = None
  stmt_unknown (extends line parent) = None
  stmt_unknown (block line block_name scoped required body) = body_unknown body

  pub body_unknown : Body → Found
  body_unknown end = None
  body_unknown (stmt first rest) = option_or (stmt_unknown first) (body_unknown rest)

  pub branch_unknown : Branches → Found
  branch_unknown no_branches = None
  branch_unknown (branch line condition body rest) =
      option_or (option_or (unknown_in line (λ wanted. has_unknown wanted condition)) (body_unknown body))
      (branch_unknown rest)
