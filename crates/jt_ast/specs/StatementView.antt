-- The view of statements and branches in contracts: their trees, without the lists in memory.
use Rattle.std.specs.Prelude.{ℕ, Bool, true, false, List, [], ◌∷◌, map, string_bytes, Vec, String, option_map}
use Rattle.std.specs.declared.alloc.Global.{Global}
use Rattle.jt_ast.specs.Statements as trees
use Rattle.jt_ast.specs.Expressions.{Text}
use Rattle.jt_ast.specs.Statements.{Body, end, Branches, no_branches}
use Rattle.jt_ast.specs.declared.expression.Expr.{Expr}
use Rattle.jt_ast.specs.ExpressionView.{expr_view, exprs_view, pairs_view, literal_view}
use Rattle.jt_ast.specs.declared.statement.Branch.{Branch}
use Rattle.jt_ast.specs.declared.statement.FilterCall.{FilterCall}
use Rattle.jt_ast.specs.declared.statement.Parameter.{Parameter}
use Rattle.jt_ast.specs.declared.statement.Missing.{Missing}
use Rattle.jt_ast.specs.declared.statement.Missing.TheVariants as missing
use Rattle.jt_ast.specs.declared.statement.IncludeContext.{IncludeContext}
use Rattle.jt_ast.specs.declared.statement.IncludeContext.TheVariants as around
use Rattle.jt_ast.specs.declared.statement.Stmt.{Stmt, fold-Stmt}
use Rattle.jt_ast.specs.declared.statement.Stmt.TheOpen.{Stmt-F}
use Rattle.jt_ast.specs.declared.statement.Template.{Template}

abbrev pub stmts_of : List trees.Stmt → Body
stmts_of [] = end
stmts_of (first ∷ rest) = trees.stmt first (stmts_of rest)

abbrev pub branches_of : List (Branch trees.Stmt) → Branches
branches_of [] = no_branches
branches_of (first ∷ rest) =
    trees.branch first.line (expr_view first.condition) (stmts_of first.body.items) (branches_of rest)

abbrev pub names_view : List (String Global) → List Text
names_view = map string_bytes

abbrev pub given_view : List (String Global × String Global) → List (Text × Text)
given_view = map (λ x. (string_bytes x.0, string_bytes x.1))

abbrev pub filter_call_view : FilterCall → trees.FilterCall
filter_call_view filter_call =
    record {
      name = string_bytes filter_call.name;
      arguments = exprs_view filter_call.arguments.items;
      keywords = pairs_view filter_call.keywords.items;
    }

abbrev pub filter_calls_view : List FilterCall → List trees.FilterCall
filter_calls_view = map filter_call_view

abbrev pub parameter_view : Parameter → trees.Parameter
parameter_view parameter =
    record { name = string_bytes parameter.name; default = option_map literal_view parameter.default }

abbrev pub parameters_view : List Parameter → List trees.Parameter
parameters_view = map parameter_view

abbrev pub is_ignored : Missing → Bool
is_ignored missing.Refused = false
is_ignored missing.Ignored = true

abbrev pub passes_context : IncludeContext → Bool
passes_context around.Seen = true
passes_context around.Hidden = false

-- The tree of one statement, given the trees of its nested statements.
abbrev pub stmt_step : Stmt-F trees.Stmt → trees.Stmt
stmt_step (Stmt-F.Data text) = trees.data_of (string_bytes text)
stmt_step (Stmt-F.Print line value) = trees.print line (expr_view value)
stmt_step (Stmt-F.If branches other) = trees.choose (branches_of branches.items) (stmts_of other.items)
stmt_step (Stmt-F.For line targets over condition body other) =
    trees.for_each line (names_view targets.items) (expr_view over) (option_map expr_view condition)
    (stmts_of body.items) (stmts_of other.items)
stmt_step (Stmt-F.Set line targets value) = trees.set line (names_view targets.items) (expr_view value)
stmt_step (Stmt-F.SetBlock line target body) =
    trees.set_block line (string_bytes target) (stmts_of body.items)
stmt_step (Stmt-F.With line values body) =
    trees.with_values line (pairs_view values.items) (stmts_of body.items)
stmt_step (Stmt-F.FilterBlock line filters body) =
    trees.filter_block line (filter_calls_view filters.items) (stmts_of body.items)
stmt_step (Stmt-F.Autoescape line on body) = trees.autoescape line on (stmts_of body.items)
stmt_step (Stmt-F.Macro line macro_name parameters body) =
    trees.macro line (string_bytes macro_name) (parameters_view parameters.items) (stmts_of body.items)
stmt_step (Stmt-F.Include line template ignore_missing context) =
    trees.include line (string_bytes template) (is_ignored ignore_missing) (passes_context context)
stmt_step (Stmt-F.Import line library alias) = trees.import_as line (string_bytes library) (string_bytes alias)
stmt_step (Stmt-F.From line library macros) = trees.import_from line (string_bytes library) (given_view macros.items)
stmt_step (Stmt-F.Extends line parent) = trees.extends line (string_bytes parent)
stmt_step (Stmt-F.Block line block_name scoped required body) =
    trees.block line (string_bytes block_name) scoped required (stmts_of body.items)

abbrev pub stmt_view : Stmt → trees.Stmt
stmt_view = fold-Stmt trees.Stmt stmt_step

abbrev pub body_view : List Stmt → Body
body_view statements = stmts_of (map stmt_view statements)

abbrev pub branches_view : List (Branch Stmt) → Branches
branches_view [] = no_branches
branches_view (first ∷ rest) =
    trees.branch first.line (expr_view first.condition) (body_view first.body.items) (branches_view rest)

-- The statements of a template.
abbrev pub body_of : Template → Body
body_of template = body_view template.body.items
