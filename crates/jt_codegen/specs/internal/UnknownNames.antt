-- The name of the first unknown filter or test in uses.
use Rattle.std.specs.Prelude.{ℕ, suc, ◌==◌, List, [], ◌∷◌, Option, Some, None, if◌then◌else◌}
use Rattle.std.specs.Option.{option_or}
use Rattle.jt_ids.specs.FilterTable.{named_at}
use Rattle.jt_ids.specs.declared.filter_id.FilterId.{FilterId}
use Rattle.jt_ids.specs.declared.filter_id.ArgumentRole.{ArgumentRole}
use Rattle.jt_ast.specs.Expressions.{Text, Exprs, no_exprs, expr, Pairs}
use Rattle.jt_ast.specs.Written.{literal_text, filter_written}
use Rattle.jt_expr.specs.Named.{unknown_filter, unknown_test, argument_unknown}
use Rattle.jt_expr.specs.declared.named.Named.{Named}
use Rattle.jt_uses.specs.Uses as uses
use Rattle.jt_uses.specs.Uses.{Site}

-- The text of an argument with this role, if it names an unknown filter or test.
abbrev pub argument_name : Named → Option ArgumentRole → Option Text → Option Text
argument_name wanted role None = None
argument_name wanted role (Some x) = if argument_unknown wanted role (Some x) then Some x else None

-- The first unknown filter or test that the arguments name, which are counted from `place`.
abbrev pub unknown_argument : Named → FilterId → ℕ → Exprs → Option Text
unknown_argument wanted filter place no_exprs = None
unknown_argument wanted filter place (expr first rest) =
    option_or (argument_name wanted (named_at filter place) (literal_text first))
    (unknown_argument wanted filter (suc place) rest)

abbrev pub unknown_among : Named → Option FilterId → Exprs → Option Text
unknown_among wanted None arguments = None
unknown_among wanted (Some filter) arguments = unknown_argument wanted filter 1 arguments

-- The unknown filter or test that a filter names, by its own name or in its arguments.
abbrev pub unknown_in_filter : Named → Text → Exprs → Pairs → Option Text
unknown_in_filter wanted x ts ps =
    if unknown_filter wanted x then Some x else unknown_among wanted (filter_written x ts ps) ts

-- The unknown filter or test that a use names.
abbrev pub unknown_in : Named → uses.Use → Option Text
unknown_in wanted (uses.filters x ts ps) = unknown_in_filter wanted x ts ps
unknown_in wanted (uses.tests x ts ps) = if unknown_test wanted x then Some x else None
unknown_in wanted u = None

-- The unknown filter or test that a use names, if the use stands at the line.
abbrev pub unknown_here : Named → ℕ → Site → Option Text
unknown_here wanted line s = if s.place.line == line then unknown_in wanted s.made else None

-- The first unknown filter or test that a use at the line names.
abbrev pub unknown_at : Named → ℕ → List Site → Option Text
unknown_at wanted line [] = None
unknown_at wanted line (s ∷ ss) = option_or (unknown_here wanted line s) (unknown_at wanted line ss)
