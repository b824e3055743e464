-- The texts and filters that parts of an expression denote, as written.
use Rattle.std.specs.Prelude.{Option, Some, None}
use Rattle.jt_ids.specs.FilterTable.{filter_meant}
use Rattle.jt_ids.specs.declared.filter_id.FilterId.{FilterId}
use Rattle.jt_ast.specs.Expressions.{Text, text, Expr, constant, Exprs, no_exprs, Pairs, no_pairs, pair}

-- The text of a text literal. An expression in parentheses is not a literal.
abbrev pub literal_text : Expr → Option Text
literal_text (constant (text x)) = Some x
literal_text t = None

-- The name of the only argument if it is a keyword argument.
abbrev pub only_name : Exprs → Pairs → Option Text
only_name no_exprs (pair key value no_pairs) = Some key
only_name arguments keywords = None

-- The filter that a name denotes when it is called with these arguments.
unfoldable pub filter_written : Text → Exprs → Pairs → Option FilterId
filter_written filter_name arguments keywords = filter_meant filter_name (only_name arguments keywords)
