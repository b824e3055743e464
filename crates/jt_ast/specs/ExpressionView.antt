-- The view of an expression in contracts: its tree, without the boxes.
use Rattle.std.specs.Prelude.{Bool, true, false, List, [], ◌∷◌, map, string_bytes, String}
use Rattle.std.specs.declared.alloc.Global.{Global}
use Rattle.jt_ast.specs.Expressions as trees
use Rattle.jt_ast.specs.Expressions.{Exprs, no_exprs, expr, Pairs, no_pairs, pair}
use Rattle.jt_ast.specs.declared.expression.Literal.{Literal}
use Rattle.jt_ast.specs.declared.expression.Literal.TheVariants as l
use Rattle.jt_ast.specs.declared.expression.Polarity.{Polarity}
use Rattle.jt_ast.specs.declared.expression.Polarity.TheVariants as polarity
use Rattle.jt_ast.specs.declared.expression.Expr.{Expr, fold-Expr}
use Rattle.jt_ast.specs.declared.expression.Expr.TheOpen.{Expr-F}

abbrev pub literal_view : Literal → trees.Literal
literal_view (l.Number n) = trees.number n
literal_view (l.Text s) = trees.text (string_bytes s)
literal_view (l.Truth b) = trees.truth b
literal_view l.None = trees.nothing

abbrev pub is_negated : Polarity → Bool
is_negated polarity.Is = false
is_negated polarity.IsNot = true

abbrev pub exprs_of : List trees.Expr → Exprs
exprs_of [] = no_exprs
exprs_of (first ∷ rest) = expr first (exprs_of rest)

abbrev pub pairs_of : List (String Global × trees.Expr) → Pairs
pairs_of [] = no_pairs
pairs_of (first ∷ rest) = pair (string_bytes first.0) first.1 (pairs_of rest)

-- The tree of one expression, given the trees of its subexpressions.
abbrev pub expr_step : Expr-F trees.Expr → trees.Expr
expr_step (Expr-F.Constant literal) = trees.constant (literal_view literal)
expr_step (Expr-F.Name s) = trees.name (string_bytes s)
expr_step (Expr-F.Group inner) = trees.group inner.value
expr_step (Expr-F.List items) = trees.list_of (exprs_of items.items)
expr_step (Expr-F.Map entries) = trees.map_of (pairs_of entries.items)
expr_step (Expr-F.Attribute value key) = trees.attribute value.value (string_bytes key)
expr_step (Expr-F.Item value index) = trees.item value.value index.value
expr_step (Expr-F.Call callee arguments keywords) =
    trees.call callee.value (exprs_of arguments.items) (pairs_of keywords.items)
expr_step (Expr-F.Filter value filter_name arguments keywords) =
    trees.filter value.value (string_bytes filter_name) (exprs_of arguments.items) (pairs_of keywords.items)
expr_step (Expr-F.Test value test_polarity test_name arguments keywords) =
    trees.test value.value (is_negated test_polarity) (string_bytes test_name) (exprs_of arguments.items)
    (pairs_of keywords.items)
expr_step (Expr-F.Unary op operand) = trees.unary op operand.value
expr_step (Expr-F.Binary op left right) = trees.binary op left.value right.value
expr_step (Expr-F.When condition value) = trees.when condition.value value.value
expr_step (Expr-F.Choice condition value other) = trees.choice condition.value value.value other.value

abbrev pub expr_view : Expr → trees.Expr
expr_view = fold-Expr trees.Expr expr_step

abbrev pub exprs_view : List Expr → Exprs
exprs_view expressions = exprs_of (map expr_view expressions)

abbrev pub pairs_view : List (String Global × Expr) → Pairs
pairs_view [] = no_pairs
pairs_view (first ∷ rest) = pair (string_bytes first.0) (expr_view first.1) (pairs_view rest)
