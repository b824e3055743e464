-- The view of first tags in contracts. Only private clauses cite this module.
use Rattle.std.specs.Prelude.{List, map, string_bytes, String, option_map}
use Rattle.std.specs.declared.alloc.Global.{Global}
use Rattle.jt_ast.specs.Expressions as expressions
use Rattle.jt_ast.specs.ExpressionView.{expr_view, pairs_view}
use Rattle.jt_ast.specs.declared.expression.Expr.{Expr}
use Rattle.jt_ast.specs.Expressions.{Text}
use Rattle.jt_parse.specs.Tags as tags
use Rattle.jt_ast.specs.StatementView.{names_view, filter_calls_view, parameters_view, stmt_view}
use Rattle.jt_parse.specs.declared.opening_tags.LoopHead.{LoopHead}
use Rattle.jt_parse.specs.declared.opening_tags.BlockStart.{BlockStart}
use Rattle.jt_parse.specs.declared.opening_tags.BlockStart.TheVariants as o
use Rattle.jt_parse.specs.declared.opening_tags.Head.{Head}
use Rattle.jt_parse.specs.declared.opening_tags.Head.TheVariants as h

abbrev pub value_view : String Global × Expr → Text × expressions.Expr
value_view p = (string_bytes p.0, expr_view p.1)

abbrev pub values_view : List (String Global × Expr) → List (Text × expressions.Expr)
values_view = map value_view

abbrev pub imported_view : String Global × String Global → Text × Text
imported_view x = (string_bytes x.0, string_bytes x.1)

abbrev pub loop_view : LoopHead → tags.LoopHead
loop_view l =
    record {
      targets = names_view l.targets.items;
      over = expr_view l.over;
      condition = option_map expr_view l.condition;
    }

abbrev pub opening_view : BlockStart → tags.BlockStart
opening_view (o.Text x) = tags.a_text (string_bytes x)
opening_view (o.Values ps) = tags.values (pairs_view ps.items)
opening_view (o.Filters fs) = tags.filters (filter_calls_view fs.items)
opening_view (o.Escaping on) = tags.escaping on
opening_view (o.Macro x ps) = tags.a_macro (string_bytes x) (parameters_view ps.items)
opening_view (o.Block x scoped required) = tags.a_block (string_bytes x) scoped required

abbrev pub head_view : Head → tags.Head
head_view (h.Statement s) = tags.a_statement (stmt_view s)
head_view (h.If c) = tags.an_if (expr_view c)
head_view (h.Loop l) = tags.a_loop (loop_view l)
head_view (h.BlockStart o) = tags.an_opening (opening_view o)
