-- Unknown filters and tests in expressions. The arguments of a filter may name filters and tests,
-- too.
use Rattle.std.specs.Prelude.{ℕ, suc, Bool, true, false, not, ◌||◌, Option, Some, None}
use Rattle.std.specs.Option.{is_some}
use Rattle.jt_ids.specs.TestTable.{test_of_name}
use Rattle.jt_ids.specs.FilterTable.{filter_of_name, named_at}
use Rattle.jt_ids.specs.declared.filter_id.FilterId.{FilterId}
use Rattle.jt_ids.specs.declared.filter_id.ArgumentRole.{ArgumentRole}
use Rattle.jt_ids.specs.declared.filter_id.ArgumentRole.TheVariants as naming
use Rattle.jt_expr.specs.declared.named.Named.{Named}
use Rattle.jt_expr.specs.declared.named.Named.TheVariants as n
use Rattle.jt_ast.specs.Written.{literal_text, filter_written}
use Rattle.jt_ast.specs.Expressions.{Text, Expr, constant, name, group, list_of, map_of, attribute, item, call, filter}
use Rattle.jt_ast.specs.Expressions.{test, unary, binary, when, choice, Exprs, no_exprs, expr, Pairs, no_pairs, pair}

-- A test has the name.
unfoldable pub is_test : Text → Bool
is_test x = is_some (test_of_name x)

-- A filter has the name.
unfoldable pub is_filter : Text → Bool
is_filter x = is_some (filter_of_name x)

abbrev pub unknown_filter : Named → Text → Bool
unknown_filter n.Filter x = not (is_filter x)
unknown_filter n.Test x = false

abbrev pub unknown_test : Named → Text → Bool
unknown_test n.Filter x = false
unknown_test n.Test x = not (is_test x)

-- The name in an argument is that of an unknown filter or test. The key of an attribute is always
-- known.
abbrev pub unknown_naming : Named → ArgumentRole → Text → Bool
unknown_naming wanted naming.Filter x = unknown_filter wanted x
unknown_naming wanted naming.Test x = unknown_test wanted x
unknown_naming wanted naming.Key x = false

abbrev pub argument_unknown : Named → Option ArgumentRole → Option Text → Bool
argument_unknown wanted None literal = false
argument_unknown wanted (Some what) None = false
argument_unknown wanted (Some what) (Some x) = unknown_naming wanted what x

-- One of the arguments, which are counted from `place`, names an unknown filter or test.
abbrev pub arguments_unknown : Named → FilterId → ℕ → Exprs → Bool
arguments_unknown wanted filter_id place no_exprs = false
arguments_unknown wanted filter_id place (expr first rest) =
    argument_unknown wanted (named_at filter_id place) (literal_text first)
    || arguments_unknown wanted filter_id (suc place) rest

abbrev pub inside_unknown : Named → Option FilterId → Exprs → Bool
inside_unknown wanted None arguments = false
inside_unknown wanted (Some filter_id) arguments = arguments_unknown wanted filter_id 1 arguments

-- The name of a filter, or a name in its arguments, is unknown.
unfoldable pub filter_unknown : Named → Text → Exprs → Pairs → Bool
filter_unknown wanted filter_name arguments keywords =
    unknown_filter wanted filter_name || inside_unknown wanted (filter_written filter_name arguments keywords) arguments

-- The expression contains an unknown filter or test.
abbrev mutual
  pub has_unknown : Named → Expr → Bool
  has_unknown wanted (constant literal) = false
  has_unknown wanted (name x) = false
  has_unknown wanted (group inner) = has_unknown wanted inner
  has_unknown wanted (list_of items) = exprs_have_unknown wanted items
  has_unknown wanted (map_of entries) = pairs_have_unknown wanted entries
  has_unknown wanted (attribute value key) = has_unknown wanted value
  has_unknown wanted (item value index) = has_unknown wanted value || has_unknown wanted index
  has_unknown wanted (call callee arguments keywords) =
      has_unknown wanted callee || (exprs_have_unknown wanted arguments || pairs_have_unknown wanted keywords)
  has_unknown wanted (filter value filter_name arguments keywords) =
      filter_unknown wanted filter_name arguments keywords
      || (has_unknown wanted value || (exprs_have_unknown wanted arguments || pairs_have_unknown wanted keywords))
  has_unknown wanted (test value negated test_name arguments keywords) =
      unknown_test wanted test_name
      || (has_unknown wanted value || (exprs_have_unknown wanted arguments || pairs_have_unknown wanted keywords))
  has_unknown wanted (unary op operand) = has_unknown wanted operand
  has_unknown wanted (binary op left right) = has_unknown wanted left || has_unknown wanted right
  has_unknown wanted (when condition value) = has_unknown wanted condition || has_unknown wanted value
  has_unknown wanted (choice condition value other) =
      has_unknown wanted condition || (has_unknown wanted value || has_unknown wanted other)

  pub exprs_have_unknown : Named → Exprs → Bool
  exprs_have_unknown wanted no_exprs = false
  exprs_have_unknown wanted (expr first rest) = has_unknown wanted first || exprs_have_unknown wanted rest

  pub pairs_have_unknown : Named → Pairs → Bool
  pairs_have_unknown wanted no_pairs = false
  pairs_have_unknown wanted (pair key value rest) = has_unknown wanted value || pairs_have_unknown wanted rest
