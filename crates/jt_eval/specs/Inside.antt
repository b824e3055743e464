-- The names inside the arguments of a filter, which are text literals. An argument names the key of
-- an attribute, or a filter or a test that is called on each item with the arguments after it.
use Rattle.std.specs.Prelude.{ℕ, suc, Bool, true, false, ◌&&◌, ◌==◌, Option, Some, None, option_and_then, nat_le}
use Rattle.jt_ids.specs.declared.test_id.TestId.{TestId}
use Rattle.jt_ids.specs.TestTable.{test_values}
use Rattle.jt_ids.specs.declared.filter_id.FilterId.{FilterId}
use Rattle.jt_ids.specs.declared.filter_id.ArgumentRole.{ArgumentRole}
use Rattle.jt_ids.specs.declared.filter_id.ArgumentRole.TheVariants as naming
use Rattle.jt_ids.specs.FilterTable.{filter_of_name, least_values, most_values, may_be_inner, named_at, position_of}
use Rattle.jt_ast.specs.Written.{literal_text}
use Rattle.jt_ast.specs.Expressions as trees
use Rattle.jt_ast.specs.Expressions.{Text, Exprs, no_exprs, expr, count, no_pairs, pair}
use Rattle.jt_eval.specs.Tests.{test_named}

-- True if `map` may call the filter, and it takes `values` values. An unknown filter passes: the
-- parser refuses it.
abbrev pub filter_called : Option FilterId → ℕ → Bool
filter_called None values = true
filter_called (Some f) values = may_be_inner f && (nat_le (least_values f) values && nat_le values (most_values f))

-- True if the test takes `values` values. An unknown test passes: the parser refuses it.
abbrev pub test_called : Option TestId → ℕ → Bool
test_called None values = true
test_called (Some t) values = test_values t == values

-- True if the named filter or test takes `values` values, the item included.
abbrev pub called_well : ArgumentRole → Text → ℕ → Bool
called_well naming.Filter name values = filter_called (filter_of_name name) values
called_well naming.Test name values = test_called (test_named name) values
called_well naming.Key name values = true

-- True unless the argument names something and is no text literal, or the named filter or test does
-- not take `values` values.
abbrev pub argument_well : Option ArgumentRole → Option Text → ℕ → Bool
argument_well None literal values = true
argument_well (Some named) None values = false
argument_well (Some named) (Some name) values = called_well named name values

-- True if the arguments by position name filters, tests and keys correctly, from this position of
-- the filter's values on. A named filter or test is called on the item and the arguments after the
-- name.
abbrev pub row_well : FilterId → ℕ → Exprs → Bool
row_well f place no_exprs = true
row_well f place (expr t rest) =
    argument_well (named_at f place) (literal_text t) (suc (count rest)) && row_well f (suc place) rest

-- True if the arguments by name do so correctly. A named filter or test is called on the item
-- alone.
abbrev pub pairs_well : FilterId → trees.Pairs → Bool
pairs_well f no_pairs = true
pairs_well f (pair x t pairs) =
    argument_well (option_and_then (named_at f) (position_of f x)) (literal_text t) 1
    && pairs_well f pairs

abbrev pub names_well : FilterId → Exprs → trees.Pairs → Bool
names_well f arguments pairs = row_well f 1 arguments && pairs_well f pairs

abbrev pub inside_of : Option FilterId → Exprs → trees.Pairs → Bool
inside_of None arguments pairs = true
inside_of (Some f) arguments pairs = names_well f arguments pairs
