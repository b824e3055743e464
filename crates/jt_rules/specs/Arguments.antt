-- The positional and keyword arguments that macros, named forms of calls, tests and filters take.
use Rattle.std.specs.Prelude.{ℕ, zero, suc, max, length, nat_lt, ◌==◌, Bool, true, false, not, ◌&&◌, ◌||◌}
use Rattle.std.specs.Prelude.{if◌then◌else◌, List, [], ◌∷◌, map, drop, Option, Some, None}
use Rattle.std.specs.Option.{is_some}
use Rattle.std.specs.List.{list_any}
use Rattle.jt_ast.specs.Expressions.{Exprs, Pairs, no_pairs, pair, Text}
use Rattle.jt_ids.specs.declared.test_id.TestId.{TestId}
use Rattle.jt_ids.specs.TestTable.{test_values}
use Rattle.jt_ast.specs.Texts.{among, repeated}
use Rattle.jt_ast.specs.Statements.{Parameter}
use Rattle.jt_chains.specs.Chain.{Callee, a_macro, a_range, a_super, a_block, a_cycle, no_callee}
use Rattle.jt_chains.specs.Uses.{count, keywords}
use Rattle.jt_eval.specs.Filters.{Filters, some_given}

abbrev pub no_keywords : Pairs → Bool
no_keywords no_pairs = true
no_keywords (pair k a ps) = false

-- True if `n` positional arguments and these keywords fit the parameters. They are not too many, no
-- keyword occurs twice, and each keyword names a remaining parameter.
abbrev pub fits : List Parameter → ℕ → List Text → Bool
fits parameters n names =
    not (nat_lt (length parameters) n)
    && (not (repeated names) && not (list_any (λ k. not (among k (map (λ p. p.name) (drop n parameters)))) names))

-- True if the callee takes these arguments. A callee that cannot be called passes: it breaks
-- another rule.
abbrev pub callee_takes : Callee → Exprs → Pairs → Bool
callee_takes (a_macro h m) arguments pairs = fits m.parameters (count arguments) (keywords pairs)
callee_takes a_range arguments pairs = nat_lt 0 (count arguments) && (nat_lt (count arguments) 4 && no_keywords pairs)
callee_takes a_super arguments pairs = (count arguments == 0) && no_keywords pairs
callee_takes (a_block x) arguments pairs = (count arguments == 0) && no_keywords pairs
callee_takes a_cycle arguments pairs = nat_lt 0 (count arguments) && no_keywords pairs
callee_takes no_callee arguments pairs = true

-- True if the test takes these arguments: its number of values, the tested one included, and no
-- keywords. An unknown test passes: the parser refuses it.
abbrev pub test_takes : Option TestId → Exprs → Pairs → Bool
test_takes None arguments pairs = true
test_takes (Some t) arguments pairs = (suc (count arguments) == test_values t) && no_keywords pairs

-- The number of parameters up to the last one that a keyword names, which is included.
abbrev pub reached : List Parameter → List Text → ℕ
reached [] names = 0
reached (p ∷ ps) names = if some_given (p ∷ ps) names then suc (reached ps names) else 0

-- True if each parameter up to the last one that a keyword names has an argument or a default. The
-- first `n` parameters have positional arguments.
abbrev pub is_filled : List Parameter → ℕ → List Text → Bool
is_filled [] n names = true
is_filled (p ∷ ps) (suc n) names = is_filled ps n names
is_filled (p ∷ ps) zero names =
    not (some_given (p ∷ ps) names) || ((among p.name names || is_some p.default) && is_filled ps zero names)

-- True if the filter takes this number of values, and each keyword names a parameter without a
-- positional argument.
abbrev pub filter_fits : Filters → ℕ → ℕ → List Text → Bool
filter_fits fs f n names =
    fs.takes f (suc (max n (reached (fs.parameters f) names))) && (is_filled (fs.parameters f) n names
    && (not (repeated names)
    && not (list_any (λ k. not (among k (map (λ p. p.name) (drop n (fs.parameters f))))) names)))

-- True if the filter of a name takes the arguments. An unknown filter passes: the parser refuses
-- it.
abbrev pub filter_takes : Filters → Option ℕ → ℕ → List Text → Bool
filter_takes fs None n names = true
filter_takes fs (Some f) n names = filter_fits fs f n names

-- True if the arguments of a filter name filters, tests and keys correctly. These names are text
-- literals, and a named filter or test takes the number of values that it is called with.
abbrev pub names_rightly : Filters → Option ℕ → Exprs → Pairs → Bool
names_rightly fs None arguments pairs = true
names_rightly fs (Some f) arguments pairs = fs.inside f arguments pairs
