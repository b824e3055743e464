-- The arguments of macros and filters, by position and by name, and the interface of the language
-- to its filters.
use Rattle.std.specs.Prelude.{ℕ, Bool, false, ◌||◌, List, [], ◌∷◌, unwrap_or, Option, Some, None, Result, if◌then◌else◌}
use Rattle.jt_value.specs.Tree as tree
use Rattle.jt_value.specs.Tree.{Tree}
use Rattle.jt_value.specs.Pairs.{Pairs, look}
use Rattle.jt_value.specs.declared.fault.Fault.{Fault}
use Rattle.jt_ast.specs.Expressions as trees
use Rattle.jt_ast.specs.Expressions.{Literal, Exprs, Text}
use Rattle.jt_ast.specs.Texts.{among}
use Rattle.jt_eval.specs.Values.{literal}
use Rattle.jt_ast.specs.Statements.{Parameter}

pub record Filters : Type 0 where
  -- The number of the filter that a name with written arguments means, if it exists.
  pub named : Text → Exprs → trees.Pairs → Option ℕ
  -- The parameters after the input that can be given by name, in order of position.
  pub parameters : ℕ → List Parameter
  -- True if the filter takes this number of values, its input included.
  pub takes : ℕ → ℕ → Bool
  -- True if the filter's arguments name filters, tests and keys correctly.
  pub inside : ℕ → Exprs → trees.Pairs → Bool
  -- The result on the input and the arguments, under an autoescape state.
  pub operation : ℕ → Bool → List Tree → Result Tree Fault

abbrev pub default_value : Option Literal → Tree
default_value None = tree.undefined
default_value (Some l) = literal l

-- The parameters of a macro with their values: by position, then by name, then by default, else
-- undefined.
abbrev pub parameters : List Parameter → List Tree → Pairs → Pairs
parameters [] positional named_values = []
parameters (p ∷ ps) (value ∷ positional) named_values = (p.name, value) ∷ parameters ps positional named_values
parameters (p ∷ ps) [] named_values =
    (p.name, unwrap_or (look p.name named_values) (default_value p.default)) ∷ parameters ps [] named_values

-- True if at least one of the parameters is among these names.
abbrev pub some_given : List Parameter → List Text → Bool
some_given [] names = false
some_given (p ∷ ps) names = among p.name names || some_given ps names

-- The values by name or by default, up to the last parameter that is given by name.
abbrev pub by_name : List Parameter → List Text → Pairs → List Tree
by_name [] names named_values = []
by_name (p ∷ ps) names named_values =
    if some_given (p ∷ ps) names
    then unwrap_or (look p.name named_values) (default_value p.default) ∷ by_name ps names named_values
    else []

-- A filter's arguments: the values by position, then by name up to the last parameter that is given
-- by name.
abbrev pub arguments : List Parameter → List Tree → List Text → Pairs → List Tree
arguments ps [] names named_values = by_name ps names named_values
arguments [] (value ∷ positional) names named_values = value ∷ positional
arguments (p ∷ ps) (value ∷ positional) names named_values = value ∷ arguments ps positional names named_values
