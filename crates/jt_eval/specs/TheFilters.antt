-- The filters of the language, as templates name them.
use Rattle.std.specs.Prelude.{false, pos, List, [], ◌∷◌, Option, Some, None, option_map}
use Rattle.jt_ids.specs.declared.filter_id.FilterId.{FilterId}
use Rattle.jt_ids.specs.declared.filter_id.FilterId.TheVariants as filter
use Rattle.jt_ids.specs.FilterTable.{filter_id, argument_names}
unfoldable pub use Rattle.jt_filter_semantics.specs.FilterIds.{filter_of}
use Rattle.jt_filter_semantics.specs.FilterIds.{accepts, filtered_by}
unfoldable pub use Rattle.jt_ast.specs.Written.{filter_written}
use Rattle.jt_ast.specs.Expressions as trees
use Rattle.jt_ast.specs.Expressions.{Literal, Text}
use Rattle.jt_ast.specs.Statements.{Parameter}
use Rattle.jt_eval.specs.Filters.{Filters}
use Rattle.jt_eval.specs.Inside.{inside_of}

-- The default of each argument of a filter, if it has one.
abbrev pub defaults : FilterId → List (Option Literal)
defaults filter.Default = Some (trees.text []) ∷ Some (trees.truth false) ∷ []
defaults filter.Int = Some (trees.number (pos 0)) ∷ []
defaults filter.Join = Some (trees.text []) ∷ []
defaults filter.Sort = Some (trees.truth false) ∷ []
defaults f = None ∷ None ∷ None ∷ []

abbrev pub with_defaults : List Text → List (Option Literal) → List Parameter
with_defaults [] ds = []
with_defaults (x ∷ xs) [] = []
with_defaults (x ∷ xs) (d ∷ ds) = record { name = x; default = d } ∷ with_defaults xs ds

-- The parameters of a filter after its input, in order of position.
abbrev pub filter_parameters : FilterId → List Parameter
filter_parameters f = with_defaults (argument_names f) (defaults f)

abbrev pub parameters_of : Option FilterId → List Parameter
parameters_of None = []
parameters_of (Some f) = filter_parameters f

-- The filters of the language, by their ids.
unfoldable pub the_filters : Filters
the_filters = record {
  named = λ name arguments pairs. option_map filter_id (filter_written name arguments pairs);
  parameters = λ id. parameters_of (filter_of id);
  takes = λ id. accepts (filter_of id);
  inside = λ id. inside_of (filter_of id);
  operation = λ id. filtered_by (filter_of id);
}
