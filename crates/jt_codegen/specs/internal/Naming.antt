-- Places whose templates are among given names. Only private clauses cite these definitions.
use Rattle.std.specs.Prelude.{◌≡◌, ◌<◌, ℕ, List, [], length, map, slice_get, unwrap_or, Option, Some, None, String}
use Rattle.std.specs.declared.alloc.Global.{Global}
use Rattle.jt_image.specs.View.{texts_view}
use Rattle.jt_value.specs.Place.{Place}
use Rattle.jt_ast.specs.Expressions.{Text}
use Rattle.jt_ir.specs.declared.program.Place as given
use Rattle.jt_lower.specs.Emission.{places_view}
use Rattle.jt_lower.specs.SourceLocs.{number_of}
use Rattle.jt_ast.specs.Texts.{inserted, texts}
use Rattle.jt_codegen.specs.declared.places.NamedTemplates.{NamedTemplates}

-- The places of tags, with the names of the program's templates.
abbrev pub named_places : List (String Global) → List (Option given.Place) → List (Option Place)
named_places templates places = places_view (texts_view templates) places

-- The template of the place, if it exists, is among these names.
abbrev pub IsNamed : List Text → Option Place → Type 0
IsNamed names None = Unit {0}
IsNamed names (Some q) = number_of q.template names < length names

-- For each text the number of names before it.
abbrev pub numbers_among : List Text → List Text → List ℕ
numbers_among names texts = map (λ t. number_of t names) texts

-- The template with this index, if there is one, is among the names: it changes nothing if it is
-- added again.
abbrev pub HasAdded : List Text → Option ℕ → List Text → Type 0
HasAdded templates None names = Unit {0}
HasAdded templates (Some index) names =
    let name = unwrap_or (slice_get templates index) [] in inserted name names ≡ names

-- The template that was added last, if there is one, is among the names.
abbrev pub HasLast : List Text → NamedTemplates → Type 0
HasLast templates named = HasAdded templates named.last (texts named.names.keys)
