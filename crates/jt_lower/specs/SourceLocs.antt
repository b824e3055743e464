-- The encoded places of instructions, and the templates that they refer to.
use Rattle.std.specs.Prelude.{ℕ, suc, List, [], ◌∷◌, Option, Some, None, if◌then◌else◌}
use Rattle.std.specs.Str.{bytes_eq}
use Rattle.jt_image.specs.Code.{SourceLoc}
use Rattle.jt_value.specs.Place.{Place}
use Rattle.jt_ast.specs.Expressions.{Text}
use Rattle.jt_ast.specs.Texts.{ascending}

abbrev pub templates_in : List (Option Place) → List Text
templates_in [] = []
templates_in (None ∷ qs) = templates_in qs
templates_in (Some q ∷ qs) = q.template ∷ templates_in qs

-- The templates of places, strictly ascending.
abbrev pub templates_of : List (Option Place) → List Text
templates_of qs = ascending (templates_in qs)

-- The number of texts before this one.
abbrev pub number_of : Text → List Text → ℕ
number_of t [] = 0
number_of t (s ∷ ss) = if bytes_eq s t then 0 else suc (number_of t ss)

-- The encoded place: the number of its template, counted from 1, and its line; 0 and 0 for no
-- place.
abbrev pub loc_of : List Text → Option Place → SourceLoc
loc_of ts None = record { template = 0; line = 0 }
loc_of ts (Some q) = record { template = suc (number_of q.template ts); line = q.line }
