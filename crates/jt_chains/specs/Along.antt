-- The templates at some indices, in this order, and the parts that they have.
use Rattle.std.specs.Prelude.{ℕ, ◌<◌, List, [], ◌∷◌, ◌++◌, length, slice_get, unwrap_or, option_map}
use Rattle.std.specs.List.{AllByRecursion}
use Rattle.std.specs.Option.{option_to_list}
use Rattle.jt_ast.specs.Statements.{Body, end}
use Rattle.jt_chains.specs.Chain.{Template, Text}
use Rattle.jt_chains.specs.Parts.{name_at}

module _ (ts : List Template) where
  -- Each number is the index of a template.
  abbrev pub AreIndices : List ℕ → Type 0
  AreIndices = AllByRecursion (λ i. i < length ts)

  -- The templates at the indices.
  abbrev pub templates_at : List ℕ → List Template
  templates_at [] = []
  templates_at (i ∷ is) = option_to_list (slice_get ts i) ++ templates_at is

  -- The tree of the template at an index.
  abbrev pub body_at : ℕ → Body
  body_at i = unwrap_or (option_map (λ t. t.body) (slice_get ts i)) end

  -- The results of g for the templates at the indices, concatenated.
  abbrev pub along : {A : Type 0} → (Text → Body → List A) → List ℕ → List A
  along g [] = []
  along g (i ∷ is) = g (name_at ts i) (body_at i) ++ along g is

  -- The templates at the indices, with an empty template for each index out of range.
  abbrev pub layers_along : List ℕ → List Template
  layers_along = along (λ n b. record { name = n; body = b } ∷ [])
