-- The weights of chains, and the number of names that they read or bind.
use Rattle.std.specs.Prelude.{ℕ, ◌+◌, ◌≤◌, List, [], ◌∷◌, length, Contains}
use Rattle.std.specs.List.{AllByRecursion}
use Rattle.jt_ast.specs.Statements.{body_weight}
use Rattle.jt_chains.specs.Chain.{Sources, Namespace, Template, templates, Text}
use Rattle.jt_chains.specs.Uses.{own_names}
use Rattle.jt_chains.specs.View.{Seen, sources_of}

-- The weights of templates, and of all chains: a template counts once for each chain that has it.
abbrev pub templates_weight : List Template → ℕ
templates_weight [] = 0
templates_weight (first ∷ rest) = body_weight first.body + templates_weight rest

abbrev pub chains_weight : Sources → List Namespace → ℕ
chains_weight sources [] = 0
chains_weight sources (first ∷ rest) = templates_weight (templates sources first) + chains_weight sources rest

-- The chains read or bind at most 200 different names.
pub record NamesFew (chain : Seen) : Type 0 where
  pub names : List Text
  pub few : length names ≤ 200
  pub all :
      AllByRecursion
      (λ namespace. AllByRecursion (λ name. Contains names name) (own_names (sources_of chain) namespace))
      chain.order
