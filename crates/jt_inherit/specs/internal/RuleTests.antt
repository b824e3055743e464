-- The rules on the blocks, macros and imports of the templates of a chain or a library. Only
-- private clauses cite this module.
use Rattle.std.specs.Prelude.{◌≡◌, ℕ, true, false, Bool, List, length, map, flat_map, filter, Option, Some, None}
use Rattle.std.specs.List.{list_any}
use denote.Ref.{Bor}
use Rattle.jt_ast.specs.Expressions.{Text}
use Rattle.jt_ast.specs.Texts.{repeated}
use Rattle.jt_chains.specs.Chain.{Sources, Namespace, Template, BlockBody, blocks_in}
use Rattle.jt_chains.specs.Chain.{templates, all_bodies, given}
use Rattle.jt_chains.specs.Rules.{lacks_macros, is_required, lacks_super}
use Rattle.jt_inherit.specs.declared.error.ChainError.{ChainError}
use Rattle.jt_inherit.specs.declared.error.ChainError.TheVariants as error
use Rattle.std.specs.Str.{bytes_eq}

-- The test is true, and the name has the property; or the test is false, and there is no name.
abbrev pub IsNameOf : Bool → (Text → Type 0) → Option (Bor Text) → Type 0
IsNameOf test P None = test ≡ false
IsNameOf test P (Some x) = (test ≡ true) × P x.now

-- How often the name is in the list.
abbrev pub times : Text → List Text → ℕ
times x names = length (filter (λ y. bytes_eq y x) names)

-- The bodies of one block.
abbrev pub named : Text → List BlockBody → List BlockBody
named x bs = filter (λ b. bytes_eq b.name x) bs

-- The nearest body of one of the blocks is a required one.
abbrev pub lacks_body : List BlockBody → Bool
lacks_body bs = list_any (λ b. is_required (named b.name bs)) bs

-- A body calls `super()`, and each body of its block after it, if any, is required.
abbrev pub lacks_next : List BlockBody → Bool
lacks_next bs = list_any (λ b. lacks_super (named b.name bs)) bs

module _ (escaping : Bool) (ts : List Template) where
  abbrev pub their_blocks : List BlockBody
  their_blocks = flat_map (λ t. blocks_in t.name t.body escaping) ts

  -- A template has two blocks of one name.
  abbrev pub any_double : Bool
  any_double = list_any (λ t. repeated (map (λ b. b.name) (blocks_in t.name t.body escaping))) ts

abbrev pub any_lacks_macros : Sources → List Template → Bool
any_lacks_macros s ts = list_any (λ t. lacks_macros s t.body) ts

module _ (s : Sources) (escaping : Bool) (h : Namespace) where
  -- The chain or library keeps the rules.
  pub record KeepAll : Type 0 where
    pub doubles : any_double escaping (templates s h) ≡ false
    pub bodies : lacks_body (all_bodies s escaping h) ≡ false
    pub next : lacks_next (all_bodies s escaping h) ≡ false
    pub names : repeated (map (λ g. g.0) (given s h)) ≡ false
    pub macros_there : any_lacks_macros s (templates s h) ≡ false

  -- The chain or library breaks the rule of the error.
  abbrev pub BreakOne : ChainError → Type 0
  BreakOne error.DoubleBlock = any_double escaping (templates s h) ≡ true
  BreakOne error.RequiredNotGiven = lacks_body (all_bodies s escaping h) ≡ true
  BreakOne error.NoSuper = lacks_next (all_bodies s escaping h) ≡ true
  BreakOne error.MacroTwice = repeated (map (λ g. g.0) (given s h)) ≡ true
  BreakOne error.NoMacro = any_lacks_macros s (templates s h) ≡ true
  BreakOne error.NoMemory = Unit {0}
  BreakOne e = ⊥
