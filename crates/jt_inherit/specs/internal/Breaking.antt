-- The tags that break a rule on the blocks, macros and imports of templates. Only private clauses
-- cite this module.
use Rattle.std.specs.Prelude.{◌≡◌, ◌&&◌, Bool, false, true, IsTrue, List, [], ◌∷◌, Option, Some, None, string_bytes, ℕ}
use Rattle.std.specs.Option.{is_none}
use Rattle.jt_ast.specs.Expressions.{Text}
use Rattle.jt_chains.specs.Chain.{Sources, Namespace, a_library, Template, is_a_library, macros, public_macro}
use Rattle.jt_chains.specs.Chain.{templates}
use Rattle.jt_chains.specs.View.{its_sources, namespace_in}
use Rattle.jt_chains.specs.declared.chain.Chain.{Chain}
use Rattle.jt_inherit.specs.Findings.{ForSome, HasTag, HasTwoTags, IsNotGiven, HasNoSuper, binds_macro, is_block}
use Rattle.jt_inherit.specs.Findings.{defines, may_be_bare}
use Rattle.jt_uses.specs.Uses.{Use, Site}
use Rattle.jt_inherit.specs.declared.error.ChainError.{ChainError}
use Rattle.jt_inherit.specs.declared.error.ChainError.TheVariants as error
use Rattle.jt_inherit.specs.declared.finding.ChainFinding.{ChainFinding}
use Rattle.jt_inherit.specs.declared.finding.ChainSubject.{ChainSubject}
use Rattle.jt_inherit.specs.declared.finding.ChainSubject.TheVariants as v
use Rattle.jt_inherit.specs.declared.finding.TagPlace.{TagPlace}
use Rattle.jt_inherit.specs.declared.importing.MissingMacro.{MissingMacro}
use Rattle.jt_inherit.specs.internal.RuleTests.{BreakOne, KeepAll, any_double}

-- The library was read, and does not offer the macro to importers.
abbrev pub lacks : Sources → Text → Text → Bool
lacks s library x = is_a_library (s library) && is_none (public_macro x (macros s (a_library library)))

-- The use imports the missing macro.
abbrev pub imports_it : MissingMacro → Use → Bool
imports_it m = binds_macro m.library.now m.name.now

-- The test is true, and the library of the missing macro lacks it; or the test is false. The macro has
-- the property.
abbrev pub Misses : Sources → Bool → (MissingMacro → Type 0) → Option MissingMacro → Type 0
Misses s b P None = b ≡ false
Misses s b P (Some m) = (b ≡ true) × (lacks s m.library.now m.name.now ≡ true) × P m

-- One of the uses imports the missing macro.
abbrev pub IsImported : List Site → MissingMacro → Type 0
IsImported ss m = ForSome (λ s. imports_it m s.made ≡ true) ss

module _ (s : Sources) (ts : List Template) where
  -- The tag of the templates breaks the rule in the subject.
  abbrev pub BrokenIn : ChainSubject → ChainError → TagPlace → Type 0
  BrokenIn (v.Macro library x) e p =
      (e ≡ error.NoMacro) × HasTag (binds_macro (string_bytes library) (string_bytes x)) ts p
      × (lacks s (string_bytes library) (string_bytes x) ≡ true)
  BrokenIn (v.BlockTwice x first) e p =
      (e ≡ error.DoubleBlock) × ForSome (λ t. HasTwoTags (is_block (string_bytes x)) (t ∷ []) first p) ts
  BrokenIn (v.NameTwice x first) e p =
      (e ≡ error.MacroTwice) × HasTwoTags (defines (string_bytes x)) ts first p
  BrokenIn (v.Block x) e p = (e ≡ error.RequiredNotGiven) × IsNotGiven ts (string_bytes x) p
  BrokenIn (v.Super x opened) e p = (e ≡ error.NoSuper) × HasNoSuper ts (string_bytes x) opened p
  BrokenIn x e p = ⊥

  abbrev pub RuleAt : Option TagPlace → Option ChainSubject → ChainError → Type 0
  RuleAt None None e = IsTrue (may_be_bare e)
  RuleAt (Some p) (Some x) e = BrokenIn x e p
  RuleAt p x e = ⊥

  abbrev pub IsOfRule : ChainError → ChainFinding → Type 0
  IsOfRule e f = (f.error ≡ e) × RuleAt f.place f.subject e

-- The template has two blocks of one name at the places.
abbrev pub TwiceAt : Template → Option TagPlace → Option ChainSubject → Type 0
TwiceAt t (Some p) (Some (v.BlockTwice x first)) = HasTwoTags (is_block (string_bytes x)) (t ∷ []) first p
TwiceAt t p x = ⊥

abbrev pub IsTwiceIn : Template → ChainFinding → Type 0
IsTwiceIn t f = (f.error ≡ error.DoubleBlock) × TwiceAt t f.place f.subject

-- One of the templates has two blocks of one name, at the places of the finding.
abbrev pub IsDouble : Sources → Bool → List Template → ChainFinding → Type 0
IsDouble s escaping ts f = (any_double escaping ts ≡ true) × IsOfRule s ts error.DoubleBlock f

-- The chain or library breaks the rule of the error, with the tag that breaks it.
pub record IsBroken (s : Sources) (escaping : Bool) (h : Namespace) (f : ChainFinding) : Type 0 where
  pub broken : BreakOne s escaping h f.error
  pub said : RuleAt s (templates s h) f.place f.subject f.error

-- The chain or library at an index keeps the rules, or breaks one.
abbrev pub KeepsAt : Chain → ℕ → Type 0
KeepsAt c i = KeepAll (its_sources c) c.autoescape (namespace_in c i)

abbrev pub BreaksAt : Chain → ℕ → ChainFinding → Type 0
BreaksAt c i = IsBroken (its_sources c) c.autoescape (namespace_in c i)
