-- In chains that keep the rules, each use keeps the rules of loops, of callees and of arguments.
use Rattle.std.proofs.Common.{List, [], ◌∷◌, ◌++◌}
use Rattle.std.specs.List.{AllByRecursion as Each}
use mathlib.Core.Logic.{inl, inr}
use Rattle.jt_chains.specs.Chain.{Namespace}
use Rattle.jt_rules.specs.CompileEnv.{CompileEnv}
use Rattle.jt_rules.specs.Rules.{ForSome, LoopOutside, NotCallable, BadArguments, BrokenIn, KeepsRules, chain_uses}
use Rattle.jt_uses.specs.Uses.{Site}
use Rattle.jt_rules.specs.declared.error.ScopeError.TheVariants as error
use Rattle.jt_semantics.proofs.EachElement.{each_front, each_back, each_append}

module _ (cenv : CompileEnv) (h : Namespace) where
  -- Holds if the use breaks none of the rules V1, V3 and V4.
  pub record Keeps (s : Site) : Type 0 where
    pub in_loops : LoopOutside cenv h s.made s.place.around → ⊥
    pub callable : NotCallable cenv h s.made s.place.around → ⊥
    pub fitting : BadArguments cenv h s.made s.place.around → ⊥

  -- Holds if each of the uses keeps the rules.
  abbrev pub AllKeep : List Site → Type 0
  AllKeep ss = Each Keeps ss

  pub front : (xs ys : List Site) → AllKeep (xs ++ ys) → AllKeep xs
  front xs ys k = each_front Keeps xs ys k

  pub back : (xs ys : List Site) → AllKeep (xs ++ ys) → AllKeep ys
  back xs ys k = each_back Keeps xs ys k

  pub joined : (xs ys : List Site) → AllKeep xs → AllKeep ys → AllKeep (xs ++ ys)
  joined xs ys k l = each_append Keeps xs ys k l

  all_keep : (ss : List Site) → (ForSome (λ s. LoopOutside cenv h s.made s.place.around) ss → ⊥)
      → (ForSome (λ s. NotCallable cenv h s.made s.place.around) ss → ⊥)
      → (ForSome (λ s. BadArguments cenv h s.made s.place.around) ss → ⊥) → AllKeep ss
  all_keep [] l c f = tt
  all_keep (s ∷ ss) l c f = (
    record { in_loops = λ p. l (inl p); callable = λ p. c (inl p); fitting = λ p. f (inl p) },
    all_keep ss (λ q. l (inr q)) (λ q. c (inr q)) (λ q. f (inr q)),
  )

-- Holds if each use of the chains and libraries keeps the rules.
abbrev pub ChainsKeep : CompileEnv → List Namespace → Type 0
ChainsKeep cenv hs = Each (λ h. AllKeep cenv h (chain_uses cenv.sources h)) hs

pub chains_keep : (cenv : CompileEnv) (order : List Namespace) → KeepsRules cenv order → ChainsKeep cenv order
chains_keep cenv order k = each order (k.none error.LoopOutside) (k.none error.NotCallable) (k.none error.BadArguments)
  where
    each : (hs : List Namespace) → (ForSome (λ h. BrokenIn cenv h error.LoopOutside) hs → ⊥)
        → (ForSome (λ h. BrokenIn cenv h error.NotCallable) hs → ⊥)
        → (ForSome (λ h. BrokenIn cenv h error.BadArguments) hs → ⊥) → ChainsKeep cenv hs
    each [] l c f = tt
    each (h ∷ hs) l c f = (
      all_keep cenv h (chain_uses cenv.sources h) (λ p. l (inl p)) (λ p. c (inl p)) (λ p. f (inl p)),
      each hs (λ q. l (inr q)) (λ q. c (inr q)) (λ q. f (inr q)),
    )
