-- The views of scopes and of callees in contracts, and the rules in a scope. Only private clauses cite this module.
use Rattle.std.specs.Prelude.{◌≡◌, ℕ, ◌+◌, ◌-◌, ◌^◌, min, length, List, Option}
use Rattle.jt_ast.specs.Expressions.{Text}
use Rattle.jt_ast.specs.StatementView.{parameters_view}
use Rattle.jt_ast.specs.Texts.{ascending}
use Rattle.jt_chains.specs.Chain as chain
use chain.{Namespace, a_chain, a_library, Sources, Definition, given, given_to, libraries}
use Rattle.jt_chains.specs.Named.{given_view}
use Rattle.jt_chains.specs.Uses.{own_names}
use Rattle.jt_chains.specs.View.{chain_view, namespace_in}
use Rattle.jt_chains.specs.declared.chain.Chain.{Chain}
use Rattle.jt_chains.specs.declared.definitions.Definition as found
use Rattle.jt_rules.specs.CompileEnv.{CompileEnv, cenv_of}
use Rattle.jt_rules.specs.Rules.{libraries_counted}
use Rattle.jt_checks.specs.declared.scope.Scope.{Scope}
use Rattle.jt_checks.specs.declared.calls.Callee.{Callee}
use Rattle.jt_checks.specs.declared.calls.Callee.TheVariants as v

-- The chain of a scope.
abbrev pub its_chain : Scope → Chain
its_chain s = s.facts.now.chain.now

abbrev pub cenv_in : Chain → CompileEnv
cenv_in c = cenv_of (chain_view c)

-- A rule in the environment and the namespace of a scope.
abbrev pub in_scope : {A : Type 0} → (CompileEnv → Namespace → A) → Scope → A
in_scope rule s = rule (cenv_in (its_chain s)) (namespace_in (its_chain s) s.namespace)

abbrev pub its_sources : Scope → Sources
its_sources s = (cenv_in (its_chain s)).sources

-- The names that stand for a macro or a library.
abbrev pub its_given : Scope → List (Text × Definition)
its_given s = given (its_sources s) (namespace_in (its_chain s) s.namespace)

abbrev pub given_in : Scope → Text → Option Definition
given_in s n = given_to n (its_given s)

-- The view of a definition in the code.
abbrev pub given_as : Scope → found.Definition → Definition
given_as s g = given_view (chain_view (its_chain s)).templates (namespace_in (its_chain s) s.namespace) g

-- The number of names that a chain reads or binds, with the names of the libraries that it imports.
-- The names of a library count only there.
abbrev pub names_of : CompileEnv → Namespace → ℕ
names_of cenv (a_chain n) =
    length (ascending (own_names cenv.sources (a_chain n)))
    + libraries_counted cenv (ascending (libraries cenv.sources (a_chain n)))
names_of cenv (a_library n) = 0

-- The number, or the greatest 64-bit number if that is less.
abbrev pub capped : ℕ → ℕ
capped n = min n (2 ^ 64 - 1)

-- A macro is named by its parameters.
abbrev pub Means : Callee → chain.Callee → Type 0
Means (v.Macro ps) (chain.a_macro h m) = parameters_view ps.now ≡ m.parameters
Means v.Range chain.a_range = Unit {0}
Means v.Super chain.a_super = Unit {0}
Means (v.Block x) (chain.a_block y) = x.now ≡ y
Means v.Cycle chain.a_cycle = Unit {0}
Means v.Nothing chain.no_callee = Unit {0}
Means c d = ⊥
