-- The laws of every chain and its program.
use Rattle.std.specs.Prelude.{◌≡◌, ℕ, ◌≤◌, false, List, ◌∷◌}
use Rattle.std.specs.List.{AllByRecursion}
use Rattle.jt_value.specs.Pairs.{Pairs}
use Rattle.jt_eval.specs.Eval.{Eval, deeper}
use Rattle.jt_ast.specs.Expressions.{Text}
use Rattle.jt_chains.specs.Chain.{Namespace, a_chain, templates}
use Rattle.jt_chains.specs.Weights.{NamesFew}
use Rattle.jt_chains.specs.View.{Seen, sources_of}
use Rattle.jt_ast.specs.Sizes.{body_bytes}
use Rattle.jt_semantics.specs.Bytes.{IsShort}
use Rattle.jt_semantics.specs.Ascends.{Ascends}
use Rattle.jt_semantics.specs.Layout.{names}
use Rattle.jt_rules.specs.CompileEnv.{CompileEnv, cenv_of}
use Rattle.jt_semantics.specs.Meaning.{mean}
use Rattle.jt_ir.specs.Slots.{smean}
use Rattle.jt_semantics.specs.Programs.{program}
use Rattle.jt_chains.specs.Includes.{InOrder}
use Rattle.jt_chains.specs.Rules as chains
use Rattle.jt_rules.specs.Rules.{KeepsRules}
use Rattle.jt_rules.specs.Known.{ChainsKnown}
use Rattle.jt_ir.specs.Takes.{BodyTakes}
use Rattle.jt_semantics.specs.Measure.{AreFew, IsSized}

-- Holds if g is too deep, or h equals g.
abbrev pub Stays : Eval Text → Eval Text → Type 0
Stays deeper h = Unit {0}
Stays g h = h ≡ g

-- The laws of programs. Let the chains and libraries be in order, with the entry's chain first.
-- Then the meaning of the entry's program is the meaning of its chain, for every context and depth
-- of calls.
pub record ProgramLaws : Type 0 where
  pub means : (cenv : CompileEnv) (entry : Text) (rest : List Namespace)
      → InOrder cenv.sources (a_chain entry ∷ rest) → (context : Pairs) (n : ℕ)
      → smean cenv.filters (program cenv (a_chain entry ∷ rest) (a_chain entry)) context n
      ≡ mean cenv entry context n
  -- A text or a fault at one depth of calls is also the outcome at every greater depth.
  pub stays : (cenv : CompileEnv) (entry : Text) (context : Pairs) (n m : ℕ) → n ≤ m
      → Stays (mean cenv entry context n) (mean cenv entry context m)
  -- Let the entry reach each chain and library, let the rules hold, and let each test and filter be
  -- known. Then each operation and each routine gets the number of values that it takes.
  pub takes : (cenv : CompileEnv) (entry : Namespace) (rest : List Namespace)
      → InOrder cenv.sources (entry ∷ rest)
      → AllByRecursion (chains.Reaches cenv.sources cenv.escaping entry) (entry ∷ rest)
      → chains.KeepsRules cenv.sources cenv.escaping entry
      → KeepsRules cenv (entry ∷ rest)
      → ChainsKnown cenv (entry ∷ rest)
      → AllByRecursion
      (λ r. BodyTakes cenv.filters (program cenv (entry ∷ rest) entry).routines false r.body)
      (program cenv (entry ∷ rest) entry).routines
  -- If names and parameters are few, the weight of the chains bounds the size of the program.
  pub sized : (cenv : CompileEnv) (entry : Namespace) (rest : List Namespace)
      → InOrder cenv.sources (entry ∷ rest) → AreFew cenv (entry ∷ rest)
      → IsSized cenv (entry ∷ rest) (program cenv (entry ∷ rest) entry)
  -- The names of a chain ascend strictly.
  pub ascends : (cenv : CompileEnv) (order : List Namespace) (h : Namespace) → Ascends (names cenv order h)
  -- If the sources of chains read or bind few names and the rules hold, names and parameters are
  -- few.
  pub few : (c : Seen) → InOrder (sources_of c) c.order → NamesFew c
      → KeepsRules (cenv_of c) c.order → AreFew (cenv_of c) c.order
  -- Let the names and texts of each template have at most n bytes together. Then each name and each
  -- text of the program has at most n bytes.
  pub short : (c : Seen) (entry : Namespace) (rest : List Namespace) (n : ℕ) → c.order ≡ entry ∷ rest
      → AllByRecursion
      (λ h. AllByRecursion (λ t. body_bytes t.body ≤ n) (templates (sources_of c) h)) c.order
      → IsShort n (program (cenv_of c) c.order entry)
