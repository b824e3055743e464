-- The invariant of a static environment, an environment and a memory, and the requirements on
-- calls.
use Rattle.std.proofs.Common.{◌≡◌, ℕ, suc, ◌+◌, ◌<◌, ◌≤◌, true, List, [], ◌∷◌, ◌++◌, length, map, Option, Some, None}
use Rattle.std.proofs.Common.{sym, ◌∙◌, arith, ◌⊎◌, rules}
use Rattle.std.specs.Prelude.{IsTrue}
use Rattle.std.specs.Option.{is_none}
use Rattle.jt_value.specs.Tree.{Tree}
use Rattle.jt_value.specs.Pairs.{Pairs}
use Rattle.jt_ast.specs.Expressions.{Text}
use Rattle.jt_ast.specs.Statements.{Parameter}
use Rattle.jt_semantics.specs.Env.{Env, read}
use Rattle.jt_chains.specs.Chain.{Namespace, a_chain, a_library, listed, BlockBody, MacroBody, macros, macro_of}
use Rattle.jt_chains.specs.Chain.{libraries}
use Rattle.jt_chains.specs.Includes.{with_source}
use Rattle.jt_eval.specs.Filters.{default_value}
use Rattle.jt_eval.specs.Loops.{Loop, tree_at}
use Rattle.jt_rules.specs.CompileEnv.{CompileEnv}
use Rattle.jt_semantics.specs.EvalContext.{Placement, EvalContext, Invocation, the_macro, the_block, the_chain, Calls}
use Rattle.jt_ir.specs.Slots.{Memory, Valued, Listed, Written, SCalls}
use Rattle.jt_semantics.specs.Layout.{slot_in, of_chain, of_macro, of_body, names, first_slot, globals}
use Rattle.jt_semantics.specs.Layout.{block_parameters, numbered_of, unit, default_index}
use Rattle.jt_semantics.specs.Programs.{pool}
use Rattle.jt_semantics.specs.Resolve.{StaticEnv, Part, grown}
use Rattle.jt_semantics.proofs.SameEval.{SameEval}
use Rattle.jt_semantics.proofs.EnvMemoryAgreement.{Kept, Held, held_kept, global_held, limit, read_names, Fits}
use Rattle.jt_semantics.proofs.EnvMemoryAgreement.{GlobalsAgree, Agrees, global_kept, agrees_kept, fits_more}
use Rattle.jt_semantics.proofs.Among.{Among}

-- Holds if the result is the value, and the memory from which it was computed is kept.
pub record Evaluated (k g : ℕ) (m : Memory) (v : Tree) (r : Valued) : Type 0 where
  pub value : r.value ≡ v
  pub kept : Kept k g m r.memory
  pub out : r.memory.out ≡ m.out

pub record Rowed (k g : ℕ) (m : Memory) (vs : List Tree) (r : Listed) : Type 0 where
  pub values : r.values ≡ vs
  pub kept : Kept k g m r.memory
  pub out : r.memory.out ≡ m.out

module _ (cenv : CompileEnv) (order : List Namespace) where
  abbrev pub Known : Namespace → Type 0
  Known h = IsTrue (listed h order)

  -- Holds if a block's body receives these values: the arguments for its parameters, and the
  -- globals, which all other names of the chain read.
  pub record Sees (h : Namespace) (x : Text) (env : Env) (vs gs : List Tree) : Type 0 where
    pub arguments : vs ≡ map (read env) (block_parameters cenv order h x)
    pub globals : GlobalsAgree cenv order h env.globals gs
    pub others : (y : Text) → Among y (read_names cenv order h) → (Among y (block_parameters cenv order h x) → ⊥)
        → read env y ≡ global_held (slot_in y (Rattle.jt_semantics.specs.Layout.globals cenv order h)) gs

  -- Holds if these are the last bodies of the block.
  abbrev pub Tail : Namespace → Text → List (ℕ × BlockBody) → Type 0
  Tail h x bs = (before : List (ℕ × BlockBody)) × (numbered_of cenv h x ≡ before ++ bs)

  -- Holds if the arguments and the globals of a block's body are still in memory.
  pub record PartHeld (h : Namespace) (p : Part) (q : Placement) (k : ℕ) (m : Memory) : Type 0 where
    pub behind : q.behind ≡ map (λ b. b.1) p.behind
    pub tail : Tail h p.name p.behind
    pub room : length (map (read q.env) (block_parameters cenv order h p.name)) ≤ k
    pub parameters : Held m.locals 0 (map (read q.env) (block_parameters cenv order h p.name))
    pub sees : Sees h p.name q.env (map (read q.env) (block_parameters cenv order h p.name)) m.globals

  abbrev pub PartHolds : Namespace → Option Part → Option Placement → ℕ → Memory → Type 0
  PartHolds h None None k m = Unit {0}
  PartHolds h None (Some q) k m = ⊥
  PartHolds h (Some p) None k m = ⊥
  PartHolds h (Some p) (Some q) k m = PartHeld h p q k m

  pub globals_kept : (h : Namespace) (gs : Pairs) {k : ℕ} {m n : Memory} → Kept k (limit cenv order h) m n
      → GlobalsAgree cenv order h gs m.globals → GlobalsAgree cenv order h gs n.globals
  globals_kept h gs u a x i = a x i ∙ sym (global_kept cenv order h u x)

  sees_kept : {h : Namespace} {x : Text} {env : Env} {vs : List Tree} {k : ℕ} {m n : Memory}
      → Kept k (limit cenv order h) m n → Sees h x env vs m.globals → Sees h x env vs n.globals
  sees_kept {h = h} {env = env} u s = search (arith, rules, globals_kept, global_kept)

  pub part_kept : (h : Namespace) (p : Option Part) (q : Option Placement) (k : ℕ) (m n : Memory)
      → Kept k (limit cenv order h) m n → PartHolds h p q k m → PartHolds h p q k n
  part_kept h None None k m n u t = t
  part_kept h None (Some q) k m n u t = t
  part_kept h (Some p) None k m n u t = t
  part_kept h (Some p) (Some q) k m n u t = record {
    behind = t.behind;
    tail = t.tail;
    room = t.room;
    parameters =
        held_kept 0 (map (read q.env) (block_parameters cenv order h p.name))
        (let r = t.room in
        let e : 0 + length (map (read q.env) (block_parameters cenv order h p.name)) ≤ k = omega (arith, r) in e) u
        t.parameters;
    sees = sees_kept u t.sees;
  }

  pub part_more : (h : Namespace) (p : Option Part) (q : Option Placement) (k j : ℕ) (m : Memory) → k ≤ j
      → PartHolds h p q k m → PartHolds h p q j m
  part_more h p q k j m l t = search (arith, rules)

  pub record Good (sp : StaticEnv) (q : Option Placement) (env : Env) (m : Memory) : Type 0 where
    pub known : Known sp.namespace
    pub fits : Fits cenv order sp.namespace sp.table sp.free
    pub agrees : Agrees cenv order sp.namespace sp.table env m
    pub part : PartHolds sp.namespace sp.part q sp.free m

  pub good_kept : {sp : StaticEnv} {q : Option Placement} {env : Env} {m n : Memory} → Good sp q env m
      → Kept sp.free (limit cenv order sp.namespace) m n → Good sp q env n
  good_kept {sp = sp} {q = q} {env = env} {m = m} {n = n} g u = search (arith, rules, agrees_kept, part_kept)

  -- The invariant still holds if one more local is in use.
  pub good_grown : {sp : StaticEnv} {q : Option Placement} {env : Env} {m : Memory} → Good sp q env m
      → Good (grown sp) q env m
  good_grown {sp = sp} {q = q} {env = env} {m = m} g = record {
    known = g.known;
    fits = fits_more cenv order g.fits;
    agrees = g.agrees;
    part =
        part_more sp.namespace sp.part q sp.free (suc sp.free) m (omega arith)
        g.part;
  }

  -- The context of evaluation of a static environment.
  abbrev pub around_of : StaticEnv → Option Loop → Option Placement → EvalContext
  around_of sp l q = record {
    namespace = sp.namespace;
    template = sp.template;
    escaping = sp.escaping;
    loop = l;
    block = q;
  }

  -- ---- Calls

  pub record Wrote (g : ℕ) (gs : List Tree) (s : Text) (w : Written) : Type 0 where
    pub text : w.text ≡ s
    pub globals : (i : ℕ) → i < g → tree_at w.globals i ≡ tree_at gs i

  -- Holds if a call by names and a call by slots have equal texts, and the first g globals are
  -- kept.
  abbrev pub CallSame : Calls → SCalls → Invocation → ℕ → List Tree → List Tree → ℕ → Type 0
  CallSame calls scall c u vs gs g = SameEval (Wrote g gs) (calls c) (scall u vs gs)

  pub record CallsMean (calls : Calls) (scall : SCalls) : Type 0 where
    pub macro_means : (h : Namespace) → Known h → (x : Text) (b : MacroBody)
        → macro_of x (macros cenv.sources h) ≡ Some b → (ps gs : Pairs) (vs ts : List Tree)
        → map (λ p. p.0) ps ≡ map (λ p. p.name) b.parameters
        → Held vs 0 (map (λ p. p.1) ps) → GlobalsAgree cenv order h gs ts
        → CallSame calls scall (the_macro h b ps gs) (unit cenv order (of_macro h b.name)) vs ts (limit cenv order h)
    pub block_means : (h : Namespace) → Known h → (x : Text) (i : ℕ) (b : BlockBody) (behind : List (ℕ × BlockBody))
        → Tail h x ((i, b) ∷ behind) → (env : Env) (vs ts : List Tree) → Sees h x env vs ts
        → CallSame calls scall (the_block h b (map (λ c. c.1) behind) env) (unit cenv order (of_body h i)) vs ts
        (limit cenv order h)
    pub chain_means : (n : Text) → Known (a_chain n) → (gs : Pairs) (ts : List Tree)
        → GlobalsAgree cenv order (a_chain n) gs ts
        → CallSame calls scall (the_chain n gs) (unit cenv order (of_chain n)) [] ts (first_slot cenv order (a_chain n))

  -- Holds if the defaults of the parameters are in the pool from index d on.
  abbrev pub DefaultsAt : ℕ → List Parameter → Type 0
  DefaultsAt d [] = Unit {0}
  DefaultsAt d (p ∷ ps) = (tree_at (pool cenv order) d ≡ default_value p.default) × DefaultsAt (suc d) ps

  -- Holds if the defaults of each macro are in the pool from the index that resolution finds.
  abbrev pub DefaultsLaid : Type 0
  DefaultsLaid =
      (h : Namespace) → Known h → (x : Text) (b : MacroBody) → macro_of x (macros cenv.sources h) ≡ Some b
      → DefaultsAt (default_index cenv order h b.name) b.parameters

  -- Holds if a chain or library that a namespace leads to comes later in the order.
  pub record Behind (h k : Namespace) : Type 0 where
    pub known : Known k
    pub behind : limit cenv order h ≤ first_slot cenv order k

  -- Holds if each library that a chain imports comes later in the order.
  abbrev pub LibrariesBehind : Type 0
  LibrariesBehind =
      (h : Namespace) → Known h → (n : Text) → Among n (with_source cenv.sources (libraries cenv.sources h))
      → Behind h (a_library n)

  -- Holds if the defaults of macros are in the pool, and libraries come later in the order.
  pub record Laid : Type 0 where
    pub defaults : DefaultsLaid
    pub libraries : LibrariesBehind

  -- Holds if an included chain comes later in the order, and all its names are known.
  pub record Hands (h : Namespace) (n : Text) : Type 0 where
    pub known : Known (a_chain n)
    pub behind : limit cenv order h ≤ first_slot cenv order (a_chain n)
    pub names : (x : Text) → Among x (Rattle.jt_semantics.specs.Layout.names cenv order (a_chain n))
        → Among x (read_names cenv order h)

  abbrev pub Included : Namespace → Text → Type 0
  Included h n = (is_none (cenv.sources n) ≡ true) ⊎ Hands h n
