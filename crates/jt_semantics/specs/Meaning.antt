-- The meaning of statements and chains, by names.
use Rattle.std.specs.Prelude.{ℕ, zero, suc, Bool, true, false, List, [], ◌∷◌, ◌++◌, Option, Some, None, if◌then◌else◌}
use Rattle.std.specs.Option.{is_none}
use Rattle.jt_value.specs.Tree as tree
use Rattle.jt_value.specs.Tree.{Tree}
use Rattle.jt_value.specs.Pairs.{Pairs}
use Rattle.jt_value.specs.declared.fault.Fault.TheVariants as faults
use Rattle.jt_ast.specs.Expressions.{Expr, Text}
use Rattle.jt_value.specs.Place.{Place}
use Rattle.jt_eval.specs.Eval.{Eval, gives, fails, deeper, bind, checked, at}
use Rattle.jt_eval.specs.Values.{shown, as_value, required_if}
use Rattle.jt_ast.specs.Statements.{FilterCall, Stmt, data_of, print, choose, for_each, set, set_block, with_values}
use Rattle.jt_ast.specs.Statements.{filter_block, autoescape, macro, include, import_as, import_from, extends, block}
use Rattle.jt_ast.specs.Statements.{Body, end, stmt, Branches, no_branches, branch}
use Rattle.jt_semantics.specs.Env.{Env, all_bound, inside, top, seen}
use Rattle.jt_chains.specs.Chain.{Namespace, a_chain, Template, templates, bodies}
use Rattle.jt_eval.specs.Loops.{Loop, items_of_value}
use Rattle.jt_eval.specs.Filters.{arguments}
use Rattle.jt_rules.specs.CompileEnv.{CompileEnv}
use Rattle.jt_semantics.specs.EvalContext.{EvalContext, State, Invocation, the_macro, the_block, the_chain, Calls, tag}
use Rattle.jt_chains.specs.Uses.{keywords}
use Rattle.jt_semantics.specs.Expressions.{filtered, filter_parameters, requires_input, block_text, value, values}
use Rattle.jt_semantics.specs.Expressions.{named_values}

-- ---- Targets

-- The pairs of each name with its value. Lists of different lengths are the fault Unpack.
abbrev pub each_target : List Text → List Tree → Eval Pairs
each_target [] [] = gives []
each_target (x ∷ xs) (v ∷ vs) = bind (each_target xs vs) (λ s. gives ((x, v) ∷ s))
each_target xs vs = fails faults.Unpack None

-- The pairs that targets bind. One target takes the value itself; several targets take its items.
abbrev pub targets : List Text → Tree → Eval Pairs
targets (x ∷ []) v = gives ((x, v) ∷ [])
targets xs v = bind (checked (items_of_value v)) (each_target xs)

-- ---- Scopes

abbrev pub put : State → Text → State
put state s = record state { out = state.out ++ s }

-- The state after a run in a new scope. Only the output of the run is kept.
abbrev pub within : Pairs → (State → Eval State) → State → Eval State
within s run state =
    bind (run (record state { env = inside s state.env })) (λ r. gives (record state { out = r.out }))

-- The text of a run in a new scope, as a value.
abbrev pub captured : Bool → (State → Eval State) → Env → Eval Tree
captured escaping run env =
    bind (run (record { env = inside [] env; out = [] })) (λ r. gives (as_value escaping r.out))

-- ---- Loops

-- The state after the turns of a loop from turn i on, each in a scope of its own.
abbrev pub turns : (Option Loop → State → Eval State) → List Text → Place → List Tree → ℕ → List Tree
    → State → Eval State
turns run xs place all i [] state = gives state
turns run xs place all i (v ∷ vs) state =
    bind (at place (targets xs v)) (λ s.
    bind (within s (run (Some (record { items = all; before = i }))) state)
    (turns run xs place all (suc i) vs))

-- The state after the turns of a loop, or after its `else` part if there are no items.
abbrev pub eval_loop : (Option Loop → State → Eval State) → (State → Eval State) → List Text → Place
    → List Tree → State → Eval State
eval_loop run other xs place [] state = other state
eval_loop run other xs place (v ∷ vs) state = turns run xs place (v ∷ vs) 0 (v ∷ vs) state

-- The context of a loop's condition, which sees no loop.
abbrev pub outside : EvalContext → EvalContext
outside around = record around { loop = None }

abbrev pub is_set : Stmt → Bool
is_set (set line xs e) = true
is_set (set_block line x body) = true
is_set s = false

abbrev pub text_of : Eval State → Eval Text
text_of g = bind g (λ state. gives state.out)

-- The state after an include of a name without a source. If it may be missing, nothing is printed.
-- If it may not, it has neither text nor fault at any depth: the rules refuse it.
abbrev pub include_missing : Bool → State → Eval State
include_missing true state = gives state
include_missing false state = deeper

module _ (cenv : CompileEnv) (calls : Calls) where
  -- The items for which the condition holds. The condition is evaluated with the targets bound.
  abbrev pub kept : Option Expr → List Text → EvalContext → Env → List Tree → Eval (List Tree)
  kept None xs around env vs = gives vs
  kept (Some c) xs around env [] = gives []
  kept (Some c) xs around env (v ∷ vs) =
      bind (targets xs v) (λ s.
      bind (value cenv calls c (outside around) (inside s env)) (λ b. bind (kept (Some c) xs around env vs) (λ rest.
      gives (if tree.truth b then v ∷ rest else rest))))

  -- The value after each filter is applied in order. Each filter of strict templates but `default`
  -- requires its input.
  abbrev pub through : List FilterCall → EvalContext → Env → Eval Tree → Eval Tree
  through [] around env g = g
  through (f ∷ fs) around env g =
      through fs around env (filtered cenv.filters (cenv.filters.named f.name f.arguments f.keywords) around.escaping
      (bind (required_if (requires_input cenv.strict (cenv.filters.named f.name f.arguments f.keywords)) g) (λ v.
      bind (values cenv calls f.arguments around env) (λ vs. bind (named_values cenv calls f.keywords around env) (λ ks.
      gives (v ∷ arguments (filter_parameters cenv.filters (cenv.filters.named f.name f.arguments f.keywords)) vs
      (keywords f.keywords) ks))))))

  abbrev mutual
    pub meaning : Stmt → EvalContext → State → Eval State
    meaning (data_of s) around state = gives (put state s)
    -- A print and a loop of strict templates require their values.
    meaning (print line e) around state =
        at (tag around line) (bind (required_if cenv.strict (value cenv calls e around state.env))
        (λ v. bind (shown around.escaping v) (λ s. gives (put state s))))
    meaning (choose bs other) around state = chosen bs around state (meanings other around)
    meaning (for_each line xs e c body other) around state =
        bind (at (tag around line) (bind (required_if cenv.strict (value cenv calls e around state.env))
        (λ v. bind (checked (items_of_value v)) (kept c xs around state.env)))) (λ vs.
        eval_loop (λ l. meanings body (record around { loop = l })) (meanings other around) xs (tag around line) vs
        state)
    meaning (set line xs e) around state =
        bind (at (tag around line) (bind (value cenv calls e around state.env) (targets xs)))
        (λ s. gives (record state { env = all_bound state.env s }))
    meaning (set_block line x body) around state =
        bind (captured around.escaping (meanings body around) state.env)
        (λ v. gives (record state { env = all_bound state.env ((x, v) ∷ []) }))
    meaning (with_values line pairs body) around state =
        bind (at (tag around line) (named_values cenv calls pairs around state.env))
        (λ bs. within bs (meanings body around) state)
    meaning (filter_block line fs body) around state =
        bind (captured around.escaping (meanings body around) state.env) (λ v.
        at (tag around line)
        (bind (required_if cenv.strict (through fs around state.env (gives v)))
        (λ w. bind (shown around.escaping w) (λ s. gives (put state s)))))
    meaning (autoescape line on body) around state =
        within [] (meanings body (record around { escaping = on })) state
    meaning (block line x scoped required body) around state =
        bind (block_text calls around.namespace (bodies cenv.sources cenv.escaping around.namespace x)
        (if scoped then state.env else top state.env.globals)) (λ s. gives (put state s))
    meaning (include line n ignore_missing with_context) around state =
        if is_none (cenv.sources n) then include_missing ignore_missing state
        else bind (calls (the_chain n (if with_context then seen state.env else [])))
        (λ s. gives (put state s))
    -- Macros, imports and `extends` print nothing.
    meaning (macro line x parameters body) around state = gives state
    meaning (import_as line n x) around state = gives state
    meaning (import_from line n xs) around state = gives state
    meaning (extends line n) around state = gives state

    pub meanings : Body → EvalContext → State → Eval State
    meanings end around state = gives state
    meanings (stmt s rest) around state = bind (meaning s around state) (meanings rest around)

    -- The state after the first branch whose condition is true, or after the `else` part.
    pub chosen : Branches → EvalContext → State → (State → Eval State) → Eval State
    chosen no_branches around state other = other state
    chosen (branch line c body rest) around state other =
        bind (at (tag around line) (value cenv calls c around state.env))
        (λ v. if tree.truth v then meanings body around state else chosen rest around state other)

  -- ---- Chains

  -- The state after the top-level `set` statements of a template that extends another one.
  abbrev pub sets : Body → EvalContext → State → Eval State
  sets end around state = gives state
  sets (stmt s rest) around state =
      if is_set s then bind (meaning s around state) (sets rest around) else sets rest around state

  abbrev pub start : Namespace → Text → EvalContext
  start namespace t =
      record { namespace = namespace; template = t; escaping = cenv.escaping; loop = None; block = None }

  -- The state after the `set` statements of the children, the entry's first, and then the root.
  abbrev pub rendered : Namespace → List Template → State → Eval State
  rendered namespace [] state = gives state
  rendered namespace (t ∷ []) state = meanings t.body (start namespace t.name) state
  rendered namespace (t ∷ ts) state = bind (sets t.body (start namespace t.name) state) (rendered namespace ts)

  -- The text of a call: of a macro's body, of a block's body, or of a chain from its globals.
  abbrev pub eval_invocation : Invocation → Eval Text
  eval_invocation (the_macro namespace m s globals) =
      text_of (meanings m.body (start namespace m.template)
      (record { env = inside s (top globals); out = [] }))
  eval_invocation (the_block namespace b bs env) =
      text_of (meanings b.body
      (record {
        namespace = namespace;
        template = b.template;
        escaping = b.escaping;
        loop = None;
        block = Some (record { behind = bs; env = env });
      })
      (record { env = inside [] env; out = [] }))
  eval_invocation (the_chain n globals) =
      text_of (rendered (a_chain n) (templates cenv.sources (a_chain n))
      (record { env = top globals; out = [] }))

-- The texts of calls at most n deep.
abbrev pub calls_below : CompileEnv → ℕ → Calls
calls_below cenv zero c = deeper
calls_below cenv (suc n) c = eval_invocation cenv (calls_below cenv n) c

-- The text of a chain for a context, with calls at most n deep. The globals begin as the context.
abbrev pub mean : CompileEnv → Text → Pairs → ℕ → Eval Text
mean cenv entry context n = eval_invocation cenv (calls_below cenv n) (the_chain entry context)
