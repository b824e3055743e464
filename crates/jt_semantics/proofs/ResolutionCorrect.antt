-- The meaning of calls and of whole chains by names is their meaning by slots, at each depth.
use Rattle.std.proofs.Common.{◌≡◌, ℕ, zero, suc, ◌+◌, ◌<◌, ◌≤◌, Bool, true, false, if◌then◌else◌, List, [], ◌∷◌, ◌++◌}
use Rattle.std.proofs.Common.{length, map, Option, Some, None, refl, sym, ap, ◌∙◌, subst, arith, append_assoc, ◌⊎◌, inl}
use Rattle.std.proofs.Common.{inr, rules}
use Rattle.std.proofs.lemmas.List.{append-nil, length-map}
use Rattle.std.specs.Prelude.{flat_map, max, slice_get}
use Rattle.std.specs.Str.{bytes_eq}
use Rattle.std.specs.List.{AllByRecursion as Each}
use Rattle.jt_value.specs.Tree.{Tree}
use Rattle.jt_value.specs.Pairs.{Pairs}
use Rattle.jt_eval.specs.Eval.{gives, bind}
use Rattle.jt_ir.specs.Slots.{with_locals, Slot, local, global, Memory, SCalls, Routine, smeanings, seval_invocation}
use Rattle.jt_ir.specs.Slots.{scalls}
use Rattle.jt_ast.specs.Expressions.{Text}
use Rattle.jt_ast.specs.Statements.{Parameter, Body, end, stmt}
use Rattle.jt_semantics.specs.Env.{Env, read, inside, top}
use Rattle.jt_chains.specs.Chain.{Namespace, a_chain, listed, Template, templates, BlockBody, MacroBody}
use Rattle.jt_chains.specs.Chain.{macros, macro_of}
use Rattle.jt_eval.specs.Loops.{tree_at}
use Rattle.jt_eval.specs.Filters.{default_value}
use Rattle.jt_rules.specs.CompileEnv.{CompileEnv}
use Rattle.jt_semantics.specs.EvalContext.{Placement, State, the_macro, the_block, the_chain, Calls}
use Rattle.jt_semantics.specs.Meaning.{is_set, meaning, meanings, sets, rendered, eval_invocation, calls_below, mean}
use Rattle.jt_chains.specs.Uses.{stmt_names, body_names, set_in}
use Rattle.jt_chains.specs.Includes.{needs_by, needs_in, InOrder}
use Rattle.jt_semantics.specs.Layout.{Table, slot_in, globals_from, of_macro, of_body, names, first_slot, globals}
use Rattle.jt_semantics.specs.Layout.{block_parameters, is_scoped, unit, defaults_of, first_default, default_in}
use Rattle.jt_semantics.specs.Layout.{scopes}
use Rattle.jt_ir.specs.Pool.{Constant, constant_in}
use Rattle.jt_semantics.specs.Resolve.{followed, StaticEnv, Part, bound_table, bound_all, scoped, resolved_stmt}
use Rattle.jt_semantics.specs.Resolve.{resolved_body, resolved_sets, top_senv, resolved_chain, chain_routine}
use Rattle.jt_semantics.specs.Resolve.{macro_routine, body_routine}
use Rattle.jt_ir.specs.Locals.{body_locals}
use Rattle.jt_semantics.specs.Programs.{routines, pool}
use Rattle.jt_semantics.proofs.SameEval.{SameEval, both, deep, bind_both, weaken, by_right}
use Rattle.jt_semantics.proofs.EnvLookup.{same_text, namespace_same, is_same, no_both, IsInner, held}
use Rattle.jt_semantics.proofs.EnvMemoryAgreement.{Kept, kept_same, kept_then, Held, global_slot, globals_apart}
use Rattle.jt_semantics.proofs.EnvMemoryAgreement.{global_held, global_reads, limit, Below, read_names, Fits}
use Rattle.jt_semantics.proofs.EnvMemoryAgreement.{GlobalsAgree, fits_all}
use Rattle.jt_semantics.proofs.CallInvariant.{Sees, Tail, Good, around_of, Wrote, CallsMean, DefaultsAt, DefaultsLaid}
use Rattle.jt_semantics.proofs.CallInvariant.{Laid, Included}
use Rattle.jt_semantics.proofs.StatementCorrect.{set_among, in_among, scoped_by, scoped_in}
use Rattle.jt_semantics.proofs.StatementCorrect.{Proper, followed_same, Owns, of_top, of_scope, Here, scope_both}
use Rattle.jt_semantics.proofs.StatementCorrect.{good_bound, inside_inner, stmt_same, body_same}
use Rattle.jt_semantics.proofs.ExpressionCorrect.{held_behind}
use Rattle.jt_semantics.proofs.RoutineLookup.{chain_is, macro_named, macro_is, body_is}
use Rattle.jt_semantics.proofs.Scopes.{among_or_not}
use Rattle.jt_semantics.proofs.ChainOrder.{Belongs, libraries_stand, templates_belong, scopes_known}
use Rattle.jt_semantics.proofs.ChainOrder.{macro_belongs, body_belongs}
use Rattle.jt_semantics.proofs.Among.{Among, AllAmong, among_front, among_back, all_of}
use Rattle.jt_semantics.proofs.EachElement.{each_front, each_back}

-- ---- Locals at the start of a routine

locals_at : (n : ℕ) (ts : List Tree) (i : ℕ) → i < n → tree_at (with_locals n ts) i ≡ tree_at ts i
locals_at (suc n) [] (suc i) l = locals_at n [] i (omega (arith, l))
locals_at (suc n) (t ∷ ts) (suc i) l = locals_at n ts i (omega (arith, l))
locals_at n ts i l = search (arith, rules)

pub held_locals : (n : ℕ) (ts : List Tree) (k : ℕ) (vs : List Tree) → k + length vs ≤ n → Held ts k vs
    → Held (with_locals n ts) k vs
held_locals n ts k [] l h = tt
held_locals n ts k (v ∷ vs) l h = (
  locals_at n ts k (omega (arith, l)) ∙ h.0,
  held_locals n ts (suc k) vs (omega (arith, l)) h.1,
)

-- ---- Rows before and after others

pub held_after : (us ts : List Tree) (k : ℕ) (vs : List Tree) → Held ts k vs → Held (us ++ ts) (length us + k) vs
held_after [] ts k vs h = subst (λ n. Held ts n vs) (omega arith) h
held_after (u ∷ us) ts k vs h =
    subst (λ n. Held (u ∷ (us ++ ts)) n vs) (omega arith)
    (held_behind u (us ++ ts) (length us + k) vs (held_after us ts k vs h))

pub held_first : (vs ts : List Tree) → Held (vs ++ ts) 0 vs
held_first [] ts = tt
held_first (v ∷ vs) ts = (refl, held_behind v (vs ++ ts) 0 vs (held_first vs ts))

-- ---- Defaults

default_row : MacroBody → List Tree
default_row m = map (λ p. default_value p.default) m.parameters

defaults_in : (x : Text) (b : MacroBody) (ms : List MacroBody) (ts : List Tree) → macro_of x ms ≡ Some b
    → Held (defaults_of ms ++ ts) (first_default x ms) (default_row b)
unfolding default_row
defaults_in x b [] ts e = search (arith, rules)
defaults_in x b (m ∷ ms) ts e =
    subst (λ us. Held us (first_default x (m ∷ ms)) (map (λ p. default_value p.default) b.parameters))
    (sym (append_assoc (map (λ p. default_value p.default) m.parameters) (defaults_of ms) ts))
    (through (bytes_eq m.name x) e (λ f. defaults_in x b ms ts f))
  where
    is_it : Some m ≡ Some b → m ≡ b
    is_it q = cc

    through : (c : Bool) → (if c then Some m else macro_of x ms) ≡ Some b
        → (macro_of x ms ≡ Some b
        → Held (defaults_of ms ++ ts) (first_default x ms) (map (λ p. default_value p.default) b.parameters))
        → Held (map (λ p. default_value p.default) m.parameters ++ (defaults_of ms ++ ts))
        (if c then 0 else length m.parameters + first_default x ms) (map (λ p. default_value p.default) b.parameters)
    through true e f = search (arith, rules, is_it, held_first)
    through false e f = search (arith, rules, length-map, held_after)

module _ (cenv : CompileEnv) (order : List Namespace) where
  defaults_among : (h : Namespace) (x : Text) (b : MacroBody) (hs : List Namespace) (ts : List Tree)
      → listed h hs ≡ true → macro_of x (macros cenv.sources h) ≡ Some b
      → Held (flat_map (λ g. defaults_of (macros cenv.sources g)) hs ++ ts) (default_in cenv order hs h x)
      (map (λ p. default_value p.default) b.parameters)
  unfolding default_row
  defaults_among h x b [] ts e m = absurd (no_both e refl)
  defaults_among h x b (g ∷ gs) ts e m =
      search (arith, rules, append_assoc, defaults_among h x b gs ts, namespace_same, defaults_in, held_after)

  defaults_at : (d : ℕ) (ps : List Parameter) → Held (pool cenv order) d (map (λ p. default_value p.default) ps)
      → DefaultsAt cenv order d ps
  defaults_at d [] h = tt
  defaults_at d (p ∷ ps) h = (h.0, defaults_at (suc d) ps h.1)

  defaults_laid : DefaultsLaid cenv order
  defaults_laid h e x b m = search (arith, rules, macro_named, defaults_at, held_behind, defaults_among)

  abbrev lim : Namespace → ℕ
  lim h = limit cenv order h

  in_range : (h : Namespace) (k : ℕ) (x : Text) (s : Slot) → slot_in x (globals cenv order h) ≡ Some s
      → Below cenv order k (lim h) s
  in_range h k x (local i) e = absurd (no_local (first_slot cenv order h) (names cenv order h) e)
    where
      different : (n : ℕ) → Some (global n) ≡ Some (local i) → ⊥
      different n q = cc

      no_local : (n : ℕ) (ns : List Text) → slot_in x (globals_from n ns) ≡ Some (local i) → ⊥
      no_local n [] q = cc
      no_local n (y ∷ ys) q = through (bytes_eq y x) q (no_local (suc n) ys)
        where
          through : (b : Bool) → (if b then Some (global n) else slot_in x (globals_from (suc n) ys)) ≡ Some (local i)
              → (slot_in x (globals_from (suc n) ys) ≡ Some (local i) → ⊥) → ⊥
          through true r f = different n r
          through false r f = f r
  in_range h k x (global i) e = let l = (global_slot (first_slot cenv order h) (names cenv order h) x i e).1 in l

  fits_top : (h : Namespace) → AllAmong (scopes cenv order h) (read_names cenv order h)
      → Fits cenv order h (globals cenv order h) 0
  fits_top h few = search (arith, rules, in_range, globals_apart)

  -- The invariant holds at the top of a template of the chain.
  good_top : (h : Namespace) (t : Text) (gs : Pairs) (m : Memory) → listed h order ≡ true
      → AllAmong (scopes cenv order h) (read_names cenv order h) → GlobalsAgree cenv order h gs m.globals
      → Good cenv order (top_senv cenv order h t) None (top gs) m
  good_top h t gs m e few a = search (arith, rules, fits_top, global_reads)

  -- A name that is a parameter has the value of its local, and any other name keeps its value.
  params_agree : (env : Env) (m : Memory) (xs : List Text) (k : ℕ) (table : Table) → Held m.locals k (map (read env) xs)
      → (y : Text) → (Among y xs ⊎ (read env y ≡ held (slot_in y table) m))
      → read env y ≡ held (slot_in y (bound_table xs k table)) m
  params_agree env m [] k table h y (inl i) = absurd i
  params_agree env m [] k table h y (inr r) = r
  params_agree env m (x ∷ xs) k table h y (inl (inl p)) =
      search (arith, rules, params_agree env m xs (suc k) ((x, local k) ∷ table) h.1 y, is_same, held, no_both)
  params_agree env m (x ∷ xs) k table h y (inl (inr i)) = search (arith, rules, params_agree env m xs)
  params_agree env m (x ∷ xs) k table h y (inr r) = search (arith, rules, params_agree env m xs, held, same_text)

  left_max : (a b : ℕ) → a ≤ max a b
  left_max a b = omega arith

  laid_out : InOrder cenv.sources order → Laid cenv order
  laid_out ordered = search (arith, rules, defaults_laid, libraries_stand)

  -- The body of a routine has one outcome by names and by slots.
  routine_both : (n : ℕ) (calls : Calls) (scall : SCalls) (mean : CallsMean cenv order calls scall)
      (ordered : InOrder cenv.sources order) (h : Namespace) (e : listed h order ≡ true) (body : Body) (sp : StaticEnv)
      (q : Option Placement) (env : Env) (m : Memory)
      → sp.namespace ≡ h → Good cenv order sp q env m → IsInner env → m.out ≡ []
      → AllAmong (body_names body) (read_names cenv order sp.namespace)
      → Each (Included cenv order sp.namespace) (needs_in true body)
      → Each (Proper cenv order sp.namespace) (scoped_in body) → AllAmong (set_in body) (scopes cenv order sp.namespace)
      → SameEval (Wrote cenv order (limit cenv order sp.namespace) m.globals)
      (bind (meanings cenv calls body (around_of cenv order sp None q) (record { env = env; out = [] }))
      (λ st. gives st.out))
      (bind (smeanings cenv.filters (constant_in (pool cenv order)) scall
      (scoped (set_in body) sp (resolved_body cenv order body)) None m)
      (λ z. gives (record { text = z.out; globals = z.globals })))
  routine_both n calls scall mean ordered h e body sp q env m is_h good inner out names_in includes scopes own =
      bind_both
      (scope_both cenv order calls scall mean (laid_out ordered) body sp None q env [] m good inner out names_in own
      (λ b g S st o here sets. body_same cenv order calls scall mean (laid_out ordered) body
      (bound_all (set_in body) sp) None q b g S st o here names_in sets includes scopes))
      (λ st o left. both (record { text = left.out; globals = left.kept.globals }))

  module _ (ordered : InOrder cenv.sources order) where
    abbrev rs : List (Routine Constant)
    rs = routines cenv order

    abbrev cs : Constant → Tree
    cs = constant_in (pool cenv order)

    module _ (calls : Calls) (scall : SCalls) (mean : CallsMean cenv order calls scall) where
      macro_knot : (h : Namespace) → listed h order ≡ true → (x : Text) (b : MacroBody)
          → macro_of x (macros cenv.sources h) ≡ Some b → (ps gs : Pairs) (vs ts : List Tree)
          → map (λ p. p.0) ps ≡ map (λ p. p.name) b.parameters
          → Held vs 0 (map (λ p. p.1) ps) → GlobalsAgree cenv order h gs ts
          → SameEval (Wrote cenv order (lim h) ts) (eval_invocation cenv calls (the_macro h b ps gs))
          (seval_invocation cenv.filters cs scall (slice_get rs (unit cenv order (of_macro h b.name))) vs ts)
      macro_knot h e x b m ps gs vs ts nm hv ga =
          let sp = top_senv cenv order h b.template in
          let pn = map (λ p. p.name) b.parameters in
          let r = macro_routine cenv order h b in
          let start_memory : Memory = record { locals = with_locals r.locals vs; globals = ts; out = [] } in
          let same_count : length (map (λ p. p.1) ps) ≡ length pn =
          length-map ps (λ p. p.1) ∙ sym (length-map ps (λ p. p.0)) ∙ ap length nm in
          let room = left_max (length pn)
          (body_locals (scoped (set_in b.body) (bound_all pn sp) (resolved_body cenv order b.body))) in
          let fit : 0 + length (map (λ p. p.1) ps) ≤ r.locals = omega (arith, same_count, room) in
          let bel = macro_belongs cenv order ordered h e x b m in
          by_right (ap (λ o. seval_invocation cenv.filters cs scall o vs ts) (macro_is cenv order h x b e m))
          (routine_both 0 calls scall mean ordered h e b.body (bound_all pn sp) None (inside ps (top gs)) start_memory
          refl
          (good_bound cenv order calls scall mean (laid_out ordered) sp None ps pn nm bel.parameters
          (good_top h b.template gs start_memory e (scopes_known cenv order ordered h e) ga)
          (kept_same 0 (lim h) start_memory) (held_locals r.locals vs 0 (map (λ p. p.1) ps) fit hv))
          (inside_inner cenv order calls scall mean (laid_out ordered) (top gs) ps) refl bel.body.belongs.names
          bel.body.belongs.included bel.body.belongs.scoped bel.body.own)

      block_knot : (h : Namespace) → listed h order ≡ true
          → (x : Text) (i : ℕ) (c : BlockBody) (behind : List (ℕ × BlockBody)) → Tail cenv order h x ((i, c) ∷ behind)
          → (env : Env) (vs ts : List Tree) → Sees cenv order h x env vs ts
          → SameEval (Wrote cenv order (lim h) ts)
          (eval_invocation cenv calls (the_block h c (map (λ d. d.1) behind) env))
          (seval_invocation cenv.filters cs scall (slice_get rs (unit cenv order (of_body h i))) vs ts)
      block_knot h e x i c behind tail env vs ts sees =
          let found = body_is cenv order h x i c tail.0 behind e tail.1 in
          let part : Part = record { name = c.name; behind = behind } in
          let sp : StaticEnv = record (top_senv cenv order h c.template) { escaping = c.escaping; part = Some part } in
          let ps = block_parameters cenv order h c.name in
          let q : Placement = record { behind = map (λ d. d.1) behind; env = env } in
          let r = body_routine cenv order h c behind in
          let start_memory : Memory = record { locals = with_locals r.locals vs; globals = ts; out = [] } in
          let seen : Sees cenv order h c.name env vs ts =
          subst (λ z. Sees cenv order h z env vs ts) (sym found.1) sees in
          let count : length (map (read env) ps) ≡ length ps = length-map ps (read env) in
          let room = left_max (length ps)
          (body_locals (scoped (set_in c.body) (bound_all ps sp) (resolved_body cenv order c.body))) in
          let fit : 0 + length (map (read env) ps) ≤ r.locals = omega (arith, count, room) in
          let given : Held vs 0 (map (read env) ps) = subst (λ z. Held z 0 (map (read env) ps)) (sym seen.arguments)
          (subst (λ z. Held z 0 (map (read env) ps)) (append-nil (map (read env) ps))
          (held_first (map (read env) ps) [])) in
          let params = held_locals r.locals vs 0 (map (read env) ps) fit given in
          let bel = body_belongs cenv order ordered h e i c found.2.0 found.2.1 found.2.2 in
          let good : Good cenv order (bound_all ps sp) (Some q) (inside [] env) start_memory = record {
            known = e;
            fits =
                fits_all cenv order ps 0 (globals cenv order h) (of_scopes (is_scoped cenv h c.name))
                (fits_top h (scopes_known cenv order ordered h e));
            agrees = record {
              names =
                  λ y j. params_agree env start_memory ps 0 (globals cenv order h) params y
                  (which seen start_memory refl y j (among_or_not y ps));
              globals = seen.globals;
            };
            part = record {
              behind = refl;
              tail =
                  subst (λ z. Tail cenv order h z behind) (sym found.1)
                  (tail.0 ++ ((i, c) ∷ []), tail.1 ∙ sym (append_assoc tail.0 ((i, c) ∷ []) behind));
              room = let f : length (map (read env) ps) ≤ 0 + length ps = omega (arith, count) in f;
              parameters = params;
              sees = record { arguments = refl; globals = seen.globals; others = seen.others };
            };
          } in
          by_right (ap (λ o. seval_invocation cenv.filters cs scall o vs ts) found.0)
          (routine_both 0 calls scall mean ordered h e c.body (bound_all ps sp) (Some q) (inside [] env) start_memory
          refl good (inside_inner cenv order calls scall mean (laid_out ordered) env []) refl bel.belongs.names
          bel.belongs.included bel.belongs.scoped bel.own)
        where
          of_scopes : (b : Bool) → AllAmong (if b then scopes cenv order h else []) (scopes cenv order h)
          of_scopes true = all_of (scopes cenv order h)
          of_scopes false = tt

          which : Sees cenv order h c.name env vs ts → (m : Memory) → m.globals ≡ ts → (y : Text)
              → Among y (read_names cenv order h)
              → Among y (block_parameters cenv order h c.name) ⊎ (Among y (block_parameters cenv order h c.name) → ⊥)
              → Among y (block_parameters cenv order h c.name)
              ⊎ (read env y ≡ held (slot_in y (globals cenv order h)) m)
          which seen m g y j a5 = search (arith, rules, global_held, global_reads)

      -- ---- A chain from its first template on

      at_top : (h : Namespace) → Template → State → Memory → Type 0
      at_top h t st m =
          Here cenv order calls scall mean (laid_out ordered) (top_senv cenv order h t.name) None 0
          (first_slot cenv order h) (read_names cenv order h) st m

      -- If the invariant holds at the top of one template, it holds at the top of any other
      -- template of the chain.
      other_top : (h : Namespace) (t u : Template) (st : State) (m : Memory) → at_top h t st m → at_top h u st m
      unfolding at_top
      other_top h t u st m here = record {
        good = record { known = here.good.known; fits = here.good.fits; agrees = here.good.agrees; part = tt };
        owns = turned here.owns;
        out = here.out;
      }
        where
          turned : Owns cenv order calls scall mean (laid_out ordered) (top_senv cenv order h t.name) None 0
              (first_slot cenv order h) (read_names cenv order h) st.env
              → Owns cenv order calls scall mean (laid_out ordered) (top_senv cenv order h u.name) None 0
              (first_slot cenv order h) (read_names cenv order h) st.env
          turned (of_top r t l e p c) = of_top r t l e p c
          turned (of_scope r l i s f) = of_scope r l i s f

      sets_same : (h : Namespace) (t : Template) (c : Body) (st : State) (m : Memory) → at_top h t st m
          → AllAmong (body_names c) (read_names cenv order h) → Each (Included cenv order h) (needs_in true c)
          → Each (Proper cenv order h) (scoped_in c)
          → SameEval (λ st' n. at_top h t st' n × Kept 0 (first_slot cenv order h) m n)
          (sets cenv calls c (around_of cenv order (top_senv cenv order h t.name) None None) st)
          (smeanings cenv.filters cs scall (resolved_sets cenv order c (top_senv cenv order h t.name)) None m)
      unfolding at_top
      sets_same h t end st m here i n d = both (here, kept_same 0 (first_slot cenv order h) m)
      sets_same h t (stmt s rest) st m here i n d =
          through (is_set s) (λ st' m' here'. sets_same h t rest st' m' here'
          (among_back (stmt_names s) (body_names rest) (read_names cenv order h) i)
          (each_back (Included cenv order h) (needs_by true s) (needs_in true rest) n)
          (each_back (Proper cenv order h) (scoped_by s) (scoped_in rest) d))
        where
          sp : StaticEnv
          sp = top_senv cenv order h t.name

          through : (b : Bool)
              → ((st' : State) (m' : Memory) → at_top h t st' m'
              → SameEval (λ st'' n'. at_top h t st'' n' × Kept 0 (first_slot cenv order h) m' n')
              (sets cenv calls rest (around_of cenv order (top_senv cenv order h t.name) None None) st')
              (smeanings cenv.filters cs scall (resolved_sets cenv order rest (top_senv cenv order h t.name)) None m'))
              → SameEval (λ st'' n'. at_top h t st'' n' × Kept 0 (first_slot cenv order h) m n')
              (if b then bind (meaning cenv calls s (around_of cenv order (top_senv cenv order h t.name) None None) st)
              (λ st'. sets cenv calls rest (around_of cenv order (top_senv cenv order h t.name) None None) st')
              else sets cenv calls rest (around_of cenv order (top_senv cenv order h t.name) None None) st)
              (smeanings cenv.filters cs scall (if b then followed
              (resolved_stmt cenv order s (top_senv cenv order h t.name))
              (resolved_sets cenv order rest (top_senv cenv order h t.name))
              else resolved_sets cenv order rest (top_senv cenv order h t.name)) None m)
          through false f = f st m here
          through true f =
              by_right (followed_same cenv order calls scall mean (laid_out ordered)
              (resolved_stmt cenv order s (top_senv cenv order h t.name))
              (resolved_sets cenv order rest (top_senv cenv order h t.name)) None m)
              (bind_both (stmt_same cenv order calls scall mean (laid_out ordered) s (top_senv cenv order h t.name) None
              None 0 (first_slot cenv order h) (read_names cenv order h) st m here
              (among_front (stmt_names s) (body_names rest) (read_names cenv order h) i)
              (set_among s (read_names cenv order h)
              (among_front (stmt_names s) (body_names rest) (read_names cenv order h) i))
              (each_front (Included cenv order h) (needs_by true s) (needs_in true rest) n)
              (each_front (Proper cenv order h) (scoped_by s) (scoped_in rest) d))
              (λ st' m' a. weaken (λ st'' n' y. (y.0, kept_then a.kept y.1)) (f st' m' a.here)))

      chain_same : (h : Namespace) (e : listed h order ≡ true) (ts : List Template) (t : Template) (st : State)
          (m : Memory)
          → at_top h t st m → Each (λ u. Belongs cenv order ordered h e u.body) ts
          → SameEval (λ st' n. (n.out ≡ st'.out) × Kept 0 (first_slot cenv order h) m n) (rendered cenv calls h ts st)
          (smeanings cenv.filters cs scall (resolved_chain cenv order h ts) None m)
      unfolding at_top
      chain_same h e [] t st m here all = both (here.out, kept_same 0 (first_slot cenv order h) m)
      chain_same h e (u ∷ []) t st m here all =
          let there : at_top h u st m = other_top h t u st m here in
          weaken (λ st' n a. (a.here.out, a.kept))
          (body_same cenv order calls scall mean (laid_out ordered) u.body (top_senv cenv order h u.name) None None 0
          (first_slot cenv order h) (read_names cenv order h) st m there all.0.names
          (in_among u.body (read_names cenv order h) all.0.names) all.0.included all.0.scoped)
      chain_same h e (u ∷ v ∷ vs) t st m here all =
          by_right (followed_same cenv order calls scall mean (laid_out ordered)
          (resolved_sets cenv order u.body (top_senv cenv order h u.name)) (resolved_chain cenv order h (v ∷ vs)) None
          m)
          (bind_both (sets_same h u u.body st m (other_top h t u st m here) all.0.names all.0.included all.0.scoped)
          (λ st' n a.
          weaken (λ st'' o y. (y.0, kept_then a.1 y.1)) (chain_same h e (v ∷ vs) u st' n a.0 all.1)))

      pub chain_knot : (n : Text) → listed (a_chain n) order ≡ true → (gs : Pairs) (ts : List Tree)
          → GlobalsAgree cenv order (a_chain n) gs ts
          → SameEval (Wrote cenv order (first_slot cenv order (a_chain n)) ts)
          (eval_invocation cenv calls (the_chain n gs))
          (seval_invocation cenv.filters cs scall (Some (chain_routine cenv order n)) [] ts)
      unfolding at_top
      chain_knot n e gs ts ga =
          let h : Namespace = a_chain n in
          let r = chain_routine cenv order n in
          let start_memory : Memory = record { locals = with_locals r.locals []; globals = ts; out = [] } in
          let t : Template = record { name = n; body = end } in
          let here : at_top h t (record { env = top gs; out = [] }) start_memory = record {
            good = good_top h n gs start_memory e (scopes_known cenv order ordered h e) ga;
            owns =
                of_top (omega arith) refl
                (omega arith) refl refl refl;
            out = refl;
          } in
          bind_both (chain_same h e (templates cenv.sources h) t (record { env = top gs; out = [] }) start_memory here
          (templates_belong cenv order ordered h e))
          (λ st o a. both (record { text = a.0; globals = a.1.globals }))

    -- ---- Calls at each depth, by induction

    pub calls_mean : (n : ℕ) → CallsMean cenv order (calls_below cenv n) (scalls cenv.filters cs rs n)
    calls_mean zero = search (arith, rules, deep)
    calls_mean (suc n) = search (arith, rules, macro_knot, block_knot, by_right, chain_is, chain_knot, calls_mean n)
