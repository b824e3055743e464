-- The meaning of a chain's program is the meaning of the chain.
use Rattle.std.proofs.Common.{◌≡◌, ℕ, suc, ◌+◌, ◌≤◌, Bool, true, false, if◌then◌else◌, List, [], ◌∷◌, ◌++◌, length, map}
use Rattle.std.proofs.Common.{Some, refl, sym, ap, ◌∙◌, subst, arith, rules}
use Rattle.std.specs.Prelude.{◌||◌}
use Rattle.std.specs.Str.{bytes_eq}
use Rattle.jt_value.specs.Tree.{Tree}
use Rattle.jt_value.specs.Pairs.{Pairs}
use Rattle.jt_eval.specs.Eval.{Eval, gives, bind}
use Rattle.jt_ir.specs.Slots.{with_locals, global, Written, scalls, globals_of, smean}
use Rattle.jt_ast.specs.Expressions.{Text}
use Rattle.jt_eval.specs.Values.{value_in}
use Rattle.jt_chains.specs.Chain.{Namespace, a_chain, listed}
use Rattle.jt_eval.specs.Loops.{tree_at}
use Rattle.jt_rules.specs.CompileEnv.{CompileEnv}
use Rattle.jt_semantics.specs.Meaning.{calls_below, mean}
use Rattle.jt_semantics.specs.Layout.{slot_in, globals_from, names, first_in, first_slot, shared}
use Rattle.jt_ir.specs.Pool.{constant_in, routines_values, placed_routines}
use Rattle.jt_semantics.specs.Programs.{routines, pool, count_globals, program}
use Rattle.jt_chains.specs.Includes.{InOrder}
use Rattle.jt_semantics.proofs.SameEval.{SameEval}
use Rattle.jt_semantics.proofs.EnvLookup.{same_text, namespace_is}
use Rattle.jt_semantics.proofs.EnvMemoryAgreement.{Held, global_given, global_held, GlobalsAgree}
use Rattle.jt_semantics.proofs.CallInvariant.{Wrote}
use Rattle.jt_semantics.proofs.ResolutionCorrect.{held_locals, held_first, held_after, chain_knot, calls_mean}
use Rattle.jt_semantics.proofs.PoolCorrect.{routine_placed, calls_placed}
use Rattle.std.proofs.lemmas.List.{length-map}

append_empty : {A : Type 0} (us : List A) → us ++ [] ≡ us
append_empty [] = refl
append_empty (u ∷ us) = ap (λ zs. u ∷ zs) (append_empty us)

-- The global of a name holds the context's value of the name.
start_holds : (context : Pairs) (n : ℕ) (ns : List Text) (ts : List Tree) (x : Text) (i : ℕ)
    → slot_in x (globals_from n ns) ≡ Some (global i) → Held ts n (map (value_in context) ns)
    → value_in context x ≡ tree_at ts i
start_holds context n [] ts x i e h = search (arith, rules)
start_holds context n (y ∷ ys) ts x i e h =
    through (bytes_eq y x) refl e (λ f. start_holds context (suc n) ys ts x i f h.1)
  where
    here : Some (global n) ≡ Some (global i) → n ≡ i
    here q = cc

    through : (b : Bool) → bytes_eq y x ≡ b
        → (if b then Some (global n) else slot_in x (globals_from (suc n) ys)) ≡ Some (global i)
        → (slot_in x (globals_from (suc n) ys) ≡ Some (global i) → value_in context x ≡ tree_at ts i)
        → value_in context x ≡ tree_at ts i
    through true p e f = ap (value_in context) (sym (same_text y x p)) ∙ sym h.0 ∙ ap (tree_at ts) (here e)
    through false p e f = f e

same_text_out : {g : ℕ} {ts : List Tree} {a : Eval Text} {b : Eval Written} (cenv : CompileEnv) (order : List Namespace)
    → SameEval (Wrote cenv order g ts) a b → bind b (λ w. gives w.text) ≡ a
same_text_out cenv order x3 = search (arith, rules)

-- The meaning of the entry's program is the meaning of its chain, for every context and depth of
-- calls. The order lists each chain and library once, the entry's chain first, and each before the
-- namespaces that it leads to.
pub program_means : (cenv : CompileEnv) (name : Text) (rest : List Namespace)
    → InOrder cenv.sources (a_chain name ∷ rest) → (context : Pairs) (n : ℕ)
    → smean cenv.filters (program cenv (a_chain name ∷ rest) (a_chain name)) context n ≡ mean cenv name context n
program_means cenv name rest ordered context n =
    let entry : Namespace = a_chain name in
    let order = entry ∷ rest in
    let rs = routines cenv order in
    let p = pool cenv order in
    let k = length (shared cenv order) in
    let values = map (value_in context) (names cenv order entry) in
    let gs = with_locals (count_globals cenv order order) (globals_of context (names cenv order entry)) in
    let in_pool : Held p k (routines_values rs) =
    subst (λ z. Held p z (routines_values rs)) (omega arith)
    (held_after (shared cenv order) (routines_values rs) 0 (routines_values rs)
    (subst (λ z. Held z 0 (routines_values rs)) (append_empty (routines_values rs))
    (held_first (routines_values rs) []))) in
    let fit : 0 + length values ≤ count_globals cenv order order =
    room (names cenv order entry) (count_globals cenv order rest) in
    let started : Held gs 0 values = held_locals (count_globals cenv order order) values 0 values fit
    (subst (λ z. Held z 0 values) (append_empty values) (held_first values [])) in
    let first : first_slot cenv order entry ≡ 0 =
    ap (λ b. if b then 0 else length (names cenv order entry) + first_in cenv order rest entry) (namespace_is entry) in
    let agree : GlobalsAgree cenv order entry context gs = λ x i.
    let k = global_given (first_slot cenv order entry) (names cenv order entry) x i in
    start_holds context 0 (names cenv order entry) gs x k.0
    (ap (λ z. slot_in x (globals_from z (names cenv order entry))) (sym first) ∙ k.1) started
    ∙ sym (ap (λ z. global_held z gs) k.1) in
    let known : listed entry order ≡ true = ap (λ b. b || listed entry rest) (namespace_is entry) in
    let call = scalls cenv.filters (constant_in p) rs n in
    let call' = scalls cenv.filters (tree_at p) (placed_routines rs k) n in
    ap (λ g. bind g (λ w. gives w.text)) (routine_placed cenv.filters p call call'
    (λ u ts hs. calls_placed cenv.filters p rs k in_pool n u ts hs) rs k 0 [] gs in_pool)
    ∙ same_text_out cenv order (chain_knot cenv order ordered (calls_below cenv n) call
    (calls_mean cenv order ordered n) name known context gs agree)
  where
    room : (ns : List Text) (c : ℕ) → 0 + length (map (value_in context) ns) ≤ length ns + c
    room ns c = let e = length-map ns (value_in context) in omega (arith, e)
