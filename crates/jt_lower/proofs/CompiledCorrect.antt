-- The code of a program does what the program means.
use Rattle.std.proofs.Common.{◌≡◌, ◌≢◌, false, ℕ, zero, suc, ◌+◌, ◌≤◌, List, [], ◌∷◌, ◌++◌, length, map, Option, Some}
use Rattle.std.proofs.Common.{None, refl, sym, ap, ◌∙◌, subst, arith, append_assoc, append-nil, length-append, rules}
use Rattle.std.specs.Prelude.{slice_get, slice_set, unwrap_or, replicate}
use Rattle.std.specs.Option.{option_map, option_and_then}
use Rattle.std.proofs.Math.Seq.{set-append_seam}
use Rattle.std.proofs.lemmas.Option.{slice_get-map}
use Rattle.jt_value.specs.Tree as tree
use Rattle.jt_value.specs.Tree.{Tree}
use Rattle.jt_value.specs.Pairs.{Pairs, look}
use Rattle.jt_value.specs.declared.fault.Fault.{Fault}
use Rattle.jt_image.specs.declared.instruction.Instruction.{Instruction}
use Rattle.jt_image.specs.declared.instruction.Instruction.TheVariants as op
use Rattle.jt_image.specs.Code.{Section, Code}
use Rattle.jt_image.specs.Config as config
use Rattle.jt_image.specs.Config.{State, Caller, MachineState}
use Rattle.jt_image.specs.Step.{constant_value, text_of, locals_of}
use Rattle.jt_image.specs.Run.{filled, entry_locals, Run}
use Rattle.jt_image.specs.Enough.{Enough}
use Rattle.jt_image.specs.FreeRun.{Free, Finished, Failed, Going, exec, start_machine, ComesTo}
use Rattle.jt_image.specs.Laws.{HasRuns}
use Rattle.jt_value.specs.Place.{Place}
use Rattle.jt_eval.specs.Eval.{Eval, gives, fails, deeper, bind}
use Rattle.jt_eval.specs.Values.{bytes_of}
use Rattle.jt_ir.specs.Slots.{with_locals, Routine, Program, Memory, Written, SCalls, smeanings, seval_invocation}
use Rattle.jt_ir.specs.Slots.{scalls, globals_of, smean}
use Rattle.jt_ast.specs.Expressions.{Text}
use Rattle.jt_eval.specs.TheFilters.{the_filters}
use Rattle.jt_eval.specs.Loops.{tree_at}
use Rattle.jt_lower.specs.Asm.{flat, places, AsmEval, of_written, run}
use Rattle.jt_constants.specs.Laws.{MergedLaws}
use Rattle.jt_lower.specs.Lower.{body_asm, routine_places, unit_of, constant_of, numbered, lowered, compiled}
use Rattle.jt_lower.specs.Fits.{IsPooled, ProgramFits}
use Rattle.jt_lower.proofs.TablePlacedRuns.{Table, placed_exec, place_in, table_of}
use Rattle.jt_lower.proofs.Simulation.{Does}
use Rattle.jt_lower.proofs.LoweringCorrect.{at_memory, HasPool, Keeps, CallsKeep, SizedIn, body_does}
use Rattle.jt_lower.proofs.FlatCodeRuns.{machine, Comes, Reaches, PlacesAt, places_front}
use Rattle.jt_lower.proofs.FlatCodeRuns.{fetched, step, CallsRun, flat_runs}
use Rattle.jt_lower.proofs.UniqueEnd.{longer, one_free_end, told_same}
use Rattle.jt_lower.proofs.SourceLocsCorrect.{tells}
use Rattle.jt_lower.proofs.FaultsHavePlaces.{HasPlace, CallsPlaced, bind_has, body_has}
use Rattle.jt_lower.proofs.ListsInPlace.{StandsAt, stands_front, stands_back, stands_whole}

-- ---- the pool

constant_same : (t : Tree) → IsPooled t → constant_value (Some (constant_of t)) ≡ t
constant_same t h = search (arith, rules)

text_same : (t : Tree) → IsPooled t → text_of (Some (constant_of t)) ≡ bytes_of t
text_same t h = search (arith, rules)

value_of_slot : (o : Option Tree) → ((t : Tree) → o ≡ Some t → IsPooled t)
    → constant_value (option_map constant_of o) ≡ unwrap_or o tree.undefined
value_of_slot o h = search (arith, rules, constant_same)

text_of_slot : (o : Option Tree) → ((t : Tree) → o ≡ Some t → IsPooled t)
    → text_of (option_map constant_of o) ≡ bytes_of (unwrap_or o tree.undefined)
text_of_slot o h = search (arith, rules, text_same)

pub has_pool : (p : Program) → ProgramFits p → HasPool (lowered p) p.pool
has_pool p fit = search (arith, rules, slice_get-map, value_of_slot, text_of_slot)

-- ---- the start

none_given : (n : ℕ) → replicate n tree.undefined ≡ with_locals n []
none_given zero = refl
none_given (suc n) = ap (λ ts. tree.undefined ∷ ts) (none_given n)

-- The globals at the start of a run are the globals of the meaning.
fills : (x : Pairs) (ns : List Text) (before : List Tree) (i n : ℕ) → length before ≡ i → length ns ≤ n
    → filled x (numbered i ns) (before ++ replicate n tree.undefined) ≡ before ++ with_locals n (globals_of x ns)
fills x [] before i n e le = ap (λ ts. before ++ ts) (none_given n)
fills x (y ∷ ns) before i zero e le = absurd (omega arith)
fills x (y ∷ ns) before i (suc n) e le =
    let v = unwrap_or (look y x) tree.undefined in
    let rest = replicate n tree.undefined in
    let set : slice_set (before ++ tree.undefined ∷ rest) i v ≡ (before ++ v ∷ []) ++ rest =
    ap (λ j. slice_set (before ++ tree.undefined ∷ rest) j v) (sym e) ∙ set-append_seam before tree.undefined rest v
    ∙ sym (append_assoc before (v ∷ []) rest) in
    let len : length (before ++ v ∷ []) ≡ suc i = omega (arith, length-append before (v ∷ [])) in
    ap (λ gs. filled x (numbered (suc i) ns) gs) set ∙ fills x ns (before ++ v ∷ []) (suc i) n len (omega arith)
    ∙ append_assoc before (v ∷ []) (with_locals n (globals_of x ns))

same_locals : (n : ℕ) (ts : List Tree) → locals_of n ts ≡ with_locals n ts
same_locals zero ts = refl
same_locals (suc n) [] = ap (λ ts. tree.undefined ∷ ts) (same_locals n [])
same_locals (suc n) (t ∷ ts) = ap (λ ts. t ∷ ts) (same_locals n ts)

count_locals : (n : ℕ) (ts : List Tree) → length (with_locals n ts) ≡ n
count_locals zero ts = refl
count_locals (suc n) [] = ap suc (count_locals n [])
count_locals (suc n) (t ∷ ts) = ap suc (count_locals n ts)

first_locals : (rs : List (Routine ℕ)) (r : Routine ℕ) → slice_get rs 0 ≡ Some r
    → entry_locals (map unit_of rs) ≡ r.locals
first_locals [] r e = absurd cc
first_locals (s ∷ rs) r e = let same : s ≡ r = cc in ap (λ (x : Routine ℕ). x.locals) same

-- ---- whole runs

-- A run without a budget has the result of the meaning. If calls are deeper than `n`, it continues
-- for at least `n` steps.
abbrev pub Follows : Code → Table → MachineState → ℕ → Eval Text → Type 0
Follows k table m n (gives t) = (j : ℕ) × (placed_exec k table j m ≡ Finished t)
Follows k table m n (fails e q) = (j : ℕ) × (placed_exec k table j m ≡ Failed e q)
Follows k table m n deeper = (j : ℕ) × (n ≤ j) × (placed_exec k table j m ≡ Going)

abbrev as_free : Eval Text → Free
as_free (gives t) = Finished t
as_free (fails e q) = Failed e q
as_free deeper = Going

seam : {A : Type 0} (done rest : List A) (x : A) → slice_get (done ++ x ∷ rest) (length done) ≡ Some x
seam [] rest x = refl
seam (d ∷ done) rest x = seam done rest x

-- A table that is read from the places of a unit has these places.
places_hold : (k : Code) (table : Table) (u : ℕ) (all qs done : List (Option Place)) (n : ℕ)
    → ((i : ℕ) → table u i ≡ option_and_then (λ q. q) (slice_get all i)) → all ≡ done ++ qs → n ≡ length done
    → PlacesAt k table u n qs
places_hold k table u all [] done n h e l = tt
places_hold k table u all (q ∷ qs) done n h e l =
    search (
      arith,
      rules,
      seam,
      places_hold k table u all qs (done ++ q ∷ []) (n + 1) h (e ∙ sym (append_assoc done (q ∷ []) qs))
          (omega (arith, l, length-append done (q ∷ []))),
      append_assoc,
      length-append,
    )

abbrev written : Memory → Eval Written
written m = gives (record { text = m.out; globals = m.globals })

module _ (p : Program) (fit : ProgramFits p) where
  abbrev k : Code
  k = lowered p

  abbrev table : Table
  table = table_of p

  abbrev calls : ℕ → SCalls
  calls n = scalls the_filters (tree_at p.pool) p.routines n

  abbrev has : HasPool k p.pool
  has = has_pool p fit

  abbrev begins : Routine ℕ → List Tree → List Tree → Memory
  begins r ts gs = record { locals = with_locals r.locals ts; globals = gs; out = [] }

  abbrev body : ℕ → Routine ℕ → List Tree → List Tree → Eval Memory
  body n r ts gs = smeanings the_filters (tree_at p.pool) (calls n) r.body None (begins r ts gs)

  -- The code of a routine, up to its `Return`, does what the body means, for any text so far.
  does_body : (n : ℕ) → CallsKeep p.globals (calls n)
      → (u : ℕ) (r : Routine ℕ) (ts gs : List Tree) (out : Text) (bufs : List (List ℕ))
      → slice_get p.routines u ≡ Some r → length gs ≡ p.globals
      → Does None (SizedIn p r.locals) (at_memory [] out bufs)
      (run k (calls n) (body_asm r.body 0) (at_memory [] out bufs (begins r ts gs))) (body n r ts gs)
  does_body n keep u r ts gs out bufs is e =
      let f = fit.routines u r is in
      body_does p (calls n) has keep r.locals r.body false 0 None [] out bufs (begins r ts gs) f.body tt
      (record { locals = count_locals r.locals ts; globals = e })

  kept_globals : (l : ℕ) (to : Memory → State) (r : AsmEval) (g : Eval Memory) → Does None (SizedIn p l) to r g
      → Keeps p.globals (bind g written)
  kept_globals l to r g h = search (arith, rules)

  performed_keeps : (n : ℕ) → CallsKeep p.globals (calls n) → (u : ℕ) (o : Option (Routine ℕ)) (ts gs : List Tree)
      → slice_get p.routines u ≡ o → length gs ≡ p.globals
      → Keeps p.globals (seval_invocation the_filters (tree_at p.pool) (calls n) o ts gs)
  performed_keeps n keep u None ts gs is e = tt
  performed_keeps n keep u (Some r) ts gs is e =
      kept_globals r.locals (at_memory [] [] [])
      (run k (calls n) (body_asm r.body 0) (at_memory [] [] [] (begins r ts gs))) (body n r ts gs)
      (does_body n keep u r ts gs [] [] is e)

  -- Calls preserve the number of globals.
  keeps : (n : ℕ) → CallsKeep p.globals (calls n)
  keeps zero = λ u ts gs e. tt
  keeps (suc n) = λ u ts gs e. performed_keeps n (keeps n) u (slice_get p.routines u) ts gs refl e

  -- Each fault of a call has a place.
  performed_has : (n : ℕ) → CallsPlaced (calls n) → (u : ℕ) (o : Option (Routine ℕ)) (ts gs : List Tree)
      → slice_get p.routines u ≡ o → HasPlace (seval_invocation the_filters (tree_at p.pool) (calls n) o ts gs)
  performed_has n h u None ts gs is = tt
  performed_has n h u (Some r) ts gs is =
      bind_has (body n r ts gs) written (body_has the_filters (tree_at p.pool) (calls n) h p r.locals r.body false None
      (begins r ts gs) (fit.routines u r is).body) (λ m. tt)

  calls_placed : (n : ℕ) → CallsPlaced (calls n)
  calls_placed zero = λ u ts gs. tt
  calls_placed (suc n) = λ u ts gs. performed_has n (calls_placed n) u (slice_get p.routines u) ts gs refl

  body_placed : (n u : ℕ) (r : Routine ℕ) (ts gs : List Tree) → slice_get p.routines u ≡ Some r
      → HasPlace (body n r ts gs)
  body_placed n u r ts gs is =
      body_has the_filters (tree_at p.pool) (calls n) (calls_placed n) p r.locals r.body false None (begins r ts gs)
      (fit.routines u r is).body

  unit_at : (u : ℕ) (r : Routine ℕ) → slice_get p.routines u ≡ Some r → slice_get k.units u ≡ Some (unit_of r)
  unit_at u r is = slice_get-map unit_of p.routines u ∙ ap (option_map unit_of) is

  module _ (r : Routine ℕ) where
    abbrev instructions : List Instruction
    instructions = flat (body_asm r.body 0) 0

    all : StandsAt (unit_of r).code 0 (instructions ++ op.Return ∷ [])
    all = stands_whole (instructions ++ op.Return ∷ []) []

    front : StandsAt (unit_of r).code 0 instructions
    front = stands_front (unit_of r).code 0 instructions (op.Return ∷ []) all

    back : StandsAt (unit_of r).code (0 + length instructions) (op.Return ∷ [])
    back = stands_back (unit_of r).code 0 instructions (op.Return ∷ []) all

    places_at : (u : ℕ) → slice_get p.routines u ≡ Some r → PlacesAt k table u 0 (places (body_asm r.body 0))
    places_at u is =
        places_front k table u 0 (places (body_asm r.body 0)) (None ∷ [])
        (places_hold k table u (routine_places r) (routine_places r) [] 0
        (λ i. ap (λ o. place_in o i) (slice_get-map routine_places p.routines u ∙ ap (option_map routine_places) is))
        refl refl)

    -- A unit that returns continues at its caller.
    returns : (n u : ℕ) (c : MachineState) (a : Caller) (ks : List Caller) (q : Option Place) (out : Text)
        (bufs : List (List ℕ)) (s : AsmEval) (g : Eval Memory)
        → slice_get p.routines u ≡ Some r → HasPlace g
        → Does None (SizedIn p r.locals) (at_memory [] out bufs) s g
        → Reaches k table n c s (machine u (0 + length instructions) (a ∷ ks))
        → Reaches k table n c (of_written q (bind g written) a.entries a.locals out bufs) (machine a.unit a.point ks)
    returns n u c a ks q out bufs s (gives m) is hp h w =
        let comes : Comes k table c (machine u (0 + length instructions) (a ∷ ks) (at_memory [] out bufs m)) =
        subst (λ y. Reaches k table n c y (machine u (0 + length instructions) (a ∷ ks))) h.0 w in
        let at = fetched k table (unit_of r) u (0 + length instructions) op.Return (unit_at u r is) back.0 in
        record {
          by = λ i. let b = comes.by (suc i) in (
            b.0,
            omega (arith, b.1),
            b.2 ∙ step k table (unit_of r) u (0 + length instructions) (a ∷ ks) (at_memory [] out bufs m) op.Return at
                i,
          );
        }
    returns n u c a ks q out bufs s (fails e None) is hp h w = absurd hp
    returns n u c a ks q out bufs s (fails e (Some x)) is hp h w =
        subst (λ y. Reaches k table n c y (machine u (0 + length instructions) (a ∷ ks))) h w
    returns n u c a ks q out bufs s deeper is hp h w =
        subst (λ y. Reaches k table n c y (machine u (0 + length instructions) (a ∷ ks))) h w

    -- The first unit ends the run.
    ends : (n : ℕ) (c : MachineState) (s : AsmEval) (g : Eval Memory) → slice_get p.routines 0 ≡ Some r → HasPlace g
        → Does None (SizedIn p r.locals) (at_memory [] [] []) s g
        → Reaches k table n c s (machine 0 (0 + length instructions) [])
        → Follows k table c n (bind (bind g written) (λ w. gives w.text))
    ends n c s (gives m) is hp h w =
        let comes : Comes k table c (machine 0 (0 + length instructions) [] (at_memory [] [] [] m)) =
        subst (λ y. Reaches k table n c y (machine 0 (0 + length instructions) [])) h.0 w in
        let at = fetched k table (unit_of r) 0 (0 + length instructions) op.Return (unit_at 0 r is) back.0 in
        let b = comes.by 1 in
        (b.0, b.2 ∙ step k table (unit_of r) 0 (0 + length instructions) [] (at_memory [] [] [] m) op.Return at 0)
    ends n c s (fails e None) is hp h w = absurd hp
    ends n c s (fails e (Some x)) is hp h w =
        subst (λ y. Reaches k table n c y (machine 0 (0 + length instructions) [])) h w
    ends n c s deeper is hp h w = subst (λ y. Reaches k table n c y (machine 0 (0 + length instructions) [])) h w

  started : (u : ℕ) (ks : List Caller) (r : Routine ℕ) (ts gs : List Tree) (out : Text) (bufs : List (List ℕ))
      → machine u 0 ks (record { entries = []; locals = locals_of r.locals ts; globals = gs; buffers = out ∷ bufs })
      ≡ machine u 0 ks (at_memory [] out bufs (begins r ts gs))
  started u ks r ts gs out bufs = search (arith, rules, machine, same_locals, append-nil)

  performed_runs : (n : ℕ) → CallsRun k table n (calls n)
      → (u : ℕ) (o : Option (Routine ℕ)) (t : Section) (ts gs : List Tree) (q : Option Place) (out : Text)
      (bufs : List (List ℕ)) (a : Caller) (ks : List Caller)
      → slice_get p.routines u ≡ o → slice_get k.units u ≡ Some t → length gs ≡ p.globals
      → Reaches k table (suc n) (machine u 0 (a ∷ ks)
      (record { entries = []; locals = locals_of t.locals ts; globals = gs; buffers = out ∷ bufs }))
      (of_written q (seval_invocation the_filters (tree_at p.pool) (calls n) o ts gs) a.entries a.locals out bufs)
      (machine a.unit a.point ks)
  performed_runs n run_calls u None t ts gs q out bufs a ks is there e = search (arith, rules, slice_get-map)
  performed_runs n run_calls u (Some r) t ts gs q out bufs a ks is there e =
      let at = unit_at u r is in
      let same : unit_of r ≡ t = cc in
      let c = machine u 0 (a ∷ ks) (at_memory [] out bufs (begins r ts gs)) in
      let to = machine a.unit a.point ks in
      let s = run k (calls n) (body_asm r.body 0) (at_memory [] out bufs (begins r ts gs)) in
      let w = of_written q (bind (body n r ts gs) written) a.entries a.locals out bufs in
      subst (λ (v : Section). Reaches k table (suc n)
      (machine u 0 (a ∷ ks)
      (record { entries = []; locals = locals_of v.locals ts; globals = gs; buffers = out ∷ bufs })) w to) same
      (subst (λ d. Reaches k table (suc n) d w to) (sym (started u (a ∷ ks) r ts gs out bufs))
      (returns r (suc n) u c a ks q out bufs s (body n r ts gs) is (body_placed n u r ts gs is)
      (does_body n (keeps n) u r ts gs out bufs is e)
      (flat_runs k table n (calls n) run_calls (body_asm r.body 0) (unit_of r) u 0 (a ∷ ks)
      (at_memory [] out bufs (begins r ts gs)) at (front r) (places_at r u is))))

  -- Calls of the machine do what calls mean.
  runs_calls : (n : ℕ) → CallsRun k table n (calls n)
  runs_calls zero = λ u t ts gs q out bufs a ks is e. (0, omega arith, refl)
  runs_calls (suc n) = search (arith, rules, performed_runs, runs_calls n)

  abbrev globals : Pairs → List Tree
  globals x = with_locals p.globals (globals_of x p.names)

  starts : (x : Pairs) → start_machine k x ≡ machine 0 0 [] (at_memory [] [] [] (begins fit.entry [] (globals x)))
  starts x =
      let ls : locals_of (entry_locals k.units) [] ≡ with_locals fit.entry.locals [] =
      ap (λ n. locals_of n []) (first_locals p.routines fit.entry fit.is_entry) ∙ same_locals fit.entry.locals [] in
      let gs : filled x k.names (replicate k.globals tree.undefined) ≡ globals x =
      fills x p.names [] 0 p.globals refl fit.names in
      rw (ls, gs) refl

  pub follows : (x : Pairs) (n : ℕ) → Follows k table (start_machine k x) n (smean the_filters p x n)
  follows x n =
      let r = fit.entry in
      let m = begins r [] (globals x) in
      let c = machine 0 0 [] (at_memory [] [] [] m) in
      let main : smean the_filters p x n ≡ bind (bind (body n r [] (globals x)) written) (λ w. gives w.text) = ap
      (λ o. bind (seval_invocation the_filters (tree_at p.pool) (calls n) o [] (globals x)) (λ w. gives w.text))
      fit.is_entry in
      subst (λ d. Follows k table d n (smean the_filters p x n)) (sym (starts x))
      (subst (Follows k table c n) (sym main)
      (less n c (bind (bind (body n r [] (globals x)) written) (λ w. gives w.text))
      (ends r (suc n) c (run k (calls n) (body_asm r.body 0) (at_memory [] [] [] m)) (body n r [] (globals x))
      fit.is_entry (body_placed n 0 r [] (globals x) fit.is_entry)
      (does_body n (keeps n) 0 r [] (globals x) [] [] fit.is_entry (count_locals p.globals (globals_of x p.names)))
      (flat_runs k table n (calls n) (runs_calls n) (body_asm r.body 0) (unit_of r) 0 0 [] (at_memory [] [] [] m)
      (unit_at 0 r fit.is_entry) (front r) (places_at r 0 fit.is_entry)))))
    where
      less : (n : ℕ) (c : MachineState) (g : Eval Text) → Follows k table c (suc n) g → Follows k table c n g
      less n c g h = search (arith, rules)

  -- The result of a run that ends after `n` instructions is its meaning with calls at most `n`
  -- deep.
  over_too : (x : Pairs) (n : ℕ) (o : Free) (g : Eval Text) → o ≢ Going → placed_exec k table n (start_machine k x) ≡ o
      → Follows k table (start_machine k x) n g → o ≡ as_free g
  over_too x n o (gives t) over e f = one_free_end k table n f.0 (start_machine k x) o (Finished t) over (λ w. cc) e f.1
  over_too x n o (fails d q) over e f =
      one_free_end k table n f.0 (start_machine k x) o (Failed d q) over (λ w. cc) e f.1
  over_too x n o deeper over e f =
      let same = longer k table n f.0 (start_machine k x) o over f.1 e in
      absurd (over (sym same ∙ f.2))

  -- The result of the code's own run that ends after `n` instructions is its meaning with calls at
  -- most `n` deep.
  over_free : (x : Pairs) (n : ℕ) (o : Free) → o ≢ Going → exec k n (start_machine k x) ≡ o
      → o ≡ as_free (smean the_filters p x n)
  over_free x n o over e =
      over_too x n o (smean the_filters p x n) over (told_same k table (tells p) n (start_machine k x) ∙ e)
      (follows x n)

  text_meant : (t : Text) (g : Eval Text) → Finished t ≡ as_free g → g ≡ gives t
  text_meant t g e = search (arith, rules)

  fault_meant : (f : Fault) (q : Option Place) (g : Eval Text) → Failed f q ≡ as_free g → g ≡ fails f q
  fault_meant f q g e = search (arith, rules)

  comes : (x : Pairs) (o : Free) → (j : ℕ) × (placed_exec k table j (start_machine k x) ≡ o) → ComesTo k x o
  comes x o e = (e.0, sym (told_same k table (tells p) e.0 (start_machine k x)) ∙ e.1)

  -- The code in which equal constants are merged has the meaning of the program.
  module _ (merges : MergedLaws) (runs : HasRuns (compiled p)) where
    pub enough_text : (x : Pairs) (n : ℕ) (t : Text) → smean the_filters p x n ≡ gives t
        → Enough (compiled p) x (config.text t)
    enough_text x n t e =
        runs.enough_text x t (merges.came k x (Finished t)
        (comes x (Finished t) (subst (Follows k table (start_machine k x) n) e (follows x n))))

    pub enough_fault : (x : Pairs) (n : ℕ) (f : Fault) (q : Option Place) → smean the_filters p x n ≡ fails f q
        → Enough (compiled p) x (config.fault f q)
    enough_fault x n f q e =
        runs.enough_fault x f q (merges.came k x (Failed f q)
        (comes x (Failed f q) (subst (Follows k table (start_machine k x) n) e (follows x n))))

    pub text_means : (x : Pairs) (b : config.Budget) (t : Text) → Run (compiled p) x b (config.text t)
        → (n : ℕ) × (smean the_filters p x n ≡ gives t)
    text_means x b t r =
        let e = merges.comes k x (Finished t) (runs.text x b t r) in
        (e.0, text_meant t (smean the_filters p x e.0) (over_free x e.0 (Finished t) (λ w. cc) e.1))

    -- A fault of the machine has the place that it has in the meaning.
    pub fault_means : (x : Pairs) (b : config.Budget) (f : Fault) (q : Option Place)
        → Run (compiled p) x b (config.fault f q) → (n : ℕ) × (smean the_filters p x n ≡ fails f q)
    fault_means x b f q r =
        let e = merges.comes k x (Failed f q) (runs.fault x b f q r) in
        (e.0, fault_meant f q (smean the_filters p x e.0) (over_free x e.0 (Failed f q) (λ w. cc) e.1))
