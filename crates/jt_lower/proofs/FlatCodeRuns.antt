-- The machine executes the instructions of structured code as `run` defines it.
use Rattle.std.proofs.Common.{◌≡◌, ℕ, zero, suc, ◌+◌, ◌<◌, ◌≤◌, List, [], ◌∷◌, ◌++◌, length, Option, Some, None, Bool}
use Rattle.std.proofs.Common.{true, false, if◌then◌else◌, refl, ap, ◌∙◌, subst, arith, length-append, rules}
use Rattle.std.specs.Prelude.{slice_get, nat_lt, ◌==◌}
use Rattle.std.proofs.lemmas.Bool.Decides.{Decides-eqb}
use Rattle.jt_value.specs.Tree.{Tree, truth}
use Rattle.jt_image.specs.declared.instruction.Instruction.{Instruction}
use Rattle.jt_image.specs.declared.instruction.Instruction.TheVariants as op
use Rattle.jt_image.specs.Code.{Section, Code}
use Rattle.jt_image.specs.Config.{StackEntry, value, frame, capture, State, Caller, MachineState}
use Rattle.jt_image.specs.Loops.{advanced}
use Rattle.jt_image.specs.Step.{Plain, goes, faults_by, broken, plain, on_value, on_values, on_frame, with_entries}
use Rattle.jt_image.specs.Step.{goes_on, wrong, straight, no_demand, calling, locals_of, entered, calls_unit, action}
use Rattle.jt_image.specs.Step.{fetch}
use Rattle.jt_value.specs.Place.{Place}
use Rattle.jt_ast.specs.Expressions.{Text}
use Rattle.jt_ir.specs.Slots.{SCalls}
use Rattle.jt_image.specs.FreeRun.{Free, Failed, Going, on_action}
use Rattle.jt_lower.proofs.TablePlacedRuns.{Table, placed_at, placed_exec}
use Rattle.jt_lower.specs.Asm.{Asm, nil, one, both, choose, when, each, invoke, flat, places, AsmEval, does, stops}
use Rattle.jt_lower.specs.Asm.{too_deep, bad, and_then, of_plain, turns, turns_left, of_written, into_buffers, called}
use Rattle.jt_lower.specs.Asm.{run}
use Rattle.jt_lower.proofs.ListsInPlace.{StandsAt, stands_front, stands_back}

abbrev pub machine : ℕ → ℕ → List Caller → State → MachineState
machine u p ks m = record { unit = u; point = p; state = m; callers = ks }

-- Each instruction has one place.
pub placed : (a : Asm) (n : ℕ) → length (places a) ≡ length (flat a n)
placed (both a b) n = search (arith, rules, length-append, placed a n, placed b)
placed (choose a b) n = search (arith, rules, placed a (n + 1), placed b, length-append)
placed (when a) n = omega (arith, placed a (n + 1))
placed (each a) n = search (arith, rules, placed a (n + 1), length-append)
placed a n = refl

module _ (k : Code) (table : Table) where
  abbrev pub exec : ℕ → MachineState → Free
  exec n m = placed_exec k table n m

  -- The machine gets from one configuration to another in at least one step.
  pub record Leads (c c' : MachineState) : Type 0 where
    pub by : (n : ℕ) → (j : ℕ) × (n < j) × (exec j c ≡ exec n c')

  -- The machine gets from one configuration to another in any number of steps.
  pub record Comes (c c' : MachineState) : Type 0 where
    pub by : (n : ℕ) → (j : ℕ) × (n ≤ j) × (exec j c ≡ exec n c')

  -- The machine has this result from `c`. If calls are too deep, it continues for at least `n`
  -- steps.
  abbrev pub Reaches : ℕ → MachineState → AsmEval → (State → MachineState) → Type 0
  Reaches n c (does m) to = Comes c (to m)
  Reaches n c (stops e q) to = (j : ℕ) × (exec j c ≡ Failed e q)
  Reaches n c too_deep to = (j : ℕ) × (n ≤ j) × (exec j c ≡ Going)
  Reaches n c bad to = Unit {0}

  pub stays : (c : MachineState) → Comes c c
  stays c = record { by = λ n. (n, omega arith, refl) }

  pub leads_comes : (c c' : MachineState) → Leads c c' → Comes c c'
  leads_comes c c' l = record { by = λ n. let a = l.by n in (a.0, omega (arith, a.1), a.2) }

  pub comes_on : (c c1 c2 : MachineState) → Comes c c1 → Comes c1 c2 → Comes c c2
  comes_on c c1 c2 l r =
      record { by = λ n. let b = r.by n in let a = l.by b.0 in (a.0, omega (arith, a.1, b.1), a.2 ∙ b.2) }

  -- If steps lead to a configuration that has a result, the first configuration has the result.
  pub before : (n : ℕ) (c c' : MachineState) (r : AsmEval) (to : State → MachineState) → Comes c c' → Reaches n c' r to
      → Reaches n c r to
  before n c c' (does m) to l h = comes_on c c' (to m) l h
  before n c c' (stops e q) to l h = let a = l.by h.0 in (a.0, a.2 ∙ h.1)
  before n c c' too_deep to l h = let a = l.by h.0 in (a.0, omega (arith, a.1, h.1), a.2 ∙ h.2)
  before n c c' bad to l h = tt

  -- If the step of a call leads to a configuration that has a result, the first configuration has
  -- the result, one call deeper.
  pub deeper_by : (n : ℕ) (c c' : MachineState) (r : AsmEval) (to : State → MachineState) → Leads c c'
      → Reaches n c' r to → Reaches (suc n) c r to
  deeper_by n c c' (does m) to l h = comes_on c c' (to m) (leads_comes c c' l) h
  deeper_by n c c' (stops e q) to l h = let a = l.by h.0 in (a.0, a.2 ∙ h.1)
  deeper_by n c c' too_deep to l h = let a = l.by h.0 in (a.0, omega (arith, a.1, h.1), a.2 ∙ h.2)
  deeper_by n c c' bad to l h = tt

  -- If a second run follows a run, the two are one run.
  pub both_run : (n : ℕ) (c : MachineState) (r : AsmEval) (f : State → AsmEval) (mid to : State → MachineState)
      → Reaches n c r mid → ((m : State) → Reaches n (mid m) (f m) to) → Reaches n c (and_then r f) to
  both_run n c r f mid to h g = search (arith, rules, before)

  -- If steps follow a run, the run leads to their end.
  pub behind : (n : ℕ) (c : MachineState) (r : AsmEval) (mid to : State → MachineState)
      → ((m : State) → Comes (mid m) (to m)) → Reaches n c r mid → Reaches n c r to
  behind n c r mid to g h = search (arith, rules, comes_on)

  pub step : (t : Section) (u p : ℕ) (ks : List Caller) (m : State) (i : Instruction) → fetch k u p ≡ Some (t, i)
      → (n : ℕ) → exec (suc n) (machine u p ks m) ≡ on_action (table u p) (action k t i (machine u p ks m)) (exec n)
  step t u p ks m i h n = ap (λ o. placed_at k table o (machine u p ks m) (exec n)) h

  straight_run : (n : ℕ) (u p : ℕ) (ks : List Caller) (m : State) (q : Option Place) (s : Plain) → table u p ≡ q
      → ((j : ℕ) → exec (suc j) (machine u p ks m) ≡ on_action (table u p) (straight s (machine u p ks m)) (exec j))
      → Reaches n (machine u p ks m) (of_plain q s) (machine u (p + 1) ks)
  straight_run n u p ks m q (goes m' d) e st = record { by = λ j. (suc j, omega arith, st j) }
  straight_run n u p ks m q (faults_by f) e st = (1, st 0 ∙ ap (Failed f) e)
  straight_run n u p ks m q broken e st = tt

  one_run : (n : ℕ) (t : Section) (u p : ℕ) (ks : List Caller) (m : State) (q : Option Place) (i : Instruction)
      → table u p ≡ q → fetch k u p ≡ Some (t, i)
      → Reaches n (machine u p ks m) (of_plain q (plain k i m)) (machine u (p + 1) ks)
  one_run n t u p ks m q i e h = search (arith, rules, straight_run, q, step)

  jumps : (t : Section) (u p q : ℕ) (ks : List Caller) (m : State) → fetch k u p ≡ Some (t, op.Jump q)
      → Comes (machine u p ks m) (machine u q ks m)
  jumps t u p q ks m h = record { by = λ n. (suc n, omega arith, step t u p ks m (op.Jump q) h n) }

  -- A run has the same end at an equal point.
  ends_at : (n : ℕ) (c : MachineState) (r : AsmEval) (u p q : ℕ) (ks : List Caller) → p ≡ q
      → Reaches n c r (machine u p ks) → Reaches n c r (machine u q ks)
  ends_at n c r u p q ks e h = subst (λ x. Reaches n c r (machine u x ks)) e h

  -- The popped value selects the part of a choice that is executed.
  choose_run : (n : ℕ) (t : Section) (u p : ℕ) (ks : List Caller) (m : State) (ca cb : List Instruction)
      (ra rb : State → AsmEval) (es : List StackEntry)
      →
      let q = p + 1 + length ca + 1 in
      ((j : ℕ) → exec (suc j) (machine u p ks m)
      ≡ on_action (table u p)
      (on_value es wrong (λ v fs. goes_on (machine u (if truth v then p + 1 else q) ks (with_entries m fs)) no_demand))
      (exec j))
      →
      fetch k u (p + 1 + length ca) ≡ Some (t, op.Jump (q + length cb)) →
      ((m : State) → Reaches n (machine u (p + 1) ks m) (ra m) (machine u (p + 1 + length ca) ks)) →
      ((m : State) → Reaches n (machine u q ks m) (rb m) (machine u (q + length cb) ks)) →
      Reaches n (machine u p ks m)
      (on_value es bad (λ v fs. if truth v then ra (with_entries m fs) else rb (with_entries m fs)))
      (machine u (q + length cb) ks)
  choose_run n t u p ks m ca cb ra rb [] st at ha hb = tt
  choose_run n t u p ks m ca cb ra rb (frame f ∷ es) st at ha hb = tt
  choose_run n t u p ks m ca cb ra rb (capture ∷ es) st at ha hb = tt
  choose_run n t u p ks m ca cb ra rb (value v ∷ es) st at ha hb = way (truth v) (λ j. st j)
    where
      q : ℕ
      q = p + 1 + length ca + 1

      m' : State
      m' = with_entries m es

      way : (b : Bool) → ((j : ℕ) → exec (suc j) (machine u p ks m) ≡ exec j (machine u (if b then p + 1 else q) ks m'))
          → Reaches n (machine u p ks m) (if b then ra m' else rb m') (machine u (q + length cb) ks)
      way true e =
          before n _ (machine u (p + 1) ks m') (ra m') _ (record { by = λ j. (suc j, omega arith, e j) })
          (behind n _ (ra m') (machine u (p + 1 + length ca) ks) (machine u (q + length cb) ks)
          (λ x. jumps t u (p + 1 + length ca) (q + length cb) ks x at) (ha m'))
      way false e =
          before n _ (machine u q ks m') (rb m') _ (record { by = λ j. (suc j, omega arith, e j) }) (hb m')

  when_run : (n : ℕ) (u p : ℕ) (ks : List Caller) (m : State) (ca : List Instruction) (ra : State → AsmEval)
      (es : List StackEntry)
      →
      let q = p + 1 + length ca in
      ((j : ℕ) → exec (suc j) (machine u p ks m)
      ≡ on_action (table u p)
      (on_value es wrong (λ v fs. goes_on (machine u (if truth v then p + 1 else q) ks (with_entries m fs)) no_demand))
      (exec j))
      →
      ((m : State) → Reaches n (machine u (p + 1) ks m) (ra m) (machine u q ks)) →
      Reaches n (machine u p ks m)
      (on_value es bad (λ v fs. if truth v then ra (with_entries m fs) else does (with_entries m fs))) (machine u q ks)
  when_run n u p ks m ca ra [] st ha = tt
  when_run n u p ks m ca ra (frame f ∷ es) st ha = tt
  when_run n u p ks m ca ra (capture ∷ es) st ha = tt
  when_run n u p ks m ca ra (value v ∷ es) st ha = way (truth v) (λ j. st j)
    where
      q : ℕ
      q = p + 1 + length ca

      m' : State
      m' = with_entries m es

      way : (b : Bool) → ((j : ℕ) → exec (suc j) (machine u p ks m) ≡ exec j (machine u (if b then p + 1 else q) ks m'))
          → Reaches n (machine u p ks m) (if b then ra m' else does m') (machine u q ks)
      way true e =
          before n _ (machine u (p + 1) ks m') (ra m') (machine u q ks) (record { by = λ j. (suc j, omega arith, e j) })
          (ha m')
      way false e = record { by = λ j. (suc j, omega arith, e j) }

  -- A loop executes another turn, or ends.
  turn_run : (n : ℕ) (u p q : ℕ) (ks : List Caller) (m : State) (body : State → AsmEval) (to : State → MachineState)
      (es : List StackEntry)
      → ((j : ℕ) → exec (suc j) (machine u p ks m)
      ≡ on_action (table u p) (on_frame es wrong
      (λ f fs. if nat_lt f.position (length f.items)
      then goes_on (machine u (p + 1) ks (with_entries m (frame (advanced f) ∷ fs))) no_demand
      else goes_on (machine u q ks m) no_demand)) (exec j))
      → ((m : State) → Reaches n (machine u (p + 1) ks m) (body m) to) → Comes (machine u q ks m) (to m)
      → Reaches n (machine u p ks m) (on_frame es bad
      (λ f fs. if nat_lt f.position (length f.items) then body (with_entries m (frame (advanced f) ∷ fs)) else does m))
      to
  turn_run n u p q ks m body to [] st hb end = tt
  turn_run n u p q ks m body to (value v ∷ es) st hb end = tt
  turn_run n u p q ks m body to (capture ∷ es) st hb end = tt
  turn_run n u p q ks m body to (frame f ∷ es) st hb end = way (nat_lt f.position (length f.items)) (λ j. st j)
    where
      m' : State
      m' = with_entries m (frame (advanced f) ∷ es)

      way : (b : Bool) → ((j : ℕ) → exec (suc j) (machine u p ks m)
          ≡ on_action (table u p)
          (if b then goes_on (machine u (p + 1) ks m') no_demand else goes_on (machine u q ks m) no_demand) (exec j))
          → Reaches n (machine u p ks m) (if b then body m' else does m) to
      way true e =
          before n _ (machine u (p + 1) ks m') (body m') to (record { by = λ j. (suc j, omega arith, e j) }) (hb m')
      way false e = comes_on _ (machine u q ks m) (to m) (record { by = λ j. (suc j, omega arith, e j) }) end

  loop_run : (n : ℕ) (t : Section) (u p : ℕ) (ks : List Caller) (ca : List Instruction) (body : State → AsmEval) →
      let q = p + 1 + length ca + 1 in
      fetch k u p ≡ Some (t, op.LoopNext q) →
      fetch k u (p + 1 + length ca) ≡ Some (t, op.Jump p) →
      ((m : State) → Reaches n (machine u (p + 1) ks m) (body m) (machine u (p + 1 + length ca) ks)) →
      (j : ℕ) (m : State) → Reaches n (machine u p ks m) (turns body j m) (machine u q ks)
  loop_run n t u p ks ca body top end hb zero m =
      let q = p + 1 + length ca + 1 in
      turn_run n u p q ks m (λ x. bad) (machine u q ks) m.entries (step t u p ks m (op.LoopNext q) top) (λ x. tt)
      (stays (machine u q ks m))
  loop_run n t u p ks ca body top end hb (suc j) m =
      let q = p + 1 + length ca + 1 in
      turn_run n u p q ks m (λ x. and_then (body x) (turns body j)) (machine u q ks) m.entries
      (step t u p ks m (op.LoopNext q) top)
      (λ x. both_run n (machine u (p + 1) ks x) (body x) (turns body j) (machine u (p + 1 + length ca) ks)
      (machine u q ks) (hb x)
      (λ y. before n _ (machine u p ks y) (turns body j y) (machine u q ks) (jumps t u (p + 1 + length ca) p ks y end)
      (loop_run n t u p ks ca body top end hb j y)))
      (stays (machine u q ks m))

  -- The table has these places from this point on.
  abbrev pub PlacesAt : ℕ → ℕ → List (Option Place) → Type 0
  PlacesAt u p [] = Unit {0}
  PlacesAt u p (q ∷ qs) = (table u p ≡ q) × PlacesAt u (p + 1) qs

  pub places_front : (u p : ℕ) (a b : List (Option Place)) → PlacesAt u p (a ++ b) → PlacesAt u p a
  places_front u p [] b h = tt
  places_front u p (q ∷ a) b h = (h.0, places_front u (p + 1) a b h.1)

  places_back : (u p r : ℕ) (a b : List (Option Place)) → r ≡ p + length a → PlacesAt u p (a ++ b) → PlacesAt u r b
  places_back u p r [] b e h = let e' : p ≡ r = omega arith in subst (λ n. PlacesAt u n b) e' h
  places_back u p r (q ∷ a) b e h = places_back u (p + 1) r a b (omega arith) h.1

  -- The instruction that is fetched at a point is the one in the code.
  pub fetched : (t : Section) (u p : ℕ) (i : Instruction) → slice_get k.units u ≡ Some t → slice_get t.code p ≡ Some i
      → fetch k u p ≡ Some (t, i)
  fetched t u p i e f = rw (e, f) refl

  -- The condition on calls. A call starts at the first instruction of its unit, with the number of
  -- globals of the code. It returns with the text and the globals of its meaning.
  abbrev pub CallsRun : ℕ → SCalls → Type 0
  CallsRun n call =
      (u : ℕ) (t : Section) (ts gs : List Tree) (q : Option Place) (out : Text) (bufs : List (List ℕ)) (a : Caller)
      (ks : List Caller)
      → slice_get k.units u ≡ Some t → length gs ≡ k.globals
      → Reaches n (machine u 0 (a ∷ ks)
      (record { entries = []; locals = locals_of t.locals ts; globals = gs; buffers = out ∷ bufs }))
      (of_written q (call u ts gs) a.entries a.locals out bufs) (machine a.unit a.point ks)

  module _ (n : ℕ) (call : SCalls) (calls : CallsRun n call) where
    -- A call is executed: its step, then its unit.
    enter_run : (v : ℕ) (t : Section) (u p : ℕ) (ks : List Caller) (q : Option Place) (ls gs ts : List Tree)
        (bufs : List (List ℕ)) (es all : List StackEntry)
        → slice_get k.units v ≡ Some t →
        let m : State = record { entries = all; locals = ls; globals = gs; buffers = bufs } in
        ((j : ℕ) → exec (suc j) (machine u p ks m)
        ≡ on_action (table u p) (goes_on (entered v t ts es (machine u p ks m)) calling) (exec j))
        →
        (b : Bool) → (length gs == k.globals) ≡ b →
        Reaches (suc n) (machine u p ks m) (if b then into_buffers q (call v ts gs) es ls bufs else bad)
        (machine u (p + 1) ks)
    enter_run v t u p ks q ls gs ts bufs es all is st false e = tt
    enter_run v t u p ks q ls gs ts [] es all is st true e = tt
    enter_run v t u p ks q ls gs ts (out ∷ bufs) es all is st true e =
        let a : Caller = record { unit = u; point = p + 1; locals = ls; entries = es } in
        deeper_by n _ _ (of_written q (call v ts gs) es ls out bufs) (machine u (p + 1) ks)
        (record { by = λ j. (suc j, omega arith, st j) })
        (calls v t ts gs q out bufs a ks is ((Decides-eqb (length gs) k.globals).0 e))

    -- The arguments are popped.
    args_run : (v : ℕ) (t : Section) (u p : ℕ) (ks : List Caller) (q : Option Place) (m : State) (i : ℕ)
        (ts : List Tree) (es : List StackEntry)
        → slice_get k.units v ≡ Some t →
        ((j : ℕ) → exec (suc j) (machine u p ks m)
        ≡ on_action (table u p)
        (on_values i ts es wrong (λ ts fs. goes_on (entered v t ts fs (machine u p ks m)) calling)) (exec j))
        →
        Reaches (suc n) (machine u p ks m) (on_values i ts es bad
        (λ ts fs.
        if length m.globals == k.globals then into_buffers q (call v ts m.globals) fs m.locals m.buffers else bad))
        (machine u (p + 1) ks)
    args_run v t u p ks q m zero ts es is st =
        enter_run v t u p ks q m.locals m.globals ts m.buffers es m.entries is st (length m.globals == k.globals) refl
    args_run v t u p ks q m (suc i) ts [] is st = tt
    args_run v t u p ks q m (suc i) ts (value x ∷ es) is st = args_run v t u p ks q m i (x ∷ ts) es is st
    args_run v t u p ks q m (suc i) ts (frame f ∷ es) is st = tt
    args_run v t u p ks q m (suc i) ts (capture ∷ es) is st = tt

    invoke_run : (v : ℕ) (s : Option Section) (u p : ℕ) (ks : List Caller) (q : Option Place) (m : State)
        → slice_get k.units v ≡ s →
        ((j : ℕ) → exec (suc j) (machine u p ks m) ≡ on_action (table u p) (calls_unit v s (machine u p ks m)) (exec j))
        →
        Reaches (suc n) (machine u p ks m) (called q k call v s m) (machine u (p + 1) ks)
    invoke_run v s u p ks q m is st = search (arith, rules, args_run)

    pub flat_runs : (a : Asm) (t : Section) (u p : ℕ) (ks : List Caller) (m : State) → slice_get k.units u ≡ Some t
        → StandsAt t.code p (flat a p) → PlacesAt u p (places a)
        → Reaches (suc n) (machine u p ks m) (run k call a m) (machine u (p + length (flat a p)) ks)
    flat_runs nil t u p ks m is h w =
        record { by = λ j. let e : p ≡ p + 0 = omega arith in (j, omega arith, ap (λ x. exec j (machine u x ks m)) e) }
    flat_runs (one q i) t u p ks m is h w = one_run (suc n) t u p ks m q i w.0 (fetched t u p i is h.0)
    flat_runs (both a b) t u p ks m is h w =
        let ca = flat a p in let cb = flat b (p + length ca) in
        let len : p + length ca + length cb ≡ p + length (ca ++ cb) = omega (arith, length-append ca cb) in
        ends_at (suc n) _ (and_then (run k call a m) (run k call b)) u _ _ ks len
        (both_run (suc n) _ (run k call a m) (run k call b) (machine u (p + length ca) ks)
        (machine u (p + length ca + length cb) ks)
        (flat_runs a t u p ks m is (stands_front _ p ca cb h) (places_front u p (places a) (places b) w))
        (λ x. flat_runs b t u (p + length ca) ks x is (stands_back _ p ca cb h)
        (places_back u p (p + length ca) (places a) (places b) (omega (arith, placed a p)) w)))
    flat_runs (choose a b) t u p ks m is h w =
        let ca = flat a (p + 1) in let q = p + 1 + length ca + 1 in let cb = flat b q in
        let end = stands_back _ (p + 1) ca (op.Jump (q + length cb) ∷ cb) h.1 in
        let len : q + length cb ≡ p + length (op.JumpIfFalse q ∷ (ca ++ op.Jump (q + length cb) ∷ cb)) =
        omega (arith, length-append ca (op.Jump (q + length cb) ∷ cb)) in
        ends_at (suc n) _ (run k call (choose a b) m) u _ _ ks len
        (choose_run (suc n) t u p ks m ca cb (run k call a) (run k call b) m.entries
        (step t u p ks m (op.JumpIfFalse q) (fetched t u p (op.JumpIfFalse q) is h.0))
        (fetched t u (p + 1 + length ca) (op.Jump (q + length cb)) is end.0)
        (λ x. flat_runs a t u (p + 1) ks x is (stands_front _ (p + 1) ca _ h.1)
        (places_front u (p + 1) (places a) (None ∷ places b) w.1))
        (λ x. flat_runs b t u q ks x is end.1 (places_back u (p + 1) (p + 1 + length ca) (places a) (None ∷ places b)
        (omega (arith, placed a (p + 1))) w.1).1))
    flat_runs (when a) t u p ks m is h w =
        let ca = flat a (p + 1) in let q = p + 1 + length ca in
        let len : q ≡ p + length (op.JumpIfFalse q ∷ ca) = omega arith in
        ends_at (suc n) _ (run k call (when a) m) u _ _ ks len
        (when_run (suc n) u p ks m ca (run k call a) m.entries
        (step t u p ks m (op.JumpIfFalse q) (fetched t u p (op.JumpIfFalse q) is h.0))
        (λ x. flat_runs a t u (p + 1) ks x is h.1 w.1))
    flat_runs (each a) t u p ks m is h w =
        let ca = flat a (p + 1) in let q = p + 1 + length ca + 1 in
        let len : q ≡ p + length (op.LoopNext q ∷ (ca ++ op.Jump p ∷ [])) =
        omega (arith, length-append ca (op.Jump p ∷ [])) in
        ends_at (suc n) _ (run k call (each a) m) u _ _ ks len
        (loop_run (suc n) t u p ks ca (run k call a) (fetched t u p (op.LoopNext q) is h.0)
        (fetched t u (p + 1 + length ca) (op.Jump p) is (stands_back _ (p + 1) ca (op.Jump p ∷ []) h.1).0)
        (λ x. flat_runs a t u (p + 1) ks x is (stands_front _ (p + 1) ca _ h.1)
        (places_front u (p + 1) (places a) (None ∷ []) w.1))
        (turns_left m.entries) m)
    flat_runs (invoke q v) t u p ks m is h w = search (arith, rules, invoke_run, step, fetched)
