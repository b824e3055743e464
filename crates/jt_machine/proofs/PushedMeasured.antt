-- The values that an instruction pushes are on top of the stack after it, and its demand has their
-- greatest size and nesting.
use Rattle.jt_machine.proofs.Vocabulary.{Action, Budget, Caller, Code, Config, Fault, Frame, Goes, HasValues}
use Rattle.jt_machine.proofs.Vocabulary.{Instruction, Items, Next, Place, Section, StackEntry, Tree, as_frame, back_to}
use Rattle.jt_machine.proofs.Vocabulary.{begins, broken, capture, cost, faults_by, frame, goes, goes_on, greatest}
use Rattle.jt_machine.proofs.Vocabulary.{listed, mapped, next, next_at, no_demand, on_value, on_values, operands_of}
use Rattle.jt_machine.proofs.Vocabulary.{operator_of, piled, place_at, placed, push_given, pushing, pushing_all}
use Rattle.jt_machine.proofs.Vocabulary.{put_printed, spends, straight, strict, Ends, Wrong, value, values_at}
use Rattle.jt_machine.proofs.Vocabulary.{values_on}
use Rattle.jt_machine.proofs.Vocabulary.{filter_of, filtered_by, items_of_tree, keeping, operated, shown, slice_get}
use Rattle.jt_machine.proofs.Vocabulary.{slice_set}
use Rattle.jt_machine.proofs.Vocabulary.{test_of, tested_by}
use Rattle.jt_machine.proofs.Vocabulary.{advanced, append-nil, calling, entered, nat_lt, nat_tests, trees_of}
use Rattle.jt_machine.proofs.Vocabulary.{with_entries, wrong}
use Rattle.std.specs.Prelude.{◌⊎◌, if◌then◌else◌, ◌==◌}
use Rattle.std.proofs.Common.{◌≡◌, ◌∙◌, ℕ, zero, suc, ◌+◌, ◌*◌, Bool, true, false, cond, List, [], ◌∷◌, ◌++◌, length}
use Rattle.std.proofs.Common.{Option, Some, None, Result, Ok, Err, inl, inr, refl, sym, ap, subst, arith, rules}
use Rattle.std.proofs.Common.{append_assoc}
use Rattle.jt_value.specs.Tree as tree
use Rattle.jt_image.specs.Config.{MachineState, State}
use Rattle.jt_image.specs.Step.{Demand, Given, Plain, action, calls_unit, closes, disorder, ends, faulty, given_by}
use Rattle.jt_image.specs.Step.{jump_on, makes, nothing, on_capture, on_frame, plain, put, result, spreads, turns}
use Rattle.jt_image.specs.Step.{at_point, fetch, in_tables, loop_field_or_undefined, text_of, unpacks}
use Rattle.jt_ids.specs.LoopTable.{field_of}
use Rattle.jt_image.specs.declared.instruction.Instruction.TheVariants as op
use Rattle.jt_machine.specs.Metering.{demand_at, demand_of, next_demand}
use Rattle.jt_machine.specs.internal.Peaks.{has_result, pushed_at, pushed_of, pushed_there}
use Rattle.jt_value.specs.declared.fault.Fault.TheVariants as faults
use Rattle.jt_machine.proofs.LimitsRaised.{ends_not, faulty_not, has_passed}

-- The demand is that of the top `n` entries, which are values. No instruction both calls and returns.
pub record AreMeasured (n : ℕ) (w : Demand) (es : List StackEntry) : Type 0 where
  pub has : HasValues n es
  pub size : w.size ≡ greatest tree.size (values_at n es)
  pub nesting : w.nesting ≡ greatest tree.nesting (values_at n es)
  pub level : (w.calls ≡ 0) ⊎ (w.returns ≡ 0)

-- ---- actions that neither jump nor call

abbrev IsMeasured : ℕ → Plain → Type 0
IsMeasured n (goes s w) = AreMeasured n w s.entries
IsMeasured n (faults_by f) = Unit {0}
IsMeasured n broken = Unit {0}

pub none_pushed : (w : Demand) (es : List StackEntry) → w.size ≡ 0 → w.nesting ≡ 0
    → (w.calls ≡ 0) ⊎ (w.returns ≡ 0) → AreMeasured 0 w es
none_pushed w es h i l =
    record { has = record { values = []; rest = es; is = refl }; size = h; nesting = i; level = l }

pub one_pushed : (t : Tree) (w : Demand) (es : List StackEntry) → w.size ≡ tree.size t → w.nesting ≡ tree.nesting t
    → w.calls ≡ 0 → AreMeasured 1 w (value t ∷ es)
one_pushed t w es h i l = record {
  has = record { values = t ∷ []; rest = es; is = refl };
  size = omega (arith, h);
  nesting = omega (arith, i);
  level = inl l;
}

pushes : (t : Tree) (es : List StackEntry) (m : State) → IsMeasured 1 (goes (with_entries m (value t ∷ es)) (pushing t))
pushes t es m = one_pushed t (pushing t) es refl refl refl

given_pushed : (r : Result Tree Fault) (es : List StackEntry) (m : State) → IsMeasured 1 (push_given r es m)
given_pushed (Ok t) es m = pushes t es m
given_pushed (Err f) es m = tt

value_then : (n : ℕ) (es : List StackEntry) (f : Tree → List StackEntry → Plain)
    → ((t : Tree) → (fs : List StackEntry) → IsMeasured n (f t fs)) → IsMeasured n (on_value es broken f)
value_then n [] f h = tt
value_then n (value t ∷ es) f h = h t es
value_then n (frame x ∷ es) f h = tt
value_then n (capture ∷ es) f h = tt

values_then : (n m : ℕ) (ts : List Tree) (es : List StackEntry) (f : List Tree → List StackEntry → Plain)
    → ((us : List Tree) → (fs : List StackEntry) → IsMeasured n (f us fs)) → IsMeasured n (on_values m ts es broken f)
values_then n zero ts es f h = h ts es
values_then n (suc m) ts es f h = value_then n es _ (λ t fs. values_then n m (t ∷ ts) fs f h)

frame_then : (n : ℕ) (es : List StackEntry) (f : Frame → List StackEntry → Plain)
    → ((x : Frame) → (fs : List StackEntry) → IsMeasured n (f x fs)) → IsMeasured n (on_frame es broken f)
frame_then n [] f h = tt
frame_then n (value t ∷ es) f h = tt
frame_then n (frame x ∷ es) f h = h x es
frame_then n (capture ∷ es) f h = tt

capture_then : (n : ℕ) (es : List StackEntry) (f : List StackEntry → Plain)
    → ((fs : List StackEntry) → IsMeasured n (f fs)) → IsMeasured n (on_capture es broken f)
capture_then n [] f h = tt
capture_then n (value t ∷ es) f h = tt
capture_then n (frame x ∷ es) f h = tt
capture_then n (capture ∷ es) f h = h es

loop_then : (n : ℕ) (o : Option StackEntry) (f : Frame → Plain) → ((x : Frame) → IsMeasured n (f x))
    → IsMeasured n (as_frame o broken f)
loop_then n None f h = tt
loop_then n (Some (value t)) f h = tt
loop_then n (Some (frame x)) f h = h x
loop_then n (Some capture) f h = tt

made_pushed : (n : ℕ) (operate : List Tree → Result Tree Fault) (m : State) → IsMeasured 1 (makes n operate m)
made_pushed n operate m = values_then 1 n [] m.entries _ (λ ts es. given_pushed (operate ts) es m)

put_pushed : (bytes : List ℕ) (bs : List (List ℕ)) (m : State) → IsMeasured 0 (put bytes bs m)
put_pushed bytes [] m = tt
put_pushed bytes (b ∷ bs) m = none_pushed _ m.entries refl refl (inl refl)

printed_pushed : (o : Option (List ℕ)) (m : State) → IsMeasured 0 (put_printed o m)
printed_pushed None m = tt
printed_pushed (Some bytes) m = put_pushed bytes m.buffers m

begun_pushed : (r : Result Items Fault) (es : List StackEntry) (m : State) → IsMeasured 0 (begins r es m)
begun_pushed (Ok ts) es m = none_pushed no_demand _ refl refl (inl refl)
begun_pushed (Err f) es m = tt

closed_pushed : (marked : Bool) (bs : List (List ℕ)) (es : List StackEntry) (m : State)
    → IsMeasured 1 (closes marked bs es m)
closed_pushed marked [] es m = tt
closed_pushed marked (b ∷ []) es m = tt
closed_pushed marked (b ∷ d ∷ bs) es m = one_pushed _ _ es refl refl refl

-- ---- several values

-- The values that were pushed are popped again.
piled_found : {A : Type 0} (ts us : List Tree) (n : ℕ) (es : List StackEntry) (a : A)
    (f : List Tree → List StackEntry → A)
    → on_values (length ts + n) us (piled ts es) a f ≡ on_values n (ts ++ us) es a f
piled_found [] us n es a f = let e : 0 + n ≡ n = omega arith in rw e refl
piled_found (t ∷ ts) us n es a f =
    let e : suc (length ts) + n ≡ length ts + suc n = omega arith in
    rw e (piled_found ts us (suc n) (value t ∷ es) a f)

spread_measured : (ts : List Tree) (es : List StackEntry) → AreMeasured (length ts) (pushing_all ts) (piled ts es)
spread_measured ts es =
    let none : length ts + 0 ≡ length ts = omega arith in
    let there : values_on (length ts) (piled ts es) ≡ Some (ts ++ [], es) = rw none at
    (piled_found {A = Option (List Tree × List StackEntry)} ts [] 0 es None (λ us rest. Some (us, rest))) in
    let same : values_at (length ts) (piled ts es) ≡ ts ++ [] = rw none at (piled_found {A = List Tree} ts [] 0 es
    [] (λ us rest. us)) in
    record {
      has = record { values = ts ++ []; rest = es; is = there };
      size = sym (ap (greatest tree.size) (same ∙ append-nil ts));
      nesting = sym (ap (greatest tree.nesting) (same ∙ append-nil ts));
      level = inl refl;
    }

spread_pushed : (n : ℕ) (ts : List Tree) (es : List StackEntry) (m : State) → IsMeasured n (spreads n ts es m)
spread_pushed n ts es m = along (length ts == n) refl
  where
    along : (z : Bool) → (length ts == n) ≡ z
        → IsMeasured n (cond z (goes (with_entries m (piled ts es)) (pushing_all ts)) (faults_by faults.Unpack))
    along true e = let same : length ts ≡ n = grind (arith, nat_tests) in rw (← same) (spread_measured ts es)
    along false e = tt

unpacked_pushed : (n : ℕ) (r : Result Items Fault) (es : List StackEntry) (m : State)
    → IsMeasured n (unpacks n r es m)
unpacked_pushed n (Ok ts) es m = spread_pushed n (trees_of ts) es m
unpacked_pushed n (Err f) es m = tt

plain_measured : (g : Bool) (k : Code) (i : Instruction) (m : State) → IsMeasured (pushed_of g i) (plain k i m)
plain_measured g k (op.Const c) m = pushes _ m.entries m
plain_measured g k (op.Load c) m = pushes _ m.entries m
plain_measured g k (op.Store c) m = value_then 0 m.entries _ (λ t es. none_pushed no_demand _ refl refl (inl refl))
plain_measured g k (op.GLoad c) m = pushes _ m.entries m
plain_measured g k (op.GStore c) m = value_then 0 m.entries _ (λ t es. none_pushed no_demand _ refl refl (inl refl))
plain_measured g k op.Drop m = value_then 0 m.entries _ (λ t es. none_pushed no_demand _ refl refl (inl refl))
plain_measured g k op.Dup m = value_then 1 m.entries _ (λ t es. pushes t (value t ∷ es) m)
plain_measured g k (op.Emit a) m =
    value_then 0 m.entries _ (λ t es. printed_pushed (shown (a == 1) t) (with_entries m es))
plain_measured g k (op.Data c) m = put_pushed (text_of (slice_get k.constants c)) m.buffers m
plain_measured g k (op.Jump c) m = tt
plain_measured g k (op.JumpIfFalse c) m = tt
plain_measured g k (op.JumpIfTrue c) m = tt
plain_measured g k (op.Op a) m = made_pushed (operands_of (operator_of a)) (operated (operator_of a)) m
plain_measured g k (op.Filter a b c) m = made_pushed b (filtered_by (filter_of a) (c == 1)) m
plain_measured g k (op.Test a b) m = made_pushed b (tested_by (test_of a)) m
plain_measured g k (op.MakeList c) m = made_pushed c listed m
plain_measured g k (op.MakeMap c) m = made_pushed (2 * c) mapped m
plain_measured g k op.LoopStart m = value_then 0 m.entries _ (λ t es. begun_pushed (items_of_tree t) es m)
plain_measured g k (op.LoopNext c) m = tt
plain_measured g k (op.LoopGet a c) m =
    loop_then 1 (slice_get m.entries c) (λ f. push_given (loop_field_or_undefined (field_of a) f) m.entries m)
    (λ f. given_pushed (loop_field_or_undefined (field_of a) f) m.entries m)
plain_measured g k (op.LoopKeep c) m =
    value_then 0 m.entries _ (λ t es.
    loop_then 0 (slice_get es c)
    (λ f. goes (with_entries m (if tree.truth t then slice_set es c (frame (keeping f)) else es)) no_demand)
    (λ f.
    none_pushed no_demand (if tree.truth t then slice_set es c (frame (keeping f)) else es) refl refl (inl refl)))
plain_measured g k op.LoopRewind m =
    frame_then 0 m.entries _ (λ f es. none_pushed no_demand _ refl refl (inl refl))
plain_measured g k op.LoopEnd m = frame_then 1 m.entries _ (λ f es. pushes (tree.truth_value (f.position == 0)) es m)
plain_measured g k op.CaptureBegin m = none_pushed no_demand _ refl refl (inl refl)
plain_measured g k (op.CaptureEnd a) m =
    capture_then 1 m.entries _ (λ es. closed_pushed (a == 1) m.buffers es m)
plain_measured g k (op.Unpack c) m =
    value_then c m.entries _ (λ t es. unpacked_pushed c (items_of_tree t) es m)
plain_measured g k (op.Call c) m = tt
plain_measured g k op.Return m = tt

-- ---- every action

abbrev ActsMeasured : ℕ → Action → Type 0
ActsMeasured n (goes_on m w) = AreMeasured n w m.state.entries
ActsMeasured n (ends t) = Unit {0}
ActsMeasured n (faulty f) = Unit {0}
ActsMeasured n wrong = Unit {0}

straight_measured : (n : ℕ) (x : Plain) (c : MachineState) → IsMeasured n x → ActsMeasured n (straight x c)
straight_measured n (goes s w) c h = h
straight_measured n (faults_by f) c h = tt
straight_measured n broken c h = tt

jump_measured : (to : Tree → ℕ) (c : MachineState) → ActsMeasured 0 (jump_on to c)
jump_measured to c = along c.state.entries
  where
    along : (es : List StackEntry)
        → ActsMeasured 0 (on_value es wrong
        (λ t fs. goes_on (record c { point = to t; state = with_entries c.state fs }) no_demand))
    along [] = tt
    along (value t ∷ es) = none_pushed no_demand es refl refl (inl refl)
    along (frame f ∷ es) = tt
    along (capture ∷ es) = tt

either_measured : (z : Bool) (m n : MachineState)
    → ActsMeasured 0 (cond z (goes_on m no_demand) (goes_on n no_demand))
either_measured true m n = none_pushed no_demand m.state.entries refl refl (inl refl)
either_measured false m n = none_pushed no_demand n.state.entries refl refl (inl refl)

turn_measured : (p : ℕ) (c : MachineState) → ActsMeasured 0 (turns p c)
turn_measured p c = along c.state.entries
  where
    along : (es : List StackEntry)
        → ActsMeasured 0 (on_frame es wrong (λ f fs.
        cond (nat_lt f.position (length f.items))
        (goes_on (record c {
          point = c.point + 1;
          state = with_entries c.state (frame (advanced f) ∷ fs);
        }) no_demand)
        (goes_on (at_point p c) no_demand)))
    along [] = tt
    along (value t ∷ es) = tt
    along (frame f ∷ es) = either_measured _ _ _
    along (capture ∷ es) = tt

entered_measured : (n : ℕ) (v : Section) (m : ℕ) (ts : List Tree) (es : List StackEntry) (c : MachineState)
    → ActsMeasured 0 (on_values m ts es wrong (λ us fs. goes_on (entered n v us fs c) calling))
entered_measured n v zero ts es c = none_pushed _ [] refl refl (inr refl)
entered_measured n v (suc m) ts [] c = tt
entered_measured n v (suc m) ts (value t ∷ es) c = entered_measured n v m (t ∷ ts) es c
entered_measured n v (suc m) ts (frame x ∷ es) c = tt
entered_measured n v (suc m) ts (capture ∷ es) c = tt

call_measured : (n : ℕ) (o : Option Section) (c : MachineState) → ActsMeasured 0 (calls_unit n o c)
call_measured n None c = tt
call_measured n (Some v) c = entered_measured n v v.parameters [] c.state.entries c

return_measured : (kind : ℕ) (cs : List Caller) (es : List StackEntry) (bs : List (List ℕ)) (c : MachineState)
    → ActsMeasured (cond (has_result kind) 1 0) (back_to cs (given_by kind es) bs c)
return_measured zero [] [] [] c = tt
return_measured zero [] [] (b ∷ []) c = tt
return_measured zero [] [] (b ∷ d ∷ bs) c = tt
return_measured zero (a ∷ cs) [] bs c = none_pushed _ a.entries refl refl (inl refl)
return_measured zero [] (e ∷ es) bs c = tt
return_measured zero (a ∷ cs) (e ∷ es) bs c = tt
return_measured (suc n) [] [] bs c = tt
return_measured (suc n) (a ∷ cs) [] bs c = tt
return_measured (suc n) [] (value t ∷ []) bs c = tt
return_measured (suc n) (a ∷ cs) (value t ∷ []) bs c = one_pushed t (record (pushing t) { returns = 1 }) a.entries
    refl refl refl
return_measured (suc n) [] (value t ∷ e ∷ es) bs c = tt
return_measured (suc n) (a ∷ cs) (value t ∷ e ∷ es) bs c = tt
return_measured (suc n) [] (frame f ∷ es) bs c = tt
return_measured (suc n) (a ∷ cs) (frame f ∷ es) bs c = tt
return_measured (suc n) [] (capture ∷ es) bs c = tt
return_measured (suc n) (a ∷ cs) (capture ∷ es) bs c = tt

straight_of : (g : Bool) (k : Code) (i : Instruction) (c : MachineState)
    → ActsMeasured (pushed_of g i) (straight (plain k i c.state) c)
straight_of g k i c = straight_measured (pushed_of g i) (plain k i c.state) c (plain_measured g k i c.state)

action_measured : (k : Code) (u : Section) (i : Instruction) (c : MachineState)
    → ActsMeasured (pushed_of (has_result u.kind) i) (action k u i c)
action_measured k u (op.Jump p) c = none_pushed no_demand c.state.entries refl refl (inl refl)
action_measured k u (op.JumpIfFalse p) c = jump_measured (λ t. if tree.truth t then c.point + 1 else p) c
action_measured k u (op.JumpIfTrue p) c = jump_measured (λ t. if tree.truth t then p else c.point + 1) c
action_measured k u (op.LoopNext p) c = turn_measured p c
action_measured k u (op.Call n) c = call_measured n (slice_get k.units n) c
action_measured k u op.Return c = return_measured u.kind c.callers c.state.entries c.state.buffers c
action_measured k u (op.Const n) c = straight_of (has_result u.kind) k (op.Const n) c
action_measured k u (op.Load n) c = straight_of (has_result u.kind) k (op.Load n) c
action_measured k u (op.Store n) c = straight_of (has_result u.kind) k (op.Store n) c
action_measured k u (op.GLoad n) c = straight_of (has_result u.kind) k (op.GLoad n) c
action_measured k u (op.GStore n) c = straight_of (has_result u.kind) k (op.GStore n) c
action_measured k u op.Drop c = straight_of (has_result u.kind) k op.Drop c
action_measured k u op.Dup c = straight_of (has_result u.kind) k op.Dup c
action_measured k u (op.Emit a) c = straight_of (has_result u.kind) k (op.Emit a) c
action_measured k u (op.Data n) c = straight_of (has_result u.kind) k (op.Data n) c
action_measured k u (op.Op a) c = straight_of (has_result u.kind) k (op.Op a) c
action_measured k u (op.Filter a b n) c = straight_of (has_result u.kind) k (op.Filter a b n) c
action_measured k u (op.Test a b) c = straight_of (has_result u.kind) k (op.Test a b) c
action_measured k u (op.MakeList n) c = straight_of (has_result u.kind) k (op.MakeList n) c
action_measured k u (op.MakeMap n) c = straight_of (has_result u.kind) k (op.MakeMap n) c
action_measured k u op.LoopStart c = straight_of (has_result u.kind) k op.LoopStart c
action_measured k u (op.LoopGet a n) c = straight_of (has_result u.kind) k (op.LoopGet a n) c
action_measured k u (op.LoopKeep n) c = straight_of (has_result u.kind) k (op.LoopKeep n) c
action_measured k u op.LoopRewind c = straight_of (has_result u.kind) k op.LoopRewind c
action_measured k u op.LoopEnd c = straight_of (has_result u.kind) k op.LoopEnd c
action_measured k u op.CaptureBegin c = straight_of (has_result u.kind) k op.CaptureBegin c
action_measured k u (op.CaptureEnd a) c = straight_of (has_result u.kind) k (op.CaptureEnd a) c
action_measured k u (op.Unpack n) c = straight_of (has_result u.kind) k (op.Unpack n) c

strict_measured : (k : Code) (u : Section) (i : Instruction) (c : MachineState) (z : Bool)
    → ActsMeasured (pushed_of (has_result u.kind) i) (cond z (action k u i c) wrong)
strict_measured k u i c true = action_measured k u i c
strict_measured k u i c false = tt

-- ---- steps

abbrev machine_in : MachineState → Next → MachineState
machine_in m (Goes c) = c.machine
machine_in m (Ends o) = m
machine_in m Wrong = m

spent_measured : (n j : ℕ) (a : Action) (b : Budget) (p : Option Place) (d : Config) → ActsMeasured n a
    → placed p (spends j a b) ≡ Goes d → AreMeasured n (demand_of a) d.machine.state.entries
spent_measured n j (goes_on m w) b p d h e =
    let is : m ≡ d.machine = ap (machine_in m) (has_passed j m w b p d e).is in
    subst (λ (x : MachineState). AreMeasured n w x.state.entries) is h
spent_measured n j (ends t) b p d h e = absurd (ends_not j t b p d e)
spent_measured n j (faulty f) b p d h e = absurd (faulty_not j f b p d e)
spent_measured n j wrong b p d h e = absurd cc

step_measured_at : (k : Code) (o : Option (Section × Instruction)) (c d : Config) → next_at k o c ≡ Goes d
    → AreMeasured (pushed_at o) (demand_at k o c) d.machine.state.entries
step_measured_at k None c d e = absurd cc
step_measured_at k (Some x) c d e =
    spent_measured _ (cost x.1 c.machine.state) (strict k x.0 x.1 c.machine) c.left
    (place_at k c.machine.unit c.machine.point) d (strict_measured k x.0 x.1 c.machine (in_tables k x.1
    c.machine.state)) e

-- The values that a step pushes are on top after it.
pub step_measured : (k : Code) (c d : Config) → next k c ≡ Goes d
    → AreMeasured (pushed_there k c.machine.unit c.machine.point) (next_demand k c) d.machine.state.entries
step_measured k c d e = step_measured_at k (fetch k c.machine.unit c.machine.point) c d e
