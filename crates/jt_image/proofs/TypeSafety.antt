-- Type safety: a machine of a typed code continues or ends, and is never wrong.
use Rattle.std.proofs.Common.{◌≡◌, ℕ, zero, suc, ◌+◌, ◌*◌, ◌<◌, ◌≤◌, Bool, true, false, cond, eqb, List, [], ◌∷◌}
use Rattle.std.proofs.Common.{length, map, Option, Some, None, Result, Ok, Err, refl, sym, ap, subst, ◌∙◌, arith, rules}
use Rattle.std.specs.Prelude.{slice_get, slice_set}
use Rattle.std.specs.Option.{is_some}
use Rattle.std.specs.List.{AllByRecursion}
use Rattle.std.proofs.lemmas.Bool.{ltb-false, eqb-true}
use Rattle.std.proofs.lemmas.List.{length-set}
use Rattle.jt_value.specs.Tree as tree
use Rattle.jt_value.specs.declared.fault.Fault.{Fault}
use Rattle.jt_value.specs.declared.fault.Fault.TheVariants as faults
use Rattle.jt_value.specs.Tree.{Tree, Items, truth}
use Rattle.jt_image.specs.declared.instruction.Instruction.{Instruction}
use Rattle.jt_image.specs.declared.instruction.Instruction.TheVariants as op
use Rattle.jt_image.specs.declared.kind.Kind.TheVariants as kind
use Rattle.jt_image.specs.declared.kind.Flaw.{Flaw}
use Rattle.jt_image.specs.Code.{Section, Code}
use Rattle.jt_value.specs.Place.{Place}
use Rattle.jt_image.specs.Places.{place_at}
use Rattle.jt_image.specs.Effect as effect
use Rattle.jt_image.specs.Effect.{Shape, Successors, require, pops, pops_many, pops_frame, pops_capture, pushes, gives}
use Rattle.jt_image.specs.Effect.{calls, goes_on, jumps, branches, may_return, effect, effect_of}
use Rattle.jt_image.specs.Typed.{Shapes, Equal, HasSame, IsTypedBy, IsTyped}
use Rattle.jt_ids.specs.LoopTable.{field_of}
use Rattle.jt_image.specs.Loops.{trees_of, keeping}
use Rattle.jt_image.specs.Config as config
use Rattle.jt_image.specs.Config.{Budget, Frame, StackEntry, value, frame, capture, kind_of, State, Caller}
use Rattle.jt_image.specs.Config.{MachineState, Config}
use Rattle.jt_image.specs.Step as step
use Rattle.jt_image.specs.Step.{Demand, no_demand, pushing, pushing_all, greatest, emitting, calling, Plain, goes}
use Rattle.jt_image.specs.Step.{faults_by, broken, with_entries, push, on_value, on_values, on_frame, on_capture}
use Rattle.jt_image.specs.Step.{as_frame, push_given, makes, put, put_printed, constant_value, text_of, begins}
use Rattle.jt_image.specs.Step.{loop_field_or_undefined, piled, unpacks, closes, listed, mapped, Action, ends, faulty}
use Rattle.jt_image.specs.Step.{wrong, straight, locals_of, entered, calls_unit, nothing, given_by, resumed, back_to}
use Rattle.jt_image.specs.Step.{strict, cost, fetch}
use Rattle.jt_image.specs.Run.{Next, Goes, Ends, Wrong, unless, spends, placed, next}

-- The kinds of the entries.
abbrev pub kinds_of : List StackEntry → Shape
kinds_of es = map kind_of es

-- The number of open captures.
abbrev pub captures : List StackEntry → ℕ
captures [] = 0
captures (value t ∷ es) = captures es
captures (frame f ∷ es) = captures es
captures (capture ∷ es) = suc (captures es)

-- The number of open captures in the waiting activations.
abbrev pub captures_above : List Caller → ℕ
captures_above [] = 0
captures_above (a ∷ above) = captures a.entries + captures_above above

-- No value among the entries is larger than `n`.
abbrev pub AreSized : ℕ → List StackEntry → Type 0
AreSized n [] = Unit {0}
AreSized n (value t ∷ es) = (tree.size t ≤ n) × AreSized n es
AreSized n (frame f ∷ es) = AreSized n es
AreSized n (capture ∷ es) = AreSized n es

-- No value in the waiting activations is larger than `n`.
abbrev pub AreSizedAbove : ℕ → List Caller → Type 0
AreSizedAbove n [] = Unit {0}
AreSizedAbove n (a ∷ above) = AreSized n a.entries × AreSizedAbove n above

abbrev pub AreAllSized : ℕ → List StackEntry → List Caller → Type 0
AreAllSized n es above = AreSized n es × AreSizedAbove n above

-- An activation that waits for a unit of this kind to return. With the result of the unit, its
-- entries have the kinds of its point.
pub record IsWaiting (k : Code) (given : ℕ) (a : Caller) : Type 0 where
  pub unit : Section
  pub is_unit : slice_get k.units a.unit ≡ Some unit
  pub shapes : Shapes
  pub typed : IsTypedBy Equal k unit shapes
  pub behind : shapes a.point ≡ Some (gives given (kinds_of a.entries))
  pub locals : length a.locals ≡ unit.locals

-- Each activation waits for a unit of the kind of the one before it, and the unit of the outermost
-- activation emits.
abbrev pub AreWaiting : Code → ℕ → List Caller → Type 0
AreWaiting k given [] = given ≡ 0
AreWaiting k given (a ∷ above) = (w : IsWaiting k given a) × AreWaiting k w.unit.kind above

-- A machine of a typed code. In each activation the entries have the kinds of its point. The number
-- of buffers is one more than the number of captures in all activations.
pub record IsFit (k : Code) (m : MachineState) : Type 0 where
  pub all : IsTyped k
  pub unit : Section
  pub is_unit : slice_get k.units m.unit ≡ Some unit
  pub shapes : Shapes
  pub typed : IsTypedBy Equal k unit shapes
  pub here : shapes m.point ≡ Some (kinds_of m.state.entries)
  pub locals : length m.state.locals ≡ unit.locals
  pub globals : length m.state.globals ≡ k.globals
  pub callers : AreWaiting k unit.kind m.callers
  pub buffers : length m.state.buffers ≡ suc (captures m.state.entries + captures_above m.callers)

-- A fitting machine under a budget, with no value on the stack larger than the size limit.
pub record IsGood (k : Code) (c : Config) : Type 0 where
  pub fit : IsFit k c.machine
  pub sized : AreAllSized c.left.size c.machine.state.entries c.machine.callers

-- A good result of an action. It is an end, or a machine that fits. Its values are old ones or
-- within the demand. The number of waiting calls changes as the demand states.
abbrev pub IsFineAction : Code → List StackEntry → List Caller → Action → Type 0
IsFineAction k es above (step.goes_on m d) =
    IsFit k m × ((n : ℕ) → AreAllSized n es above → d.size ≤ n → AreAllSized n m.state.entries m.callers)
    × (length m.callers + d.returns ≡ length above + d.calls)
IsFineAction k es above (ends t) = Unit {0}
IsFineAction k es above (faulty f) = Unit {0}
IsFineAction k es above wrong = ⊥

-- The remaining depth plus the number of open calls.
abbrev pub depth_of : Config → ℕ
depth_of c = c.left.depth + length c.machine.callers

-- A good result of a step: an end, or a good configuration with less fuel and the same `depth_of`.
abbrev pub IsFineStep : Code → ℕ → ℕ → Next → Type 0
IsFineStep k fuel depth (Goes d) = IsGood k d × (d.left.fuel < fuel) × (depth_of d ≡ depth)
IsFineStep k fuel depth (Ends o) = Unit {0}
IsFineStep k fuel depth Wrong = ⊥

-- ---- effects without a flaw

require_ok : (b : Bool) (f : Flaw) (go : Result Successors Flaw) (l : Successors) → require b f go ≡ Ok l
    → (b ≡ true) × (go ≡ Ok l)
require_ok true f go l e = (refl, e)
require_ok false f go l e = absurd cc

-- ---- pops that a shape permits, and their continuations

module _ {A : Type 0} (l : Successors) (none : A) (P : A → Type 0) where
  taken : (es : List StackEntry) (go : Shape → Result Successors Flaw) (f : Tree → List StackEntry → A)
      → pops (kinds_of es) go ≡ Ok l
      → ((t : Tree) (fs : List StackEntry) → go (kinds_of fs) ≡ Ok l → captures fs ≡ captures es
      → ((n : ℕ) → AreSized n es → (tree.size t ≤ n) × AreSized n fs) → P (f t fs))
      → P (on_value es none f)
  taken a0 go f e h = search (arith, rules)

  taken_many : (n : ℕ) (ts : List Tree) (es : List StackEntry) (go : Shape → Result Successors Flaw)
      (f : List Tree → List StackEntry → A)
      → pops_many n (kinds_of es) go ≡ Ok l
      → ((us : List Tree) (fs : List StackEntry) → go (kinds_of fs) ≡ Ok l → captures fs ≡ captures es
      → ((z : ℕ) → AreSized z es → AreSized z fs) → P (f us fs))
      → P (on_values n ts es none f)
  taken_many (suc n) ts (value t ∷ es) go f e h =
      taken_many n (t ∷ ts) es go f e (λ us fs kinds count sized. h us fs kinds count (λ z x. sized z x.1))
  taken_many a0 ts a2 go f e h = search (arith, rules)

  taken_frame : (es : List StackEntry) (go : Shape → Result Successors Flaw) (f : Frame → List StackEntry → A)
      → pops_frame (kinds_of es) go ≡ Ok l
      → ((x : Frame) (fs : List StackEntry) → es ≡ frame x ∷ fs → go (kinds_of fs) ≡ Ok l → captures fs ≡ captures es
      → ((n : ℕ) → AreSized n es → AreSized n fs) → P (f x fs))
      → P (on_frame es none f)
  taken_frame a0 go f e h = search (arith, rules)

  taken_capture : (es : List StackEntry) (go : Shape → Result Successors Flaw) (f : List StackEntry → A)
      → pops_capture (kinds_of es) go ≡ Ok l
      → ((fs : List StackEntry) → go (kinds_of fs) ≡ Ok l → captures es ≡ suc (captures fs)
      → ((n : ℕ) → AreSized n es → AreSized n fs) → P (f fs))
      → P (on_capture es none f)
  taken_capture a0 go f e h = search (arith, rules)

  -- If an instruction may use the loop below `c` entries, this loop exists.
  found_frame : (es : List StackEntry) (c : ℕ) (go : Result Successors Flaw) (f : Frame → A)
      → effect.on_frame (slice_get (kinds_of es) c) go ≡ Ok l
      → ((x : Frame) → slice_get es c ≡ Some (frame x) → go ≡ Ok l → P (f x))
      → P (as_frame (slice_get es c) none f)
  found_frame (x ∷ es) (suc c) go f e h = found_frame es c go f e h
  found_frame a0 a1 go f e h = search (arith, rules)

-- ---- a loop that replaces another

kinds-set : (es : List StackEntry) (c : ℕ) (x y : Frame) → slice_get es c ≡ Some (frame x)
    → kinds_of (slice_set es c (frame y)) ≡ kinds_of es
kinds-set (z ∷ es) (suc c) x y e = ap (λ s. kind_of z ∷ s) (kinds-set es c x y e)
kinds-set a0 a1 x y e = search (arith, rules)

captures-set : (es : List StackEntry) (c : ℕ) (x y : Frame) → slice_get es c ≡ Some (frame x)
    → captures (slice_set es c (frame y)) ≡ captures es
captures-set (value t ∷ es) (suc c) x y e = captures-set es c x y e
captures-set (frame f ∷ es) (suc c) x y e = captures-set es c x y e
captures-set (capture ∷ es) (suc c) x y e = ap suc (captures-set es c x y e)
captures-set a0 a1 x y e = search (arith, rules)

sized-set : (n : ℕ) (es : List StackEntry) (c : ℕ) (x y : Frame) → slice_get es c ≡ Some (frame x) → AreSized n es
    → AreSized n (slice_set es c (frame y))
sized-set n (value t ∷ es) (suc c) x y e h = (h.0, sized-set n es c x y e h.1)
sized-set n (frame f ∷ es) (suc c) x y e h = sized-set n es c x y e h
sized-set n (capture ∷ es) (suc c) x y e h = sized-set n es c x y e h
sized-set n a1 a2 x y e h = search (arith, rules)

-- ---- pushed values

pushes-more : (n : ℕ) (s : Shape) → pushes n (kind.Value ∷ s) ≡ kind.Value ∷ pushes n s
pushes-more zero s = refl
pushes-more (suc n) s = ap (λ r. kind.Value ∷ r) (pushes-more n s)

kinds-piled : (ts : List Tree) (es : List StackEntry) → kinds_of (piled ts es) ≡ pushes (length ts) (kinds_of es)
kinds-piled [] es = refl
kinds-piled (t ∷ ts) es = kinds-piled ts (value t ∷ es) ∙ pushes-more (length ts) (kinds_of es)

captures-piled : (ts : List Tree) (es : List StackEntry) → captures (piled ts es) ≡ captures es
captures-piled [] es = refl
captures-piled (t ∷ ts) es = captures-piled ts (value t ∷ es)

sized-piled : (n : ℕ) (ts : List Tree) (es : List StackEntry) → greatest tree.size ts ≤ n → AreSized n es
    → AreSized n (piled ts es)
sized-piled n [] es fits h = h
sized-piled n (t ∷ ts) es fits h = sized-piled n ts (value t ∷ es) (omega (arith, fits)) (omega (arith, fits), h)

pub length-locals_of : (n : ℕ) (ts : List Tree) → length (locals_of n ts) ≡ n
length-locals_of zero ts = refl
length-locals_of (suc n) [] = ap suc (length-locals_of n [])
length-locals_of (suc n) (t ∷ ts) = ap suc (length-locals_of n ts)

module _ (k : Code) (u : Section) (shapes : Shapes) where
  abbrev Agrees : Successors → Type 0
  Agrees l = AllByRecursion (HasSame Equal shapes l.shape) l.points

  -- The point has the shape.
  has_shape : (s : Shape) (q : ℕ) → HasSame Equal shapes s q → shapes q ≡ Some s
  has_shape s q h = h.1 ∙ ap Some h.2

  leads_to : (b : Bool) (f : Flaw) (made l : Successors) → require b f (Ok made) ≡ Ok l → Agrees l → Agrees made
  leads_to true f made l e a = let same : made ≡ l = cc in subst Agrees (sym same) a
  leads_to false f made l e a = absurd cc

  goes_on_ok : (p : ℕ) (s : Shape) (l : Successors) → goes_on u p s ≡ Ok l → Agrees l → shapes (p + 1) ≡ Some s
  goes_on_ok p s l e a = has_shape s (p + 1) (leads_to _ _ _ l e a).0

  jumps_ok : (c : ℕ) (s : Shape) (l : Successors) → jumps u c s ≡ Ok l → Agrees l → shapes c ≡ Some s
  jumps_ok c s l e a = has_shape s c (leads_to _ _ _ l e a).0

  branches_ok : (p c : ℕ) (s : Shape) (l : Successors) → branches u p c s ≡ Ok l → Agrees l
      → (shapes (p + 1) ≡ Some s) × (shapes c ≡ Some s)
  branches_ok p c s l e a = search (arith, rules, require_ok, leads_to, has_shape)

-- ---- each instruction

-- The machine with this point, entries, locals, globals and buffers.
abbrev moved : ℕ → List StackEntry → List Tree → List Tree → List (List ℕ) → MachineState → MachineState
moved p es ls gs bs m = record m { point = p; state = record { entries = es; locals = ls; globals = gs; buffers = bs } }

module _ (k : Code) (m : MachineState) (g : IsFit k m) (l : Successors) (agree : Agrees k g.unit g.shapes l) where
  abbrev es : List StackEntry
  es = m.state.entries

  abbrev s : Shape
  s = kinds_of es

  abbrev above : ℕ
  above = captures_above m.callers

  abbrev Fine : Action → Type 0
  Fine a = IsFineAction k es m.callers a

  -- A machine at a point of the unit, with the same callers, is fine.
  lands : (p : ℕ) (fs : List StackEntry) (ls gs : List Tree) (bs : List (List ℕ)) (d : Demand)
      → g.shapes p ≡ Some (kinds_of fs) → length ls ≡ length m.state.locals → length gs ≡ length m.state.globals
      → length bs ≡ suc (captures fs + above) → ((n : ℕ) → AreSized n es → d.size ≤ n → AreSized n fs)
      → d.returns ≡ d.calls → Fine (step.goes_on (moved p fs ls gs bs m) d)
  lands p fs ls gs bs d here locals globals buffers sized same = search (arith, rules)

  -- A machine in which only the entries differ is fine.
  lands_on : (p : ℕ) (fs : List StackEntry) (d : Demand) → g.shapes p ≡ Some (kinds_of fs) → captures fs ≡ captures es
      → ((n : ℕ) → AreSized n es → d.size ≤ n → AreSized n fs) → d.returns ≡ d.calls
      → Fine (step.goes_on (moved p fs m.state.locals m.state.globals m.state.buffers m) d)
  lands_on p fs d here count sized same =
      lands p fs m.state.locals m.state.globals m.state.buffers d here refl refl (rw count g.buffers) sized same

  -- The next point has the shape with which the code continues.
  behind : (r : Shape) → goes_on g.unit m.point r ≡ Ok l → g.shapes (m.point + 1) ≡ Some r
  behind r e = goes_on_ok k g.unit g.shapes m.point r l e agree

  in_place : (b : Bool) (a : Action) → b ≡ true → Fine a → Fine (cond b a wrong)
  in_place true a e h = h
  in_place false a e h = absurd cc

  -- A step that pushes a value and goes on is fine.
  pushed : (t : Tree) → goes_on g.unit m.point (kind.Value ∷ s) ≡ Ok l → Fine (straight (push t es m.state) m)
  pushed t e = search (arith, rules, lands_on, behind)

  const_fine : (c : ℕ) → effect k g.unit m.point (op.Const c) s ≡ Ok l → Fine (strict k g.unit (op.Const c) m)
  const_fine c e =
      let a = require_ok _ _ _ l e in in_place _ _ a.0 (pushed (constant_value (slice_get k.constants c)) a.1)

  load_fine : (c : ℕ) → effect k g.unit m.point (op.Load c) s ≡ Ok l → Fine (strict k g.unit (op.Load c) m)
  load_fine c e = search (arith, rules, require_ok, in_place, pushed)

  load_global_fine : (c : ℕ) → effect k g.unit m.point (op.GLoad c) s ≡ Ok l → Fine (strict k g.unit (op.GLoad c) m)
  load_global_fine c e = search (arith, rules, require_ok, in_place, pushed)

  -- A step without a jump is fine.
  abbrev FinePlain : Plain → Type 0
  FinePlain x = Fine (straight x m)

  drop_fine : effect k g.unit m.point op.Drop s ≡ Ok l → Fine (strict k g.unit op.Drop m)
  drop_fine e = search (arith, rules, taken, lands_on, behind)

  store_fine : (c : ℕ) → effect k g.unit m.point (op.Store c) s ≡ Ok l → Fine (strict k g.unit (op.Store c) m)
  store_fine c e = search (arith, rules, require_ok, in_place, taken, lands, behind, length-set)

  store_global_fine : (c : ℕ) → effect k g.unit m.point (op.GStore c) s ≡ Ok l → Fine (strict k g.unit (op.GStore c) m)
  store_global_fine c e = search (arith, rules, require_ok, in_place, taken, lands, behind, length-set)

  dup_fine : effect k g.unit m.point op.Dup s ≡ Ok l → Fine (strict k g.unit op.Dup m)
  dup_fine e = search (arith, rules, taken, lands_on, behind)

  -- A step that appends bytes to the innermost buffer is fine, if the entries have the same number
  -- of captures.
  put_fine : (bytes : List ℕ) (bs : List (List ℕ)) (fs : List StackEntry) → length bs ≡ suc (captures fs + above)
      → g.shapes (m.point + 1) ≡ Some (kinds_of fs) → ((n : ℕ) → AreSized n es → AreSized n fs)
      → FinePlain (put bytes bs (with_entries m.state fs))
  put_fine bytes [] fs count here sized = absurd (omega arith)
  put_fine bytes (b ∷ bs) fs count here sized = search (arith, rules, lands)

  printed_fine : (o : Option (List ℕ)) (fs : List StackEntry) → length m.state.buffers ≡ suc (captures fs + above)
      → g.shapes (m.point + 1) ≡ Some (kinds_of fs) → ((n : ℕ) → AreSized n es → AreSized n fs)
      → FinePlain (put_printed o (with_entries m.state fs))
  printed_fine None fs count here sized = tt
  printed_fine (Some bytes) fs count here sized = put_fine bytes m.state.buffers fs count here sized

  emit_fine : (a : ℕ) → effect k g.unit m.point (op.Emit a) s ≡ Ok l → Fine (strict k g.unit (op.Emit a) m)
  emit_fine a e = search (arith, rules, require_ok, in_place, taken, printed_fine, behind)

  data_fine : (c : ℕ) → effect k g.unit m.point (op.Data c) s ≡ Ok l → Fine (strict k g.unit (op.Data c) m)
  data_fine c e = search (arith, rules, require_ok, in_place, put_fine, behind)

  jump_fine : (p : ℕ) → effect k g.unit m.point (op.Jump p) s ≡ Ok l → Fine (strict k g.unit (op.Jump p) m)
  jump_fine p e = lands_on p es no_demand (jumps_ok k g.unit g.shapes p s l e agree) refl (λ n z _. z) refl

  -- One of two points has the shape if both have it.
  either_place : (b : Bool) (p q : ℕ) (r : Shape) → g.shapes p ≡ Some r → g.shapes q ≡ Some r
      → g.shapes (cond b p q) ≡ Some r
  either_place true p q r h i = h
  either_place false p q r h i = i

  if_false_fine : (p : ℕ) → effect k g.unit m.point (op.JumpIfFalse p) s ≡ Ok l
      → Fine (strict k g.unit (op.JumpIfFalse p) m)
  if_false_fine p e = search (arith, rules, taken, branches_ok, lands_on, either_place)

  if_true_fine : (p : ℕ) → effect k g.unit m.point (op.JumpIfTrue p) s ≡ Ok l
      → Fine (strict k g.unit (op.JumpIfTrue p) m)
  if_true_fine p e = search (arith, rules, taken, branches_ok, lands_on, either_place)

  -- A step that replaces the operands of an operation by its result is fine.
  given_fine : (r : Result Tree Fault) (fs : List StackEntry) → captures fs ≡ captures es
      → goes_on g.unit m.point (kind.Value ∷ kinds_of fs) ≡ Ok l → ((n : ℕ) → AreSized n es → AreSized n fs)
      → FinePlain (push_given r fs m.state)
  given_fine (Ok t) fs count e sized = search (arith, rules, lands_on, behind)
  given_fine (Err x) fs count e sized = tt

  makes_fine : (n : ℕ) (operate : List Tree → Result Tree Fault)
      → pops_many n s (λ r. goes_on g.unit m.point (kind.Value ∷ r)) ≡ Ok l → FinePlain (makes n operate m.state)
  makes_fine n operate e =
      taken_many l broken FinePlain n [] es (λ r. goes_on g.unit m.point (kind.Value ∷ r))
      (λ ts fs. push_given (operate ts) fs m.state) e
      (λ ts fs e' count sized. given_fine (operate ts) fs count e' sized)

  op_fine : (a : ℕ) → effect k g.unit m.point (op.Op a) s ≡ Ok l → Fine (strict k g.unit (op.Op a) m)
  op_fine a e = search (arith, rules, require_ok, in_place, makes_fine)

  filter_fine : (a n f : ℕ) → effect k g.unit m.point (op.Filter a n f) s ≡ Ok l
      → Fine (strict k g.unit (op.Filter a n f) m)
  filter_fine a n f e = search (arith, rules, require_ok, in_place, makes_fine)

  test_fine : (a n : ℕ) → effect k g.unit m.point (op.Test a n) s ≡ Ok l → Fine (strict k g.unit (op.Test a n) m)
  test_fine a n e = search (arith, rules, require_ok, in_place, makes_fine)

  -- ---- loops

  begins_fine : (r : Result Items Fault) (fs : List StackEntry) → captures fs ≡ captures es
      → goes_on g.unit m.point (kind.Frame ∷ kinds_of fs) ≡ Ok l → ((n : ℕ) → AreSized n es → AreSized n fs)
      → FinePlain (begins r fs m.state)
  begins_fine (Ok ts) fs count e sized = search (arith, rules, lands_on, behind)
  begins_fine (Err x) fs count e sized = tt

  start_fine : effect k g.unit m.point op.LoopStart s ≡ Ok l → Fine (strict k g.unit op.LoopStart m)
  start_fine e = search (arith, rules, taken, begins_fine)

  either_fine : (b : Bool) (x y : Action) → Fine x → Fine y → Fine (cond b x y)
  either_fine true x y h i = h
  either_fine false x y h i = i

  next_fine : (p : ℕ) → effect k g.unit m.point (op.LoopNext p) s ≡ Ok l → Fine (strict k g.unit (op.LoopNext p) m)
  next_fine p e = search (arith, rules, taken_frame, branches_ok, either_fine, lands_on)

  get_fine : (a c : ℕ) → effect k g.unit m.point (op.LoopGet a c) s ≡ Ok l → Fine (strict k g.unit (op.LoopGet a c) m)
  get_fine a c e =
      let b = require_ok _ _ _ l e in
      in_place _ _ b.0 (found_frame l broken FinePlain es c (goes_on g.unit m.point (kind.Value ∷ s))
      (λ f. push_given (loop_field_or_undefined (field_of a) f) es m.state) b.1
      (λ f is e'. given_fine (loop_field_or_undefined (field_of a) f) es refl e' (λ n z. z)))

  -- A step that keeps the current item of a loop, or changes nothing, is fine.
  kept_fine : (b : Bool) (fs : List StackEntry) (c : ℕ) (f : Frame) → slice_get fs c ≡ Some (frame f)
      → captures fs ≡ captures es → goes_on g.unit m.point (kinds_of fs) ≡ Ok l
      → ((n : ℕ) → AreSized n es → AreSized n fs)
      → FinePlain (goes (with_entries m.state (cond b (slice_set fs c (frame (keeping f))) fs)) no_demand)
  kept_fine a0 fs c f is count e sized = search (arith, rules, lands_on, behind, kinds-set, captures-set, sized-set)

  keep_fine : (c : ℕ) → effect k g.unit m.point (op.LoopKeep c) s ≡ Ok l → Fine (strict k g.unit (op.LoopKeep c) m)
  keep_fine c e =
      taken l broken FinePlain es (λ r. effect.on_frame (slice_get r c) (goes_on g.unit m.point r))
      (λ t fs. as_frame (slice_get fs c) broken
      (λ f. goes (with_entries m.state (cond (truth t) (slice_set fs c (frame (keeping f))) fs)) no_demand)) e
      (λ t fs e' count sized.
      found_frame l broken FinePlain fs c (goes_on g.unit m.point (kinds_of fs))
      (λ f. goes (with_entries m.state (cond (truth t) (slice_set fs c (frame (keeping f))) fs)) no_demand) e'
      (λ f is e''. kept_fine (truth t) fs c f is count e'' (λ n z. (sized n z).1)))

  rewind_fine : effect k g.unit m.point op.LoopRewind s ≡ Ok l → Fine (strict k g.unit op.LoopRewind m)
  rewind_fine e = search (arith, rules, taken_frame, lands_on, behind)

  end_fine : effect k g.unit m.point op.LoopEnd s ≡ Ok l → Fine (strict k g.unit op.LoopEnd m)
  end_fine e = search (arith, rules, taken_frame, given_fine)

  -- ---- captures

  open_fine : effect k g.unit m.point op.CaptureBegin s ≡ Ok l → Fine (strict k g.unit op.CaptureBegin m)
  open_fine e = search (arith, rules, lands, behind)

  closes_fine : (b : Bool) (bs : List (List ℕ)) (fs : List StackEntry) → length bs ≡ suc (captures es + above)
      → captures es ≡ suc (captures fs) → goes_on g.unit m.point (kind.Value ∷ kinds_of fs) ≡ Ok l
      → ((n : ℕ) → AreSized n es → AreSized n fs) → FinePlain (closes b bs fs m.state)
  closes_fine b a1 fs count one e sized = search (arith, rules, lands, behind)

  close_fine : (a : ℕ) → effect k g.unit m.point (op.CaptureEnd a) s ≡ Ok l → Fine (strict k g.unit (op.CaptureEnd a) m)
  close_fine a e = search (arith, rules, require_ok, in_place, taken_capture, closes_fine)

  -- ---- unpacking

  spreads_fine : (b : Bool) (n : ℕ) (ts : List Tree) (fs : List StackEntry) → eqb (length ts) n ≡ b
      → captures fs ≡ captures es → goes_on g.unit m.point (pushes n (kinds_of fs)) ≡ Ok l
      → ((z : ℕ) → AreSized z es → AreSized z fs)
      → FinePlain (cond b (goes (with_entries m.state (piled ts fs)) (pushing_all ts)) (faults_by faults.Unpack))
  spreads_fine a0 n ts fs is count e sized =
      search (arith, rules, behind, eqb-true, kinds-piled, lands_on, captures-piled, sized-piled)

  unpacks_fine : (n : ℕ) (r : Result Items Fault) (fs : List StackEntry) → captures fs ≡ captures es
      → goes_on g.unit m.point (pushes n (kinds_of fs)) ≡ Ok l → ((z : ℕ) → AreSized z es → AreSized z fs)
      → FinePlain (unpacks n r fs m.state)
  unpacks_fine n (Ok ts) fs count e sized =
      spreads_fine (eqb (length (trees_of ts)) n) n (trees_of ts) fs refl count e sized
  unpacks_fine n (Err x) fs count e sized = tt

  unpack_fine : (c : ℕ) → effect k g.unit m.point (op.Unpack c) s ≡ Ok l → Fine (strict k g.unit (op.Unpack c) m)
  unpack_fine c e = search (arith, rules, taken, unpacks_fine)

  -- ---- calls

  -- A called unit starts with no entries, and its caller waits for its result.
  entered_fine : (n : ℕ) (v : Section) (ts : List Tree) (fs : List StackEntry) → slice_get k.units n ≡ Some v
      → goes_on g.unit m.point (gives v.kind (kinds_of fs)) ≡ Ok l → captures fs ≡ captures es
      → ((z : ℕ) → AreSized z es → AreSized z fs) → Fine (step.goes_on (entered n v ts fs m) calling)
  entered_fine n v ts fs is e count sized =
      let typed = g.all n v is in (
        record {
          all = g.all;
          unit = v;
          is_unit = is;
          shapes = typed.0;
          typed = typed.1;
          here = typed.1.start;
          locals = length-locals_of v.locals ts;
          globals = g.globals;
          callers = (
            record {
              unit = g.unit;
              is_unit = g.is_unit;
              shapes = g.shapes;
              typed = g.typed;
              behind = behind (gives v.kind (kinds_of fs)) e;
              locals = g.locals;
            },
            g.callers,
          );
          buffers = omega (arith, g.buffers, count);
        },
        λ z all _. (tt, (sized z all.0, all.1)),
        omega arith,
      )

  call_at : (n : ℕ) (o : Option Section) → slice_get k.units n ≡ o → calls g.unit m.point o s ≡ Ok l
      → Fine (cond (is_some o) (calls_unit n o m) wrong)
  call_at n None is e = absurd cc
  call_at n (Some v) is e =
      taken_many l wrong Fine v.parameters [] es (λ r. goes_on g.unit m.point (gives v.kind r))
      (λ ts fs. step.goes_on (entered n v ts fs m) calling) e
      (λ ts fs e' count sized. entered_fine n v ts fs is e' count sized)

  call_fine : (n : ℕ) → effect k g.unit m.point (op.Call n) s ≡ Ok l → Fine (strict k g.unit (op.Call n) m)
  call_fine n e = call_at n (slice_get k.units n) refl e

  -- A caller continues with the result of the unit on top of its entries.
  resumed_fine : (n : ℕ) (a : Caller) (rest : List Caller) (fs gs : List StackEntry) (d : Demand)
      → AreWaiting k n (a ∷ rest) → gives n (kinds_of a.entries) ≡ kinds_of gs → captures gs ≡ captures a.entries
      → length m.state.buffers ≡ suc (captures_above (a ∷ rest))
      → ((z : ℕ) → AreSized z a.entries → d.size ≤ z → AreSized z gs) → d.returns ≡ suc d.calls
      → IsFineAction k fs (a ∷ rest) (step.goes_on (resumed a rest gs m) d)
  resumed_fine n a rest fs gs d w kinds count buffers sized back = search (arith, rules)

  -- The outermost activation returns with no entries, so one buffer is left.
  ends_fine : (fs : List StackEntry) (bs : List (List ℕ)) → length bs ≡ 1
      → IsFineAction k fs [] (back_to [] nothing bs m)
  ends_fine fs a1 count = search (arith, rules)

  returned_fine : (rest : List Caller) (n : ℕ) (fs : List StackEntry) → AreWaiting k n rest
      → may_return n (kinds_of fs) ≡ true → length m.state.buffers ≡ suc (captures fs + captures_above rest)
      → IsFineAction k fs rest (back_to rest (given_by n fs) m.state.buffers m)
  returned_fine a0 a1 a2 w ok count = search (arith, rules, ends_fine, resumed_fine)

  return_fine : effect k g.unit m.point op.Return s ≡ Ok l → Fine (strict k g.unit op.Return m)
  return_fine e = returned_fine m.callers g.unit.kind es g.callers (require_ok _ _ _ l e).0 g.buffers

  strict_fine : (i : Instruction) → effect k g.unit m.point i s ≡ Ok l → Fine (strict k g.unit i m)
  strict_fine (op.Const c) e = const_fine c e
  strict_fine (op.Load c) e = load_fine c e
  strict_fine (op.Store c) e = store_fine c e
  strict_fine (op.GLoad c) e = load_global_fine c e
  strict_fine (op.GStore c) e = store_global_fine c e
  strict_fine op.Drop e = drop_fine e
  strict_fine op.Dup e = dup_fine e
  strict_fine (op.Emit a) e = emit_fine a e
  strict_fine (op.Data c) e = data_fine c e
  strict_fine (op.Jump p) e = jump_fine p e
  strict_fine (op.JumpIfFalse p) e = if_false_fine p e
  strict_fine (op.JumpIfTrue p) e = if_true_fine p e
  strict_fine (op.Op a) e = op_fine a e
  strict_fine (op.Filter a n f) e = filter_fine a n f e
  strict_fine (op.Test a n) e = test_fine a n e
  strict_fine (op.MakeList c) e = makes_fine c listed e
  strict_fine (op.MakeMap c) e = makes_fine (2 * c) mapped e
  strict_fine op.LoopStart e = start_fine e
  strict_fine (op.LoopNext p) e = next_fine p e
  strict_fine (op.LoopGet a c) e = get_fine a c e
  strict_fine (op.LoopKeep c) e = keep_fine c e
  strict_fine op.LoopRewind e = rewind_fine e
  strict_fine op.LoopEnd e = end_fine e
  strict_fine op.CaptureBegin e = open_fine e
  strict_fine (op.CaptureEnd a) e = close_fine a e
  strict_fine (op.Unpack c) e = unpack_fine c e
  strict_fine (op.Call n) e = call_fine n e
  strict_fine op.Return e = return_fine e

-- ---- a step under a budget

pub cost_positive : (i : Instruction) (m : State) → 1 ≤ cost i m
cost_positive a0 m = search (arith, rules)

unless_fine : (k : Code) (fuel depth : ℕ) (b : Bool) (l : config.Limit) (n : Next)
    → (b ≡ false → IsFineStep k fuel depth n) → IsFineStep k fuel depth (unless b l n)
unless_fine k fuel depth true l n h = tt
unless_fine k fuel depth false l n h = h refl

placed_fine : (k : Code) (fuel depth : ℕ) (q : Option Place) (n : Next) → IsFineStep k fuel depth n
    → IsFineStep k fuel depth (placed q n)
placed_fine k fuel depth q a4 h = search (arith, rules)

spends_fine : (k : Code) (es : List StackEntry) (above : List Caller) (n : ℕ) (a : Action) (b : Budget) → 1 ≤ n
    → AreAllSized b.size es above → IsFineAction k es above a
    → IsFineStep k b.fuel (b.depth + length above) (spends n a b)
spends_fine k es above n a4 b positive sized fine = search (arith, rules, unless_fine, ltb-false)

at_instruction : (k : Code) (c : Config) (g : IsGood k c) (l : Successors) (o : Option Instruction)
    → slice_get g.fit.unit.code c.machine.point ≡ o → Agrees k g.fit.unit g.fit.shapes l
    → effect_of k g.fit.unit c.machine.point o (kinds_of c.machine.state.entries) ≡ Ok l
    → IsFineStep k c.left.fuel (depth_of c) (next k c)
at_instruction k c g l None is a e = absurd cc
at_instruction k c g l (Some i) is a e =
    rw (g.fit.is_unit, is) (placed_fine k c.left.fuel (depth_of c) (place_at k c.machine.unit c.machine.point)
    (spends (cost i c.machine.state) (strict k g.fit.unit i c.machine) c.left)
    (spends_fine k c.machine.state.entries c.machine.callers (cost i c.machine.state) (strict k g.fit.unit i c.machine)
    c.left (cost_positive i c.machine.state) g.sized (strict_fine k c.machine g.fit l a i e)))

pub step_fine : (k : Code) (c : Config) → IsGood k c → IsFineStep k c.left.fuel (depth_of c) (next k c)
step_fine k c g =
    let f = g.fit.typed.fine c.machine.point (kinds_of c.machine.state.entries) g.fit.here in
    at_instruction k c g f.leads (slice_get g.fit.unit.code c.machine.point) refl f.agree f.effect

-- The instruction at the point of a fitting machine exists, and its action is fine.
pub record IsReady (k : Code) (m : MachineState) : Type 0 where
  pub unit : Section
  pub instruction : Instruction
  pub is : fetch k m.unit m.point ≡ Some (unit, instruction)
  pub fine : IsFineAction k m.state.entries m.callers (strict k unit instruction m)

ready_at : (k : Code) (m : MachineState) (g : IsFit k m) (l : Successors) (o : Option Instruction)
    → slice_get g.unit.code m.point ≡ o → Agrees k g.unit g.shapes l
    → effect_of k g.unit m.point o (kinds_of m.state.entries) ≡ Ok l → IsReady k m
ready_at k m g l None is a e = absurd cc
ready_at k m g l (Some i) is a e = record {
  unit = g.unit;
  instruction = i;
  is = rw (g.is_unit, is) refl;
  fine = strict_fine k m g l a i e;
}

pub ready : (k : Code) (m : MachineState) → IsFit k m → IsReady k m
ready k m g =
    let f = g.typed.fine m.point (kinds_of m.state.entries) g.here in
    ready_at k m g f.leads (slice_get g.unit.code m.point) refl f.agree f.effect
