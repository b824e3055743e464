-- The state of a unit while it is verified.
use Rattle.std.specs.Prelude.{◌≡◌, ◌⊎◌, ℕ, suc, ◌+◌, ◌<◌, ◌≤◌, Bool, true, false, List, [], ◌∷◌, ◌++◌}
use Rattle.std.specs.Prelude.{length, map, reverse, Option, Some, None, option_map, unwrap_or}
use Rattle.std.specs.Prelude.{Result, Ok, Err, slice_get}
use Rattle.std.specs.List.{AllByRecursion}
use Rattle.jt_image.specs.declared.kind.Flaw.{Flaw}
use Rattle.jt_image.specs.declared.kind.Flaw.TheVariants as flaw
use Rattle.jt_image.specs.declared.code.UnitHeader.{UnitHeader}
use Rattle.jt_image.specs.Code.{Section, Code}
use Rattle.jt_image.specs.Readers.{header_of}
use Rattle.jt_image.specs.Effect as effects
use Rattle.jt_image.specs.Effect.{Shape, effect_at}
use Rattle.jt_image.specs.Typed.{Reaches, IsTypedUnit, Equal, max_entries}
use Rattle.jt_verify.specs.Search.{WorkItem, Table, Refused, Found, shape_at, explores}
use Rattle.jt_verify.specs.Findings.{FoundHolds}
use Rattle.jt_verify.specs.Typing.{as_list, points_of, IsTall, AreWithin}
use Rattle.jt_verify.specs.Differing.{IsTooDeep, DifferBy}
use Rattle.jt_verify.specs.Refusing.{HoldsAt}
use Rattle.jt_verify.specs.declared.effect.Successors.{Successors}
use Rattle.jt_verify.specs.declared.refusal.Refusal.{Refusal}
use Rattle.jt_verify.specs.declared.refusal.Refusal.TheVariants as refusal
use Rattle.jt_verify.specs.declared.halt.Refused.{Refused as Halted}
use Rattle.jt_verify.specs.declared.halt.Halt.{Halt}
use Rattle.jt_verify.specs.declared.halt.Halt.TheVariants as halt
use Rattle.jt_verify.specs.declared.nodes.ShapeId.{ShapeId}
use Rattle.jt_verify.specs.declared.verifier.WorkItem.{WorkItem as Waiting}
use Rattle.jt_verify.specs.declared.verifier.OutState.{OutState}
use Rattle.jt_verify.specs.declared.verifier.Dataflow.{Dataflow}
use Rattle.jt_verify.specs.Arena.{Lists, shape_in, IsIn}

-- A unit of a code; a unit outside its table is empty, but is never used.
abbrev pub unit_of : Code → ℕ → Section
unit_of k n =
    unwrap_or (slice_get k.units n) (record { parameters = 0; kind = 0; locals = 0; code = [] })

-- The unit exists, and has this header.
pub record IsUnit (k : Code) (n : ℕ) (h : UnitHeader) : Type 0 where
  pub is : slice_get k.units n ≡ Some (unit_of k n)
  pub header : h ≡ header_of (unit_of k n)

-- The number of points without a shape.
abbrev pub unknown : Table → ℕ
unknown [] = 0
unknown (None ∷ t) = 1 + unknown t
unknown (Some s ∷ t) = unknown t

-- The remaining work: a point without a shape adds at most two paths.
abbrev pub work_left : Table → List WorkItem → ℕ
work_left t w = (unknown t + unknown t) + length w

-- The worklist has this shape at the point.
abbrev pub Waits : List WorkItem → Shape → ℕ → Type 0
Waits [] s q = ⊥
Waits (x ∷ w) s q = ((x.point ≡ q) × (x.shape ≡ s)) ⊎ Waits w s q

-- The shape is known at the point, or waits there.
abbrev pub IsDue : Table → List WorkItem → Shape → ℕ → Type 0
IsDue t w s q = (shape_at t q ≡ Some s) ⊎ Waits w s q

-- The effect at a point has no flaw, and its shape is due at each successor.
pub record IsFollowed (k : Code) (u : Section) (t : Table) (w : List WorkItem) (p : ℕ) (s : Shape)
    : Type 0 where
  pub leads : effects.Successors
  pub effect : effect_at k u p s ≡ Ok leads
  pub due : AllByRecursion (IsDue t w leads.shape) leads.points

-- Effects bring the shape to the point, which lies in the code.
abbrev pub Comes : Code → Section → WorkItem → Type 0
Comes k u x = (x.point < length u.code) × Reaches k u x.point x.shape

-- The shapes that are known come from paths, and each point with a shape was followed.
pub record IsWorking (k : Code) (u : Section) (t : Table) (w : List WorkItem) : Type 0 where
  pub len : length t ≡ length u.code
  pub start : IsDue t w [] 0
  pub small : (p : ℕ) (s : Shape) → shape_at t p ≡ Some s → length s ≤ max_entries
  pub reached : (p : ℕ) (s : Shape) → shape_at t p ≡ Some s → Reaches k u p s
  pub coming : AllByRecursion (Comes k u) w
  pub fine : (p : ℕ) (s : Shape) → shape_at t p ≡ Some s → IsFollowed k u t w p s

-- Whether a path ends: its shape is known at its point; otherwise the point is new and may have the
-- shape.
abbrev pub Arrives : Table → WorkItem → Bool → Type 0
Arrives t x true = shape_at t x.point ≡ Some x.shape
Arrives t x false = (length x.shape ≤ max_entries) × (shape_at t x.point ≡ None)

-- The reason why a shape may not join the known shape at a point, and the shape that is shown with it.
abbrev pub ClashesAt : Option Shape → Shape → Flaw → Option Shape → Type 0
ClashesAt o s f other =
    (IsTooDeep s f × (other ≡ None))
    ⊎ ((length s ≤ max_entries) × ((r : Shape) × (o ≡ Some r) × DifferBy r s f) × (other ≡ Some s))

-- The refusal states why the path's shape cannot join the known one.
abbrev pub Clashes : Table → WorkItem → Refused → Type 0
Clashes t x r = (r.point ≡ x.point) × ClashesAt (shape_at t x.point) x.shape r.flaw r.other

-- The effect at a point has the flaw, or it leads to `q` with a shape that is too long.
abbrev pub StepFlaw : Code → Section → ℕ → Shape → Flaw → ℕ → Type 0
StepFlaw k u p s f q =
    ((q ≡ p) × (effect_at k u p s ≡ Err f))
    ⊎ ((f ≡ flaw.TooDeep) × IsTall q (effect_at k u p s))

-- The result of the effect at a point.
abbrev pub Steps : Lists → Code → Section → ℕ → Shape → Result OutState Halt → Type 0
Steps t k u p s (Ok a) =
    effect_at k u p s ≡ Ok (record { shape = shape_in t a.shape; points = points_of a.leads })
Steps t k u p s (Err (halt.Refused r)) = (r.other ≡ None) × StepFlaw k u p s r.flaw r.point
Steps t k u p s (Err halt.NoMemory) = Unit {0}

-- The paths that an instruction adds to the worklist; the last one is followed first.
abbrev pub sent : Successors → Shape → List WorkItem
sent l s = map (λ p. record { point = p; shape = s }) (as_list l.target ++ as_list l.next)

-- The state after an instruction: points of the unit, and a shape of the arena.
pub record IsBehind (t : Lists) (points : ℕ) (a : OutState) : Type 0 where
  pub within : AreWithin points a.leads
  pub shape : IsIn t a.shape

-- The reason why unit `n` is refused.
abbrev pub RefusesUnit : Code → Section → ℕ → Refusal → Type 0
RefusesUnit k u n (refusal.Flaw f m p) = (m ≡ n) × HoldsAt k u p f
RefusesUnit k u n refusal.NoMemory = Unit {0}

-- ---- shapes by their ids

abbrev pub path_in : Lists → Waiting → WorkItem
path_in t x = record { point = x.point; shape = shape_in t x.shape }

abbrev pub paths_in : Lists → List Waiting → List WorkItem
paths_in t w = map (path_in t) w

abbrev pub table_in : Lists → List (Option ShapeId) → Table
table_in t hs = map (option_map (shape_in t)) hs

-- The shape of the path belongs to the arena.
abbrev pub IsInPath : Lists → Waiting → Type 0
IsInPath t x = IsIn t x.shape

-- The shape id, if it exists, belongs to the arena.
abbrev pub IsInIf : Lists → Option ShapeId → Type 0
IsInIf t None = Unit {0}
IsInIf t (Some h) = IsIn t h

-- The refusal by its shape id.
abbrev pub refused_in : Lists → Halted → Refused
refused_in t r = record { point = r.point; flaw = r.flaw; other = option_map (shape_in t) r.other }

-- The shape of the refusal, if both exist, belongs to the arena.
abbrev pub IsInRefused : Lists → Option Halted → Type 0
IsInRefused t None = Unit {0}
IsInRefused t (Some r) = IsInIf t r.other

-- What is found in a unit, by its shape ids.
abbrev pub found_in : Lists → List (Option ShapeId) → Option Halted → Found
found_in t hs r = record { shapes = table_in t hs; refused = option_map (refused_in t) r }

-- All shape ids of what is found belong to the arena.
abbrev pub AreInside : Lists → List (Option ShapeId) → Option Halted → Type 0
AreInside t hs r = AllByRecursion (IsInIf t) hs × IsInRefused t r

-- The result of an arrival: whether the path ends there, or a refusal.
abbrev pub Arriving : Lists → Table → WorkItem → Result Bool Halted → Type 0
Arriving l t x (Ok is_known) = Arrives t x is_known
Arriving l t x (Err r) = Clashes t x (refused_in l r) × IsInIf l r.other

-- All shape ids belong to the arena, and their shapes are the state of the unit.
pub record Works (k : Code) (u : Section) (t : Lists) (hs : List (Option ShapeId)) (w : List Waiting)
    : Type 0 where
  pub table : AllByRecursion (IsInIf t) hs
  pub worklist : AllByRecursion (IsInPath t) w
  pub working : IsWorking k u (table_in t hs) (paths_in t w)

-- The state of a unit, by its number, with this worklist instead of its own.
abbrev pub WorksOn : Code → ℕ → Dataflow → List Waiting → Type 0
WorksOn k n work w = Works k (unit_of k n) work.arena work.shapes.items w

-- The state of a unit whose worklist has one more path, which was popped.
abbrev pub WorksFrom : Code → ℕ → Dataflow → Waiting → Type 0
WorksFrom k n work path = WorksOn k n work (work.worklist.items ++ path ∷ [])

-- The remaining work with this worklist instead of its own, or with one more path.
abbrev pub left_of : Dataflow → List Waiting → ℕ
left_of work w = work_left (table_in work.arena work.shapes.items) (paths_in work.arena w)

abbrev pub left_from : Dataflow → Waiting → ℕ
left_from work path = left_of work (work.worklist.items ++ path ∷ [])

-- The effect at the point of a path, and the refusal of a unit, by the number of the unit.
abbrev pub StepsOn : Lists → Code → ℕ → WorkItem → Result OutState Halt → Type 0
StepsOn t k n x result = Steps t k (unit_of k n) x.point x.shape result

abbrev pub Refuses : Code → ℕ → Refusal → Type 0
Refuses k n r = RefusesUnit k (unit_of k n) n r

-- ---- what is found in a unit

-- What is found from a state on, with this worklist instead of its own. The last path is the next one.
abbrev pub found_from : ℕ → Code → ℕ → Dataflow → List Waiting → Found
found_from left k n work w =
    explores left k (unit_of k n) (table_in work.arena work.shapes.items) (reverse (paths_in work.arena w))

-- The state of a unit when it is refused.
pub record IsRefusedWith (k : Code) (u : Section) (t : Lists) (hs : List (Option ShapeId)) (r : Halted)
    : Type 0 where
  pub inside : AreInside t hs (Some r)
  pub holds : FoundHolds k u (found_in t hs (Some r))

-- The unit is refused with its shape ids in the arena, unless memory ran out.
abbrev pub HaltsIn : Code → Section → Lists → List (Option ShapeId) → Halt → Type 0
HaltsIn k u t hs (halt.Refused r) = IsRefusedWith k u t hs r
HaltsIn k u t hs halt.NoMemory = Unit {0}

abbrev pub HaltsWith : Code → ℕ → Dataflow → Halt → Type 0
HaltsWith k n work h = HaltsIn k (unit_of k n) work.arena work.shapes.items h

-- What is found ends with the refusal, unless memory ran out. A shape that is too long is counted one
-- path later.
abbrev pub EndsIn : (ℕ → Found) → Lists → List (Option ShapeId) → Halt → Type 0
EndsIn before t hs (halt.Refused r) = (left : ℕ) → before (suc (suc left)) ≡ found_in t hs (Some r)
EndsIn before t hs halt.NoMemory = Unit {0}

-- After the next path has been followed, the same is found as before.
abbrev pub FindsSame : Code → ℕ → Dataflow → Waiting → Dataflow → Result (Unit {0}) Halt → Type 0
FindsSame k n work path new (Ok u) = (left : ℕ)
    → found_from (suc left) k n work (work.worklist.items ++ path ∷ []) ≡ found_from left k n new new.worklist.items
FindsSame k n work path new (Err h) =
    EndsIn (λ left. found_from left k n work (work.worklist.items ++ path ∷ [])) new.arena new.shapes.items h

-- The unit with this number is typed.
abbrev pub IsTypedAt : Code → ℕ → Type 0
IsTypedAt k n = IsTypedUnit Equal k (unit_of k n)

-- The paths that are added to the worklist, by their shape ids.
abbrev pub handles_sent : Successors → ShapeId → List Waiting
handles_sent l h = map (λ p. record { point = p; shape = h }) (as_list l.target ++ as_list l.next)
