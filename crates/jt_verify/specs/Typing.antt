-- The results of the verifier's effect.
use Rattle.std.specs.Prelude.{◌≡◌, ℕ, ◌<◌, ◌≤◌, Bool, slice_get, List, [], ◌∷◌, ◌++◌, length}
use Rattle.std.specs.Prelude.{Option, Some, None, Result, Ok, Err, IfOk, IsSome}
use Rattle.std.specs.List.{AllByRecursion}
use Rattle.jt_image.specs.declared.kind.Kind.{Kind}
use Rattle.jt_image.specs.declared.kind.Flaw.{Flaw}
use Rattle.jt_image.specs.declared.kind.Flaw.TheVariants as flaw
use Rattle.jt_image.specs.Code.{Section}
use Rattle.jt_image.specs.Effect as effects
use Rattle.jt_image.specs.Effect.{Shape}
use Rattle.jt_image.specs.Readers.{header_of}
use Rattle.jt_image.specs.Typed.{max_entries}
use Rattle.jt_verify.specs.declared.nodes.ShapeId.{ShapeId}
use Rattle.jt_verify.specs.declared.nodes.NonValue.{NonValue}
use Rattle.jt_verify.specs.declared.effect.Successors.{Successors}
use Rattle.jt_verify.specs.declared.effect.Effect.{Effect}
use Rattle.jt_verify.specs.declared.effect.EffectError.{EffectError}
use Rattle.jt_verify.specs.declared.effect.EffectError.TheVariants as errors
use Rattle.jt_verify.specs.declared.effect.InstrContext.{InstrContext}
use Rattle.jt_verify.specs.Arena.{Lists, shape_in, IsIn, kind_of}
use Rattle.jt_verify.specs.Shapes.{Takes, taking}

abbrev pub as_list : Option ℕ → List ℕ
as_list None = []
as_list (Some p) = p ∷ []

-- The successors, the next point first.
abbrev pub points_of : Successors → List ℕ
points_of l = as_list l.next ++ as_list l.target

-- The effect with this shape, without a mark, at these points.
abbrev pub unmarked : ShapeId → Option ℕ → Option ℕ → Effect
unmarked h next target =
    record { shape = h; mark = None; leads = record { next = next; target = target } }

-- An effect that leads only to the point, with a shape that is too long.
abbrev pub IsTall : ℕ → Result effects.Successors Flaw → Type 0
IsTall q (Ok l) = (l.points ≡ q ∷ []) × (max_entries < length l.shape)
IsTall q (Err f) = ⊥

-- The shape id belongs to the arena of this context, with its shape there.
abbrev pub IsHere : InstrContext → ShapeId → Type 0
IsHere a h = IsIn a.arena.now h

abbrev pub shape_of : InstrContext → ShapeId → Shape
shape_of a h = shape_in a.arena.now h

-- The number of points of the unit in this context.
abbrev pub points_here : InstrContext → ℕ
points_here a = a.header.now.instructions

-- The shape below the top entry, which has the kind, or the flaw.
abbrev pub TakesHere : InstrContext → Kind → Result ShapeId Flaw → Type 0
TakesHere a k below = Takes a.arena.now k (shape_in a.arena.now a.shape) below

-- A shape with the mark on top, if the mark exists.
abbrev pub marked : Option NonValue → Shape → Shape
marked None s = s
marked (Some m) s = kind_of m ∷ s

-- At most `max_entries` entries fit; otherwise the error names the point that they would reach.
abbrev pub Fits : ℕ → ℕ → Result (Unit {0}) EffectError → Type 0
Fits n p (Ok u) = n ≤ max_entries
Fits n p (Err (errors.Flaw f)) = ⊥
Fits n p (Err (errors.TooTall q)) = (q ≡ p) × (max_entries < n)

-- The result of an effect; a shape that is too long is not made.
abbrev pub EffectGives : Lists → Result Effect EffectError → Result effects.Successors Flaw → Type 0
EffectGives t (Ok e) effect =
    effect ≡ Ok (record { shape = marked e.mark (shape_in t e.shape); points = points_of e.leads })
EffectGives t (Err (errors.Flaw f)) effect = effect ≡ Err f
EffectGives t (Err (errors.TooTall q)) effect = IsTall q effect

-- The points lie in a code with `n` instructions.
abbrev pub AreWithin : ℕ → Successors → Type 0
AreWithin n l = AllByRecursion (λ p. p < n) (points_of l)

-- The successors lie in the unit, and the shape belongs to the arena. It has room for a loop or a
-- capture on top, if the instruction opens one.
abbrev pub GoesOn : InstrContext → Effect → Type 0
GoesOn a e =
    AreWithin a.header.now.instructions e.leads
    × IsIn a.arena.now e.shape
    × (IsSome e.mark → length (shape_in a.arena.now e.shape) < max_entries)

-- An effect as a function of a unit, a point and a shape.
abbrev pub Doing : Type 0
Doing = Section → ℕ → Shape → Result effects.Successors Flaw

-- The result is that effect here, or on this shape instead of the shape of the context.
abbrev pub Does : InstrContext → Result Effect EffectError → Doing → Type 0
Does a result doing =
    ((u : Section) → a.header.now ≡ header_of u
    → EffectGives a.arena.now result (doing u a.point (shape_in a.arena.now a.shape)))
    × IfOk result (GoesOn a)

abbrev pub DoesWith : InstrContext → ShapeId → Result Effect EffectError → Doing → Type 0
DoesWith a h result doing = Does a result (λ u p s. doing u p (shape_of a h))

-- The effect, if the test holds; otherwise a named index does not exist.
abbrev pub needing : Bool → Doing → Doing
needing there doing u p s = effects.require there flaw.BadIndex (doing u p s)

-- The effect on the shape below an entry of the kind.
abbrev pub below : Kind → Doing → Doing
below k doing u p s = taking k s (doing u p)

-- The effect on the shape with an entry of the kind on top.
abbrev pub under : Kind → Doing → Doing
under k doing u p s = doing u p (k ∷ s)

-- The effect, if a loop lies below `above` entries.
abbrev pub on_loop : ℕ → Doing → Doing
on_loop above doing u p s = effects.on_frame (slice_get s above) (doing u p s)

-- Goes to the next instruction or to the target.
abbrev pub branching : ℕ → Doing
branching target u p s = effects.branches u p target s

-- Replaces `n` values by one, and goes on.
abbrev pub making : ℕ → Doing
making n u p s = effects.makes u p n s

-- Pushes `n` values and goes on.
abbrev pub spreading : ℕ → Doing
spreading n u p s = effects.goes_on u p (effects.pushes n s)
