-- The order in which the verifier follows the paths through a unit, and what it finds there.
use Rattle.std.specs.Prelude.{ℕ, zero, suc, ◌+◌, ◌*◌, ◌==◌, ◌&&◌, Bool, true, false, List, [], ◌∷◌, ◌++◌, length, map}
use Rattle.std.specs.Prelude.{replicate, nat_lt, slice_get, slice_set, Option, Some, None, Result, Ok, Err}
use Rattle.std.specs.Prelude.{if◌then◌else◌}
use Rattle.jt_image.specs.declared.kind.Kind.{Kind}
use Rattle.jt_image.specs.declared.kind.Kind.TheVariants as kind
use Rattle.jt_image.specs.declared.kind.Flaw.{Flaw}
use Rattle.jt_image.specs.declared.kind.Flaw.TheVariants as flaw
use Rattle.jt_image.specs.Code.{Section, Code}
use Rattle.jt_image.specs.Effect.{Shape, Successors, effect_at}
use Rattle.jt_image.specs.Typed.{max_entries}

-- A path that waits: it brings a shape to a point.
pub record WorkItem : Type 0 where
  pub point : ℕ
  pub shape : Shape

-- The known shapes, one index for each point.
abbrev pub Table : Type 0
Table = List (Option Shape)

abbrev pub known : Option (Option Shape) → Option Shape
known None = None
known (Some o) = o

abbrev pub shape_at : Table → ℕ → Option Shape
shape_at t p = known (slice_get t p)

-- The refusal of a unit: its point, its flaw, and the shape that differs from the known one, if a path
-- brought it.
pub record Refused : Type 0 where
  pub point : ℕ
  pub flaw : Flaw
  pub other : Option Shape

-- What the verifier finds in a unit: the shapes of the points that it reached, and the refusal, if the
-- unit is refused.
pub record Found : Type 0 where
  pub shapes : Table
  pub refused : Option Refused

abbrev pub accepted : Table → Found
accepted t = record { shapes = t; refused = None }

abbrev pub refuses : Table → ℕ → Flaw → Option Shape → Found
refuses t p f other = record { shapes = t; refused = Some (record { point = p; flaw = f; other = other }) }

-- ---- two shapes at one point

abbrev pub is_kind : Kind → Kind → Bool
is_kind kind.Value kind.Value = true
is_kind kind.Frame kind.Frame = true
is_kind kind.Capture kind.Capture = true
is_kind k l = false

abbrev pub are_same : Shape → Shape → Bool
are_same [] [] = true
are_same (k ∷ s) (l ∷ r) = is_kind k l && are_same s r
are_same s r = false

-- How two shapes differ, if they do: in their lengths, or else in the kind of an entry.
abbrev pub difference : Shape → Shape → Option Flaw
difference left right =
    if length left == length right then (if are_same left right then None else Some flaw.KindDiffers)
    else Some flaw.DepthDiffers

-- ---- the paths of a unit

-- What is found from a state on: the known shapes, and the paths that wait, the next one first.
abbrev pub After : Type 0
After = Table → List WorkItem → Found

-- The effect of an instruction sends its shape to each successor. The next point comes first.
abbrev pub sends : Successors → List WorkItem
sends l = map (λ p. record { point = p; shape = l.shape }) l.points

-- A path to a new point: the point takes the shape, and the path goes on from there.
abbrev pub passes : After → Table → List WorkItem → WorkItem → Result Successors Flaw → Found
passes after t w x (Ok l) = after (slice_set t x.point (Some x.shape)) (sends l ++ w)
passes after t w x (Err f) = refuses (slice_set t x.point (Some x.shape)) x.point f None

-- A path to a point with a shape ends there, unless its own shape differs.
abbrev pub meets : After → Table → List WorkItem → WorkItem → Option Flaw → Found
meets after t w x None = after t w
meets after t w x (Some f) = refuses t x.point f (Some x.shape)

abbrev pub comes : Code → Section → After → Table → List WorkItem → WorkItem → Option Shape → Found
comes k u after t w x None = passes after t w x (effect_at k u x.point x.shape)
comes k u after t w x (Some s) = meets after t w x (difference s x.shape)

-- A path arrives: its entries are counted, then its shape is compared, then it goes on.
abbrev pub arrives : Code → Section → After → Table → List WorkItem → WorkItem → Found
arrives k u after t w x =
    if nat_lt max_entries (length x.shape) then refuses t x.point flaw.TooDeep None
    else comes k u after t w x (shape_at t x.point)

-- Follows the paths that wait, one after the other, but at most `left` of them.
unfoldable pub explores : ℕ → Code → Section → Table → List WorkItem → Found
explores zero k u t w = accepted t
explores (suc left) k u t [] = accepted t
explores (suc left) k u t (x ∷ w) = arrives k u (λ t w. explores left k u t w) t w x

-- What is found in a unit, from its first point on. Each instruction adds at most two paths, so the
-- bound is never met.
unfoldable pub unit_found : Code → Section → Found
unit_found k u =
    explores (2 * length u.code + 2) k u (replicate (length u.code) None) (record { point = 0; shape = [] } ∷ [])
