-- What is found in a unit, and the typed codes.
use Rattle.std.specs.Prelude.{◌≡◌, ℕ, Option, Some, None}
use Rattle.jt_image.specs.Code.{Section, Code}
use Rattle.jt_image.specs.Effect.{Shape}
use Rattle.jt_image.specs.Typed.{Reaches, IsTypedBy, Equal}
use Rattle.jt_verify.specs.Refusing.{HoldsAt}
use Rattle.jt_verify.specs.Search.{Table, Refused, Found, shape_at}

-- Without a refusal the unit is typed by these shapes, and each path brings the shape of its point. A
-- refusal holds of the unit.
abbrev pub OutcomeHolds : Code → Section → Table → Option Refused → Type 0
OutcomeHolds k u t None =
    IsTypedBy Equal k u (shape_at t) × ((p : ℕ) (s : Shape) → Reaches k u p s → shape_at t p ≡ Some s)
OutcomeHolds k u t (Some r) = HoldsAt k u r.point r.flaw

-- Each shape that is found at a point is one that a path brings there, and the outcome holds.
pub record FoundHolds (k : Code) (u : Section) (found : Found) : Type 0 where
  pub reached : (p : ℕ) (s : Shape) → shape_at found.shapes p ≡ Some s → Reaches k u p s
  pub outcome : OutcomeHolds k u found.shapes found.refused

-- What is found in a unit holds of it; nothing is found in a unit that does not exist.
abbrev pub AreTrue : Code → Option Section → Option Found → Type 0
AreTrue k None None = Unit {0}
AreTrue k None (Some f) = ⊥
AreTrue k (Some u) None = ⊥
AreTrue k (Some u) (Some f) = FoundHolds k u f
