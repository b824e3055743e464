-- The facts about a code that a refusal states.
use Rattle.std.specs.Prelude.{◌≡◌, ◌⊎◌, ℕ, Some, Err, slice_get}
use Rattle.jt_image.specs.declared.kind.Flaw.{Flaw}
use Rattle.jt_image.specs.Code.{Section, Code}
use Rattle.jt_image.specs.Effect.{Shape, effect_at}
use Rattle.jt_image.specs.Typed.{Reaches}
use Rattle.jt_verify.specs.Differing.{IsTooDeep, DifferBy}
use Rattle.jt_verify.specs.declared.refusal.Refusal.{Refusal}
use Rattle.jt_verify.specs.declared.refusal.Refusal.TheVariants as refusal

-- A path brings a shape that is too long to the point, or two paths bring shapes that differ.
abbrev pub HasClash : Code → Section → ℕ → Flaw → Type 0
HasClash code unit point flaw =
    ((shape : Shape) × Reaches code unit point shape × IsTooDeep shape flaw)
    ⊎ ((shape other : Shape) × Reaches code unit point shape × Reaches code unit point other
    × DifferBy shape other flaw)

-- The instruction at the point has the flaw for a shape that a path brings there.
abbrev pub HasFlaw : Code → Section → ℕ → Flaw → Type 0
HasFlaw code unit point flaw =
    (shape : Shape) × Reaches code unit point shape × (effect_at code unit point shape ≡ Err flaw)

-- The reason why a unit is refused at a point.
abbrev pub HoldsAt : Code → Section → ℕ → Flaw → Type 0
HoldsAt code unit point flaw = HasFlaw code unit point flaw ⊎ HasClash code unit point flaw

-- The refusal holds at its point of its unit; lack of memory states nothing about the code.
abbrev pub RefusalHolds : Code → Refusal → Type 0
RefusalHolds code (refusal.Flaw flaw number point) =
    (unit : Section) × (slice_get code.units number ≡ Some unit) × HoldsAt code unit point flaw
RefusalHolds code refusal.NoMemory = Unit {0}
