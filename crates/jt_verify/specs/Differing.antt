-- The differences of two shapes.
use Rattle.std.specs.Prelude.{◌≡◌, ◌≢◌, ◌<◌, length, Result, Ok, Err}
use Rattle.jt_image.specs.declared.kind.Flaw.{Flaw}
use Rattle.jt_image.specs.declared.kind.Flaw.TheVariants as flaw
use Rattle.jt_image.specs.Effect.{Shape}
use Rattle.jt_image.specs.Typed.{max_entries}
use Rattle.jt_verify.specs.declared.refusal.Refusal.{Refusal}
use Rattle.jt_verify.specs.declared.refusal.Refusal.TheVariants as refusal

-- A shape has more entries than a shape may have.
abbrev pub IsTooDeep : Shape → Flaw → Type 0
IsTooDeep shape f = (f ≡ flaw.TooDeep) × (max_entries < length shape)

-- Two shapes differ in their lengths, or have equal lengths and different kinds.
abbrev pub DifferBy : Shape → Shape → Flaw → Type 0
DifferBy left right flaw.DepthDiffers = length left ≢ length right
DifferBy left right flaw.KindDiffers = (length left ≡ length right) × (left ≢ right)
DifferBy left right f = ⊥

-- Two shapes that meet are equal, or they differ by the flaw.
abbrev pub Meets : Shape → Shape → Result (Unit {0}) Flaw → Type 0
Meets left right (Ok u) = left ≡ right
Meets left right (Err f) = DifferBy left right f

-- The refusal states how the shapes differ; it has no index.
abbrev pub Differ : Shape → Shape → Refusal → Type 0
Differ left right (refusal.Flaw f unit point) = (unit ≡ 0) × (point ≡ 0) × DifferBy left right f
Differ left right refusal.NoMemory = ⊥
