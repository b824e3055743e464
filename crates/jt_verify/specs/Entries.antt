-- The values on top of a shape, and the entries below them.
use Rattle.std.specs.Prelude.{◌≡◌, ℕ, ◌+◌, [], ◌∷◌, Option, Some, None}
use Rattle.jt_image.specs.declared.kind.Kind.{Kind}
use Rattle.jt_image.specs.declared.kind.Kind.TheVariants as kind
use Rattle.jt_image.specs.Effect.{Shape}

-- The number of values above the uppermost loop or capture.
abbrev pub values_on : Shape → ℕ
values_on [] = 0
values_on (kind.Value ∷ s) = values_on s + 1
values_on (kind.Frame ∷ s) = 0
values_on (kind.Capture ∷ s) = 0

-- The shape from the uppermost loop or capture down.
abbrev pub without_values : Shape → Shape
without_values [] = []
without_values (kind.Value ∷ s) = without_values s
without_values (kind.Frame ∷ s) = kind.Frame ∷ s
without_values (kind.Capture ∷ s) = kind.Capture ∷ s

-- The parts of a shape: its top entry, and the shape below it.
abbrev pub TopOf : Shape → Option (Kind × Shape) → Type 0
TopOf s None = s ≡ []
TopOf s (Some p) = s ≡ p.0 ∷ p.1
