-- The results of the parts of an effect, by shape ids.
use Rattle.std.specs.Prelude.{◌≡◌, ℕ, ◌<◌, ◌≤◌, Bool, true, false, ◌∷◌, length}
use Rattle.std.specs.Prelude.{Option, Result, Ok, Err}
use Rattle.jt_image.specs.declared.kind.Kind.{Kind}
use Rattle.jt_image.specs.declared.kind.Kind.TheVariants as kind
use Rattle.jt_image.specs.declared.kind.Flaw.{Flaw}
use Rattle.jt_image.specs.Effect.{Shape, Successors, pops, pops_frame, pops_capture, on_frame}
use Rattle.jt_verify.specs.declared.nodes.ShapeId.{ShapeId}
use Rattle.jt_verify.specs.Arena.{Lists, shape_in, IsIn}

-- The test holds, or the error is the flaw.
abbrev pub Requires : Bool → Flaw → Result (Unit {0}) Flaw → Type 0
Requires b f (Ok u) = b ≡ true
Requires b f (Err e) = (b ≡ false) × (e ≡ f)

-- The point is one of `n` points, or the error is the flaw.
abbrev pub PointIn : ℕ → ℕ → Flaw → Result ℕ Flaw → Type 0
PointIn n p f (Ok q) = (q ≡ p) × (p < n)
PointIn n p f (Err e) = (e ≡ f) × (n ≤ p)

-- Continues with the shape below an entry of the kind.
abbrev pub taking : Kind → Shape → (Shape → Result Successors Flaw) → Result Successors Flaw
taking kind.Value s go = pops s go
taking kind.Frame s go = pops_frame s go
taking kind.Capture s go = pops_capture s go

-- The shape below a top entry of the kind, or the flaw.
abbrev pub Takes : Lists → Kind → Shape → Result ShapeId Flaw → Type 0
Takes t k s (Ok h) = (s ≡ k ∷ shape_in t h) × IsIn t h × (length (shape_in t h) < length s)
Takes t k s (Err f) = (go : Shape → Result Successors Flaw) → taking k s go ≡ Err f

-- The entry is a loop, or the error is the flaw.
abbrev pub FindsFrame : Option Kind → Result (Unit {0}) Flaw → Type 0
FindsFrame o (Ok u) = (go : Result Successors Flaw) → on_frame o go ≡ go
FindsFrame o (Err f) = (go : Result Successors Flaw) → on_frame o go ≡ Err f
