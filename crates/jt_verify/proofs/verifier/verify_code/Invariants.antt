use Rattle.std.proofs.Common.{◌≡◌, ℕ, ◌<◌, Some}
use Rattle.std.specs.Prelude.{slice_get}
use Rattle.jt_image.specs.Code.{Section}
use Rattle.jt_image.specs.Typed.{IsTypedUnit, Equal}
use Rattle.jt_verify.proofs.verifier.verify_code.Given as goal

abbrev pub invariant-units : goal.invariant-units
invariant-units g l =
    (n : ℕ) (u : Section) → n < l.unit → slice_get (g.C.Code.code l.code).units n ≡ Some u
    → IsTypedUnit Equal (g.C.Code.code l.code) u
