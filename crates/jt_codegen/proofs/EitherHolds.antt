-- If a property holds of two things, it holds of the one that is chosen.
use Rattle.std.proofs.Common.{Bool, true, false, if◌then◌else◌}

pub either_of : {A : Type 0} (P : A → Type 0) (b : Bool) (x y : A) → P x → P y → P (if b then x else y)
either_of P true x y h k = h
either_of P false x y h k = k
