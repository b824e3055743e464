-- The numbers K1 to K9 and the names of flaws, as they are printed.
use Rattle.std.specs.Prelude.{ℕ, List, codes}
use Rattle.jt_image.specs.declared.kind.Flaw.{Flaw}
use Rattle.jt_image.specs.declared.kind.Flaw.TheVariants as flaw

abbrev pub name_of : Flaw → List ℕ
name_of flaw.MissingOperand = codes "K1 MissingOperand"
name_of flaw.WrongKind = codes "K2 WrongKind"
name_of flaw.DepthDiffers = codes "K3 DepthDiffers"
name_of flaw.KindDiffers = codes "K4 KindDiffers"
name_of flaw.JumpOut = codes "K5 JumpOut"
name_of flaw.BadIndex = codes "K6 BadIndex"
name_of flaw.BadReturn = codes "K7 BadReturn"
name_of flaw.FallsOff = codes "K8 FallsOff"
name_of flaw.TooDeep = codes "K9 TooDeep"
