-- The claim of an image refusal is that the image of the program has too many bytes.
use Rattle.std.proofs.Common.{◌≡◌, Option, Some, subst, arith, rules}
use Rattle.jt_image.specs.Code.{Code}
use Rattle.jt_image.specs.Parts.{FitTexts, IsRefusal, HasTables}
use Rattle.jt_image.specs.declared.error.ImageError.{ImageError}
use Rattle.jt_image.specs.declared.error.ImageError.TheVariants as image_error
use Rattle.jt_ir.specs.Slots.{Program}
use Rattle.jt_lower.specs.Lower.{compiled}
use Rattle.jt_codegen.specs.Passed.{RefusesImage}
use Rattle.jt_codegen.specs.Units.{FitsCounts, of_image}
use Rattle.jt_codegen.proofs.PassedLimits.{not_within}

by_code : (e : ImageError) (p : Program) → HasTables (compiled p) → FitsCounts (compiled p)
    → FitTexts (compiled p).templates → IsRefusal e (Some (compiled p)) → RefusesImage (of_image e) p
by_code image_error.LimitPassed p tables counts names h = search (arith, rules, not_within)
by_code image_error.BadTable p tables counts names h = absurd (h tables)
by_code image_error.BadOpcode p tables counts names h = absurd cc
by_code image_error.NoMemory p tables counts names h = tt
by_code e p tables counts names h = absurd h

pub assembly_refused : (e : ImageError) (o : Option Code) (p : Program) → HasTables (compiled p)
    → FitsCounts (compiled p) → FitTexts (compiled p).templates → o ≡ Some (compiled p) → IsRefusal e o
    → RefusesImage (of_image e) p
assembly_refused e o p tables counts names same h = by_code e p tables counts names (subst (IsRefusal e) same h)
