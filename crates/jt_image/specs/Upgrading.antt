-- The upgrade of a code to version 2.
use Rattle.std.specs.Prelude.{◌<◌, [], length, replicate}
use Rattle.jt_image.specs.declared.error.ImageError.{ImageError}
use Rattle.jt_image.specs.declared.error.ImageError.TheVariants.{BadMagic, BadVersion, Truncated, Trailing, BadText}
use Rattle.jt_image.specs.declared.error.ImageError.TheVariants.{BadOpcode, BadTable, LimitPassed, NoMemory}
use Rattle.jt_image.specs.declared.version.Version.{Version}
use Rattle.jt_image.specs.declared.version.Version.TheVariants as version
use Rattle.jt_image.specs.Code.{Code}
use Rattle.jt_image.specs.IsCode.{total_len, max_bytes}
use Rattle.jt_image.specs.Spelling.{spelling}

-- The code in version 2, with no places.
abbrev pub unplaced : Code → Code
unplaced code =
    record {
      version = version.Two;
      globals = code.globals;
      names = code.names;
      constants = code.constants;
      units = code.units;
      templates = [];
      places = replicate (total_len code.units) (record { template = 0; line = 0 });
    }

abbrev pub upgraded_from : Version → Code → Code
upgraded_from version.One code = unplaced code
upgraded_from version.Two code = code

-- The upgrade of a code. A code of version 1 becomes one of version 2 without places, and a code of
-- version 2 stays as it is.
abbrev pub upgraded : Code → Code
upgraded code = upgraded_from code.version code

-- The claim of a refusal: the upgraded image would be too long, or memory ran out.
abbrev pub IsNotUpgraded : ImageError → Code → Type 0
IsNotUpgraded LimitPassed code = max_bytes < length (spelling (upgraded code))
IsNotUpgraded NoMemory code = Unit {0}
IsNotUpgraded BadMagic code = ⊥
IsNotUpgraded BadVersion code = ⊥
IsNotUpgraded Truncated code = ⊥
IsNotUpgraded Trailing code = ⊥
IsNotUpgraded BadText code = ⊥
IsNotUpgraded BadOpcode code = ⊥
IsNotUpgraded BadTable code = ⊥
