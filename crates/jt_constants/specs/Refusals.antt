-- The claims of the refusals of a table of constants.
use Rattle.std.specs.Prelude.{ℕ, ◌≡◌, ◌<◌, ◌≤◌, ◌^◌, List, length, Result, Ok, Err}
use Rattle.jt_image.specs.Code.{Constant}
use Rattle.jt_constants.specs.Merged.{each_once}
use Rattle.jt_constants.specs.declared.error.TableError.{TableError}
use Rattle.jt_constants.specs.declared.error.TableError.TheVariants as error

-- The claim of a refusal: the indices of the constants do not fit into 32 bits; `NoMemory` claims
-- nothing.
abbrev pub RefusesTable : TableError → List Constant → Type 0
RefusesTable error.TooManyConstants constants = 2 ^ 32 < length (each_once constants)
RefusesTable error.NoMemory constants = Unit {0}
