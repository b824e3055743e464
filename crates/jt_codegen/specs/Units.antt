-- The units and codes that fit into an image, and the claims of emission errors about them.
use Rattle.std.specs.Prelude.{ℕ, ◌<◌, ◌≤◌, ◌^◌, List, length, map}
use Rattle.std.specs.List.{AllByRecursion}
use Rattle.jt_image.specs.Code.{Section, Code}
use Rattle.jt_image.specs.IsCode.{IsInstruction, total_len, max_count, max_locals, max_instructions}
use Rattle.jt_image.specs.Parts.{KeepsLimits, FitNames, FitTexts, FitLocals, IsWritable}
use Rattle.jt_image.specs.declared.error.ImageError.{ImageError}
use Rattle.jt_image.specs.declared.error.ImageError.TheVariants as image_error
use Rattle.jt_constants.specs.declared.error.TableError.{TableError}
use Rattle.jt_constants.specs.declared.error.TableError.TheVariants as table_error
use Rattle.jt_ir.specs.Slots.{Routine, Program}
use Rattle.jt_ir.specs.View.{routine_view}
use Rattle.jt_ir.specs.declared.program.Routine as given
use Rattle.jt_ast.specs.Expressions.{Text}
use Rattle.jt_lower.specs.Lower.{unit_of}
use Rattle.jt_codegen.specs.declared.emission.EmitError.{EmitError}
use Rattle.jt_codegen.specs.declared.emission.EmitError.TheVariants as error
use Rattle.jt_codegen.specs.declared.finding.Limit.TheVariants as limit

-- The greatest number of parameters of a unit.
abbrev pub max_parameters : ℕ
max_parameters = 255

-- The numbers of parameters and of locals of each routine fit a unit.
abbrev pub FitParameters : {K : Type 0} → List (Routine K) → Type 0
FitParameters routines = AllByRecursion (λ r. r.parameters ≤ max_parameters) routines

abbrev pub FitRoutineLocals : {K : Type 0} → List (Routine K) → Type 0
FitRoutineLocals routines = AllByRecursion (λ r. r.locals ≤ max_locals) routines

-- The operands of all instructions fit their fields.
abbrev pub AreEncodable : List Section → Type 0
AreEncodable units = AllByRecursion (λ u. AllByRecursion IsInstruction u.code) units

-- The units of routines.
abbrev pub routine_units : List Text → List given.Routine → List Section
routine_units templates routines = map unit_of (map (routine_view templates) routines)

-- The tables of the program are within the limits of images, and so are the numbers of its units.
pub record FitsTables (program : Program) : Type 0 where
  pub globals : program.globals ≤ max_count
  pub units : length program.routines ≤ max_count
  pub names : FitTexts program.names
  pub parameters : FitParameters program.routines
  pub locals : FitRoutineLocals program.routines

-- The code keeps each limit but those of the names of templates and of all bytes.
pub record FitsCounts (code : Code) : Type 0 where
  pub names : length code.names ≤ max_count
  pub texts : FitNames code.names
  pub constants : length code.constants ≤ max_count
  pub units : length code.units ≤ max_count
  pub locals : FitLocals code.units
  pub instructions : total_len code.units ≤ max_instructions
  pub templates : length code.templates ≤ max_count

-- The code fits into an image.
pub record FitsImage (code : Code) : Type 0 where
  pub globals : code.globals < 2 ^ 16
  pub limits : KeepsLimits code
  pub writable : AllByRecursion IsWritable code.units

-- The indices of the program's pool fit their fields if its tables and its code are short enough.
abbrev pub HasFewValues : Program → Type 0
HasFewValues p =
    FitsTables p → total_len (map unit_of p.routines) ≤ max_instructions → length p.pool < 2 ^ 32

-- ---- the claims of emission errors

-- The claim of a refusal about a unit if `left` instructions are left: it has more of them. Its
-- operands fit their fields unless the program has too many instructions.
abbrev pub RefusesUnit : EmitError → ℕ → Section → Type 0
RefusesUnit (error.Limit limit.Instructions) left u = AllByRecursion IsInstruction u.code → left < length u.code
RefusesUnit (error.Limit l) left u = ⊥
RefusesUnit error.NoMemory left u = Unit {0}

-- The claim of a refusal about units: they have too many instructions.
abbrev pub RefusesUnits : EmitError → List Section → Type 0
RefusesUnits (error.Limit limit.Instructions) us = AreEncodable us → max_instructions < total_len us
RefusesUnits (error.Limit l) us = ⊥
RefusesUnits error.NoMemory us = Unit {0}

-- The claim of a refusal about the templates of places.
abbrev pub RefusesTemplates : EmitError → List (List ℕ) → Type 0
RefusesTemplates (error.Limit limit.Templates) ts = max_count < length ts
RefusesTemplates (error.Limit l) ts = ⊥
RefusesTemplates error.NoMemory ts = Unit {0}

-- The emission error of a refusal of parts whose tables are in order and short enough: they have too
-- many bytes.
abbrev pub of_image : ImageError → EmitError
of_image image_error.NoMemory = error.NoMemory
of_image e = error.Limit limit.Bytes

-- The emission error of a refusal of a table of constants.
abbrev pub of_table : TableError → EmitError
of_table table_error.TooManyConstants = error.Limit limit.Constants
of_table table_error.NoMemory = error.NoMemory
