-- The meaning of an error of one source, before it becomes an error of a chain. Only private
-- clauses cite this module.
use Rattle.std.specs.Prelude.{◌≡◌, ◌≢◌, Some, None, string_bytes}
use Rattle.jt_scan.specs.declared.error.ScanError.{ScanError}
use Rattle.jt_scan.specs.declared.error.ScanError.TheVariants as scan_error
use Rattle.jt_scan.specs.declared.options.Options.{Options}
use Rattle.jt_ast.specs.Expressions.{Text}
use Rattle.jt_parse.specs.declared.error.ParseError.{ParseError}
use Rattle.jt_parse.specs.declared.error.ParseError.TheVariants as parse_error
use Rattle.jt_inherit.specs.Chains.{SourceTexts, HasNoTree}
use Rattle.jt_chains.specs.Names.{IsName}
use Rattle.jt_inherit.specs.Refusals.{IsUncut, IsUnspelled}
use Rattle.jt_inherit.specs.declared.error.ChainError.{ChainError}
use Rattle.jt_inherit.specs.declared.error.ChainError.TheVariants as error

-- The error names the template and is one of its source, which spells no tree. Lack of memory is no
-- claim about the source.
abbrev pub IsFault : ChainError → Text → Options → Text → Type 0
IsFault (error.Scan n e) name options source =
    (string_bytes n ≡ name) × IsUncut e options source × HasNoTree options source
IsFault (error.Parse n e) name options source =
    (string_bytes n ≡ name) × IsUnspelled e options source × HasNoTree options source
IsFault error.NoMemory name options source = Unit {0}
IsFault e name options source = ⊥

-- The error names the template, whose source has the property and spells no tree.
abbrev pub HasFaulty : Text → SourceTexts → Text → Options → (Text → Type 0) → Type 0
HasFaulty told given name options P =
    (told ≡ name)
    × ((source : Text) × (given name ≡ Some source) × P source × HasNoTree options source)

-- The error is one of the template of this name.
abbrev pub IsFaultOf : ChainError → SourceTexts → Text → Options → Type 0
IsFaultOf error.BadName given name options = IsName name → ⊥
IsFaultOf error.Missing given name options = given name ≡ None
IsFaultOf (error.Scan n e) given name options =
    HasFaulty (string_bytes n) given name options (IsUncut e options)
IsFaultOf (error.Parse n e) given name options =
    HasFaulty (string_bytes n) given name options (IsUnspelled e options)
IsFaultOf error.NoMemory given name options = Unit {0}
IsFaultOf e given name options = ⊥

-- ---- the conversion of a source's error

-- The error gets the template's name, or lack of memory replaces it.

abbrev pub IsScan : Text → ScanError → ChainError → Type 0
IsScan name e (error.Scan n f) = (string_bytes n ≡ name) × (f ≡ e) × (e ≢ scan_error.NoMemory)
IsScan name e error.NoMemory = Unit {0}
IsScan name e other = ⊥

abbrev pub IsParse : Text → ParseError → ChainError → Type 0
IsParse name e (error.Parse n f) = (string_bytes n ≡ name) × (f ≡ e) × (e ≢ parse_error.NoMemory)
IsParse name e error.NoMemory = Unit {0}
IsParse name e other = ⊥
