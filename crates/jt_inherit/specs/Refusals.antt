-- The meaning of an error for a library and an entry. The templates that were read show the broken
-- rule. A template that was not read counts as a name without a source. This breaks no rule except
-- the one that a source is missing: a library that was not read lacks no macro and holds nothing
-- else.
use Rattle.std.specs.Prelude.{◌≡◌, ◌≢◌, ◌<◌, Bool, false, IsTrue, List, Some, None, length, map, string_bytes}
use Rattle.std.specs.List.{AllByRecursion}
use Rattle.jt_scan.specs.Cut.{Segment, IsCut}
use Rattle.jt_scan.specs.Refused as scanner
use Rattle.jt_scan.specs.SourceView.{max_source_len}
use Rattle.jt_scan.specs.declared.error.ScanError.{ScanError}
use Rattle.jt_scan.specs.declared.error.ScanError.TheVariants as scan_error
use Rattle.jt_scan.specs.declared.options.Options.{Options}
use Rattle.jt_parse.specs.Kept.{pieces}
use Rattle.jt_parse.specs.Refusals as parser
use Rattle.jt_ast.specs.Texts.{among}
use Rattle.jt_ast.specs.Expressions.{Text}
use Rattle.jt_parse.specs.declared.error.ParseError.{ParseError}
use Rattle.jt_parse.specs.declared.error.ParseError.TheVariants as parse_error
use Rattle.jt_chains.specs.Chain.{Sources, Namespace, a_chain, Template, sources_in}
use Rattle.jt_inherit.specs.Chains.{SourceTexts, scanned, HasNoTree, AreRead, IsOnly}
use Rattle.jt_chains.specs.Rules as rules
use Rattle.jt_chains.specs.Rules.{Somewhere, asked}
use Rattle.jt_inherit.specs.declared.error.ChainError.{ChainError}
use Rattle.jt_inherit.specs.declared.error.ChainError.TheVariants as error

-- The source, before normalization, is too long, which is reported at line 1, or it has the fault.
abbrev pub IsUncut : ScanError → Options → Text → Type 0
IsUncut (scan_error.SourceTooLong line) options source = (line ≡ 1) × (max_source_len < length source)
IsUncut scan_error.NoMemory options source = ⊥
IsUncut e options source = scanner.IsRefusal e (scanned options source)

-- The source is cut into segments that spell no tree, or no allowed one.
pub record IsUnspelled (e : ParseError) (options : Options) (source : Text) : Type 0 where
  pub fault : e ≢ parse_error.NoMemory
  pub segments : List Segment
  pub cut : IsCut segments (scanned options source)
  pub refused : parser.IsRefusal e (pieces (map (λ segment. (options, segment)) segments))

-- The property holds of the sources of some templates of the library. Each of them was read and can
-- be read in no other way.
pub record Shows (given : SourceTexts) (options : Options) (P : Sources → Type 0) : Type 0 where
  pub templates : List Template
  pub read : AreRead given options templates
  pub only : AllByRecursion (IsOnly given options) templates
  pub holds : P (sources_in templates)

-- A requested name has a source with the fault, which spells no tree.
pub record HasFault (given : SourceTexts) (entry : Text) (options : Options) (name : Text) (P : Text → Type 0) : Type
    0 where
  pub reached : Shows given options (λ sources. rules.Asks sources options.autoescape (a_chain entry) name)
  pub source : Text
  pub found : given name ≡ Some source
  pub fault : P source
  pub none : HasNoTree options source

-- A requested name that may not be missing has no source.
pub record IsMissing (given : SourceTexts) (entry : Text) (options : Options) : Type 0 where
  pub name : Text
  pub reached :
      Shows given options (λ sources.
      Somewhere sources options.autoescape (a_chain entry)
      (λ namespace. IsTrue (among name (asked sources options.autoescape false namespace))))
  pub found : given name ≡ None

-- The templates that were read show that the rule is broken.
abbrev pub ShowsRule : (Sources → Bool → Namespace → Type 0) → SourceTexts → Text → Options → Type 0
ShowsRule Rule given entry options =
    Shows given options (λ sources. Rule sources options.autoescape (a_chain entry))

-- The error is justified; lack of memory needs no justification.
abbrev pub Breaks : ChainError → SourceTexts → Text → Options → Type 0
Breaks error.Missing = IsMissing
Breaks error.BadName = ShowsRule rules.BadName
Breaks error.ExtendsCycle = ShowsRule rules.ExtendsCycle
Breaks error.ChainTooLong = ShowsRule rules.ChainTooLong
Breaks error.DoubleBlock = ShowsRule rules.DoubleBlock
Breaks error.RequiredNotGiven = ShowsRule rules.RequiredNotGiven
Breaks error.NoSuper = ShowsRule rules.NoSuper
Breaks error.IncludeCycle = ShowsRule rules.IncludeCycle
Breaks error.MacroTwice = ShowsRule rules.MacroTwice
Breaks error.NoMemory = λ given entry options. Unit {0}
Breaks error.NoMacro = ShowsRule rules.NoMacro
Breaks error.NotALibrary = ShowsRule rules.NotALibrary
Breaks (error.Scan name e) = λ given entry options.
    HasFault given entry options (string_bytes name) (IsUncut e options)
Breaks (error.Parse name e) = λ given entry options.
    HasFault given entry options (string_bytes name) (IsUnspelled e options)
