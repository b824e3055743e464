-- The name in the sources that the name of a refusal probably means, the method that is called, and what
-- a macro takes.
use Rattle.std.specs.Str.{bytes_eq}
use Rattle.std.specs.Prelude.{◌≡◌, ◌⊎◌, ℕ, true, List, codes, Option, Some, None, string_bytes}
use Rattle.jt_scan.specs.Cut.{IsCut}
use Rattle.jt_scan.specs.View.{cut_of}
use Rattle.jt_scan.specs.declared.Options.{Options}
use Rattle.jt_scan.specs.declared.segment.Segment.{Segment}
use Rattle.jt_ast.specs.Expressions.{Text}
use Rattle.jt_hints.specs.CalledMethods.{called_method}
use Rattle.jt_hints.specs.DefinedNames.{defined_names, layout_named, library_named}
use Rattle.jt_hints.specs.Edits.{nearest}
use Rattle.jt_hints.specs.Fitting.{macro_arguments}
use Rattle.jt_hints.specs.KnownStatements.{statement_names, unknown_statement}
use Rattle.jt_hints.specs.declared.definitions.NameKind.{NameKind}
use Rattle.jt_hints.specs.declared.definitions.NameKind.TheVariants as kind
use Rattle.jt_inherit.specs.Chains.{SourceTexts, scanned}
use Rattle.jt_codegen.specs.declared.ChainError.{ChainError}
use Rattle.jt_codegen.specs.declared.ChainError.TheVariants as chain_error
use Rattle.jt_codegen.specs.declared.ChainSubject.{ChainSubject}
use Rattle.jt_codegen.specs.declared.ChainSubject.TheVariants as chain_subject
use Rattle.jt_codegen.specs.declared.CompileError.{CompileError}
use Rattle.jt_codegen.specs.declared.CompileError.TheVariants as compile_error
use Rattle.jt_codegen.specs.declared.Explained.{Explained}
use Rattle.jt_codegen.specs.declared.Explained.TheVariants as explained
use Rattle.jt_codegen.specs.declared.Finding.{Finding}
use Rattle.jt_codegen.specs.declared.ParseError.TheVariants as parse_error
use Rattle.jt_codegen.specs.declared.ScopeError.TheVariants as scope_error
use Rattle.jt_codegen.specs.declared.Subject.{Subject}
use Rattle.jt_codegen.specs.declared.Subject.TheVariants as subject
use Rattle.jt_codegen.specs.declared.TagPlace.{TagPlace}
use Rattle.jt_host.specs.declared.meant.Sought.{Sought}
use Rattle.jt_host.specs.declared.meant.Sought.TheVariants as sought

-- What is sought in a source.
pub data Wanted : Type 0 where
  -- The nearest one of the names of a kind that the tags define.
  near_name : NameKind → Text → Wanted
  -- The library that an import tag binds to a name.
  library : Text → Wanted
  -- The template that the source extends.
  layout : Wanted
  -- The first method of a Python value that the tags at a line call.
  method : ℕ → Wanted
  -- The word of a statement that is nearest to the first one of a tag at a line.
  statement : ℕ → Wanted
  -- What the macro of a name takes.
  macro_of : Text → Wanted

abbrev pub wanted : Sought → Wanted
wanted (sought.Near k x) = near_name k x.now
wanted (sought.Library x) = library x.now
wanted sought.Layout = layout
wanted (sought.Method line) = method line
wanted (sought.Statement line) = statement line
wanted (sought.Macro x) = macro_of x.now

abbrev pub near_word : Option Text → Option Text
near_word (Some word) = nearest word statement_names
near_word None = None

-- The word of a statement that is nearest to the first one of the tags at the line that begins none.
abbrev pub near_statement : ℕ → List Segment → Option Text
near_statement line segments = near_word (unknown_statement line segments)

abbrev pub found_in : Wanted → List Segment → Option Text
found_in (near_name k x) segments = nearest x (defined_names k segments)
found_in (library x) segments = library_named x segments
found_in layout segments = layout_named segments
found_in (method line) segments = called_method line segments
found_in (statement line) segments = near_statement line segments
found_in (macro_of x) segments = macro_arguments x segments

-- The source is cut into segments, in which this is found.
pub record HasFound (options : Options) (source : Text) (w : Wanted) (y : Text) : Type 0 where
  pub segments : List Segment
  pub cut : IsCut (cut_of segments) (scanned options source)
  pub is : found_in w segments ≡ Some y

-- The name is the nearest one of some names, and has a source.
pub record IsTemplateNear (sources : SourceTexts) (x y : Text) : Type 0 where
  pub names : List Text
  pub near : nearest x names ≡ Some y
  pub source : Text
  pub found : sources y ≡ Some source

module _ (sources : SourceTexts) (options : Options) where
  -- This is found in the source of the template.
  pub record IsFound (template : Text) (w : Wanted) (y : Text) : Type 0 where
    pub source : Text
    pub found : sources template ≡ Some source
    pub has : HasFound options source w y

  -- The template imports a library by this name, and the nearest one of its macros is meant.
  pub record IsMemberNear (template of x y : Text) : Type 0 where
    pub name : Text
    pub imported : IsFound template (library of) name
    pub near : IsFound name (near_name kind.PublicMacro x) y

  -- A field of `self` is a block of the template, and that of another name a macro of a library.
  abbrev pub IsFieldNear : Text → Text → Text → Text → Type 0
  IsFieldNear template of x y =
      ((bytes_eq of (codes "self") ≡ true) × IsFound template (near_name kind.Block x) y) ⊎ IsMemberNear template of x y

  -- The template extends another one, and the nearest one of the callees of that is meant.
  pub record IsOfLayout (template x y : Text) : Type 0 where
    pub name : Text
    pub extended : IsFound template layout name
    pub near : IsFound name (near_name kind.Callee x) y

  -- A callee of the template, or of the template that it extends.
  abbrev pub IsNameNear : Text → Text → Text → Type 0
  IsNameNear template x y = IsFound template (near_name kind.Callee x) y ⊎ IsOfLayout template x y

  -- What a template calls by a name is one of its callees, and a field is that of `self` or a library.
  abbrev pub IsCalleeNear : Text → Subject → Text → Type 0
  IsCalleeNear template (subject.CalledName x) y = IsNameNear template (string_bytes x) y
  IsCalleeNear template (subject.CalledField of k) y = IsFieldNear template (string_bytes of) (string_bytes k) y
  IsCalleeNear template s y = ⊥

  -- A template of the library, or a macro of the library that a `from` tag names.
  abbrev pub IsNearOfRule : ChainError → ChainSubject → Text → Type 0
  IsNearOfRule chain_error.Missing (chain_subject.Template x) y = IsTemplateNear sources (string_bytes x) y
  IsNearOfRule chain_error.NoMacro (chain_subject.Macro l x) y =
      IsFound (string_bytes l) (near_name kind.PublicMacro (string_bytes x)) y
  IsNearOfRule e s y = ⊥

  abbrev pub IsNearOfChain : ChainError → Subject → Text → Type 0
  IsNearOfChain e (subject.Chain s) y = IsNearOfRule e s y
  IsNearOfChain e s y = ⊥

  -- The name that the name of a refusal probably means, or that the first word of a tag does.
  abbrev pub IsMeantAt : CompileError → Option TagPlace → Option Subject → Text → Type 0
  IsMeantAt (compile_error.Chain (chain_error.Parse x (parse_error.Syntax line))) place about y =
      IsFound (string_bytes x) (statement line) y
  IsMeantAt (compile_error.Chain e) place (Some s) y = IsNearOfChain e s y
  IsMeantAt (compile_error.Scope scope_error.NotCallable) (Some place) (Some s) y =
      IsCalleeNear (string_bytes place.template) s y
  IsMeantAt e place about y = ⊥

  abbrev pub IsMeantBy : Finding → Text → Type 0
  IsMeantBy f y = IsMeantAt f.error f.place f.subject y

  abbrev pub IsMeantFor : Explained → Text → Type 0
  IsMeantFor (explained.Refused f) y = IsMeantBy f y
  IsMeantFor explained.Compiles y = ⊥

  -- The method that is called at the place, if the callee is neither a name nor a field of a name.
  abbrev pub IsMethodAt : CompileError → Option TagPlace → Option Subject → Text → Type 0
  IsMethodAt (compile_error.Scope scope_error.NotCallable) (Some place) (Some subject.CalledExpression) y =
      IsFound (string_bytes place.template) (method place.line) y
  IsMethodAt e place about y = ⊥

  abbrev pub IsMethodBy : Finding → Text → Type 0
  IsMethodBy f y = IsMethodAt f.error f.place f.subject y

  abbrev pub IsMethodFor : Explained → Text → Type 0
  IsMethodFor (explained.Refused f) y = IsMethodBy f y
  IsMethodFor explained.Compiles y = ⊥

  -- The template imports a library by this name, whose macro takes this.
  pub record IsTakenByField (template of x y : Text) : Type 0 where
    pub name : Text
    pub imported : IsFound template (library of) name
    pub taken : IsFound name (macro_of x) y

  -- The template extends another one, whose macro takes this.
  pub record IsTakenInLayout (template x y : Text) : Type 0 where
    pub name : Text
    pub extended : IsFound template layout name
    pub taken : IsFound name (macro_of x) y

  -- A macro of the template, or of the template that it extends.
  abbrev pub IsTakenByName : Text → Text → Text → Type 0
  IsTakenByName template x y = IsFound template (macro_of x) y ⊎ IsTakenInLayout template x y

  -- What the macro takes whose arguments do not fit.
  abbrev pub IsTakenAt : CompileError → Option TagPlace → Option Subject → Text → Type 0
  IsTakenAt (compile_error.Scope scope_error.BadArguments) (Some place) (Some (subject.CalledName x)) y =
      IsTakenByName (string_bytes place.template) (string_bytes x) y
  IsTakenAt (compile_error.Scope scope_error.BadArguments) (Some place) (Some (subject.CalledField of k)) y =
      IsTakenByField (string_bytes place.template) (string_bytes of) (string_bytes k) y
  IsTakenAt e place about y = ⊥

  abbrev pub IsTakenBy : Finding → Text → Type 0
  IsTakenBy f y = IsTakenAt f.error f.place f.subject y

  abbrev pub IsTakenFor : Explained → Text → Type 0
  IsTakenFor (explained.Refused f) y = IsTakenBy f y
  IsTakenFor explained.Compiles y = ⊥
