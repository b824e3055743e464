-- The reason of an error of syntax at its line: the form that a tag has and the language does not, the
-- statements that do not nest, or the tag that stands where it may not.
use Rattle.std.specs.Prelude.{◌≡◌, ◌==◌, ℕ, List, [], ◌∷◌, Option, Some, None, option_map, if◌then◌else◌}
use Rattle.std.specs.Prelude.{◌++◌, codes, string_bytes}
use Rattle.std.specs.Fmt.{decimal}
use Rattle.std.specs.Option.{option_or}
use Rattle.jt_scan.specs.Cut.{IsCut}
use Rattle.jt_scan.specs.View.{cut_of}
use Rattle.jt_scan.specs.declared.Options.{Options}
use Rattle.jt_scan.specs.declared.segment.Segment.{Segment}
use Rattle.jt_scan.specs.declared.segment.SegmentKind.{SegmentKind}
use Rattle.jt_scan.specs.declared.segment.SegmentKind.TheVariants as part
use Rattle.jt_hints.specs.Forms as forms
use Rattle.jt_hints.specs.Forms.{syntax_hint}
use Rattle.jt_hints.specs.Nesting as nesting
use Rattle.jt_hints.specs.Nesting.{nesting_hint}
use Rattle.jt_hints.specs.Positions as positions
use Rattle.jt_hints.specs.Positions.{position_hint}
use Rattle.jt_hints.specs.declared.nesting.NestingHint.TheVariants as nesting_hint_of
use Rattle.jt_hints.specs.declared.syntax.SyntaxHint.{SyntaxHint}
use Rattle.jt_hints.specs.declared.syntax.SyntaxHint.TheVariants as form_hint
use Rattle.jt_ast.specs.Expressions.{Text}
use Rattle.jt_inherit.specs.Chains.{SourceTexts, scanned}
use Rattle.jt_codegen.specs.declared.ParseError.{ParseError}
use Rattle.jt_codegen.specs.declared.ParseError.TheVariants as parse_error
use Rattle.jt_codegen.specs.declared.ChainError.{ChainError}
use Rattle.jt_codegen.specs.declared.ChainError.TheVariants as chain_error
use Rattle.jt_codegen.specs.declared.CompileError.{CompileError}
use Rattle.jt_codegen.specs.declared.CompileError.TheVariants as compile_error
use Rattle.jt_host.specs.Subjects.{quoted}
use Rattle.jt_host.specs.declared.syntax_hints.SourceHint.{SourceHint}
use Rattle.jt_host.specs.declared.syntax_hints.SourceHint.TheVariants as hint
use Rattle.jt_codegen.specs.declared.Explained.{Explained}
use Rattle.jt_codegen.specs.declared.Explained.TheVariants as explained

abbrev pub hint_of_part : ℕ → SegmentKind → Option SyntaxHint
hint_of_part line (part.Tag tag) =
    if tag.line == line then syntax_hint tag.kind tag.tokens.items else None
hint_of_part line p = None

-- The form of a segment that is a tag at the line.
abbrev pub hint_in : ℕ → Segment → Option SyntaxHint
hint_in line s = hint_of_part line s.part

-- The first form of a tag at the line.
abbrev pub first_hint : ℕ → List Segment → Option SyntaxHint
first_hint line [] = None
first_hint line (s ∷ ss) = option_or (hint_in line s) (first_hint line ss)

-- The first form of a tag at the line, or else that the statements do not nest there, or else that a
-- tag may not stand there.
abbrev pub source_hint : ℕ → List Segment → Option SourceHint
source_hint line segments =
    option_or (option_map hint.Form (first_hint line segments))
    (option_or (option_map hint.Nesting (nesting_hint segments line))
    (option_map hint.Position (position_hint segments line)))

-- What an explanation says of the reason.
abbrev pub sentence : SourceHint → Text
sentence (hint.Form h) = forms.sentence h
sentence (hint.Nesting h) = nesting.sentence h
sentence (hint.Position h) = positions.sentence h

-- With the line at which the statement begins that is open.
abbrev pub hint_text : SourceHint → Text
hint_text (hint.Nesting (nesting_hint_of.OtherOpen s line)) =
    nesting.sentence (nesting_hint_of.OtherOpen s line) ++ (codes "; it begins at line " ++ decimal line)
hint_text h = sentence h

-- A word that begins no statement is followed by the word that was probably meant.
abbrev pub reason_text : SourceHint → Option Text → Text
reason_text (hint.Form form_hint.UnknownStatement) (Some name) =
    forms.sentence form_hint.UnknownStatement ++ (codes "; did you mean" ++ (quoted name ++ codes "?"))
reason_text h meant = hint_text h

-- The source is cut into segments, which have this reason at the line.
pub record HasHint (options : Options) (source : Text) (line : ℕ) (h : SourceHint) : Type 0 where
  pub segments : List Segment
  pub cut : IsCut (cut_of segments) (scanned options source)
  pub is : source_hint line segments ≡ Some h

-- The template has a source with this reason at the line.
pub record HasHintIn (sources : SourceTexts) (options : Options) (template : Text) (line : ℕ) (h : SourceHint) :
    Type 0 where
  pub source : Text
  pub found : sources template ≡ Some source
  pub reason : HasHint options source line h

module _ (sources : SourceTexts) (options : Options) where
  abbrev pub IsParseHint : Text → ParseError → Option SourceHint → Type 0
  IsParseHint template e None = Unit {0}
  IsParseHint template (parse_error.Syntax line) (Some h) = HasHintIn sources options template line h
  IsParseHint template e (Some h) = ⊥

  abbrev pub IsChainHint : ChainError → Option SourceHint → Type 0
  IsChainHint (chain_error.Parse template e) hint = IsParseHint (string_bytes template) e hint
  IsChainHint e None = Unit {0}
  IsChainHint e (Some h) = ⊥

  -- A hint is a reason that the source has at the line of the error. Only an error of syntax has one.
  abbrev pub IsHint : CompileError → Option SourceHint → Type 0
  IsHint (compile_error.Chain e) hint = IsChainHint e hint
  IsHint e None = Unit {0}
  IsHint e (Some h) = ⊥

  -- The hint of what is explained. An entry that compiles has none.
  abbrev pub IsHintFor : Explained → Option SourceHint → Type 0
  IsHintFor (explained.Refused f) hint = IsHint f.error hint
  IsHintFor explained.Compiles None = Unit {0}
  IsHintFor explained.Compiles (Some h) = ⊥
