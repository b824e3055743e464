-- What an explanation prints: the place, the code and the name of a refusal, what it is about, the
-- line of the source with marks, and the rule.
use Rattle.std.specs.Prelude.{◌≡◌, ℕ, ◌+◌, ◌/◌, ◌%◌, nat_lt, if◌then◌else◌}
use Rattle.std.specs.Prelude.{◌++◌, [], ◌∷◌, codes, Option, Some, None, option_map, string_bytes, unwrap_or}
use Rattle.std.specs.Fmt.{decimal}
use Rattle.jt_scan.specs.declared.Options.{Options}
use Rattle.jt_ast.specs.Expressions.{Text}
use Rattle.jt_inherit.specs.Chains.{SourceTexts}
use Rattle.jt_codegen.specs.declared.CompileError.{CompileError}
use Rattle.jt_codegen.specs.declared.CompileError.TheVariants as compile_error
use Rattle.jt_codegen.specs.declared.Explained.{Explained}
use Rattle.jt_codegen.specs.declared.Explained.TheVariants as explained
use Rattle.jt_codegen.specs.declared.Finding.{Finding}
use Rattle.jt_codegen.specs.declared.TagPlace.{TagPlace}
use Rattle.jt_host.specs.declared.refusal_code.RefusalCode.{RefusalCode}
use Rattle.jt_host.specs.declared.explanation.TemplateRefusal.{TemplateRefusal}
use Rattle.jt_host.specs.declared.explanation.Explanation.{Explanation}
use Rattle.jt_host.specs.Reasons.{chain_name, scope_text}
use Rattle.jt_host.specs.Marks.{mark}
use Rattle.jt_host.specs.Sentences.{sentence}
use Rattle.jt_host.specs.SourceLines.{source_line}
use Rattle.jt_host.specs.Subjects.{marked_name, subject_name, subject_text}
use Rattle.jt_host.specs.Suggestions.{suggestion}
use Rattle.jt_host.specs.SyntaxHints.{reason_text}
use Rattle.jt_host.specs.TokenMarks.{marks_under, stray_text, token_of}
use Rattle.jt_host.specs.declared.token_marks.Marked.{Marked}
use Rattle.jt_host.specs.declared.syntax_hints.SourceHint.{SourceHint}
use Rattle.jt_host.specs.Clues.{AreCluesFor}
use Rattle.jt_host.specs.declared.clues.Clues.{Clues}

-- ---- what is printed

-- The code and the name of an error, without its place.
abbrev pub error_name : CompileError → Text
error_name (compile_error.Chain e) = chain_name e
error_name (compile_error.Scope e) = scope_text e
error_name compile_error.CodeTooLong = codes "G1 CodeTooLong"
error_name compile_error.NoMemory = codes "G2 NoMemory"
error_name compile_error.StackTooDeep = codes "G3 StackTooDeep"

-- The template and the line before a refusal.
abbrev pub place_text : Option TagPlace → Text
place_text (Some place) = string_bytes place.template ++ (codes ":" ++ (decimal place.line ++ codes ": "))
place_text None = codes ""

-- The line of the source at a place. A template without a source has an empty line.
abbrev pub line_at : SourceTexts → Options → TagPlace → Text
line_at sources options place =
    source_line options (unwrap_or (sources (string_bytes place.template)) []) place.line

-- The line of the source, behind two spaces.
abbrev pub source_text : SourceTexts → Options → Option TagPlace → Text
source_text sources options None = codes ""
source_text sources options (Some place) = codes "  " ++ (line_at sources options place ++ codes "\n")

-- The marks under the name of a finding, in the line of its place.
abbrev pub marks_at : SourceTexts → Options → Option TagPlace → Option Text → Text
marks_at sources options (Some place) (Some name) = mark (line_at sources options place) name
marks_at sources options place name = []

abbrev pub marks_text : SourceTexts → Options → Finding → Text
marks_text sources options f = marks_at sources options f.place (marked_name f.subject)

-- The template and the line of the marks, or else of the tag.
abbrev pub shown_place : Option Marked → Option TagPlace → Text
shown_place (Some m) (Some place) =
    string_bytes place.template ++ (codes ":" ++ (decimal (token_of m).line ++ codes ": "))
shown_place m place = place_text place

-- The line of the source that has the marks, or else that of the tag.
abbrev pub shown_source : SourceTexts → Options → Option Marked → Option TagPlace → Text
shown_source sources options (Some m) (Some place) =
    codes "  " ++ (string_bytes (token_of m).before ++ (string_bytes (token_of m).rest ++ codes "\n"))
shown_source sources options m place = source_text sources options place

-- The marks under a word of a tag, or else under the name in the line of the tag.
abbrev pub marks_by : SourceTexts → Options → Option Marked → Option TagPlace → Finding → Text
marks_by sources options (Some m) (Some place) f = marks_under (token_of m)
marks_by sources options m place f = marks_text sources options f

abbrev pub shown_marks : SourceTexts → Options → Option Marked → Finding → Text
shown_marks sources options m f = marks_by sources options m f.place f

-- The place, the name of the refusal and what it is about.
abbrev pub heading : Clues → Finding → Text
heading clues f = shown_place clues.mark f.place ++ (error_name f.error ++ subject_text f.subject)

-- The reason of an error of syntax, if the sources show it, and otherwise the rule with a suggestion.
abbrev pub rule_by : Option SourceHint → Clues → Finding → Text
rule_by (Some hint) clues f = reason_text hint (option_map string_bytes clues.meant)
rule_by None clues f = sentence f ++ (suggestion clues f ++ stray_text clues.mark)

abbrev pub rule_text : Clues → Finding → Text
rule_text clues f = rule_by clues.hint clues f

-- The line of a finding, the line of the source, the marks, and the reason or the rule.
abbrev pub finding_lines : SourceTexts → Options → Clues → Finding → Text
finding_lines sources options clues f =
    heading clues f
    ++ (codes "\n"
    ++ (shown_source sources options clues.mark f.place
    ++ (shown_marks sources options clues.mark f ++ (codes "  " ++ (rule_text clues f ++ codes "\n")))))

-- The lines of what is explained, with what the sources show of it.
abbrev pub told : SourceTexts → Options → Clues → Explained → Text
told sources options clues explained.Compiles = codes "ok\n"
told sources options clues (explained.Refused f) = finding_lines sources options clues f

-- ---- what a host reads

-- The text of a number below 100.
abbrev pub numeral : ℕ → Text
numeral n = if nat_lt n 10 then (48 + n) ∷ [] else (48 + n / 10) ∷ ((48 + n % 10) ∷ [])

-- The text of a code: its letter, its number and its name.
abbrev pub spelled : RefusalCode → Text
spelled code = code.letter ∷ (numeral code.number ++ (codes " " ++ code.name.now))

-- The code, the place and the name of a finding.
pub record HasParts (f : Finding) (r : TemplateRefusal) : Type 0 where
  pub code : spelled r.code ≡ error_name f.error
  pub place : r.place ≡ f.place
  pub subject : option_map string_bytes r.subject ≡ subject_name f.subject

-- The refusal of a finding. An entry that compiles has none.
abbrev pub IsRefusalOf : Explained → Option TemplateRefusal → Type 0
IsRefusalOf explained.Compiles None = Unit {0}
IsRefusalOf (explained.Refused f) (Some r) = HasParts f r
IsRefusalOf x r = ⊥

-- The lines and the refusal of what is explained.
pub record IsExplanationOf (sources : SourceTexts) (options : Options) (x : Explained) (e : Explanation) :
    Type 0 where
  pub clues : Clues
  pub shown : AreCluesFor sources options x clues
  pub text : string_bytes e.text ≡ told sources options clues x
  pub refusal : IsRefusalOf x e.refusal
