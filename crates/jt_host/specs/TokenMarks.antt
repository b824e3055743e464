-- The word or the character of a tag that is marked, by its place in the source.
use Rattle.std.specs.Prelude.{◌≡◌, ◌+◌, ℕ, true, List, [], ◌∷◌, ◌++◌, codes, drop, flat_map, length, take}
use Rattle.std.specs.Prelude.{Option, Some, None, option_map, string_bytes}
use Rattle.jt_scan.specs.SourceView.{Held, held_of}
use Rattle.jt_scan.specs.declared.error.ScanError.TheVariants as scan_error
use Rattle.jt_scan.specs.declared.options.Options.{Options}
use Rattle.jt_scan.specs.declared.segment.TagKind.TheVariants as tag_kind
use Rattle.jt_ast.specs.Expressions.{Text}
use Rattle.jt_hints.specs.LeftOut.{left_out_character}
use Rattle.jt_hints.specs.Strays.{IsStray, Refuses, place, stray_end}
use Rattle.jt_hints.specs.declared.strays.Stray.{Stray}
use Rattle.jt_hints.specs.declared.strays.Stray.TheVariants as stray
use Rattle.jt_inherit.specs.Chains.{SourceTexts}
use Rattle.jt_codegen.specs.declared.ChainError.TheVariants as chain_error
use Rattle.jt_codegen.specs.declared.CompileError.{CompileError}
use Rattle.jt_codegen.specs.declared.CompileError.TheVariants as compile_error
use Rattle.jt_codegen.specs.declared.Explained.{Explained}
use Rattle.jt_codegen.specs.declared.Explained.TheVariants as explained
use Rattle.jt_codegen.specs.declared.Finding.{Finding}
use Rattle.jt_codegen.specs.declared.Subject.{Subject}
use Rattle.jt_codegen.specs.declared.TagPlace.{TagPlace}
use Rattle.jt_host.specs.Marks.{caret, pad, stands_at}
use Rattle.jt_host.specs.SourceLines.{first_line, last_line, line_number}
use Rattle.jt_host.specs.Subjects.{marked_name, quoted}
use Rattle.jt_host.specs.declared.token_marks.Marked.{Marked}
use Rattle.jt_host.specs.declared.token_marks.Marked.TheVariants as marked
use Rattle.jt_host.specs.declared.token_marks.StrayMark.{StrayMark}
use Rattle.jt_host.specs.declared.token_marks.TokenMark.{TokenMark}

-- What to write in place of a character that begins no token, or of a brace that stands alone.
abbrev pub cure_of : Stray → Text → Option Text
cure_of (stray.Character at end) word = left_out_character word
cure_of (stray.Brace at end tag_kind.Variable) word = Some (codes "the tag ends with }}")
cure_of (stray.Brace at end tag_kind.Block) word = Some (codes "the tag ends with %}")

-- The part of the text from `at` to `end`, with its line.
pub record IsPart (text : Text) (at end : ℕ) (m : TokenMark) : Type 0 where
  pub line : m.line ≡ line_number (take at text)
  pub before : string_bytes m.before ≡ last_line (take at text)
  pub rest : string_bytes m.rest ≡ first_line (drop at text)
  pub word : string_bytes m.word ≡ drop at (take end text)

module _ (options : Options) (text : Text) (line : ℕ) where
  -- The character at which the scanner stops in the tag at the line, with what to write in its place.
  pub record IsStrayMark (m : StrayMark) : Type 0 where
    pub found : Stray
    pub is : IsStray options text line found
    pub part : IsPart text (place found) (stray_end found) m.mark
    pub cure : option_map (λ x. x.now) m.cure ≡ cure_of found (string_bytes m.mark.word)

  -- The word stands there, and the text before it lacks nothing but the end of a tag at the line.
  pub record IsWordPlace (word : Text) (at : ℕ) : Type 0 where
    pub unclosed : Refuses options (take at text) (scan_error.UnclosedTag line)
    pub stands : stands_at text word at ≡ true

  pub record IsWordMark (word : Text) (m : TokenMark) : Type 0 where
    pub at : ℕ
    pub stands : IsWordPlace word at
    pub part : IsPart text at (at + length word) m

module _ (sources : SourceTexts) (options : Options) where
  -- The source of the template, as the scanner has it.
  pub record IsSourceOf (template : Text) (held : Held) : Type 0 where
    pub source : Text
    pub found : sources template ≡ Some source
    pub is : held ≡ held_of options source

  -- The source of the place's template has this character in a tag at the line of the place.
  pub record IsStrayIn (place : TagPlace) (m : StrayMark) : Type 0 where
    pub held : Held
    pub source : IsSourceOf (string_bytes place.template) held
    pub mark : IsStrayMark options held.text place.line m

  -- The source of the place's template has this word in a tag at the line of the place.
  pub record IsWordIn (place : TagPlace) (word : Text) (m : TokenMark) : Type 0 where
    pub held : Held
    pub source : IsSourceOf (string_bytes place.template) held
    pub mark : IsWordMark options held.text place.line word m

  abbrev pub IsNameIn : TagPlace → Option Text → TokenMark → Type 0
  IsNameIn place (Some word) m = IsWordIn place word m
  IsNameIn place None m = ⊥

  -- A character that begins no token is marked for that error, and the name of the refusal for another one.
  abbrev pub IsMarkAt : CompileError → Option TagPlace → Option Subject → Marked → Type 0
  IsMarkAt (compile_error.Chain (chain_error.Scan x (scan_error.BadCharacter n))) (Some p) about (marked.Stray m) =
      IsStrayIn p m
  IsMarkAt e (Some place) about (marked.Word m) = IsNameIn place (marked_name about) m
  IsMarkAt e place about m = ⊥

  abbrev pub IsMarkOf : Finding → Marked → Type 0
  IsMarkOf f m = IsMarkAt f.error f.place f.subject m

  abbrev pub IsMarkFor : Explained → Marked → Type 0
  IsMarkFor (explained.Refused f) m = IsMarkOf f m
  IsMarkFor explained.Compiles m = ⊥

-- ---- what is printed

abbrev pub token_of : Marked → TokenMark
token_of (marked.Stray s) = s.mark
token_of (marked.Word m) = m

-- The line of marks: `^` under each character of the word.
abbrev pub marks_under : TokenMark → Text
marks_under m =
    codes "  " ++ (flat_map pad (string_bytes m.before) ++ (flat_map caret (string_bytes m.word) ++ codes "\n"))

abbrev pub cure_text : Option Text → Text
cure_text (Some cure) = codes "; " ++ cure
cure_text None = []

-- The character that begins no token, and what to write in place of it.
abbrev pub stray_text : Option Marked → Text
stray_text (Some (marked.Stray s)) =
    codes ":" ++ (quoted (string_bytes s.mark.word) ++ cure_text (option_map (λ x. x.now) s.cure))
stray_text m = []
