-- The first words of tags, and the one of a tag that begins no statement.
use Rattle.std.specs.Prelude.{ℕ, ◌==◌, Bool, true, false, List, [], ◌∷◌, codes, Option, Some, None, if◌then◌else◌}
use Rattle.std.specs.Option.{option_or}
use Rattle.jt_scan.specs.declared.segment.Segment.{Segment}
use Rattle.jt_scan.specs.declared.segment.SegmentKind.{SegmentKind}
use Rattle.jt_scan.specs.declared.segment.SegmentKind.TheVariants as part
use Rattle.jt_scan.specs.declared.segment.TagKind.{TagKind}
use Rattle.jt_scan.specs.declared.segment.TagKind.TheVariants as kind
use Rattle.jt_scan.specs.declared.segment.Token.{Token}
use Rattle.jt_scan.specs.declared.segment.Token.TheVariants as t
use Rattle.jt_hints.specs.Forms.{head_hint}
use Rattle.jt_hints.specs.declared.syntax.SyntaxHint.{SyntaxHint}
use Rattle.jt_hints.specs.declared.syntax.SyntaxHint.TheVariants as hint

-- The first words of the tags of statements.
abbrev pub statement_names : List (List ℕ)
statement_names =
    codes "autoescape" ∷ codes "block" ∷ codes "elif" ∷ codes "else" ∷ codes "endautoescape" ∷ codes "endblock"
    ∷ codes "endfilter" ∷ codes "endfor" ∷ codes "endif" ∷ codes "endmacro" ∷ codes "endraw" ∷ codes "endset"
    ∷ codes "endwith" ∷ codes "extends" ∷ codes "filter" ∷ codes "for" ∷ codes "from" ∷ codes "if"
    ∷ codes "import" ∷ codes "include" ∷ codes "macro" ∷ codes "raw" ∷ codes "set" ∷ codes "with" ∷ []

abbrev pub is_unknown : Option SyntaxHint → Bool
is_unknown (Some hint.UnknownStatement) = true
is_unknown o = false

-- The first word of a tag, if no statement of the language or of Jinja begins with it.
abbrev pub unknown_word_in : TagKind → List Token → Option (List ℕ)
unknown_word_in kind.Block (t.Name x ∷ rest) = if is_unknown (head_hint x.now rest) then Some x.now else None
unknown_word_in k tokens = None

abbrev pub unknown_word_of : ℕ → SegmentKind → Option (List ℕ)
unknown_word_of line (part.Tag tag) = if tag.line == line then unknown_word_in tag.kind tag.tokens.items else None
unknown_word_of line p = None

-- The first such word of the tags at the line.
abbrev pub unknown_statement : ℕ → List Segment → Option (List ℕ)
unknown_statement line [] = None
unknown_statement line (s ∷ ss) = option_or (unknown_word_of line s.part) (unknown_statement line ss)
