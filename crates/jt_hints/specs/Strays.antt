-- The character of a tag at which the scanner stops, and the brace that stands alone.
use Rattle.std.specs.Prelude.{◌≡◌, ◌⊎◌, ◌<◌, ◌≤◌, ◌+◌, ℕ, List, [], ◌∷◌, ◌++◌, take, length, Some, slice_get}
use Rattle.std.specs.Str.{chars, IsCharBoundary}
use Rattle.jt_scan.specs.Cut as cut
use Rattle.jt_scan.specs.Cut.{IsCut, closer}
use Rattle.jt_scan.specs.LineEnds.{normalized}
use Rattle.jt_scan.specs.Refused.{IsRefusal}
use Rattle.jt_scan.specs.declared.error.ScanError.{ScanError}
use Rattle.jt_scan.specs.declared.error.ScanError.TheVariants.{UnclosedTag, BadCharacter}
use Rattle.jt_scan.specs.declared.options.Options.{Options}
use Rattle.jt_scan.specs.declared.segment.TagKind.{TagKind}
use Rattle.jt_hints.specs.declared.strays.Stray.{Stray}
use Rattle.jt_hints.specs.declared.strays.Stray.TheVariants as stray

-- The characters that the scanner reads.
abbrev pub read_by : Options → List ℕ → List ℕ
read_by options text = chars (normalized options.keep_trailing_newline text)

-- The scanner refuses the text with this error.
abbrev pub Refuses : Options → List ℕ → ScanError → Type 0
Refuses options text e = IsRefusal e (read_by options text)

-- The byte at which the character begins.
abbrev pub place : Stray → ℕ
place (stray.Character at end) = at
place (stray.Brace at end kind) = at

-- The byte after the character.
abbrev pub stray_end : Stray → ℕ
stray_end (stray.Character at end) = end
stray_end (stray.Brace at end kind) = end

module _ (options : Options) (text : List ℕ) (line : ℕ) where
  -- The tag at the line is not closed before the character, all of whose text is of tokens. With the
  -- character it has one that begins no token, also with the character that follows.
  pub record IsStrayCharacter (at end : ℕ) : Type 0 where
    pub unclosed : Refuses options (take at text) (UnclosedTag line)
    pub stops : Refuses options (take end text) (BadCharacter line)
    -- It is one character.
    pub one : (i : ℕ) → at < i → i < end → ¬ (IsCharBoundary text i)
    pub behind : ℕ
    pub more : (end < behind) ⊎ (length text ≤ end)
    pub still : Refuses options (take behind text) (BadCharacter line)

  -- The tag at the line is not closed before the brace, and its closer there would close it.
  pub record IsLoneBrace (at end : ℕ) (kind : TagKind) : Type 0 where
    pub brace : slice_get text at ≡ Some 125
    pub one : end ≡ at + 1
    pub unclosed : Refuses options (take at text) (UnclosedTag line)
    pub segments : List cut.Segment
    pub closed : IsCut segments (read_by options (take at text ++ (closer kind ∷ 125 ∷ [])))

  abbrev pub IsStray : Stray → Type 0
  IsStray (stray.Character at end) = IsStrayCharacter at end
  IsStray (stray.Brace at end kind) = IsLoneBrace at end kind
