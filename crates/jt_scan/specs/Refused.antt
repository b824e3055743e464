-- The errors of a source that cannot be split into segments.
use Rattle.std.specs.Prelude.{◌≡◌, ℕ, ◌<◌, false, true, List, [], ◌∷◌, ◌++◌}
use Rattle.jt_scan.specs.declared.error.ScanError.{ScanError}
use Rattle.jt_scan.specs.declared.error.ScanError.TheVariants.{UnclosedTag, UnclosedText, BadCharacter, BadEscape}
use Rattle.jt_scan.specs.declared.error.ScanError.TheVariants.{NumberTooLarge, UnclosedRaw, SourceTooLong, NoMemory}
use Rattle.jt_scan.specs.declared.segment.TagKind.{TagKind}
use Rattle.jt_scan.specs.declared.segment.TagKind.TheVariants as kind
use Rattle.jt_scan.specs.declared.segment.Mark.{Mark}
use Rattle.jt_scan.specs.Cut.{Text, Token, Segment, second, closes, braces, is_space, starts_name, max_number, Spelled}
use Rattle.jt_scan.specs.Cut.{NoneBegins, ends_comment, Cuts, line_at, NoSign, behind_mark, Inside, is_raw, ends_raw}
use Rattle.jt_scan.specs.Literals.{is_digit, is_quote, Numeral, Enclosed, Unended, HasBadEscape}

-- `IsBroken k n depth e x`: after whitespace and tokens, the inside x of a tag of line n has the
-- error e; `depth` braces are open at x.
pub data IsBroken (k : TagKind) (n : ℕ) : ℕ → ScanError → Text → Type 0 where
  -- The source ends inside the tag.
  no_closer : {depth : ℕ} → IsBroken k n depth (UnclosedTag n) []
  -- The source ends inside a text literal.
  no_quote : {depth quote : ℕ} {x : Text} → is_quote quote ≡ true → Unended quote x
      → IsBroken k n depth (UnclosedText n) (quote ∷ x)
  -- A text literal has an escape without a meaning.
  bad_escape : {depth quote : ℕ} {x : Text} (rest : Text) → is_quote quote ≡ true → Enclosed quote x
      → HasBadEscape x → IsBroken k n depth (BadEscape n) (quote ∷ (x ++ (quote ∷ rest)))
  -- A number is above the greatest.
  too_large : {depth m : ℕ} {s x : Text} → Numeral s m x → max_number < m
      → IsBroken k n depth (NumberTooLarge n) (s ++ x)
  -- A character is no whitespace, and it begins no token and no closer.
  no_token : {depth c : ℕ} {x : Text} → is_space c ≡ false → starts_name c ≡ false
      → is_digit 10 c ≡ false → is_quote c ≡ false → NoSign (c ∷ x) → closes k depth (c ∷ x) ≡ false
      → IsBroken k n depth (BadCharacter n) (c ∷ x)
  behind_space : {depth : ℕ} {e : ScanError} {c : ℕ} {x : Text} → is_space c ≡ true
      → IsBroken k n depth e x → IsBroken k n depth e (c ∷ x)
  behind_token : {depth : ℕ} {e : ScanError} {t : Token} {s x : Text}
      → closes k depth (s ++ x) ≡ false → Spelled t s x → IsBroken k n (braces depth t) e x
      → IsBroken k n depth e (s ++ x)

-- A tag or comment of line n begins here and has the error.
pub data IsFaulty (n : ℕ) : ScanError → Text → Type 0 where
  in_tag : {k : TagKind} {e : ScanError} {x : Text} → IsBroken k n 0 e (behind_mark x)
      → IsFaulty n e (123 ∷ second k ∷ x)
  -- No `endraw` tag follows a `raw` tag.
  no_endraw : {ts : List Token} {closing : Mark} {x y : Text}
      → Inside kind.Block 0 ts closing (behind_mark x) y → is_raw kind.Block ts ≡ true
      → NoneBegins ends_raw y []
      → IsFaulty n (UnclosedRaw n) (123 ∷ 37 ∷ x)
  -- No `#}` follows the opener of a comment.
  in_comment : {x : Text} → NoneBegins ends_comment x [] → IsFaulty n (UnclosedTag n) (123 ∷ 35 ∷ x)

-- A prefix of the source is split into segments, and the next segment has the error.
abbrev pub IsFaultOf : ScanError → Text → Type 0
IsFaultOf e source =
    (ss : List Segment) × Cuts source (λ x. IsFaulty (line_at source x) e x) ss source

-- The refusal is correct. A lack of memory claims nothing about the source.
abbrev pub IsRefusal : ScanError → Text → Type 0
IsRefusal (UnclosedTag n) source = IsFaultOf (UnclosedTag n) source
IsRefusal (UnclosedText n) source = IsFaultOf (UnclosedText n) source
IsRefusal (BadCharacter n) source = IsFaultOf (BadCharacter n) source
IsRefusal (BadEscape n) source = IsFaultOf (BadEscape n) source
IsRefusal (NumberTooLarge n) source = IsFaultOf (NumberTooLarge n) source
IsRefusal (UnclosedRaw n) source = IsFaultOf (UnclosedRaw n) source
IsRefusal (SourceTooLong n) source = ⊥
IsRefusal NoMemory source = Unit {0}
