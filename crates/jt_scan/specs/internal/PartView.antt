-- The views of the scanner's internal results. Only private clauses and proofs cite this module.
use Rattle.std.specs.Prelude.{◌≡◌, ℕ, ◌-◌, ◌^◌, min, Bool, true, false, List, [], ◌∷◌, Option, Some, None, MatchOption}
use Rattle.std.specs.Prelude.{Result, Ok, MatchResult}
use Rattle.std.specs.Str.{chars, encode_utf8_all}
use denote.Ref.{Bor}
use Rattle.jt_scan.specs.declared.error.ScanError.{ScanError}
use Rattle.jt_scan.specs.declared.tokens.NextItem.{NextItem}
use Rattle.jt_scan.specs.declared.tokens.NextItem.TheVariants as f
use Rattle.jt_scan.specs.declared.quotes.Escape.{Escape}
use Rattle.jt_scan.specs.declared.quotes.Escape.TheVariants as e
use Rattle.jt_scan.specs.declared.quotes.EscapeValue.{EscapeValue}
use Rattle.jt_scan.specs.declared.quotes.EscapeValue.TheVariants as p
use Rattle.jt_scan.specs.Literals.{Text}
use Rattle.jt_scan.specs.Literals as literal
use Rattle.jt_scan.specs.internal.Scanning as scanning
use Rattle.jt_scan.specs.View.{token_view}

abbrev pub front_view : NextItem → scanning.NextItem
front_view (f.Closer mark) = scanning.closing mark
front_view (f.Token t) = scanning.spells (token_view t)

-- The view of the meaning of a character after a backslash.
abbrev pub escape_view : Escape → literal.Escape
escape_view e.Drops = literal.drops
escape_view (e.Gives c) = literal.gives c
escape_view e.Octal = literal.octal
escape_view (e.Hexadecimal n) = literal.hexadecimal n
escape_view e.Refused = literal.refused
escape_view e.Stays = literal.stays

-- The value of a character or an escape, as characters.
abbrev pub piece_text : EscapeValue → Text
piece_text p.Nothing = []
piece_text (p.Character c) = c ∷ []
piece_text (p.Pair c) = 92 ∷ c ∷ []

-- The value of a character or an escape, as bytes.
abbrev pub bytes_of : EscapeValue → List ℕ
bytes_of p = encode_utf8_all (piece_text p)

-- The number, limited to the greatest one of 64 bits.
abbrev pub capped : ℕ → ℕ
capped n = min n (2 ^ 64 - 1)

-- The result is the text before the first position where the test holds, and the text from there
-- on.
abbrev pub IsSplit : (Text → Bool) → List ℕ → Bor (List ℕ) × Bor (List ℕ) → Type 0
IsSplit test text result =
    scanning.clear_run test (chars text) ≡ (chars result.0.now, chars result.1.now)

-- The result is the rest after a word that the text begins with, or `None`.
abbrev pub IsRest : Option Text → Option (Bor (List ℕ)) → Type 0
IsRest found result = MatchOption result (found ≡ None) (λ rest. found ≡ Some (chars rest.now))

-- The result is the base that the text names and the digits after its letter, or `None`.
abbrev pub NamesBase : Text → Option (ℕ × Bor (List ℕ)) → Type 0
NamesBase x result =
    MatchOption result (literal.names_base x ≡ false)
    (λ p.
    (literal.names_base x ≡ true)
    × (scanning.based_at x ≡ scanning.digits_at p.0 0 (chars p.1.now)))

-- The result is the item that was found and the rest of the text, or `None`.
abbrev pub IsFound : {A B : Type 0} → (A → B) → Option (B × List ℕ) → Option (A × Bor (List ℕ))
    → Type 0
IsFound view found result =
    MatchOption result (found ≡ None) (λ p. found ≡ Some (view p.0, chars p.1.now))

-- The specified result is the view of the result of the code, or its refusal. A lack of memory
-- claims nothing.
abbrev pub IsParseResult : {A B : Type 0} → (A → B) → Result B ScanError → Result A ScanError → Type 0
IsParseResult view outcome result =
    MatchResult result (λ v. outcome ≡ Ok (view v)) (λ e. scanning.IsGiven e outcome)

-- `IsParseResult` of a result with the rest of the text.
abbrev pub IsRead : {A B : Type 0} → (A → B) → scanning.ParseResult B
    → Result (A × Bor (List ℕ)) ScanError → Type 0
IsRead view = IsParseResult (λ p. (view p.0, chars p.1.now))
