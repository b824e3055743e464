-- The scanner as a function, which finds the segments of a source. Only private clauses and proofs
-- cite this module.
use Rattle.std.specs.Prelude.{◌≡◌, ℕ, pos, zero, suc, ◌+◌, ◌*◌, nat_lt, Bool, true, false, ◌==◌, List, [], ◌∷◌, ◌||◌}
use Rattle.std.specs.Prelude.{slice_index, length, drop, Option, Some, None, ◌&&◌, Result, Ok, Err, if◌then◌else◌}
use Rattle.unicode_ident.specs.Ident.{is_xid_continue}
use Rattle.jt_scan.specs.declared.error.ScanError.{ScanError}
use Rattle.jt_scan.specs.declared.error.ScanError.TheVariants.{UnclosedTag, UnclosedText, BadCharacter, BadEscape}
use Rattle.jt_scan.specs.declared.error.ScanError.TheVariants.{NumberTooLarge, UnclosedRaw, NoMemory}
use Rattle.jt_scan.specs.declared.segment.TagKind.{TagKind}
use Rattle.jt_scan.specs.declared.segment.TagKind.TheVariants.{Variable, Block}
use Rattle.jt_scan.specs.declared.segment.Sign.{Sign}
use Rattle.jt_scan.specs.declared.segment.Sign.TheVariants as s
use Rattle.jt_scan.specs.declared.segment.Mark.{Mark}
use Rattle.jt_scan.specs.declared.segment.Marks.{Marks}
use Rattle.jt_scan.specs.Cut.{Text, Token, name, number, text, sign, max_number, Segment, data_of, tag, comment, raw}
use Rattle.jt_scan.specs.Cut.{begins, closer_at, braces, is_space, starts_name, opens, ends_comment, line_at}
use Rattle.jt_scan.specs.Cut.{first_mark, behind_mark, marks, comment_marks, is_raw, ends_raw, endraw_at}
use Rattle.jt_scan.specs.Literals.{digit_value, is_digit, digit_first, base_of, names_base, is_quote, pieces, unescaped}

abbrev pub ParseResult : Type 0 → Type 0
ParseResult A = Result (A × Text) ScanError

infixl 10 ◌>>=◌
abbrev pub ◌>>=◌ : {A B : Type 0} → ParseResult A → (A → Text → ParseResult B) → ParseResult B
(Ok p) >>= f = f p.0 p.1
(Err e) >>= f = Err e

abbrev pub front : ℕ → Text × Text → Text × Text
front c p = (c ∷ p.0, p.1)

-- The longest run of characters that may continue a name, and the rest.
unfoldable pub run : Text → Text × Text
run [] = ([], [])
run (c ∷ cs) = if is_xid_continue c then front c (run cs) else ([], c ∷ cs)

-- The longest prefix at whose positions the test fails, and the rest.
unfoldable pub clear_run : (Text → Bool) → Text → Text × Text
clear_run test [] = ([], [])
clear_run test (c ∷ cs) = if test (c ∷ cs) then ([], c ∷ cs) else front c (clear_run test cs)

abbrev pub one_sign : ℕ → Option Sign
one_sign c =
    if c == 43 then Some s.Plus
    else if c == 45 then Some s.Minus
    else if c == 42 then Some s.Times
    else if c == 37 then Some s.Percent
    else if c == 126 then Some s.Tilde
    else if c == 60 then Some s.Less
    else if c == 62 then Some s.Greater
    else if c == 61 then Some s.Assign
    else if c == 46 then Some s.Dot
    else if c == 44 then Some s.Comma
    else if c == 58 then Some s.Colon
    else if c == 124 then Some s.Pipe
    else if c == 40 then Some s.LeftParen
    else if c == 41 then Some s.RightParen
    else if c == 91 then Some s.LeftBracket
    else if c == 93 then Some s.RightBracket
    else if c == 123 then Some s.LeftBrace
    else if c == 125 then Some s.RightBrace
    else None

abbrev pub two_sign : ℕ → ℕ → Option Sign
two_sign c d =
    if c == 42 && d == 42 then Some s.Power
    else if c == 47 && d == 47 then Some s.FloorDivide
    else if c == 61 && d == 61 then Some s.Equal
    else if c == 33 && d == 61 then Some s.NotEqual
    else if c == 60 && d == 61 then Some s.LessEqual
    else if c == 62 && d == 61 then Some s.GreaterEqual
    else None

abbrev pub alone : Option Sign → Text → Option (Sign × Text)
alone None rest = None
alone (Some s) rest = Some (s, rest)

abbrev pub longest : Option Sign → Option Sign → Text → Text → Option (Sign × Text)
longest (Some s) o more rest = Some (s, more)
longest None o more rest = alone o rest

-- The longest sign at the start of a text.
unfoldable pub sign_at : Text → Option (Sign × Text)
sign_at [] = None
sign_at (c ∷ []) = alone (one_sign c) []
sign_at (c ∷ d ∷ more) = longest (two_sign c d) (one_sign c) more (d ∷ more)

-- ---- numbers

-- The number that results from appending the leading digits to n, and the rest.
unfoldable pub digits_at : ℕ → ℕ → Text → ℕ × Text
digits_at base n [] = (n, [])
digits_at base n (c ∷ cs) =
    if is_digit base c then digits_at base (n * base + digit_value c) cs
    else if c == 95 && digit_first base cs then digits_at base n cs
    else (n, c ∷ cs)

abbrev pub plain_digit : ℕ → Text → Option (ℕ × Text)
plain_digit base [] = None
plain_digit base (c ∷ cs) = if is_digit base c then Some (digit_value c, cs) else None

-- The value of the next digit and the rest, if the number continues.
unfoldable pub next_digit : ℕ → Text → Option (ℕ × Text)
next_digit base [] = None
next_digit base (c ∷ cs) =
    if is_digit base c then Some (digit_value c, cs)
    else if c == 95 then plain_digit base cs
    else None

-- The number after the letter of its base.
abbrev pub based_at : Text → ℕ × Text
based_at [] = (0, [])
based_at (c ∷ cs) = digits_at (base_of c) 0 cs

-- The number whose first digit is c.
abbrev pub number_at : ℕ → Text → ℕ × Text
number_at c cs =
    if c == 48 then (if names_base cs then based_at cs else digits_at 1 0 cs)
    else digits_at 10 (digit_value c) cs

-- ---- texts

abbrev pub longer : ℕ → Option (Text × Text) → Option (Text × Text)
longer c None = None
longer c (Some p) = Some (c ∷ p.0, p.1)

-- The text up to the closing quote; the flag is set if a backslash precedes.
unfoldable pub enclosed_at : ℕ → Bool → Text → Option (Text × Text)
enclosed_at quote b [] = None
enclosed_at quote true (c ∷ cs) = longer c (enclosed_at quote false cs)
enclosed_at quote false (c ∷ cs) =
    if c == quote then Some ([], cs) else longer c (enclosed_at quote (c == 92) cs)

-- ---- a tag's inside

abbrev pub signed : ℕ → Option (Sign × Text) → ParseResult Token
signed line None = Err (BadCharacter line)
signed line (Some p) = Ok (sign p.0, p.1)

abbrev pub numbered : ℕ → ℕ × Text → ParseResult Token
numbered line p =
    if nat_lt max_number p.0 then Err (NumberTooLarge line) else Ok (number (pos p.0), p.1)

abbrev pub meant : ℕ → Text × Text → ParseResult Token
meant line p = if (pieces 0 p.0).1 then Ok (text (unescaped p.0), p.1) else Err (BadEscape line)

abbrev pub quoted : ℕ → Option (Text × Text) → ParseResult Token
quoted line None = Err (UnclosedText line)
quoted line (Some p) = meant line p

-- The token at the start of a text that begins with no whitespace and no closer.
unfoldable pub token_at : ℕ → Text → ParseResult Token
token_at line [] = Err (UnclosedTag line)
token_at line (c ∷ cs) =
    if starts_name c then (let p = run cs in Ok (name (c ∷ p.0), p.1))
    else if is_digit 10 c then numbered line (number_at c cs)
    else if is_quote c then quoted line (enclosed_at c false cs)
    else signed line (sign_at (c ∷ cs))

-- The next item of a tag, after whitespace.
pub data NextItem : Type 0 where
  -- The closer with its mark.
  closing : Mark → NextItem
  spells : Token → NextItem

-- The item at the start of a text, given the closer that may end the tag there.
abbrev pub front_by : ℕ → Option (Mark × Text) → Text → ParseResult NextItem
front_by line (Some p) x = Ok (closing p.0, p.1)
front_by line None x = token_at line x >>= λ t rest. Ok (spells t, rest)

-- The closer at the start of a text, if no brace is open.
abbrev pub counted : TagKind → ℕ → Text → Option (Mark × Text)
counted k depth x = if depth == 0 then closer_at k x else None

unfoldable pub front_at : TagKind → ℕ → ℕ → Text → ParseResult NextItem
front_at k line depth x = front_by line (counted k depth x) x

-- Tokens, and the mark of their tag's closer.
abbrev pub Tokens : Type 0
Tokens = List Token × Mark

abbrev pub with_token : Token → ParseResult Tokens → ParseResult Tokens
with_token t o = o >>= λ p rest. Ok ((t ∷ p.0, p.1), rest)

-- The tokens after an item: f reads the rest, given the number of open braces.
abbrev pub then_inside : (ℕ → Text → ParseResult Tokens) → ℕ → NextItem → Text → ParseResult Tokens
then_inside f depth (closing mark) rest = Ok (([], mark), rest)
then_inside f depth (spells t) rest = with_token t (f (braces depth t) rest)

-- The tokens up to the closer, and the rest. The number n bounds the steps; each step takes a
-- character.
unfoldable pub inside : TagKind → ℕ → ℕ → ℕ → Text → ParseResult Tokens
inside k line zero depth x = Err (UnclosedTag line)
inside k line (suc n) depth [] = Err (UnclosedTag line)
inside k line (suc n) depth (c ∷ cs) =
    if is_space c then inside k line n depth cs
    else (front_at k line depth (c ∷ cs) >>= then_inside (inside k line n) depth)

-- The text of a `raw` tag up to its `endraw` tag, if one was found.
abbrev pub ended_raw : ℕ → Marks → Text → Option (Marks × Text) → ParseResult Segment
ended_raw line ms d None = Err (UnclosedRaw line)
ended_raw line ms d (Some p) = Ok (raw ms d p.0, p.1)

unfoldable pub raw_at : ℕ → Marks → Text → ParseResult Segment
raw_at line ms x = ended_raw line ms (clear_run ends_raw x).0 (endraw_at (clear_run ends_raw x).1)

-- The segment that begins with a tag of these tokens.
abbrev pub tag_of : TagKind → ℕ → Marks → List Token → Text → ParseResult Segment
tag_of k line ms ts rest = if is_raw k ts then raw_at line ms rest else Ok (tag k ms line ts, rest)

-- The tag whose opener precedes x.
abbrev pub tag_at : TagKind → ℕ → Text → ParseResult Segment
tag_at k line x =
    inside k line (length (behind_mark x) + 1) 0 (behind_mark x)
    >>= λ p rest. tag_of k line (marks (first_mark x) p.1) p.0 rest

-- A comment whose text is x, given the text from its end on.
abbrev pub ended_comment : ℕ → Text → Text → ParseResult Segment
ended_comment line x [] = Err (UnclosedTag line)
ended_comment line x (c ∷ rest) = Ok (comment (comment_marks x) x, drop 1 rest)

abbrev pub comment_at : ℕ → Text → ParseResult Segment
comment_at line x = ended_comment line (clear_run ends_comment x).0 (clear_run ends_comment x).1

abbrev pub data_at : Text × Text → ParseResult Segment
data_at p = Ok (data_of p.0, p.1)

-- The first segment of a nonempty text.
unfoldable pub segment_at : ℕ → Text → ParseResult Segment
segment_at line x =
    if begins 123 123 x then tag_at Variable line (drop 2 x)
    else if begins 123 37 x then tag_at Block line (drop 2 x)
    else if begins 123 35 x then comment_at line (drop 2 x)
    else data_at (clear_run opens x)

abbrev pub with_segment : Segment → Result (List Segment) ScanError
    → Result (List Segment) ScanError
with_segment s (Ok ss) = Ok (s ∷ ss)
with_segment s (Err e) = Err e

abbrev pub then_cut : ParseResult Segment → (Text → Result (List Segment) ScanError)
    → Result (List Segment) ScanError
then_cut (Ok p) f = with_segment p.0 (f p.1)
then_cut (Err e) f = Err e

-- The segments of the suffix x of a source. The number m bounds the steps; each step takes a
-- character.
unfoldable pub cut : Text → ℕ → Text → Result (List Segment) ScanError
cut source zero x = Err (UnclosedTag 0)
cut source (suc m) [] = Ok []
cut source (suc m) (c ∷ cs) =
    then_cut (segment_at (line_at source (c ∷ cs)) (c ∷ cs)) (cut source m)

-- The segments of a source.
abbrev pub cut_whole : Text → Result (List Segment) ScanError
cut_whole x = cut x (length x + 1) x

-- The refusal is that of the result, unless it is a lack of memory.
abbrev pub IsGiven : {A : Type 0} → ScanError → Result A ScanError → Type 0
IsGiven NoMemory o = Unit {0}
IsGiven e o = o ≡ Err e

-- The bytes that form an opener after `{`.
abbrev pub is_second : ℕ → Bool
is_second c = c == 123 || c == 37 || c == 35

-- An opener begins at position k of the bytes.
abbrev pub OpensAt : List ℕ → ℕ → Type 0
OpensAt bytes k = (slice_index bytes k ≡ 123) × (is_second (slice_index bytes (k + 1)) ≡ true)
