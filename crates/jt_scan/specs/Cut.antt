-- The relation between a source and its segments, and between a tag's inside and its tokens.
-- A text is a list of characters, each given by its code point.
pub use Rattle.jt_scan.specs.Literals.{Text}
use Rattle.std.specs.Prelude.{◌≡◌, ℕ, ℤ, pos, ◌+◌, ◌-◌, ◌≤◌, Bool, true, false, ◌==◌, ◌&&◌, ◌||◌, List, [], ◌∷◌, ◌++◌}
use Rattle.std.specs.Prelude.{count_by, drop, codes, bytes_eq, if◌then◌else◌, Option, Some, None}
use Rattle.jt_scan.specs.declared.segment.TagKind.{TagKind}
use Rattle.jt_scan.specs.declared.segment.TagKind.TheVariants as kind
use Rattle.jt_scan.specs.declared.segment.Mark.{Mark}
use Rattle.jt_scan.specs.declared.segment.Mark.TheVariants as m
use Rattle.jt_scan.specs.declared.segment.Marks.{Marks}
use Rattle.jt_scan.specs.declared.segment.Sign.{Sign}
use Rattle.jt_scan.specs.declared.segment.Sign.TheVariants as s
use Rattle.unicode_ident.specs.Ident.{is_xid_start, is_xid_continue}
use Rattle.jt_scan.specs.Literals.{Numeral, is_quote, Enclosed, Means}

-- ---- tokens

pub data Token : Type 0 where
  -- A name or a reserved word.
  name : Text → Token
  number : ℤ → Token
  -- A text literal, given by its value.
  text : Text → Token
  sign : Sign → Token

-- The characters space, tab, LF, VT, FF and CR.
abbrev pub is_space : ℕ → Bool
is_space c = c == 32 || c == 9 || c == 10 || c == 11 || c == 12 || c == 13

-- A name may begin with the character.
abbrev pub starts_name : ℕ → Bool
starts_name c = is_xid_start c || c == 95

-- Each character may continue a name.
abbrev pub AllContinue : Text → Type 0
AllContinue [] = Unit {0}
AllContinue (c ∷ cs) = (is_xid_continue c ≡ true) × AllContinue cs

-- No character that may continue a name follows.
abbrev pub NameEnds : Text → Type 0
NameEnds [] = Unit {0}
NameEnds (c ∷ rest) = is_xid_continue c ≡ false

-- The spelling of a sign.
abbrev pub sign_text : Sign → Text
sign_text s.Plus = 43 ∷ []
sign_text s.Minus = 45 ∷ []
sign_text s.Times = 42 ∷ []
sign_text s.Percent = 37 ∷ []
sign_text s.Tilde = 126 ∷ []
sign_text s.Less = 60 ∷ []
sign_text s.Greater = 62 ∷ []
sign_text s.Assign = 61 ∷ []
sign_text s.Dot = 46 ∷ []
sign_text s.Comma = 44 ∷ []
sign_text s.Colon = 58 ∷ []
sign_text s.Pipe = 124 ∷ []
sign_text s.LeftParen = 40 ∷ []
sign_text s.RightParen = 41 ∷ []
sign_text s.LeftBracket = 91 ∷ []
sign_text s.RightBracket = 93 ∷ []
sign_text s.LeftBrace = 123 ∷ []
sign_text s.RightBrace = 125 ∷ []
sign_text s.Power = 42 ∷ 42 ∷ []
sign_text s.FloorDivide = 47 ∷ 47 ∷ []
sign_text s.Equal = 61 ∷ 61 ∷ []
sign_text s.NotEqual = 33 ∷ 61 ∷ []
sign_text s.LessEqual = 60 ∷ 61 ∷ []
sign_text s.GreaterEqual = 62 ∷ 61 ∷ []

-- The sign followed by the character is a prefix of a longer sign.
abbrev pub goes_on : Sign → ℕ → Bool
goes_on s.Plus c = false
goes_on s.Minus c = false
goes_on s.Times c = c == 42
goes_on s.Percent c = false
goes_on s.Tilde c = false
goes_on s.Less c = c == 61
goes_on s.Greater c = c == 61
goes_on s.Assign c = c == 61
goes_on s.Dot c = false
goes_on s.Comma c = false
goes_on s.Colon c = false
goes_on s.Pipe c = false
goes_on s.LeftParen c = false
goes_on s.RightParen c = false
goes_on s.LeftBracket c = false
goes_on s.RightBracket c = false
goes_on s.LeftBrace c = false
goes_on s.RightBrace c = false
goes_on s.Power c = false
goes_on s.FloorDivide c = false
goes_on s.Equal c = false
goes_on s.NotEqual c = false
goes_on s.LessEqual c = false
goes_on s.GreaterEqual c = false

-- The sign and the text after it do not begin with a longer sign.
abbrev pub SignEnds : Sign → Text → Type 0
SignEnds s [] = Unit {0}
SignEnds s (c ∷ rest) = goes_on s c ≡ false

-- The text begins with no sign.
abbrev pub NoSign : Text → Type 0
NoSign x = (s : Sign) (rest : Text) → x ≡ sign_text s ++ rest → ⊥

-- The greatest number.
abbrev pub max_number : ℕ
max_number = 9223372036854775807

-- `Spelled t s rest`: s is the spelling of the token t, the longest one before the rest.
pub data Spelled : Token → Text → Text → Type 0 where
  a_name : {c : ℕ} {x rest : Text} → starts_name c ≡ true → AllContinue x → NameEnds rest
      → Spelled (name (c ∷ x)) (c ∷ x) rest
  a_number : {n : ℕ} {s rest : Text} → Numeral s n rest → n ≤ max_number
      → Spelled (number (pos n)) s rest
  a_text : {quote : ℕ} {x v rest : Text} → is_quote quote ≡ true → Enclosed quote x → Means x v
      → Spelled (text v) (quote ∷ (x ++ (quote ∷ []))) rest
  a_sign : {s : Sign} {rest : Text} → SignEnds s rest → Spelled (sign s) (sign_text s) rest

-- ---- marks

-- The mark that a character spells.
abbrev pub mark_of : ℕ → Mark
mark_of c = if c == 45 then m.Minus else if c == 43 then m.Plus else m.Absent

abbrev pub mark_text : Mark → Text
mark_text m.Absent = []
mark_text m.Minus = 45 ∷ []
mark_text m.Plus = 43 ∷ []

-- The characters `-` and `+`.
abbrev pub is_mark : ℕ → Bool
is_mark c = c == 45 || c == 43

-- The mark directly after an opener, and the text after it. A `-` or `+` there is always the
-- opening mark.
abbrev pub first_mark : Text → Mark
first_mark [] = m.Absent
first_mark (c ∷ x) = mark_of c

abbrev pub behind_mark : Text → Text
behind_mark [] = []
behind_mark (c ∷ x) = if is_mark c then x else c ∷ x

-- The mark that the last character of a text spells. For an empty text it is the first argument.
unfoldable pub last_from : Mark → Text → Mark
last_from mark [] = mark
last_from mark (c ∷ x) = last_from (mark_of c) x

abbrev pub last_mark : Text → Mark
last_mark = last_from m.Absent

abbrev pub marks : Mark → Mark → Marks
marks opening closing = record { opening = opening; closing = closing }

-- The marks of a comment with the text x between its delimiters. One character is never both marks.
abbrev pub comment_marks : Text → Marks
comment_marks x = marks (first_mark x) (last_mark (behind_mark x))

-- ---- a tag's inside

-- The first character of a closer: `}}` closes a variable tag, and `%}` a block tag.
abbrev pub closer : TagKind → ℕ
closer kind.Variable = 125
closer kind.Block = 37

-- The mark may precede the tag's closer. A `+` before `}}` is an operator.
abbrev pub may_close : TagKind → Mark → Bool
may_close kind.Variable m.Plus = false
may_close k mark = true

-- The spelling of a tag's closer with its mark.
abbrev pub closing_text : TagKind → Mark → Text → Text
closing_text k mark rest = mark_text mark ++ (closer k ∷ 125 ∷ rest)

-- The text begins with the two characters.
abbrev pub begins : ℕ → ℕ → Text → Bool
begins a b [] = false
begins a b (c ∷ []) = false
begins a b (c ∷ d ∷ rest) = c == a && d == b

-- The mark, and the rest after the closer, if the text after the mark begins with the closer.
abbrev pub marked_closer : TagKind → Mark → Text → Option (Mark × Text)
marked_closer k m.Absent x = None
marked_closer k m.Minus x = if begins (closer k) 125 x then Some (m.Minus, drop 2 x) else None
marked_closer k m.Plus x =
    if may_close k m.Plus && begins (closer k) 125 x then Some (m.Plus, drop 2 x) else None

-- The mark of the closer at the start of a text, and the rest.
abbrev pub closer_at : TagKind → Text → Option (Mark × Text)
closer_at k x =
    if begins (closer k) 125 x
    then Some (m.Absent, drop 2 x)
    else marked_closer k (first_mark x) (behind_mark x)

abbrev pub is_found : {A : Type 0} → Option A → Bool
is_found None = false
is_found (Some a) = true

-- The text begins with the closer of a tag in which `depth` braces are open. It closes only if no
-- brace is open.
abbrev pub closes : TagKind → ℕ → Text → Bool
closes k depth x = depth == 0 && is_found (closer_at k x)

-- The number of open braces after a token.
abbrev pub braces : ℕ → Token → ℕ
braces depth (sign s.LeftBrace) = depth + 1
braces depth (sign s.RightBrace) = depth - 1
braces depth t = depth

-- `Inside k depth ts mark x rest`: `depth` braces are open; x consists of the tokens ts with any
-- whitespace between them, the tag's closer with the mark, and the rest. The closer is the first
-- one at which no brace is open.
pub data Inside (k : TagKind) : ℕ → List Token → Mark → Text → Text → Type 0 where
  closed : {mark : Mark} {rest : Text} → may_close k mark ≡ true
      → Inside k 0 [] mark (closing_text k mark rest) rest
  space : {depth c : ℕ} {ts : List Token} {mark : Mark} {x rest : Text} → is_space c ≡ true
      → Inside k depth ts mark x rest → Inside k depth ts mark (c ∷ x) rest
  token : {depth : ℕ} {t : Token} {ts : List Token} {mark : Mark} {s x rest : Text}
      → closes k depth (s ++ x) ≡ false → Spelled t s x → Inside k (braces depth t) ts mark x rest
      → Inside k depth (t ∷ ts) mark (s ++ x) rest

-- ---- segments

pub data Segment : Type 0 where
  data_of : Text → Segment
  -- A tag with its marks and its line.
  tag : TagKind → Marks → ℕ → List Token → Segment
  -- A comment with its marks and the text between its delimiters.
  comment : Marks → Text → Segment
  -- Raw text between a `raw` tag and an `endraw` tag, each with its marks.
  raw : Marks → Text → Marks → Segment

-- The text begins with `{{`, `{%` or `{#`.
abbrev pub opens : Text → Bool
opens x = begins 123 123 x || begins 123 37 x || begins 123 35 x

-- The text begins with `#}`.
abbrev pub ends_comment : Text → Bool
ends_comment = begins 35 125

-- The test holds at no position of the text d, which x follows.
abbrev pub NoneBegins : (Text → Bool) → Text → Text → Type 0
NoneBegins test [] x = Unit {0}
NoneBegins test (c ∷ d) x = (test (c ∷ (d ++ x)) ≡ false) × NoneBegins test d x

-- Data ends at an opener or at the end of the source.
abbrev pub EndsData : Text → Type 0
EndsData [] = Unit {0}
EndsData (c ∷ cs) = opens (c ∷ cs) ≡ true

-- The tag is a block tag, and `raw` is its only token.
abbrev pub is_raw : TagKind → List Token → Bool
is_raw kind.Variable ts = false
is_raw kind.Block [] = false
is_raw kind.Block (name x ∷ []) = bytes_eq x (codes "raw")
is_raw kind.Block (name x ∷ t ∷ ts) = false
is_raw kind.Block (number n ∷ ts) = false
is_raw kind.Block (text v ∷ ts) = false
is_raw kind.Block (sign s ∷ ts) = false

-- The text without its leading whitespace.
unfoldable pub after_space : Text → Text
after_space [] = []
after_space (c ∷ cs) = if is_space c then after_space cs else c ∷ cs

-- The rest of a text after a word that it begins with.
abbrev pub after_word : Text → Text → Option Text
after_word [] x = Some x
after_word (w ∷ ws) [] = None
after_word (w ∷ ws) (c ∷ x) = if c == w then after_word ws x else None

abbrev pub endraw_closed : Mark → Option (Mark × Text) → Option (Marks × Text)
endraw_closed opening None = None
endraw_closed opening (Some p) = Some (marks opening p.0, p.1)

abbrev pub endraw_named : Mark → Option Text → Option (Marks × Text)
endraw_named opening None = None
endraw_named opening (Some x) = endraw_closed opening (closer_at kind.Block (after_space x))

-- The marks of the `endraw` tag at the start of a text, and the rest. Whitespace may surround the
-- word `endraw`.
unfoldable pub endraw_at : Text → Option (Marks × Text)
endraw_at x =
    if begins 123 37 x then endraw_named (first_mark (drop 2 x))
    (after_word (codes "endraw") (after_space (behind_mark (drop 2 x))))
    else None

-- The text begins with an `endraw` tag.
abbrev pub ends_raw : Text → Bool
ends_raw x = is_found (endraw_at x)

-- The second character of a tag's opener.
abbrev pub second : TagKind → ℕ
second kind.Variable = 123
second kind.Block = 37

-- The number of line ends.
abbrev pub lines : Text → ℕ
lines = count_by (λ c. c == 10)

-- The line of the position of the source at which its suffix x begins, counted from 1.
abbrev pub line_at : Text → Text → ℕ
line_at source x = 1 + lines source - lines x

-- `IsSegment n s x rest`: x is a spelling of the segment s followed by the rest; a tag has the line
-- n. Data is never empty, and no opener begins in it, not even one that ends after it. A comment
-- ends at the first `#}` after its opener. The text after a `raw` tag extends to the first `endraw`
-- tag.
pub data IsSegment (n : ℕ) : Segment → Text → Text → Type 0 where
  some_data : {c : ℕ} {d rest : Text} → NoneBegins opens (c ∷ d) rest → EndsData rest
      → IsSegment n (data_of (c ∷ d)) (c ∷ (d ++ rest)) rest
  a_tag : {k : TagKind} {ts : List Token} {closing : Mark} {x rest : Text}
      → Inside k 0 ts closing (behind_mark x) rest → is_raw k ts ≡ false
      → IsSegment n (tag k (marks (first_mark x) closing) n ts) (123 ∷ second k ∷ x) rest
  a_comment : {x rest : Text} → NoneBegins ends_comment x (35 ∷ 125 ∷ rest)
      → IsSegment n (comment (comment_marks x) x) (123 ∷ 35 ∷ (x ++ (35 ∷ 125 ∷ rest))) rest
  a_raw : {ts : List Token} {closing : Mark} {ends : Marks} {x d rest : Text} (y : Text)
      → Inside kind.Block 0 ts closing (behind_mark x) (d ++ y) → is_raw kind.Block ts ≡ true
      → NoneBegins ends_raw d y
      → endraw_at y ≡ Some (ends, rest)
      → IsSegment n (raw (marks (first_mark x) closing) d ends) (123 ∷ 37 ∷ x) rest

-- `Cuts source Ends ss x`: the suffix x of the source is split into the segments ss, up to a
-- position where `Ends` holds of the remaining text.
pub data Cuts (source : Text) (Ends : Text → Type 0) : List Segment → Text → Type 0 where
  no_more : {x : Text} → Ends x → Cuts source Ends [] x
  more : {s : Segment} {ss : List Segment} {x rest : Text} → IsSegment (line_at source x) s x rest
      → Cuts source Ends ss rest → Cuts source Ends (s ∷ ss) x

-- The whole source is split into the segments.
abbrev pub IsCut : List Segment → Text → Type 0
IsCut ss source = Cuts source (λ x. x ≡ []) ss source

-- The text has the suffix rest.
abbrev pub EndsWith : Text → Text → Type 0
EndsWith x rest = (before : Text) × (x ≡ before ++ rest)

-- ---- the weight of segments

-- The weight of a text literal is 2, that of every other token 1.
abbrev pub token_weight : Token → ℕ
token_weight (text v) = 2
token_weight t = 1

abbrev pub tokens_weight : List Token → ℕ
tokens_weight [] = 0
tokens_weight (t ∷ ts) = token_weight t + tokens_weight ts

-- The weight of a tag is 4 for its delimiters plus that of its tokens; data and raw text weigh 1,
-- and a comment 0.
abbrev pub weight : Segment → ℕ
weight (data_of d) = 1
weight (tag k ms n ts) = 4 + tokens_weight ts
weight (comment ms x) = 0
weight (raw ms d ends) = 1

abbrev pub weight_of : List Segment → ℕ
weight_of [] = 0
weight_of (s ∷ ss) = weight s + weight_of ss
