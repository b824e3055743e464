-- The spelling and the value of numbers and text literals in a tag.
-- A text is a list of characters, each given by its code point.
use Rattle.std.specs.Prelude.{◌≡◌, ℕ, zero, suc, ◌+◌, ◌-◌, ◌*◌, ◌<◌, ◌≤◌, ◌⊎◌, nat_le, nat_lt, Bool, true, false, ◌==◌}
use Rattle.std.specs.Prelude.{◌&&◌, ◌||◌, List, [], ◌∷◌, ◌++◌, length, Option, Some, None, if◌then◌else◌}
use lib.Utf8.{scalar}

abbrev pub Text : Type 0
Text = List ℕ

-- ---- digits

-- The value of a digit `0` to `9`, or `a` to `f` in either case; every other character has the
-- value 16.
unfoldable pub digit_value : ℕ → ℕ
digit_value c =
    if nat_le 48 c && nat_le c 57 then c - 48
    else if nat_le 97 c && nat_le c 102 then c - 87
    else if nat_le 65 c && nat_le c 70 then c - 55
    else 16

-- The character is a digit of the base.
abbrev pub is_digit : ℕ → ℕ → Bool
is_digit base c = nat_lt (digit_value c) base

-- The text begins with a digit of the base.
abbrev pub digit_first : ℕ → Text → Bool
digit_first base [] = false
digit_first base (c ∷ rest) = is_digit base c

-- All characters are digits of the base.
abbrev pub AllDigits : ℕ → Text → Type 0
AllDigits base [] = Unit {0}
AllDigits base (c ∷ cs) = (is_digit base c ≡ true) × AllDigits base cs

-- The number that results from appending digits to the number n.
abbrev pub number_from : ℕ → ℕ → Text → ℕ
number_from base n [] = n
number_from base n (c ∷ cs) = number_from base (n * base + digit_value c) cs

abbrev pub number_of : ℕ → Text → ℕ
number_of base = number_from base 0

-- ---- numbers

-- `Digits base n x m`: x consists of digits of the base, each with at most one underscore before
-- it; appended to the number n they make m.
pub data Digits (base : ℕ) : ℕ → Text → ℕ → Type 0 where
  no_digit : {n : ℕ} → Digits base n [] n
  digit : {n c m : ℕ} {x : Text} → is_digit base c ≡ true
      → Digits base (n * base + digit_value c) x m → Digits base n (c ∷ x) m
  spaced : {n c m : ℕ} {x : Text} → is_digit base c ≡ true
      → Digits base (n * base + digit_value c) x m → Digits base n (95 ∷ c ∷ x) m

-- The text begins with a digit, with at most one underscore before it.
abbrev pub goes_on : ℕ → Text → Bool
goes_on base [] = false
goes_on base (c ∷ rest) = is_digit base c || (c == 95 && digit_first base rest)

-- The base that a letter after a leading `0` names. Base 0 has no digits.
unfoldable pub base_of : ℕ → ℕ
base_of c =
    if c == 98 || c == 66 then 2
    else if c == 111 || c == 79 then 8
    else if c == 120 || c == 88 then 16
    else 0

-- The text begins with the letter of a base that a digit follows.
abbrev pub names_base : Text → Bool
names_base [] = false
names_base (c ∷ rest) = goes_on (base_of c) rest

-- `Numeral s n rest`: s is the longest spelling of a number before the rest, and n is the number.
pub data Numeral : Text → ℕ → Text → Type 0 where
  decimal : {c n : ℕ} {x rest : Text} → is_digit 10 c ≡ true → (c == 48) ≡ false
      → Digits 10 (digit_value c) x n → goes_on 10 rest ≡ false → Numeral (c ∷ x) n rest
  -- The only digit of base 1 is `0`.
  zeros : {n : ℕ} {x rest : Text} → Digits 1 0 x n → names_base (x ++ rest) ≡ false
      → goes_on 1 rest ≡ false → Numeral (48 ∷ x) n rest
  based : {c n : ℕ} {x rest : Text} → goes_on (base_of c) x ≡ true → Digits (base_of c) 0 x n
      → goes_on (base_of c) rest ≡ false → Numeral (48 ∷ c ∷ x) n rest

-- ---- texts

-- The characters `"` and `'`.
abbrev pub is_quote : ℕ → Bool
is_quote c = c == 34 || c == 39

-- The texts that may occur between two quotes: the quote itself only after a backslash.
pub data Enclosed (quote : ℕ) : Text → Type 0 where
  nothing : Enclosed quote []
  plain : {c : ℕ} {x : Text} → (c == quote) ≡ false → (c == 92) ≡ false → Enclosed quote x
      → Enclosed quote (c ∷ x)
  escaped : {c : ℕ} {x : Text} → Enclosed quote x → Enclosed quote (92 ∷ c ∷ x)

-- A text without a closing quote, up to the end of the source.
pub data Unended (quote : ℕ) : Text → Type 0 where
  nothing : Unended quote []
  backslash : Unended quote (92 ∷ [])
  plain : {c : ℕ} {x : Text} → (c == quote) ≡ false → (c == 92) ≡ false → Unended quote x
      → Unended quote (c ∷ x)
  escaped : {c : ℕ} {x : Text} → Unended quote x → Unended quote (92 ∷ c ∷ x)

-- The meaning of a character after a backslash.
pub data Escape : Type 0 where
  -- An escape whose backslash and character are dropped.
  drops : Escape
  -- An escape that encodes one character.
  gives : ℕ → Escape
  -- An escape of one to three octal digits; the character is the first one.
  octal : Escape
  -- The number of hexadecimal digits that follow.
  hexadecimal : ℕ → Escape
  -- An escape for which the text is refused.
  refused : Escape
  -- An escape whose backslash and character stay.
  stays : Escape

-- The meaning of a character after a backslash. The cases are, in order: an octal digit; LF; `\`,
-- `'` and `"`; `a`, `b`, `t`, `n`, `v`, `f` and `r`; `x`, `u` and `U`; `N`; every other character.
unfoldable pub escape : ℕ → Escape
escape c =
    if is_digit 8 c then octal
    else if c == 10 then drops
    else if c == 92 || c == 39 || c == 34 then gives c
    else if c == 97 then gives 7
    else if c == 98 then gives 8
    else if c == 116 then gives 9
    else if c == 110 then gives 10
    else if c == 118 then gives 11
    else if c == 102 then gives 12
    else if c == 114 then gives 13
    else if c == 120 then hexadecimal 2
    else if c == 117 then hexadecimal 4
    else if c == 85 then hexadecimal 8
    else if c == 78 then refused
    else stays

-- `Means x v`: the text x between quotes has the value v.
pub data Means : Text → Text → Type 0 where
  nothing : Means [] []
  plain : {c : ℕ} {x v : Text} → (c == 92) ≡ false → Means x v → Means (c ∷ x) (c ∷ v)
  dropped : {c : ℕ} {x v : Text} → escape c ≡ drops → Means x v → Means (92 ∷ c ∷ x) v
  given : {c d : ℕ} {x v : Text} → escape c ≡ gives d → Means x v → Means (92 ∷ c ∷ x) (d ∷ v)
  -- The escape takes all octal digits that follow, up to three in total.
  by_octal : {c : ℕ} (s : Text) {x v : Text} → escape c ≡ octal → AllDigits 8 s → length s ≤ 2
      → (length s ≡ 2) ⊎ (digit_first 8 x ≡ false) → Means x v
      → Means (92 ∷ c ∷ (s ++ x)) (number_of 8 (c ∷ s) ∷ v)
  -- The number is the code of a character.
  by_hexadecimal : {c n : ℕ} (s : Text) {x v : Text} → escape c ≡ hexadecimal n → AllDigits 16 s
      → length s ≡ n → scalar (number_of 16 s) ≡ true → Means x v
      → Means (92 ∷ c ∷ (s ++ x)) (number_of 16 s ∷ v)
  stayed : {c : ℕ} {x v : Text} → escape c ≡ stays → Means x v → Means (92 ∷ c ∷ x) (92 ∷ c ∷ v)

-- The text after a backslash begins no escape.
pub data BadEscape : Text → Type 0 where
  refuses : {c : ℕ} {x : Text} → escape c ≡ refused → BadEscape (c ∷ x)
  too_short : {c n : ℕ} (s x : Text) → escape c ≡ hexadecimal n → AllDigits 16 s → length s < n
      → digit_first 16 x ≡ false → BadEscape (c ∷ (s ++ x))
  no_character : {c n : ℕ} (s x : Text) → escape c ≡ hexadecimal n → AllDigits 16 s → length s ≡ n
      → scalar (number_of 16 s) ≡ false → BadEscape (c ∷ (s ++ x))

-- A bad escape follows a prefix that has a value.
abbrev pub HasBadEscape : Text → Type 0
HasBadEscape raw = (before value after : Text) × (raw ≡ before ++ (92 ∷ after)) × Means before value × BadEscape after

-- ---- the value, computed

-- The longest run of at most n digits, and the rest.
unfoldable pub some_digits : ℕ → ℕ → Text → Text × Text
some_digits base zero x = ([], x)
some_digits base (suc n) [] = ([], [])
some_digits base (suc n) (c ∷ cs) =
    if is_digit base c then (let p = some_digits base n cs in (c ∷ p.0, p.1)) else ([], c ∷ cs)

-- The character that n hexadecimal digits encode.
abbrev pub coded : ℕ → Text × Text → Option (Text × Text)
coded n p =
    if length p.0 == n && scalar (number_of 16 p.0) then Some (number_of 16 p.0 ∷ [], p.1) else None

-- The value of an escape with the first character c, and the rest; x is the text after c.
abbrev pub escape_by : Escape → ℕ → Text → Option (Text × Text)
escape_by drops c x = Some ([], x)
escape_by (gives d) c x = Some (d ∷ [], x)
escape_by octal c x = let p = some_digits 8 2 x in Some (number_of 8 (c ∷ p.0) ∷ [], p.1)
escape_by (hexadecimal n) c x = coded n (some_digits 16 n x)
escape_by refused c x = None
escape_by stays c x = Some (92 ∷ c ∷ [], x)

abbrev pub escape_at : Text → Option (Text × Text)
escape_at [] = None
escape_at (c ∷ x) = escape_by (escape c) c x

-- The value of the first character or escape, and the rest; c is the first character.
abbrev pub piece_at : ℕ → Text → Option (Text × Text)
piece_at c x = if c == 92 then escape_at x else Some (c ∷ [], x)

abbrev pub with_piece : Option (Text × Text) → (Text → Text × Bool) → Text × Bool
with_piece None f = ([], false)
with_piece (Some p) f = let q = f p.1 in (p.0 ++ q.0, q.1)

-- The value up to the first bad escape, and whether there is no bad escape. The first k characters
-- belong to an escape that was read before.
unfoldable pub pieces : ℕ → Text → Text × Bool
pieces k [] = ([], true)
pieces (suc k) (c ∷ x) = pieces k x
pieces zero (c ∷ x) = with_piece (piece_at c x) (λ rest. pieces (length x - length rest) x)

-- The value of the text between quotes, as characters.
abbrev pub unescaped : Text → Text
unescaped x = (pieces 0 x).0
