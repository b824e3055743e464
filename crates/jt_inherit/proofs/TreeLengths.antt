-- A tree is no longer than its source: no text, token or segment is longer than its spelling.
use Rattle.jt_inherit.proofs.Vocabulary as words
use words.{rules, ◌≡◌, ℕ, ◌+◌, ◌<◌, ◌≤◌, Bool, true, false, ◌==◌, ◌||◌, [], ◌∷◌, ◌++◌, length, refl, ap, ◌∙◌, arith}
use words.{encode_utf8_all, length-append, if◌then◌else◌, drop, codes, Option, Some, None, List, chars, IsUtf8}
use words.{nat_tests, normalized, bytes_of, segment_bytes}
use Rattle.jt_scan.specs.declared.segment.TagKind.{TagKind}
use Rattle.jt_scan.specs.declared.segment.Mark.{Mark}
use Rattle.std.proofs.lemmas.Str as str
use str.{encodes-append, length-encode, len_utf8_bounds, len_utf8_ascii, encodes-chars, length-le-encodes}
use lib.Utf8.{encode}
use literal.{Text, digit_value, is_digit, AllDigits, number_of, Escape, drops, gives, octal, hexadecimal, refused}
use literal.{stays, escape, Means}
use Rattle.jt_scan.specs.Cut as cut
use cut.{closing_text, behind_mark, is_space, after_space, after_word, closer_at, first_mark, marks, endraw_closed}
use cut.{endraw_named, endraw_at, begins, Token, Segment, Spelled, Inside, closed, space, token, Cuts, no_more, more}
use cut.{IsSegment, some_data, a_tag, a_comment, a_raw}
use Rattle.jt_scan.specs.declared.segment.Marks.{Marks}
use Rattle.jt_scan.proofs.ParseResultSteps.{by_test}
use Rattle.jt_scan.proofs.Tables.{closer_says}
use Rattle.jt_scan.proofs.EndsLaws.{never_longer}
use Rattle.jt_expr.specs.Sizes.{token_bytes, tokens_bytes}
use Rattle.jt_scan.specs.Literals as literal
use Rattle.jt_scan.specs.declared.segment.TagKind.TheVariants as kind

-- The number of bytes of the characters.
abbrev pub bytes : Text → ℕ
bytes x = length (encode_utf8_all x)

pub bytes-append : (x y : Text) → bytes (x ++ y) ≡ bytes x + bytes y
bytes-append x y = ap length (encodes-append x y) ∙ length-append (encode_utf8_all x) (encode_utf8_all y)

pub bytes-cons : (c : ℕ) (x : Text) → bytes (c ∷ x) ≡ bytes (c ∷ []) + bytes x
bytes-cons c x = bytes-append (c ∷ []) x

-- A character has one to four bytes.
one_has : (c : ℕ) → (1 ≤ bytes (c ∷ [])) × (bytes (c ∷ []) ≤ 4)
one_has c = search (arith, rules, length-append, length-encode, len_utf8_bounds)

-- An ASCII character has one byte.
ascii_has : (c : ℕ) → c < 128 → bytes (c ∷ []) ≡ 1
ascii_has c h = omega (arith, length-append (encode c) [], length-encode c, len_utf8_ascii c h)

-- ---- the values of escapes

-- The character of an escape is ASCII. A hexadecimal code has at least two digits, and an octal one
-- begins with a digit.
abbrev Fits : ℕ → Escape → Type 0
Fits c (gives d) = d < 128
Fits c (hexadecimal n) = 2 ≤ n
Fits c octal = digit_value c < 8
Fits c e = Unit {0}

either : (c : ℕ) (b : Bool) (x y : Escape) → (b ≡ true → Fits c x) → Fits c y → Fits c (if b then x else y)
either c true x y f g = f refl
either c false x y f g = g

quoted : (c : ℕ) → (c == 92 || c == 39 || c == 34) ≡ true → c < 128
quoted c h = grind (arith, nat_tests)

below_eight : (c : ℕ) → is_digit 8 c ≡ true → digit_value c < 8
below_eight c h = grind (arith, nat_tests)

escape_fits : (c : ℕ) → Fits c (escape c)
unfolding escape
escape_fits c = search (arith, rules, either, below_eight, quoted)

fits_as : (c : ℕ) (e : Escape) → escape c ≡ e → Fits c e
fits_as c e h = rw (← h) (escape_fits c)

-- One to three octal digits are no shorter than the character that they name.
octal_short : (c : ℕ) (s : Text) → digit_value c < 8 → AllDigits 8 s → length s ≤ 2
    → bytes (number_of 8 (c ∷ s) ∷ []) ≤ 2 + length s
octal_short c [] h a l = omega (arith, ascii_has (number_of 8 (c ∷ [])) (omega arith))
octal_short c (d ∷ []) h a l = search (arith, rules, below_eight, ascii_has)
octal_short c (d ∷ e ∷ s) h a l = omega (arith, (one_has (number_of 8 (c ∷ d ∷ e ∷ s))).1)

-- ---- texts

pub means_short : {x v : Text} → Means x v → bytes v ≤ bytes x
means_short literal.nothing = omega arith
means_short (literal.plain {c} {x} {v} n m) = omega (arith, means_short m, bytes-cons c x, bytes-cons c v)
means_short (literal.dropped {c} {x} n m) = omega (arith, means_short m, bytes-cons 92 (c ∷ x), bytes-cons c x)
means_short (literal.given {c} {d} {x} {v} n m) =
    omega (
      arith,
      means_short m,
      bytes-cons 92 (c ∷ x),
      bytes-cons c x,
      bytes-cons d v,
      (one_has 92).0,
      (one_has c).0,
      ascii_has d (fits_as c (gives d) n),
    )
means_short (literal.by_octal {c} s {x} {v} n a l e m) =
    omega (
      arith,
      means_short m,
      bytes-cons 92 (c ∷ (s ++ x)),
      bytes-cons c (s ++ x),
      bytes-append s x,
      bytes-cons (number_of 8 (c ∷ s)) v,
      (one_has 92).0,
      (one_has c).0,
      length-le-encodes s,
      octal_short c s (fits_as c octal n) a l,
    )
means_short (literal.by_hexadecimal {c} {n} s {x} {v} e a l k m) =
    omega (
      arith,
      means_short m,
      bytes-cons 92 (c ∷ (s ++ x)),
      bytes-cons c (s ++ x),
      bytes-append s x,
      bytes-cons (number_of 16 s) v,
      (one_has 92).0,
      (one_has c).0,
      length-le-encodes s,
      fits_as c (hexadecimal n) e,
      (one_has (number_of 16 s)).1,
    )
means_short (literal.stayed {c} {x} {v} n m) = search (arith, rules, means_short m, bytes-cons)

pub closing_long : (k : TagKind) (mark : Mark) (rest : Text) → bytes rest ≤ bytes (closing_text k mark rest)
closing_long k mark rest = search (arith, rules, bytes-append, bytes-cons)

pub behind_short : (x : Text) → bytes (behind_mark x) ≤ bytes x
behind_short a0 = search (arith, rules, bytes, bytes-cons)

space_short : (x : Text) → bytes (after_space x) ≤ bytes x
unfolding after_space
space_short [] = omega arith
space_short (c ∷ cs) = by (is_space c) refl (space_short cs)
  where
    by : (b : Bool) → is_space c ≡ b → bytes (after_space cs) ≤ bytes cs → bytes (after_space (c ∷ cs)) ≤ bytes (c ∷ cs)
    by true h r = rw h (omega (arith, r, bytes-cons c cs))
    by false h r = rw h (omega arith)

word_short : (w x rest : Text) → after_word w x ≡ Some rest → bytes rest ≤ bytes x
word_short [] x rest e = let h : x ≡ rest = cc in omega (arith, ap bytes h)
word_short (a ∷ w) [] rest e = cc
word_short (a ∷ w) (c ∷ x) rest e = search (arith, rules, by_test, word_short w x rest, bytes-cons)

end_short : (opening : Mark) (o : Option (Mark × Text)) (ends : Marks) (rest : Text)
    → endraw_closed opening o ≡ Some (ends, rest) → (mark : Mark) × (o ≡ Some (mark, rest))
end_short opening None ends rest e = cc
end_short opening (Some p) ends rest e =
    let same : ◌≡◌ {A = Marks × Text} (marks opening p.0, p.1) (ends, rest) = cc in
    (p.0, ap (λ (q : Marks × Text). Some (p.0, q.1)) same)

named_short : (opening : Mark) (o : Option Text) (x : Text) (ends : Marks) (rest : Text)
    → ((y : Text) → o ≡ Some y → bytes y ≤ bytes x) → endraw_named opening o ≡ Some (ends, rest) → bytes rest ≤ bytes x
named_short opening None x ends rest le e = cc
named_short opening (Some y) x ends rest le e =
    let c = end_short opening (closer_at kind.Block (after_space y)) ends rest e in
    let s = closer_says kind.Block c.0 (after_space y) rest c.1 in
    omega (arith, le y refl, space_short y, ap bytes s.1, closing_long kind.Block c.0 rest)

drop_short : (x : Text) → bytes (drop 2 x) ≤ bytes x
drop_short [] = omega arith
drop_short (c ∷ []) = omega (arith, bytes-cons c [])
drop_short (c ∷ d ∷ x) = omega (arith, bytes-cons c (d ∷ x), bytes-cons d x)

pub endraw_short : (x : Text) (ends : Marks) (rest : Text) → endraw_at x ≡ Some (ends, rest) → bytes rest ≤ bytes x
unfolding endraw_at
endraw_short x ends rest e =
    by_test (begins 123 37 x) _ _ _ e
    (λ h q.
    named_short (first_mark (drop 2 x)) (after_word (codes "endraw") (after_space (behind_mark (drop 2 x)))) x ends rest
    (λ y w. omega (
      arith,
      word_short (codes "endraw") (after_space (behind_mark (drop 2 x))) y w,
      space_short (behind_mark (drop 2 x)),
      behind_short (drop 2 x),
      drop_short x,
    )) q)
    (λ h q. cc)

-- The spelling of a token is no shorter than the token's text.
token_short : {t : Token} {x rest : Text} → Spelled t x rest → token_bytes t ≤ bytes x
token_short a0 = search (arith, rules, means_short, bytes-cons, bytes-append)

inside_short : {k : TagKind} {depth : ℕ} {ts : List Token} {mark : Mark} {x rest : Text} → Inside k depth ts mark x rest
    → tokens_bytes ts + bytes rest ≤ bytes x
inside_short {k} (closed {mark} {rest} ok) = omega (arith, closing_long k mark rest)
inside_short (space {c = c} {x = x} h i) = omega (arith, inside_short i, bytes-cons c x)
inside_short (token {s = s} {x = x} b t i) = omega (arith, inside_short i, token_short t, bytes-append s x)

segment_short : {n : ℕ} {s : Segment} {x rest : Text} → IsSegment n s x rest → segment_bytes s + bytes rest ≤ bytes x
segment_short (some_data {c} {d} {rest} n e) = omega (arith, bytes-append (c ∷ d) rest)
segment_short (a_tag {k} {x = x} i r) = search (arith, rules, inside_short, behind_short, bytes-cons)
segment_short (a_comment {x} {rest} n) = search (arith, rules, bytes-cons, bytes-append)
segment_short (a_raw {ends = ends} {x = x} {d = d} {rest = rest} y i r h e) =
    search (arith, rules, inside_short, behind_short, bytes-append, endraw_short, bytes-cons)

-- The names and texts of segments are no longer than their source.
pub cut_short : {source : Text} {Ends : Text → Type 0} {ss : List Segment} {x : Text} → Cuts source Ends ss x
    → bytes_of ss ≤ bytes x
cut_short (no_more e) = omega arith
cut_short (more p c) = omega (arith, segment_short p, cut_short c)

-- The characters of a text have at most as many bytes as its source.
pub few_bytes : (keep : Bool) (source text : List ℕ) → IsUtf8 text → text ≡ normalized keep source
    → bytes (chars text) ≤ length source
few_bytes keep source text u e = search (arith, rules, length, encodes-chars, never_longer)
