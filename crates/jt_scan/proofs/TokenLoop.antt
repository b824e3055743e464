-- One iteration of the loop over the tokens of a tag, and of the loop over segments.
use Rattle.std.proofs.Common.{◌≡◌, ℕ, zero, suc, ◌+◌, ◌<◌, ◌≤◌, ◌==◌, Bool, true, false, List, [], ◌∷◌, ◌++◌, length}
use Rattle.std.proofs.Common.{drop, refl, sym, ap, ap₂, subst, ◌∙◌, arith, append_assoc, append-nil, if◌then◌else◌}
use Rattle.std.proofs.Common.{codes, Option, Some, None, Result, Ok, Err, length-append, IsUtf8, cond, rules}
use Rattle.std.proofs.lemmas.List.Sums.{sum_by-append, count_by-le-length}
use Rattle.std.proofs.lemmas.Str.{encodes-chars, chars-nil, length-le-encodes}
use Rattle.std.specs.Str.{chars}
use lib.Utf8.{encodes}
use Rattle.jt_scan.specs.declared.error.ScanError.{ScanError}
use Rattle.jt_scan.specs.declared.error.ScanError.TheVariants as error
use Rattle.jt_scan.specs.declared.segment.TagKind.{TagKind}
use Rattle.jt_scan.specs.declared.segment.TagKind.TheVariants.{Variable, Block}
use Rattle.jt_scan.specs.declared.segment.Sign.{Sign}
use Rattle.jt_scan.specs.declared.segment.Sign.TheVariants as s
use Rattle.jt_scan.specs.Cut as cuts
use Rattle.jt_scan.specs.Cut.{Text, EndsWith, Token, Segment, data_of, comment, begins, closes, braces, opens}
use Rattle.jt_scan.specs.Cut.{ends_comment, is_space, IsSegment, some_data, a_tag, a_comment, a_raw, Inside, closed}
use Rattle.jt_scan.specs.Cut.{space, token, closer, closing_text, closer_at, mark_text, first_mark, behind_mark, marks}
use Rattle.jt_scan.specs.Cut.{comment_marks, after_word, endraw_closed, endraw_named, endraw_at, ends_raw, raw, second}
use Rattle.jt_scan.specs.Cut.{starts_name, name, line_at, lines, after_space}
use Rattle.jt_scan.specs.declared.segment.Mark.{Mark}
use Rattle.jt_scan.specs.declared.segment.Mark.TheVariants as m
use Rattle.jt_scan.specs.declared.segment.Marks.{Marks}
use Rattle.jt_scan.proofs.Tables.{closer_says, marked}
use Rattle.jt_scan.specs.internal.Scanning.{ParseResult, ◌>>=◌, Tokens, closing, spells, counted, front_by, token_at}
use Rattle.jt_scan.specs.internal.Scanning.{front_at, with_token, then_inside, inside, tag_at, run, clear_run, raw_at}
use Rattle.jt_scan.specs.internal.Scanning.{ended_comment, comment_at, segment_at, with_segment, then_cut, cut, IsGiven}
use Rattle.jt_scan.proofs.ParseResultSteps.{Stops, by_test, opener_says, clear_says, run_says}
use Rattle.jt_scan.proofs.InsideLaws.{IsFront, front_says}
use Rattle.jt_scan.proofs.CutLaws.{segment_says}
use Rattle.jt_scan.proofs.Weight.{shrinks}

-- If each refusal of the result o is one of the result p, a refusal that is given for o is given
-- for p.
pub given_along : {A B : Type 0} (e : ScanError) (o : Result A ScanError) (p : Result B ScanError)
    → (o ≡ Err e → p ≡ Err e) → IsGiven e o → IsGiven e p
given_along e o p f g = search (arith, rules)

-- ---- tokens

-- The result with the tokens ts prepended.
abbrev pub prefixed : List Token → ParseResult Tokens → ParseResult Tokens
prefixed ts o = o >>= λ p z. Ok ((ts ++ p.0, p.1), z)

-- The tokens ts have been read, x is the rest, and `depth` braces are open.
abbrev pub IsRead : TagKind → ℕ → ParseResult Tokens → List Token → ℕ → Text → Type 0
IsRead k line whole ts depth x = (m : ℕ) × (length x < m) × (prefixed ts (inside k line m depth x) ≡ whole)

prefixed_none : (o : ParseResult Tokens) → prefixed [] o ≡ o
prefixed_none (Ok p) = refl
prefixed_none (Err e) = refl

pub read_none : (k : TagKind) (line : ℕ) (x : Text) → IsRead k line (inside k line (length x + 1) 0 x) [] 0 x
read_none k line x = (length x + 1, omega arith, prefixed_none (inside k line (length x + 1) 0 x))

-- The text begins with no whitespace.
abbrev NoSpace : Text → Type 0
NoSpace [] = Unit {0}
NoSpace (c ∷ cs) = is_space c ≡ false

skipped : (k : TagKind) (line depth : ℕ) (x : Text) (m : ℕ) → length x < m
    → (n : ℕ) × (length (after_space x) < n) × (inside k line m depth x ≡ inside k line n depth (after_space x))
    × NoSpace (after_space x)
unfolding inside after_space
skipped k line depth x zero le = absurd (omega arith)
skipped k line depth [] (suc m) le = (suc m, le, refl, tt)
skipped k line depth (c ∷ cs) (suc m) le = stepped (is_space c) refl (skipped k line depth cs m (omega arith))
  where
    stepped : (b : Bool) → is_space c ≡ b → (n : ℕ) × (length (after_space cs) < n)
        × (inside k line m depth cs ≡ inside k line n depth (after_space cs)) × NoSpace (after_space cs)
        →
        (n : ℕ) × (length (after_space (c ∷ cs)) < n)
        × (inside k line (suc m) depth (c ∷ cs) ≡ inside k line n depth (after_space (c ∷ cs)))
        × NoSpace (after_space (c ∷ cs))
    stepped true h r = rw h r
    stepped false h r = rw h (suc m, le, rw h refl, h)

front_of_none : (k : TagKind) (line depth : ℕ) → front_at k line depth [] ≡ Err (error.UnclosedTag line)
unfolding front_at token_at
front_of_none k line depth = shut (depth == 0)
  where
    shut : (b : Bool) → front_by line (if b then closer_at k [] else None) [] ≡ Err (error.UnclosedTag line)
    shut true = refl
    shut false = refl

opened : (k : TagKind) (line depth : ℕ) (y : Text) (n : ℕ) → length y < n → NoSpace y
    → (j : ℕ) × (length y < suc j)
    × (inside k line n depth y ≡ (front_at k line depth y >>= then_inside (inside k line j) depth))
unfolding inside
opened k line depth y zero le s = absurd (omega arith)
opened k line depth [] (suc n) le s =
    (n, le, sym (ap (λ o. o >>= then_inside (inside k line n) depth) (front_of_none k line depth)))
opened k line depth (c ∷ cs) (suc n) le s = (n, le, rw s refl)

abbrev pub IsTurn : TagKind → ℕ → ParseResult Tokens → List Token → ℕ → Text → Type 0
IsTurn k line whole ts depth y =
    (j : ℕ) × (length y < suc j)
    × (prefixed ts (front_at k line depth y >>= then_inside (inside k line j) depth) ≡ whole)

pub turn : (k : TagKind) (line : ℕ) (whole : ParseResult Tokens) (ts : List Token) (depth : ℕ) (x : Text)
    → IsRead k line whole ts depth x → IsTurn k line whole ts depth (after_space x)
turn k line whole ts depth x r =
    let s = skipped k line depth x r.0 r.1 in
    let o = opened k line depth (after_space x) s.0 s.1 s.3 in
    (o.0, o.1, ap (prefixed ts) (sym (s.2 ∙ o.2)) ∙ r.2)

pub turn_ends : (k : TagKind) (line : ℕ) (whole : ParseResult Tokens) (ts : List Token) (depth : ℕ) (mark : Mark)
    (y rest : Text)
    → IsTurn k line whole ts depth y → front_at k line depth y ≡ Ok (closing mark, rest) → whole ≡ Ok ((ts, mark), rest)
turn_ends k line whole ts depth mark y rest t e = sym t.2 ∙ (rw (e, append-nil ts) refl)

after_one : (t : Token) (ts : List Token) (o : ParseResult Tokens)
    → prefixed ts (with_token t o) ≡ prefixed (ts ++ (t ∷ [])) o
after_one t ts (Ok p) = rw (append_assoc ts (t ∷ []) p.0.0) refl
after_one t ts (Err e) = refl

pub turn_goes_on : (k : TagKind) (line : ℕ) (whole : ParseResult Tokens) (ts : List Token) (depth : ℕ) (t : Token)
    (y rest : Text)
    → IsTurn k line whole ts depth y → front_at k line depth y ≡ Ok (spells t, rest)
    → IsRead k line whole (ts ++ (t ∷ [])) (braces depth t) rest
turn_goes_on k line whole ts depth t y rest r e =
    let f : IsFront k depth (spells t) y rest = front_says k line depth (spells t) y rest e in (
      r.0,
      omega (arith, r.1, f.3),
      sym (after_one t ts (inside k line r.0 (braces depth t) rest))
          ∙ ap (λ o. prefixed ts (o >>= then_inside (inside k line r.0) depth)) (sym e) ∙ r.2,
    )

pub turn_refused : (k : TagKind) (line : ℕ) (whole : ParseResult Tokens) (ts : List Token) (depth : ℕ) (y : Text)
    (e : ScanError)
    → IsTurn k line whole ts depth y → front_at k line depth y ≡ Err e → whole ≡ Err e
turn_refused k line whole ts depth y e r h =
    sym r.2 ∙ ap (λ o. prefixed ts (o >>= then_inside (inside k line r.0) depth)) h

no_longer : (x : Text) → length (after_space x) ≤ length x
unfolding after_space
no_longer [] = omega arith
no_longer (c ∷ cs) = stepped (is_space c) refl (no_longer cs)
  where
    stepped : (b : Bool) → is_space c ≡ b → length (after_space cs) ≤ length cs
        → length (after_space (c ∷ cs)) ≤ length (c ∷ cs)
    stepped true h r = rw h (omega (arith, r))
    stepped false h r = rw h (omega arith)

pub shorter : (k : TagKind) (line depth : ℕ) (t : Token) (x rest : Text)
    → front_at k line depth (after_space x) ≡ Ok (spells t, rest) → length rest < length x
shorter k line depth t x rest e =
    let f : IsFront k depth (spells t) (after_space x) rest =
    front_says k line depth (spells t) (after_space x) rest e in
    omega (arith, f.3, no_longer x)

-- The closer of a tag after whitespace ends the loop.
pub tokens_end : (k : TagKind) (line : ℕ) (whole : ParseResult Tokens) (ts : List Token) (depth : ℕ) (mark : Mark)
    (x y rest : Text)
    → IsRead k line whole ts depth x → y ≡ after_space x → front_at k line depth y ≡ Ok (closing mark, rest)
    → whole ≡ Ok ((ts, mark), rest)
tokens_end k line whole ts depth mark x y rest r same e =
    turn_ends k line whole ts depth mark (after_space x) rest (turn k line whole ts depth x r)
    (subst (λ z. front_at k line depth z ≡ Ok (closing mark, rest)) same e)

pub tokens_go_on : (k : TagKind) (line : ℕ) (whole : ParseResult Tokens) (ts us : List Token) (depth more : ℕ)
    (t : Token) (x y rest : Text)
    → IsRead k line whole ts depth x → y ≡ after_space x → front_at k line depth y ≡ Ok (spells t, rest)
    → us ≡ ts ++ (t ∷ []) → more ≡ braces depth t → IsRead k line whole us more rest
tokens_go_on k line whole ts us depth more t x y rest r same e all braced =
    subst (λ d. IsRead k line whole us d rest) (sym braced)
    (subst (λ vs. IsRead k line whole vs (braces depth t) rest) (sym all)
    (turn_goes_on k line whole ts depth t (after_space x) rest (turn k line whole ts depth x r)
    (subst (λ z. front_at k line depth z ≡ Ok (spells t, rest)) same e)))

pub tokens_shrink : (k : TagKind) (line depth : ℕ) (t : Token) (x y rest : Text) → y ≡ after_space x
    → front_at k line depth y ≡ Ok (spells t, rest) → length rest < length x
tokens_shrink k line depth t x y rest same e =
    shorter k line depth t x rest (subst (λ z. front_at k line depth z ≡ Ok (spells t, rest)) same e)

pub tokens_refused : (k : TagKind) (line : ℕ) (whole : ParseResult Tokens) (ts : List Token) (depth : ℕ) (x y : Text)
    (e : ScanError)
    → IsRead k line whole ts depth x → y ≡ after_space x → IsGiven e (front_at k line depth y) → IsGiven e whole
tokens_refused k line whole ts depth x y e r same g =
    given_along e (front_at k line depth y) whole
    (λ h. turn_refused k line whole ts depth (after_space x) e (turn k line whole ts depth x r)
    (subst (λ z. front_at k line depth z ≡ Err e) same h)) g

-- A token opens at most one brace.
pub braces_fit : (depth n more : ℕ) (t : Token) → depth ≤ n → more ≡ braces depth t → more ≤ n + 1
braces_fit depth n more t le e = omega (arith, e, few t)
  where
    few : (t : Token) → braces depth t ≤ n + 1
    few (cuts.name x) = omega arith
    few (cuts.number m) = omega arith
    few (cuts.text x) = omega arith
    few (cuts.sign u) = sign_few u
      where
        sign_few : (u : Sign) → braces depth (cuts.sign u) ≤ n + 1
        sign_few s.LeftBrace = omega arith
        sign_few s.RightBrace = omega arith
        sign_few u = omega arith

-- ---- segments

abbrev pub before_all : List Segment → Result (List Segment) ScanError → Result (List Segment) ScanError
before_all ss (Ok us) = Ok (ss ++ us)
before_all ss (Err e) = Err e

-- The segments ss have been split off, and x is the rest.
abbrev pub IsCutOff : Text → List Segment → Text → Type 0
IsCutOff source ss x =
    (m : ℕ) × (length x < m) × (before_all ss (cut source m x) ≡ cut source (length source + 1) source)

before_none : (o : Result (List Segment) ScanError) → before_all [] o ≡ o
before_none (Ok us) = refl
before_none (Err e) = refl

pub cut_ends : (source : Text) (ss : List Segment) → IsCutOff source ss []
    → cut source (length source + 1) source ≡ Ok ss
unfolding cut
cut_ends source ss r = sym r.2 ∙ ended r.0 r.1
  where
    ended : (m : ℕ) → 0 < m → before_all ss (cut source m []) ≡ Ok ss
    ended zero le = absurd (omega arith)
    ended (suc m) le = rw (append-nil ss) refl

before_one : (s : Segment) (ss : List Segment) (o : Result (List Segment) ScanError)
    → before_all ss (with_segment s o) ≡ before_all (ss ++ (s ∷ [])) o
before_one s ss (Ok us) = rw (append_assoc ss (s ∷ []) us) refl
before_one s ss (Err e) = refl

cut_step : (source x : Text) (m : ℕ) → 0 < length x → length x < m
    → (j : ℕ) × (length x < suc j) × (cut source m x ≡ then_cut (segment_at (line_at source x) x) (cut source j))
unfolding cut
cut_step source [] m z le = absurd (omega arith)
cut_step source (c ∷ cs) zero z le = absurd (omega arith)
cut_step source (c ∷ cs) (suc m) z le = (m, le, refl)

pub cut_goes_on : (source : Text) (ss : List Segment) (s : Segment) (x rest : Text) (line : ℕ) → IsCutOff source ss x
    → 0 < length x → line ≡ line_at source x → segment_at line x ≡ Ok (s, rest) → IsCutOff source (ss ++ (s ∷ [])) rest
cut_goes_on source ss s x rest line r z at e =
    let j = cut_step source x r.0 z r.1 in
    let here : segment_at (line_at source x) x ≡ Ok (s, rest) = subst (λ n. segment_at n x ≡ Ok (s, rest)) at e in
    let p = segment_says (line_at source x) s x rest z here in (
      j.0,
      omega (arith, j.1, (shrinks p).0),
      sym (before_one s ss (cut source j.0 rest)) ∙ ap (λ o. before_all ss (then_cut o (cut source j.0))) (sym here)
          ∙ ap (before_all ss) (sym j.2) ∙ r.2,
    )

pub cut_refused : (source : Text) (ss : List Segment) (x : Text) (line : ℕ) (e : ScanError) → IsCutOff source ss x
    → 0 < length x → line ≡ line_at source x → segment_at line x ≡ Err e → cut source (length source + 1) source ≡ Err e
cut_refused source ss x line e r z at h =
    let j = cut_step source x r.0 z r.1 in
    let here : segment_at (line_at source x) x ≡ Err e = subst (λ n. segment_at n x ≡ Err e) at h in
    sym r.2 ∙ ap (before_all ss) j.2 ∙ ap (λ o. before_all ss (then_cut o (cut source j.0))) here

-- A closer followed by the rest has the rest as a suffix.
closing_end : (k : TagKind) (mark : Mark) (rest : Text) → EndsWith (closing_text k mark rest) rest
closing_end k m.Absent rest = (closer k ∷ 125 ∷ [], refl)
closing_end k m.Minus rest = (45 ∷ closer k ∷ 125 ∷ [], refl)
closing_end k m.Plus rest = (43 ∷ closer k ∷ 125 ∷ [], refl)

inside_end : {k : TagKind} {depth : ℕ} {ts : List Token} {mark : Mark} {x rest : Text} → Inside k depth ts mark x rest
    → EndsWith x rest
inside_end {k} (closed {mark} {rest} ok) = closing_end k mark rest
inside_end (space {c} h i) = let e = inside_end i in (c ∷ e.0, ap (λ z. c ∷ z) e.1)
inside_end (token {s} {rest} b p i) =
    let e = inside_end i in (s ++ e.0, ap (λ z. s ++ z) e.1 ∙ sym (append_assoc s e.0 rest))

ends_through : {x y z : Text} → EndsWith x y → EndsWith y z → EndsWith x z
ends_through e f = (e.0 ++ f.0, e.1 ∙ ap (λ w. e.0 ++ w) f.1 ∙ sym (append_assoc e.0 f.0 _))

mark_end : (x : Text) → EndsWith x (behind_mark x)
mark_end x = (mark_text (first_mark x), marked x)

space_end : (x : Text) → EndsWith x (after_space x)
unfolding after_space
space_end [] = ([], refl)
space_end (c ∷ cs) = by (is_space c) refl (space_end cs)
  where
    by : (b : Bool) → is_space c ≡ b → EndsWith cs (after_space cs) → EndsWith (c ∷ cs) (after_space (c ∷ cs))
    by true h e = rw h (c ∷ e.0, ap (λ z. c ∷ z) e.1)
    by false h e = rw h ([], refl)

word_end : (w x rest : Text) → after_word w x ≡ Some rest → EndsWith x rest
word_end [] x rest e = let h : x ≡ rest = cc in ([], h)
word_end (a ∷ w) [] rest e = cc
word_end (a ∷ w) (c ∷ x) rest e =
    by_test (c == a) _ _ _ e (λ h q. let f = word_end w x rest q in (c ∷ f.0, ap (λ z. c ∷ z) f.1)) (λ h q. cc)

closer_end : (opening : Mark) (o : Option (Mark × Text)) (x : Text) (ends : Marks) (rest : Text) → closer_at Block x ≡ o
    → endraw_closed opening o ≡ Some (ends, rest) → EndsWith x rest
closer_end opening None x ends rest is e = cc
closer_end opening (Some p) x ends rest is e =
    let same : ◌≡◌ {A = Marks × Text} (marks opening p.0, p.1) (ends, rest) = cc in
    let s = closer_says Block p.0 x p.1 is in
    subst (EndsWith x) (ap (λ (q : Marks × Text). q.1) same)
    (subst (λ z. EndsWith z p.1) (sym s.1) (closing_end Block p.0 p.1))

named_end : (opening : Mark) (o : Option Text) (x : Text) (ends : Marks) (rest : Text)
    → ((y : Text) → o ≡ Some y → EndsWith x y) → endraw_named opening o ≡ Some (ends, rest) → EndsWith x rest
named_end opening None x ends rest f e = cc
named_end opening (Some y) x ends rest f e =
    ends_through (f y refl)
    (ends_through (space_end y) (closer_end opening (closer_at Block (after_space y)) (after_space y) ends rest refl e))

endraw_end : (x : Text) {ends : Marks} {rest : Text} → endraw_at x ≡ Some (ends, rest) → EndsWith x rest
unfolding endraw_at
endraw_end x {ends} {rest} e =
    by_test (begins 123 37 x) _ _ _ e
    (λ h q.
    let y = drop 2 x in
    ends_through (123 ∷ 37 ∷ [], opener_says 123 37 x h)
    (named_end (first_mark y) (after_word (codes "endraw") (after_space (behind_mark y))) y ends rest
    (λ z w. ends_through (mark_end y)
    (ends_through (space_end (behind_mark y)) (word_end (codes "endraw") (after_space (behind_mark y)) z w))) q))
    (λ h q. cc)

segment_end : {n : ℕ} {s : Segment} {x rest : Text} → IsSegment n s x rest → EndsWith x rest
segment_end (some_data {c} {d} h e) = (c ∷ d, refl)
segment_end (a_tag {k} {x} i r) =
    let e = ends_through (mark_end x) (inside_end i) in (123 ∷ second k ∷ e.0, ap (λ z. 123 ∷ second k ∷ z) e.1)
segment_end (a_raw {x} {d} y i r h e) =
    let f = ends_through (mark_end x) (ends_through (inside_end i) (ends_through (d, refl) (endraw_end y e))) in
    (123 ∷ 37 ∷ f.0, ap (λ z. 123 ∷ 37 ∷ z) f.1)
segment_end (a_comment {x} {rest} h) =
    (123 ∷ 35 ∷ (x ++ (35 ∷ 125 ∷ [])), ap (λ z. 123 ∷ 35 ∷ z) (sym (append_assoc x (35 ∷ 125 ∷ []) rest)))

pub ends_with : (n : ℕ) (s : Segment) (x rest : Text) → 0 < length x → segment_at n x ≡ Ok (s, rest) → EndsWith x rest
ends_with n s x rest z e = segment_end (segment_says n s x rest z e)

pub leaves_less : (n : ℕ) (s : Segment) (x rest : Text) → 0 < length x → segment_at n x ≡ Ok (s, rest)
    → length rest < length x
leaves_less n s x rest z e = (shrinks (segment_says n s x rest z e)).0

pub segments_refused : (source : Text) (ss : List Segment) (x : Text) (line : ℕ) (e : ScanError) → IsCutOff source ss x
    → 0 < length x → line ≡ line_at source x → IsGiven e (segment_at line x)
    → IsGiven e (cut source (length source + 1) source)
segments_refused source ss x line e r z at g =
    given_along e (segment_at line x) (cut source (length source + 1) source) (cut_refused source ss x line e r z at) g

pub segments_go_on : (source : Text) (ss us : List Segment) (s : Segment) (x rest : Text) (line : ℕ)
    → IsCutOff source ss x → 0 < length x → line ≡ line_at source x → segment_at line x ≡ Ok (s, rest)
    → us ≡ ss ++ (s ∷ []) → IsCutOff source us rest
segments_go_on source ss us s x rest line r z at e more =
    subst (λ vs. IsCutOff source vs rest) (sym more) (cut_goes_on source ss s x rest line r z at e)

-- ---- lines

pub lines-append : (x y : Text) → lines (x ++ y) ≡ lines x + lines y
lines-append x y = sum_by-append (λ c. cond (c == 10) 1 0) x y

pub few_lines : (x : Text) → lines x ≤ length x
few_lines x = count_by-le-length (λ c. c == 10) x

pub line_is : (line : ℕ) (source x : Text) → line + lines x ≡ 1 + lines source → line ≡ line_at source x
line_is line source x e = omega (arith, e)

-- The line number after a part of a short text is small.
pub lines_fit : (line : ℕ) (source x part rest : Text) (n : ℕ) → line + lines x ≡ 1 + lines source → x ≡ part ++ rest
    → length source ≤ n → line + lines part ≤ n + 1
lines_fit line source x part rest n e w le = omega (arith, few_lines source, ap lines w, lines-append part rest, e)

pub line_goes_on : (line : ℕ) (source x part rest : Text) → line + lines x ≡ 1 + lines source → x ≡ part ++ rest
    → line + lines part + lines rest ≡ 1 + lines source
line_goes_on line source x part rest e w = omega (arith, ap lines w, lines-append part rest, e)

pub not_empty : (t : List ℕ) → IsUtf8 t → 0 < length t → 0 < length (chars t)
not_empty t u le = at (chars t) (encodes-chars t u)
  where
    at : (cs : Text) → encodes cs ≡ t → 0 < length cs
    at [] e = absurd (omega (arith, ap length e))
    at (c ∷ cs) e = omega arith

pub no_chars : (t : List ℕ) → length t ≡ 0 → chars t ≡ []
no_chars [] h = chars-nil
no_chars (c ∷ cs) h = absurd (omega arith)

pub few_chars : (t : List ℕ) → IsUtf8 t → length (chars t) ≤ length t
few_chars t u = omega (arith, length-le-encodes (chars t), ap length (encodes-chars t u))

-- ---- the segment at the start of a text

pub segment_of_tag : (n : ℕ) (k : TagKind) (x y : Text) → x ≡ 123 ∷ second k ∷ y → segment_at n x ≡ tag_at k n y
unfolding segment_at
segment_of_tag n Variable x y e = rw e refl
segment_of_tag n Block x y e = rw e refl

pub segment_of_comment : (n : ℕ) (x y : Text) → x ≡ 123 ∷ 35 ∷ y → segment_at n x ≡ comment_at n y
unfolding segment_at
segment_of_comment n x y e = rw e refl

pub segment_of_data : (n : ℕ) (x d y : Text) → begins 123 123 x ≡ false → begins 123 37 x ≡ false
    → begins 123 35 x ≡ false → clear_run opens x ≡ (d, y) → segment_at n x ≡ Ok (data_of d, y)
unfolding segment_at
segment_of_data n x d y a b c e = rw (a, b, c, e) refl

pub raw_read : (n : ℕ) (ms : Marks) (x d y : Text) (ends : Marks) (rest : Text) → clear_run ends_raw x ≡ (d, y)
    → endraw_at y ≡ Some (ends, rest) → raw_at n ms x ≡ Ok (raw ms d ends, rest)
unfolding raw_at
raw_read n ms x d y ends rest e f = rw (e, f) refl

pub raw_open : (n : ℕ) (ms : Marks) (x d y : Text) → clear_run ends_raw x ≡ (d, y) → endraw_at y ≡ None
    → raw_at n ms x ≡ Err (error.UnclosedRaw n)
unfolding raw_at
raw_open n ms x d y e f = rw (e, f) refl

pub comment_open : (n : ℕ) (x d y : Text) → clear_run ends_comment x ≡ (d, y) → begins 35 125 y ≡ false
    → comment_at n x ≡ Err (error.UnclosedTag n)
comment_open n x d y e f =
    rw e (at_end y (subst (Stops ends_comment) (ap (λ (p : Text × Text). p.1) e) (clear_says ends_comment x).2) f)
  where
    at_end : (y : Text) → Stops ends_comment y → begins 35 125 y ≡ false
        → ended_comment n d y ≡ Err (error.UnclosedTag n)
    at_end [] s f = refl
    at_end (c ∷ cs) s f = cc

-- ---- names

pub cancel_end : (x y z : Text) → x ++ z ≡ y ++ z → x ≡ y
cancel_end [] [] z e = refl
cancel_end [] (b ∷ y) z e = absurd (omega (arith, ap length e, length-append y z))
cancel_end (a ∷ x) [] z e = absurd (omega (arith, ap length e, length-append x z))
cancel_end (a ∷ x) (b ∷ y) z e =
    let h : a ≡ b = cc in let t : x ++ z ≡ y ++ z = cc in ap₂ (λ c cs. c ∷ cs) h (cancel_end x y z t)

pub name_end : (c : ℕ) (x cs rest : Text) → x ≡ c ∷ cs → rest ≡ (run cs).1 → EndsWith x rest
name_end c x cs rest e r = (c ∷ (run cs).0, e ∙ ap (λ z. c ∷ z) ((run_says cs).0 ∙ ap (λ z. (run cs).0 ++ z) (sym r)))

pub token_named : (line c : ℕ) (x cs found rest : Text) → x ≡ c ∷ cs → starts_name c ≡ true → rest ≡ (run cs).1
    → x ≡ found ++ rest → token_at line x ≡ Ok (name found, rest)
unfolding token_at name_end
token_named line c x cs found rest e s r w =
    let n = name_end c x cs rest e r in
    let same : c ∷ (run cs).0 ≡ found = cancel_end (c ∷ (run cs).0) found rest (sym n.1 ∙ w) in
    rw e (rw (s, r) (ap (λ z. Ok (name z, (run cs).1)) same))

-- ---- a closer or a token

pub front_closed : (k : TagKind) (line depth : ℕ) (x : Text) (mark : Mark) (rest : Text)
    → counted k depth x ≡ Some (mark, rest) → front_at k line depth x ≡ Ok (closing mark, rest)
unfolding front_at
front_closed k line depth x mark rest e = rw e refl

-- The text begins with no closer that ends the tag.
abbrev pub IsOpen : TagKind → ℕ → Text → Type 0
IsOpen k depth x = counted k depth x ≡ None

pub front_spelled : (k : TagKind) (line depth : ℕ) (x : Text) (t : Token) (rest : Text) → IsOpen k depth x
    → token_at line x ≡ Ok (t, rest) → front_at k line depth x ≡ Ok (spells t, rest)
unfolding front_at
front_spelled k line depth x t rest h e = rw (h, e) refl

pub front_refused : (k : TagKind) (line depth : ℕ) (x : Text) (e : ScanError) → IsOpen k depth x
    → IsGiven e (token_at line x) → IsGiven e (front_at k line depth x)
unfolding front_at
front_refused k line depth x e h g = given_along e (token_at line x) (front_at k line depth x) (λ w. rw (h, w) refl) g
