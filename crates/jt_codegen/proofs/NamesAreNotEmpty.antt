-- No name that a tree reads or binds is empty, since a source spells no empty name. The lines of
-- its tags are lines of its source, which has at most 1,048,576 line ends.
use Rattle.std.proofs.Common.{ℕ, zero, suc, ◌+◌, ◌-◌, ◌*◌, ◌<◌, ◌≤◌, List, [], ◌∷◌, ◌++◌, length, map, codes}
use Rattle.std.proofs.Common.{encode_utf8_all, Option, Some, None, arith, rules}
use Rattle.std.specs.Str.{chars, chars_after, continuation_len, lead_bits}
use Rattle.std.specs.List.{AllByRecursion}
use Rattle.std.proofs.lemmas.Str.{length-le-encodes}
use Rattle.jt_scan.specs.declared.options.Options.{Options}
use Rattle.jt_scan.specs.declared.segment.TagKind.{TagKind}
use Rattle.jt_scan.specs.declared.segment.Mark.{Mark}
use Rattle.jt_scan.specs.declared.segment.Sign.{Sign}
use Rattle.jt_scan.specs.declared.segment.Sign.TheVariants as s
use Rattle.jt_scan.specs.Cut as cut
use Rattle.jt_scan.specs.Cut.{Token, Segment, Inside, IsSegment, Cuts, lines}
use Rattle.jt_scan.specs.SourceView.{max_source_len}
use Rattle.jt_scan.proofs.CutLaws.{segment_found}
use Rattle.jt_scan.proofs.EndsLaws.{never_longer}
use Rattle.jt_scan.proofs.TokenLoop.{ends_with, lines-append, few_lines}
use Rattle.jt_scan.proofs.Weight.{shrinks}
use Rattle.jt_image.specs.IsCode.{max_line}
use Rattle.jt_ast.specs.Expressions.{Expr, Pairs, Text}
use Rattle.jt_expr.specs.Grammar as g
use Rattle.jt_expr.specs.Grammar.{Tokens, word, Level, operator_tokens, is_tokens, SequenceKind, LeveledList, no_parts}
use Rattle.jt_expr.specs.Grammar.{put, Spells, Goes, Primary, Arguments, TestArguments, Holds, IsPart}
use Rattle.jt_parse.specs.Kept as kept
use Rattle.jt_parse.specs.Kept.{Neighbour, SourcePiece, with_text, with_segment, side_ahead, side_behind, pieces_from}
use Rattle.jt_ast.specs.Statements.{Parameter, FilterCall, Body, Branches}
use Rattle.jt_parse.specs.Tags as tags
use Rattle.jt_parse.specs.Tags.{Separated, IsName, IsValue, pairs_of, Values, IsFilterCall, IsParameter, Parameters}
use Rattle.jt_parse.specs.Tags.{BlockStart, a_text, values, filters, escaping, a_macro, a_block, Head, a_statement}
use Rattle.jt_parse.specs.Tags.{an_if, a_loop, an_opening, made, looped, Condition, Says}
use Rattle.jt_parse.specs.Grammar as grammar
use Rattle.jt_parse.specs.Grammar.{block, Forms, GoesOn, Otherwise}
use Rattle.jt_chains.specs.Chain.{is_loop}
use Rattle.jt_inherit.specs.Chains.{scanned, IsTree}
use Rattle.jt_chains.specs.Uses.{keywords, expr_names, row_names, pair_names, condition_names, filter_call_names}
use Rattle.jt_chains.specs.Uses.{stmt_names, body_names, branch_names}
use Rattle.jt_lower.proofs.LawfulProgramsFit.{all_append}
use Rattle.jt_codegen.proofs.EitherHolds.{either_of}
use Rattle.jt_codegen.proofs.PlacesAreTags.{StmtLines, BodyLines, BranchLines}

all_front : {A : Type 0} (P : A → Type 0) (xs ys : List A) → AllByRecursion P (xs ++ ys) → AllByRecursion P xs
all_front P [] ys h = tt
all_front P (x ∷ xs) ys h = (h.0, all_front P xs ys h.1)

all_back : {A : Type 0} (P : A → Type 0) (xs ys : List A) → AllByRecursion P (xs ++ ys) → AllByRecursion P ys
all_back P [] ys h = h
all_back P (x ∷ xs) ys h = all_back P xs ys h.1

-- ---- tokens and segments

abbrev IsWord : Token → Type 0
IsWord (cut.name x) = 0 < length x
IsWord t = Unit {0}

abbrev AreWords : Tokens → Type 0
AreWords = AllByRecursion IsWord

-- A line that a tag may have.
abbrev pub IsLine : ℕ → Type 0
IsLine n = (0 < n) × (n ≤ max_line)

pub first_line : IsLine 1
first_line = (omega arith, omega arith)

abbrev HasTag : Segment → Type 0
HasTag (cut.tag k ms n ts) = IsLine n × AreWords ts
HasTag s = Unit {0}

abbrev IsPiece : SourcePiece → Type 0
IsPiece (kept.text x) = Unit {0}
IsPiece (kept.tag k n ts) = IsLine n × AreWords ts

abbrev ArePieces : List SourcePiece → Type 0
ArePieces = AllByRecursion IsPiece

token_word : {t : Token} {x rest : List ℕ} → cut.Spelled t x rest → IsWord t
token_word x1 = search (arith, rules)

inside_words : {k : TagKind} {depth : ℕ} {ts : List Token} {mark : Mark} {x rest : List ℕ}
    → Inside k depth ts mark x rest → AreWords ts
inside_words (cut.closed e) = tt
inside_words (cut.space i j) = inside_words j
inside_words (cut.token c t i) = (token_word t, inside_words i)

segment_tag : {n : ℕ} {s : Segment} {x rest : List ℕ} → IsSegment n s x rest → IsLine n → HasTag s
segment_tag x1 l = search (arith, rules, inside_words)

fewer_lines : {n : ℕ} {s : Segment} {x rest : List ℕ} → IsSegment n s x rest → lines rest ≤ lines x
fewer_lines {n} {s} {x} {rest} p = search (arith, rules, ends_with, shrinks, segment_found, lines-append)

cut_tags : {source : List ℕ} {Ends : List ℕ → Type 0} {ss : List Segment} {x : List ℕ} → Cuts source Ends ss x
    → lines x ≤ lines source → lines source ≤ max_source_len → AllByRecursion HasTag ss
cut_tags (cut.no_more e) le few = tt
cut_tags (cut.more p c) le few =
    (segment_tag p (omega (arith, le), omega (arith, few)), cut_tags c (omega (arith, le, fewer_lines p)) few)

after_short : (n c : ℕ) (bs : List ℕ) → length (chars_after n c bs) ≤ 1 + length bs
after_short zero c [] = omega arith
after_short zero c (b ∷ bs) = omega (arith, after_short (continuation_len b) (lead_bits b) bs)
after_short (suc n) c [] = omega arith
after_short (suc n) c (b ∷ bs) = omega (arith, after_short n (c * 64 + (b - 128)) bs)

chars_short : (bs : List ℕ) → length (chars bs) ≤ length bs
unfolding chars
chars_short [] = omega arith
chars_short (b ∷ bs) = omega (arith, after_short (continuation_len b) (lead_bits b) bs)

few_in : (options : Options) (source : List ℕ) → length source ≤ max_source_len
    → lines (scanned options source) ≤ max_source_len
few_in options source le = search (arith, rules, few_lines, chars_short, never_longer)

text_pieces : (x : List ℕ) (ps : List SourcePiece) → ArePieces ps → ArePieces (with_text x ps)
text_pieces [] ps h = h
text_pieces (c ∷ x) ps h = (tt, h)

segment_pieces : (o : Options) (left right : Neighbour) (s : Segment) (ps : List SourcePiece) → HasTag s → ArePieces ps
    → ArePieces (with_segment o left right s ps)
segment_pieces o left right s ps w h = search (arith, rules, text_pieces)

pieces_tags : (o : Options) (left : Neighbour) (ss : List Segment) → AllByRecursion HasTag ss
    → ArePieces (pieces_from left (map (λ s. (o, s)) ss))
pieces_tags o left [] h = tt
pieces_tags o left (s ∷ ss) h =
    segment_pieces o left (side_ahead (map (λ s. (o, s)) ss)) s (pieces_from (side_behind s) (map (λ s. (o, s)) ss)) h.0
    (pieces_tags o (side_behind s) ss h.1)

-- ---- expressions

abbrev AreNamed : List Text → Type 0
AreNamed = AllByRecursion (λ x. 0 < length x)

abbrev both_named : (xs ys : List Text) → AreNamed xs → AreNamed ys → AreNamed (xs ++ ys)
both_named = all_append (λ x. 0 < length x)

-- A name in UTF-8 is no shorter than its number of characters.
encoded : (x : List ℕ) → 0 < length x → 0 < length (encode_utf8_all x)
encoded x h = omega (arith, h, length-le-encodes x)

-- The names of the arguments of a sequence.
abbrev AreParts : LeveledList → Type 0
AreParts p = AreNamed (row_names p.0) × AreNamed (pair_names p.1)

put_named : (k : Option Text) (t : Expr) (p : LeveledList) → AreNamed (expr_names t) → AreParts p → AreParts (put k t p)
put_named None t p h q = (both_named (expr_names t) (row_names p.0) h q.0, q.1)
put_named (Some k) t p h q = (q.0, both_named (expr_names t) (pair_names p.1) h q.1)

mutual
  spells_named : {k : Level} {t : Expr} {x : Tokens} → Spells k t x → AreWords x → AreNamed (expr_names t)
  spells_named (g.plain d) h = spells_named d h
  spells_named (g.an_if {c = c} {a = a} {x = x} {y = y} d e) h =
      both_named (expr_names c) (expr_names a) (spells_named e (all_back IsWord x (word (codes "if") ∷ y) h).1)
      (spells_named d (all_front IsWord x (word (codes "if") ∷ y) h))
  spells_named (g.an_if_else {c = c} {a = a} {b = b} {x = x} {y = y} {z = z} d e f) h =
      let later = (all_back IsWord x (word (codes "if") ∷ (y ++ (word (codes "else") ∷ z))) h).1 in
      both_named (expr_names c) (expr_names a ++ expr_names b)
      (spells_named e (all_front IsWord y (word (codes "else") ∷ z) later))
      (both_named (expr_names a) (expr_names b)
      (spells_named d (all_front IsWord x (word (codes "if") ∷ (y ++ (word (codes "else") ∷ z))) h))
      (spells_named f (all_back IsWord y (word (codes "else") ∷ z) later).1))
  spells_named (g.chain {x = x} {y = y} e d i) h =
      goes_named i (all_back IsWord x y h) (spells_named d (all_front IsWord x y h))
  spells_named (g.inverted d) h = spells_named d h.1
  spells_named (g.upright d) h = spells_named d h
  spells_named (g.compared {op = op} {a = a} {b = b} {x = x} {y = y} e d f) h =
      both_named (expr_names a) (expr_names b) (spells_named d (all_front IsWord x (operator_tokens op ++ y) h))
      (spells_named f (all_back IsWord (operator_tokens op) y (all_back IsWord x (operator_tokens op ++ y) h)))
  spells_named (g.alone d) h = spells_named d h
  spells_named (g.postscripts {x = x} {y = y} d i) h =
      goes_named i (all_back IsWord x y h) (spells_named d (all_front IsWord x y h))
  spells_named (g.minus d) h = spells_named d h.1
  spells_named (g.plus d) h = spells_named d h.1
  spells_named (g.unsigned d) h = spells_named d h
  spells_named (g.postfixes {x = x} {y = y} d i) h =
      goes_named i (all_back IsWord x y h) (primary_named d (all_front IsWord x y h))

  goes_named : {k : Level} {a t : Expr} {y : Tokens} → Goes k a t y → AreWords y → AreNamed (expr_names a)
      → AreNamed (expr_names t)
  goes_named g.stay h n = n
  goes_named (g.operated {op = op} {a = a} {b = b} {x = x} {y = y} c l d i) h n =
      let later = all_back IsWord (operator_tokens op) (x ++ y) h in
      goes_named i (all_back IsWord x y later)
      (both_named (expr_names a) (expr_names b) n (spells_named d (all_front IsWord x y later)))
  goes_named (g.filtered {a = a} {ts = ts} {ps = ps} {x = x} {y = y} r d i) h n =
      let parts = arguments_named d (all_front IsWord x y h.1.1) in
      goes_named i (all_back IsWord x y h.1.1) (both_named (expr_names a) (row_names ts ++ pair_names ps) n
      (both_named (row_names ts) (pair_names ps) parts.0 parts.1))
  goes_named (g.tested {a = a} {b = b} {ts = ts} {ps = ps} {x = x} {y = y} w r d i) h n =
      let later = (all_back IsWord (is_tokens b) (cut.name w ∷ (x ++ y)) h).1 in
      let parts = test_arguments_named d (all_front IsWord x y later) in
      goes_named i (all_back IsWord x y later) (both_named (expr_names a) (row_names ts ++ pair_names ps) n
      (both_named (row_names ts) (pair_names ps) parts.0 parts.1))
  goes_named (g.attributed {a = a} i) h n = goes_named i h.1.1 (either_of AreNamed (is_loop a) [] (expr_names a) tt n)
  goes_named (g.indexed {a = a} {i = e} {x = x} {y = y} d i) h n =
      goes_named i (all_back IsWord x (cut.sign s.RightBracket ∷ y) h.1).1
      (both_named (expr_names a) (expr_names e) n
      (spells_named d (all_front IsWord x (cut.sign s.RightBracket ∷ y) h.1)))
  goes_named (g.called {ts = ts} {ps = ps} {x = x} {y = y} d i) h n =
      let parts = holds_named d (all_front IsWord x y h.1) in
      goes_named i (all_back IsWord x y h.1) (both_named (row_names ts) (pair_names ps) parts.0 parts.1)

  primary_named : {t : Expr} {x : Tokens} → Primary t x → AreWords x → AreNamed (expr_names t)
  primary_named g.a_number h = tt
  primary_named g.a_text h = tt
  primary_named (g.a_constant e) h = tt
  primary_named (g.a_name {x = x} r) h = (encoded x h.0, tt)
  primary_named (g.a_group {x = x} d) h = spells_named d (all_front IsWord x (cut.sign s.RightParen ∷ []) h.1)
  primary_named (g.a_list d) h = (holds_named d h.1).0
  primary_named (g.a_map d) h = (holds_named d h.1).1

  arguments_named : {p : LeveledList} {x : Tokens} → Arguments p x → AreWords x → AreParts p
  arguments_named g.without h = (tt, tt)
  arguments_named (g.within d) h = holds_named d h.1

  test_arguments_named : {p : LeveledList} {x : Tokens} → TestArguments p x → AreWords x → AreParts p
  test_arguments_named (g.as_filter d) h = arguments_named d h
  test_arguments_named (g.bare {t = t} b d) h = (both_named (expr_names t) [] (spells_named d h) tt, tt)

  holds_named : {r : SequenceKind} {p : LeveledList} {x : Tokens} → Holds r p x → AreWords x → AreParts p
  holds_named g.closed h = (tt, tt)
  holds_named (g.last {r = r} {k = k} {t = t} {x = x} d) h =
      put_named k t no_parts (part_named d (all_front IsWord x (cut.sign (g.closer r) ∷ []) h)) (tt, tt)
  holds_named (g.more {k = k} {t = t} {p = p} {x = x} {y = y} d i) h =
      put_named k t p (part_named d (all_front IsWord x (cut.sign s.Comma ∷ y) h))
      (holds_named i (all_back IsWord x (cut.sign s.Comma ∷ y) h).1)

  part_named : {r : SequenceKind} {k : Option Text} {t : Expr} {x : Tokens} → IsPart r k t x → AreWords x
      → AreNamed (expr_names t)
  part_named (g.without_key p d) h = spells_named d h
  part_named (g.an_entry d) h = spells_named d h.1.1
  part_named (g.by_name p r d) h = spells_named d h.1.1

-- ---- tags

name_named : {x : Text} {ts : Tokens} → IsName x ts → AreWords ts → 0 < length x
name_named (tags.a_name {x = x} r) h = encoded x h.0

targets_named : {k : Sign} {xs : List Text} {ts : Tokens} → Separated IsName k xs ts → AreWords ts → AreNamed xs
targets_named (tags.only d) h = (name_named d h, tt)
targets_named (tags.also {x = x} {y = y} d e) h =
    (name_named d (all_front IsWord x _ h), targets_named e (all_back IsWord x _ h).1)

abbrev OneNamed : Text × Expr → Type 0
OneNamed v = (0 < length v.0) × AreNamed (expr_names v.1)

value_named : {v : Text × Expr} {ts : Tokens} → IsValue v ts → AreWords ts → OneNamed v
value_named (tags.a_value {x = x} r d) h = (encoded x h.0, spells_named d h.1.1)

abbrev PairsNamed : Pairs → Type 0
PairsNamed ps = AreNamed (pair_names ps) × AreNamed (keywords ps)

pairs_named : (v : Text × Expr) (ps : Pairs) → OneNamed v → PairsNamed ps
    → AreNamed (expr_names v.1 ++ pair_names ps) × AreNamed (v.0 ∷ keywords ps)
pairs_named v ps h q = (both_named (expr_names v.1) (pair_names ps) h.1 q.0, (h.0, q.1))

separated_values : {k : Sign} {vs : List (Text × Expr)} {ts : Tokens} → Separated IsValue k vs ts → AreWords ts
    → PairsNamed (pairs_of vs)
separated_values (tags.only {a = v} d) h = pairs_named v (pairs_of []) (value_named d h) (tt, tt)
separated_values (tags.also {a = v} {bs = vs} {x = x} {y = y} d e) h =
    pairs_named v (pairs_of vs) (value_named d (all_front IsWord x _ h)) (separated_values e (all_back IsWord x _ h).1)

values_named : {ps : Pairs} {ts : Tokens} → Values ps ts → AreWords ts → PairsNamed ps
values_named tags.no_values h = (tt, tt)
values_named (tags.some_values d) h = separated_values d h

filter_named : {f : FilterCall} {ts : Tokens} → IsFilterCall f ts → AreWords ts → AreParts (f.arguments, f.keywords)
filter_named (tags.a_filter r d) h = arguments_named d h.1

filters_named : {k : Sign} {fs : List FilterCall} {ts : Tokens} → Separated IsFilterCall k fs ts → AreWords ts
    → AreNamed (filter_call_names fs)
filters_named (tags.only {a = f} d) h =
    let parts = filter_named d h in
    both_named (row_names f.arguments) (pair_names f.keywords ++ []) parts.0
    (both_named (pair_names f.keywords) [] parts.1 tt)
filters_named (tags.also {a = f} {bs = fs} {x = x} {y = y} d e) h =
    let parts = filter_named d (all_front IsWord x _ h) in
    both_named (row_names f.arguments) (pair_names f.keywords ++ filter_call_names fs) parts.0
    (both_named (pair_names f.keywords) (filter_call_names fs) parts.1 (filters_named e (all_back IsWord x _ h).1))

parameter_named : {p : Parameter} {ts : Tokens} → IsParameter p ts → AreWords ts → 0 < length p.name
parameter_named (tags.plain {x = x} r) h = encoded x h.0
parameter_named (tags.with_default {x = x} r l) h = encoded x h.0

separated_parameters : {k : Sign} {ps : List Parameter} {ts : Tokens} → Separated IsParameter k ps ts → AreWords ts
    → AreNamed (map (λ p. p.name) ps)
separated_parameters (tags.only d) h = (parameter_named d h, tt)
separated_parameters (tags.also {x = x} {y = y} d e) h =
    (parameter_named d (all_front IsWord x _ h), separated_parameters e (all_back IsWord x _ h).1)

parameters_named : {ps : List Parameter} {ts : Tokens} → Parameters ps ts → AreWords ts
    → AreNamed (map (λ p. p.name) ps)
parameters_named tags.no_parameters h = tt
parameters_named (tags.some_parameters {x = x} d l) h =
    separated_parameters d (all_front IsWord x (cut.sign s.RightParen ∷ []) h)

condition_named : {c : Option Expr} {ts : Tokens} → Condition c ts → AreWords ts → AreNamed (condition_names c)
condition_named tags.no_condition h = tt
condition_named (tags.a_condition d) h = spells_named d h.1

abbrev OpeningNamed : BlockStart → Type 0
OpeningNamed (a_text x) = 0 < length x
OpeningNamed (values ps) = PairsNamed ps
OpeningNamed (filters fs) = AreNamed (filter_call_names fs)
OpeningNamed (a_macro x ps) = AreNamed (map (λ p. p.name) ps)
OpeningNamed o = Unit {0}

abbrev HeadNamed : Head → Type 0
HeadNamed (a_statement s) = AreNamed (stmt_names s)
HeadNamed (an_if c) = AreNamed (expr_names c)
HeadNamed (a_loop l) = AreNamed (expr_names l.over) × AreNamed l.targets × AreNamed (condition_names l.condition)
HeadNamed (an_opening o) = OpeningNamed o

says_named : {line : ℕ} {o : Head} {ts : Tokens} → Says line o ts → AreWords ts → HeadNamed o
says_named (tags.says_if d) h = spells_named d h.1
says_named (tags.says_for {x = x} {y = y} {z = z} d e f) h =
    let later = (all_back IsWord x (word (codes "in") ∷ (y ++ z)) h.1).1 in (
      spells_named e (all_front IsWord y z later),
      targets_named d (all_front IsWord x (word (codes "in") ∷ (y ++ z)) h.1),
      condition_named f (all_back IsWord y z later),
    )
says_named (tags.says_set {ts = ts} {e = t} {x = x} {y = y} d e) h =
    both_named (expr_names t) ts (spells_named e (all_back IsWord x (cut.sign s.Assign ∷ y) h.1).1)
    (targets_named d (all_front IsWord x (cut.sign s.Assign ∷ y) h.1))
says_named (tags.says_text {x = x} r) h = encoded x h.1.0
says_named (tags.says_with d) h = values_named d h.1
says_named (tags.says_filter d) h = filters_named d h.1
says_named (tags.says_macro r d) h = parameters_named d h.1.1.1
says_named d h = tt

made_named : (line : ℕ) (o : BlockStart) (b : Body) → OpeningNamed o → AreNamed (body_names b)
    → AreNamed (stmt_names (made line o b))
made_named line (a_text x) b h k = (h, k)
made_named line (values ps) b h k =
    both_named (pair_names ps) (keywords ps ++ body_names b) h.0 (both_named (keywords ps) (body_names b) h.1 k)
made_named line (filters fs) b h k = both_named (body_names b) (filter_call_names fs) k h
made_named line (escaping on) b h k = k
made_named line (a_macro x ps) b h k = both_named (map (λ p. p.name) ps) (body_names b) h k
made_named line (a_block x scoped required) b h k = k

-- ---- statements

abbrev HeadLines : Head → Type 0
HeadLines (a_statement s) = StmtLines IsLine s
HeadLines o = Unit {0}

says_lined : {line : ℕ} {o : Head} {ts : Tokens} → Says line o ts → IsLine line → HeadLines o
says_lined x1 l = search (arith, rules)

made_lined : (line : ℕ) (o : BlockStart) (b : Body) → IsLine line → BodyLines IsLine b
    → StmtLines IsLine (made line o b)
made_lined a0 a1 a2 a3 a4 = search (arith, rules)

mutual
  forms_said : {b : Body} {ps : List SourcePiece} → Forms b ps → ArePieces ps
      → BodyLines IsLine b × AreNamed (body_names b)
  forms_said grammar.nothing_more h = (tt, tt)
  forms_said (grammar.some_data f) h = let rest = forms_said f h.1 in ((tt, rest.0), rest.1)
  forms_said (grammar.a_print {body = body} {e = e} d f) h =
      let rest = forms_said f h.1 in
      ((h.0.0, rest.0), both_named (expr_names e) (body_names body) (spells_named d h.0.1) rest.1)
  forms_said (grammar.one_tag {body = body} {s = x} d f) h =
      let rest = forms_said f h.1 in
      ((says_lined d h.0.0, rest.0), both_named (stmt_names x) (body_names body) (says_named d h.0.1) rest.1)
  forms_said (grammar.an_if_statement {body = body} {inside = inside} {other = other} {bs = bs} {c = c} {xs = xs}
      {ys = ys} {ps = ps} n d i j f) h =
      let tag : SourcePiece = block n (word (codes "endif") ∷ []) in
      let behind = all_back IsPiece xs (ys ++ (tag ∷ ps)) h.1 in
      let first = forms_said i (all_front IsPiece xs (ys ++ (tag ∷ ps)) h.1) in
      let goes = goes_on_said j (all_front IsPiece ys (tag ∷ ps) behind) in
      let rest = forms_said f (all_back IsPiece ys (tag ∷ ps) behind).1 in
      let named = both_named (expr_names c) (body_names inside ++ branch_names bs) (says_named d h.0.1)
      (both_named (body_names inside) (branch_names bs) first.1 goes.1) in (
        (((h.0.0, first.0, goes.0), goes.2), rest.0),
        both_named ((expr_names c ++ (body_names inside ++ branch_names bs)) ++ body_names other) (body_names body)
            (both_named (expr_names c ++ (body_names inside ++ branch_names bs)) (body_names other) named goes.3)
            rest.1,
      )
  forms_said (grammar.a_for_statement {body = body} {inside = inside} {other = other} {line = line} {l = l} {xs = xs}
      {ys = ys} {ps = ps} n d i j f) h =
      let tag : SourcePiece = block n (word (codes "endfor") ∷ []) in
      let behind = all_back IsPiece xs (ys ++ (tag ∷ ps)) h.1 in
      let first = forms_said i (all_front IsPiece xs (ys ++ (tag ∷ ps)) h.1) in
      let goes = otherwise_said j (all_front IsPiece ys (tag ∷ ps) behind) in
      let rest = forms_said f (all_back IsPiece ys (tag ∷ ps) behind).1 in
      let head = says_named d h.0.1 in (
        ((h.0.0, first.0, goes.0), rest.0),
        both_named (stmt_names (looped line l inside other)) (body_names body)
            (both_named (expr_names l.over)
            (l.targets ++ (condition_names l.condition ++ (body_names inside ++ body_names other))) head.0
            (both_named l.targets (condition_names l.condition ++ (body_names inside ++ body_names other)) head.1
            (both_named (condition_names l.condition) (body_names inside ++ body_names other) head.2
            (both_named (body_names inside) (body_names other) first.1 goes.1)))) rest.1,
      )
  forms_said
      (grammar.enclosed {body = body} {inside = inside} {line = line} {o = o} {us = us} {xs = xs} {ps = ps} n d i e f) h
      =
      let tag : SourcePiece = block n us in
      let first = forms_said i (all_front IsPiece xs (tag ∷ ps) h.1) in
      let rest = forms_said f (all_back IsPiece xs (tag ∷ ps) h.1).1 in (
        (made_lined line o inside h.0.0 first.0, rest.0),
        both_named (stmt_names (made line o inside)) (body_names body)
            (made_named line o inside (says_named d h.0.1) first.1) rest.1,
      )

  goes_on_said : {bs : Branches} {other : Body} {ys : List SourcePiece} → GoesOn bs other ys → ArePieces ys
      → BranchLines IsLine bs × AreNamed (branch_names bs) × BodyLines IsLine other × AreNamed (body_names other)
  goes_on_said (grammar.no_elif o) h = let last = otherwise_said o h in (tt, tt, last.0, last.1)
  goes_on_said (grammar.an_elif {inside = inside} {bs = bs} {c = c} {xs = xs} {ys = ys} d i j) h =
      let goes = goes_on_said j (all_back IsPiece xs ys h.1) in
      let first = forms_said i (all_front IsPiece xs ys h.1) in (
        (h.0.0, first.0, goes.0),
        both_named (expr_names c) (body_names inside ++ branch_names bs) (spells_named d h.0.1.1)
            (both_named (body_names inside) (branch_names bs) first.1 goes.1),
        goes.2,
        goes.3,
      )

  otherwise_said : {other : Body} {ys : List SourcePiece} → Otherwise other ys → ArePieces ys
      → BodyLines IsLine other × AreNamed (body_names other)
  otherwise_said grammar.no_else h = (tt, tt)
  otherwise_said (grammar.an_else f) h = forms_said f h.1

-- ---- trees that were read

pub tree_said : (options : Options) (source : List ℕ) (b : Body) → IsTree options source b
    → BodyLines IsLine b × AreNamed (body_names b)
tree_said options source b t = search (arith, rules, forms_said, pieces_tags, cut_tags, few_in)
