-- A tree is at most as heavy as its segments, and its names and texts are at most as long as theirs.
use Rattle.std.proofs.Common.{◌≡◌, ℕ, pos, ◌+◌, ◌-◌, ◌*◌, ◌≤◌, if◌then◌else◌, Bool, true, false, List, [], ◌∷◌, ◌++◌}
use Rattle.std.proofs.Common.{length, take, drop, codes, encode_utf8_all, arith, refl, sym, ap, subst, ◌∙◌, Option}
use Rattle.std.proofs.Common.{Some, length-append}
use Rattle.std.proofs.lemmas.List.{take-append-drop}
use Rattle.std.proofs.lemmas.Str.{encodes-append}
use lib.Utf8.{encodes}
use Rattle.jt_scan.specs.declared.segment.Sign.{Sign}
use Rattle.jt_scan.specs.declared.segment.Sign.TheVariants as s
use Rattle.jt_scan.specs.declared.segment.Mark.TheVariants as m
use Rattle.jt_scan.specs.declared.segment.Segment.{Segment as SegmentKind}
use Rattle.jt_scan.specs.View.{cut_of, segment_view}
use Rattle.jt_scan.specs.Cut as cut
use Rattle.jt_scan.specs.Cut.{EndsWith, Token, Segment, weight, weight_of, tokens_weight}
use Rattle.jt_ast.specs.Expressions as e
use Rattle.jt_ast.specs.Expressions.{Expr, Exprs, Pairs, Literal, pairs_weight, Text}
use Rattle.jt_ast.specs.Sizes.{expr_bytes, pairs_bytes, texts_bytes, condition_bytes, filter_call_bytes}
use Rattle.jt_ast.specs.Sizes.{parameters_bytes, stmt_bytes, body_bytes, branch_bytes, given_bytes}
use Rattle.jt_expr.specs.Grammar.{Tokens, word, is_reserved, Level, postfix, postscript, Spells, unsigned, postfixes}
use Rattle.jt_expr.specs.Grammar.{postscripts, stay, filtered, a_number, a_text, a_constant, Arguments}
use Rattle.jt_expr.specs.Sizes.{tokens_bytes}
use Rattle.jt_expr.specs.Promises.{ExpressionLaws}
use Rattle.jt_ast.specs.Statements.{FilterCall, Parameter, Body, end, Branches, stmt_weight, body_weight, branch_weight}
use Rattle.jt_ast.specs.Statements.{condition_weight, filter_call_weight, parameters_weight}
use Rattle.jt_parse.specs.Bytes.{segment_bytes, bytes_of}
use Rattle.jt_parse.specs.Kept as kept
use Rattle.jt_parse.specs.Kept.{SourcePiece, Neighbour, pieces_from, with_segment, with_text, side_ahead, side_behind}
use Rattle.jt_parse.specs.Kept.{block_side, variable_side, after_left, after_lf}
use Rattle.jt_scan.specs.declared.options.Options.{Options}
use Rattle.jt_parse.specs.View.{reads_of}
use Rattle.jt_parse.specs.Tags.{Separated, only, also, IsName, a_name, IsValue, a_value, pairs_of, Values, no_values}
use Rattle.jt_parse.specs.Tags.{some_values, IsFilterCall, a_filter, literal_token, IsParameter, plain, with_default}
use Rattle.jt_parse.specs.Tags.{IsImported, itself, renamed, without_words, Parameters, no_parameters, some_parameters}
use Rattle.jt_parse.specs.Tags.{BlockStart, a_text as set_text, Head, a_statement, an_if, a_loop, an_opening, made}
use Rattle.jt_parse.specs.Tags.{Condition, no_condition, a_condition, Says, says_if, says_for, says_set, says_text}
use Rattle.jt_parse.specs.Tags.{says_with, says_filter, says_autoescape, says_macro, says_include, says_import}
use Rattle.jt_parse.specs.Tags.{says_from, says_extends, says_block, Ends, by_word, by_name}
use Rattle.jt_parse.specs.Grammar.{block, Forms, nothing_more, some_data, a_print, one_tag, an_if_statement}
use Rattle.jt_parse.specs.Grammar.{a_for_statement, enclosed, GoesOn, no_elif, an_elif, Otherwise, no_else, an_else}
use Rattle.jt_parse.proofs.TrimmedEnds.{space_end, lf_end, whole_end}
use Rattle.jt_expr.proofs.TokenBounds.{Covers, tokens-append}

-- A literal and a filter as expressions.
literal_spelled : (t : Token) (l : Literal) → literal_token t ≡ Some l → Spells postfix (e.constant l) (t ∷ [])
literal_spelled (cut.name x) l h = postfixes (a_constant h) stay
literal_spelled (cut.number n) l h =
    let g : e.number n ≡ l = cc in
    subst (λ z. Spells postfix (e.constant z) (cut.number n ∷ [])) g (postfixes a_number stay)
literal_spelled (cut.text v) l h =
    let g : e.text (encode_utf8_all v) ≡ l = cc in
    subst (λ z. Spells postfix (e.constant z) (cut.text v ∷ [])) g (postfixes a_text stay)
literal_spelled (cut.sign k) l h = cc

filter_spelled : {n : List ℕ} {ts : Exprs} {ps : Pairs} {y : Tokens} → is_reserved n ≡ false → Arguments (ts, ps) y
    → Spells postscript (e.filter (e.constant (e.number (pos 0))) (encode_utf8_all n) ts ps)
    (cut.number (pos 0) ∷ cut.sign s.Pipe ∷ cut.name n ∷ (y ++ []))
filter_spelled h d = postscripts (unsigned (postfixes a_number stay)) (filtered h d stay)

-- ---- lists

-- Holds if an element before a list adds at most the weight of its tokens and of a sign, and their
-- bytes.
abbrev Adds : {A : Type 0} → (List A → ℕ) → (List A → ℕ) → A → List A → Tokens → Type 0
Adds w n a bs x = (w (a ∷ bs) ≤ 1 + tokens_weight x + w bs) × (n (a ∷ bs) ≤ tokens_bytes x + n bs)

separated_bound : {A : Type 0} {One : A → Tokens → Type 0} {k : Sign} (w n : List A → ℕ) → w [] + n [] ≤ 0
    → ((a : A) (bs : List A) (x : Tokens) → One a x → Adds w n a bs x) → {bs : List A} {x : Tokens}
    → Separated One k bs x → (w bs ≤ 1 + tokens_weight x) × (n bs ≤ tokens_bytes x)
separated_bound w n none here (only {a} {x} d) = omega (arith, none, here a [] x d)
separated_bound {k = k} w n none here (also {a} {bs} {x} {y} d g) =
    omega (arith, here a bs x d, separated_bound w n none here g, tokens-append x (cut.sign k ∷ y))

abbrev names_weight : List Text → ℕ
names_weight xs = 2 * length xs

name_bound : (a : Text) (bs : List Text) (x : Tokens) → IsName a x → Adds names_weight texts_bytes a bs x
name_bound a bs x (a_name h) = omega arith

names_bound : {k : Sign} {bs : List Text} {x : Tokens} → Separated IsName k bs x
    → (names_weight bs ≤ 1 + tokens_weight x) × (texts_bytes bs ≤ tokens_bytes x)
names_bound d = separated_bound names_weight texts_bytes (omega arith) name_bound d

module _ (laws : ExpressionLaws) where
  spells_bound : {k : Level} {t : Expr} {x : Tokens} → Spells k t x → Covers (e.weight t) (expr_bytes t) x
  spells_bound {k} {t} {x} d = (laws.weighs k t x d, laws.short k t x d)

  abbrev values_weight : List (Text × Expr) → ℕ
  values_weight bs = pairs_weight 2 (pairs_of bs)

  abbrev values_bytes : List (Text × Expr) → ℕ
  values_bytes bs = pairs_bytes (pairs_of bs)

  value_bound : (a : Text × Expr) (bs : List (Text × Expr)) (x : Tokens) → IsValue a x
      → Adds values_weight values_bytes a bs x
  value_bound a bs x (a_value h d) = omega (arith, spells_bound d)

  values_bound : {ps : Pairs} {x : Tokens} → Values ps x
      → (pairs_weight 2 ps ≤ 1 + tokens_weight x) × (pairs_bytes ps ≤ tokens_bytes x)
  values_bound no_values = omega arith
  values_bound (some_values d) = separated_bound values_weight values_bytes (omega arith) value_bound d

  filter_bound : (a : FilterCall) (bs : List FilterCall) (x : Tokens) → IsFilterCall a x
      → Adds filter_call_weight filter_call_bytes a bs x
  filter_bound a bs x (a_filter {x = n} {y = y} h d) =
      omega (arith, spells_bound (filter_spelled {n = n} h d), tokens-append y [])

  parameter_bound : (a : Parameter) (bs : List Parameter) (x : Tokens) → IsParameter a x
      → Adds parameters_weight parameters_bytes a bs x
  parameter_bound a bs x (plain h) = omega arith
  parameter_bound a bs x (with_default {l = l} {t} h i) = omega (arith, spells_bound (literal_spelled t l i))

  parameters_bound : {ps : List Parameter} {x : Tokens} → Parameters ps x
      → Covers (parameters_weight ps) (parameters_bytes ps) x
  parameters_bound no_parameters = omega arith
  parameters_bound (some_parameters {ps} {x} d h) =
      omega (
        arith,
        separated_bound parameters_weight parameters_bytes (omega arith) parameter_bound d,
        tokens-append x (cut.sign s.RightParen ∷ []),
      )

  condition_bound : {c : Option Expr} {z : Tokens} → Condition c z → Covers (condition_weight c) (condition_bytes c) z
  condition_bound no_condition = omega arith
  condition_bound (a_condition d) = omega (arith, spells_bound d)

  abbrev imported_weight : List (Text × Text) → ℕ
  imported_weight xs = 2 * length xs

  imported_bound : (a : Text × Text) (bs : List (Text × Text)) (x : Tokens) → IsImported a x
      → Adds imported_weight given_bytes a bs x
  imported_bound a bs x (itself h) = omega arith
  imported_bound a bs x (renamed h i) = omega arith

  -- ---- first tags

  -- The weight of what a first tag says: its statement without the delimiters of tags, the word at
  -- its head and what is inside.
  abbrev head_weight : Head → ℕ
  head_weight (a_statement t) = stmt_weight t - 4
  head_weight (an_if c) = 1 + e.weight c
  head_weight (a_loop l) = 1 + 2 * length l.targets + e.weight l.over + condition_weight l.condition
  head_weight (an_opening o) = stmt_weight (made 0 o end) - 9

  abbrev head_bytes : Head → ℕ
  head_bytes (a_statement t) = stmt_bytes t
  head_bytes (an_if c) = expr_bytes c
  head_bytes (a_loop l) = texts_bytes l.targets + expr_bytes l.over + condition_bytes l.condition
  head_bytes (an_opening o) = stmt_bytes (made 0 o end)

  says_bound : {line : ℕ} {h : Head} {x : Tokens} → Says line h x → Covers (head_weight h) (head_bytes h) x
  says_bound (says_if d) = omega (arith, spells_bound d)
  says_bound (says_for {x = x} {y} {z} g d f) =
      omega (
        arith,
        names_bound g,
        spells_bound d,
        condition_bound f,
        tokens-append x (word (codes "in") ∷ (y ++ z)),
        tokens-append y z,
      )
  says_bound (says_set {x = x} {y} g d) =
      omega (arith, names_bound g, spells_bound d, tokens-append x (cut.sign s.Assign ∷ y))
  says_bound (says_text h) = omega arith
  says_bound (says_with d) = omega (arith, values_bound d)
  says_bound (says_filter d) =
      omega (arith, separated_bound filter_call_weight filter_call_bytes (omega arith) filter_bound d)
  says_bound (says_autoescape on) = omega arith
  says_bound (says_macro h d) = omega (arith, parameters_bound d)
  says_bound (says_include missing d) = omega arith
  says_bound (says_import said h) = omega arith
  says_bound (says_from {x = x} said d) =
      omega (
        arith,
        separated_bound imported_weight given_bytes (omega arith) imported_bound d,
        tokens-append x (without_words said),
      )
  says_bound says_extends = omega arith
  says_bound (says_block scoped required h) = omega arith

  made_size : (line : ℕ) (o : BlockStart) (b : Body)
      → (stmt_weight (made line o b) ≡ stmt_weight (made 0 o end) + body_weight b)
      × (stmt_bytes (made line o b) ≡ stmt_bytes (made 0 o end) + body_bytes b)
  made_size line (set_text x) b = omega arith
  made_size line o b = omega arith

  ends_weigh : {o : BlockStart} {us : Tokens} → Ends o us → 1 ≤ tokens_weight us
  ends_weigh (by_word o) = omega arith
  ends_weigh (by_name scoped required) = omega arith

  -- ---- pieces

  abbrev pieces_weight : List SourcePiece → ℕ
  pieces_weight [] = 0
  pieces_weight (kept.text d ∷ ps) = 1 + pieces_weight ps
  pieces_weight (kept.tag k n ts ∷ ps) = 4 + tokens_weight ts + pieces_weight ps

  abbrev pieces_bytes : List SourcePiece → ℕ
  pieces_bytes [] = 0
  pieces_bytes (kept.text d ∷ ps) = length (encode_utf8_all d) + pieces_bytes ps
  pieces_bytes (kept.tag k n ts ∷ ps) = tokens_bytes ts + pieces_bytes ps

  -- Holds if pieces weigh at least w, and their names and texts have at least n bytes.
  abbrev CoversAll : ℕ → ℕ → List SourcePiece → Type 0
  CoversAll w n ps = (w ≤ pieces_weight ps) × (n ≤ pieces_bytes ps)

  pieces-append : (x y : List SourcePiece)
      → (pieces_weight (x ++ y) ≡ pieces_weight x + pieces_weight y)
      × (pieces_bytes (x ++ y) ≡ pieces_bytes x + pieces_bytes y)
  pieces-append [] y = omega arith
  pieces-append (kept.text d ∷ x) y = omega (arith, pieces-append x y)
  pieces-append (kept.tag k n ts ∷ x) y = omega (arith, pieces-append x y)

  mutual
    forms_bound : {b : Body} {ps : List SourcePiece} → Forms b ps → CoversAll (body_weight b) (body_bytes b) ps
    forms_bound nothing_more = omega arith
    forms_bound (some_data f) = omega (arith, forms_bound f)
    forms_bound (a_print d f) = omega (arith, spells_bound d, forms_bound f)
    forms_bound (one_tag d f) = omega (arith, says_bound d, forms_bound f)
    forms_bound (an_if_statement {xs = xs} {ys} {ps} last d i g f) =
        let tag : SourcePiece = block last (word (codes "endif") ∷ []) in
        omega (
          arith,
          says_bound d,
          forms_bound i,
          goes_bound g,
          forms_bound f,
          pieces-append xs (ys ++ (tag ∷ ps)),
          pieces-append ys (tag ∷ ps),
        )
    forms_bound (a_for_statement {xs = xs} {ys} {ps} last d i g f) =
        let tag : SourcePiece = block last (word (codes "endfor") ∷ []) in
        omega (
          arith,
          says_bound d,
          forms_bound i,
          other_bound g,
          forms_bound f,
          pieces-append xs (ys ++ (tag ∷ ps)),
          pieces-append ys (tag ∷ ps),
        )
    forms_bound (enclosed {inside = inside} {line} {o} {us = us} {xs} {ps} last d i g f) =
        omega (
          arith,
          says_bound d,
          forms_bound i,
          ends_weigh g,
          forms_bound f,
          made_size line o inside,
          pieces-append xs (block last us ∷ ps),
        )

    goes_bound : {bs : Branches} {other : Body} {ys : List SourcePiece} → GoesOn bs other ys
        → CoversAll (branch_weight bs + body_weight other) (branch_bytes bs + body_bytes other) ys
    goes_bound (no_elif d) = omega (arith, other_bound d)
    goes_bound (an_elif {xs = xs} {ys} d i g) =
        omega (arith, spells_bound d, forms_bound i, goes_bound g, pieces-append xs ys)

    other_bound : {other : Body} {ys : List SourcePiece} → Otherwise other ys
        → CoversAll (body_weight other) (body_bytes other) ys
    other_bound no_else = omega arith
    other_bound (an_else f) = omega (arith, forms_bound f)

  -- ---- trimming does not make a text longer

  joined_bytes : (x y z : List ℕ) → z ≡ x ++ y → length (encodes z) ≡ length (encodes x) + length (encodes y)
  joined_bytes x y z w = ap length (ap encodes w ∙ encodes-append x y) ∙ length-append (encodes x) (encodes y)

  end_short : (x y : List ℕ) → EndsWith x y → length (encodes y) ≤ length (encodes x)
  end_short x y w = omega (arith, joined_bytes w.0 y x w.1)

  front_short : (n : ℕ) (x : List ℕ) → length (encodes (take n x)) ≤ length (encodes x)
  front_short n x = omega (arith, joined_bytes (take n x) (drop n x) x (sym (take-append-drop n x)))

  left_end : (o : Options) (left : Neighbour) (d : List ℕ) → EndsWith d (after_left o left d)
  left_end o (block_side m.Minus) d = space_end d
  left_end o (variable_side m.Minus) d = space_end d
  left_end o (block_side m.Absent) d = by o.trim_blocks
    where
      by : (b : Bool) → EndsWith d (if b then after_lf d else d)
      by true = lf_end d
      by false = whole_end d
  left_end o left d = whole_end d

  kept_short : (o : Options) (left right : Neighbour) (d : List ℕ)
      → length (encodes (kept.kept o left right d)) ≤ length (encodes d)
  kept_short o left right d = grind (arith, end_short, left_end, front_short)

  same_bytes : (d : List ℕ) → length (encode_utf8_all d) ≡ length (encodes d)
  same_bytes d = refl

  -- Holds if pieces before others add at most this weight and these bytes.
  abbrev Adding : ℕ → ℕ → List SourcePiece → List SourcePiece → Type 0
  Adding w n qs ps = (pieces_weight qs ≤ w + pieces_weight ps) × (pieces_bytes qs ≤ n + pieces_bytes ps)

  text_bound : (t : List ℕ) (ps : List SourcePiece) → Adding 1 (length (encodes t)) (with_text t ps) ps
  text_bound [] ps = omega arith
  text_bound (c ∷ t) ps = omega (arith, same_bytes (c ∷ t))

  segment_bound : (o : Options) (left right : Neighbour) (g : Segment) (ps : List SourcePiece)
      → Adding (weight g) (segment_bytes g) (with_segment o left right g ps) ps
  segment_bound o left right (cut.data_of d) ps =
      omega (arith, text_bound (kept.kept o left right d) ps, kept_short o left right d, same_bytes d)
  segment_bound o left right (cut.tag k ms n ts) ps = omega arith
  segment_bound o left right (cut.comment ms x) ps = omega arith
  segment_bound o left right (cut.raw ms d ends) ps =
      omega (
        arith,
        text_bound (kept.kept o (block_side ms.closing) (block_side ends.opening) d) ps,
        kept_short o (block_side ms.closing) (block_side ends.opening) d,
        same_bytes d,
      )

  pieces_bound : (left : Neighbour) (gs : List SegmentKind)
      → (pieces_weight (pieces_from left (reads_of gs)) ≤ weight_of (cut_of gs))
      × (pieces_bytes (pieces_from left (reads_of gs)) ≤ bytes_of (cut_of gs))
  pieces_bound left [] = omega arith
  pieces_bound left (g ∷ gs) =
      omega (
        arith,
        segment_bound g.options left (side_ahead (reads_of gs)) (segment_view g)
            (pieces_from (side_behind (segment_view g)) (reads_of gs)),
        pieces_bound (side_behind (segment_view g)) gs,
      )

  pub tree_bound : {b : Body} (gs : List SegmentKind) → Forms b (kept.pieces (reads_of gs))
      → (body_weight b ≤ weight_of (cut_of gs)) × (body_bytes b ≤ bytes_of (cut_of gs))
  tree_bound gs f = omega (arith, forms_bound f, pieces_bound kept.nothing gs)
