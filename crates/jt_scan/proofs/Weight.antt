-- The weight of segments is at most the length of their source.
use Rattle.std.proofs.Common.{◌≡◌, ℕ, ◌+◌, ◌<◌, ◌≤◌, ◌==◌, Bool, true, false, List, [], ◌∷◌, length, drop, codes, refl}
use Rattle.std.proofs.Common.{ap, arith, Option, Some, None, length-append, rules}
use Rattle.jt_scan.specs.declared.segment.TagKind.{TagKind}
use Rattle.jt_scan.proofs.TokenLaws.{spelled_weighs}
use Rattle.jt_scan.specs.Cut.{Text, Token, Segment, tokens_weight, weight, weight_of, Inside, closed, space, token}
use Rattle.jt_scan.specs.Cut.{Cuts, no_more, IsSegment, some_data, a_tag, a_comment, a_raw, more, closing_text}
use Rattle.jt_scan.specs.Cut.{behind_mark, is_mark, is_space, after_space, after_word, closer_at, first_mark, marks}
use Rattle.jt_scan.specs.Cut.{endraw_closed, endraw_named, endraw_at, begins}
use Rattle.jt_scan.proofs.ParseResultSteps.{by_test}
use Rattle.jt_scan.proofs.Tables.{closer_says}
use Rattle.jt_scan.specs.declared.segment.TagKind.TheVariants as kind
use Rattle.jt_scan.specs.declared.segment.Mark.{Mark}
use Rattle.jt_scan.specs.declared.segment.Marks.{Marks}

closing_long : (k : TagKind) (mark : Mark) (rest : Text) → 2 + length rest ≤ length (closing_text k mark rest)
closing_long k mark rest = search (arith, rules)

inside_weighs : {k : TagKind} {depth : ℕ} {ts : List Token} {mark : Mark} {x rest : Text}
    → Inside k depth ts mark x rest → 2 + tokens_weight ts + length rest ≤ length x
inside_weighs {k} (closed {mark} {rest} ok) = omega (arith, closing_long k mark rest)
inside_weighs (space h i) = omega (arith, inside_weighs i)
inside_weighs (token {s} {x} b sp i) = omega (arith, inside_weighs i, spelled_weighs sp, length-append s x)

behind_short : (x : Text) → length (behind_mark x) ≤ length x
behind_short [] = omega arith
behind_short (c ∷ x) = by (is_mark c) refl
  where
    by : (b : Bool) → is_mark c ≡ b → length (behind_mark (c ∷ x)) ≤ length (c ∷ x)
    by true h = rw h (omega arith)
    by false h = rw h (omega arith)

space_short : (x : Text) → length (after_space x) ≤ length x
unfolding after_space
space_short [] = omega arith
space_short (c ∷ cs) = by (is_space c) refl (space_short cs)
  where
    by : (b : Bool) → is_space c ≡ b → length (after_space cs) ≤ length cs
        → length (after_space (c ∷ cs)) ≤ length (c ∷ cs)
    by true h r = rw h (omega (arith, r))
    by false h r = rw h (omega arith)

word_short : (w x rest : Text) → after_word w x ≡ Some rest → length rest ≤ length x
word_short [] x rest e = let h : x ≡ rest = cc in omega (arith, ap length h)
word_short (a ∷ w) [] rest e = cc
word_short (a ∷ w) (c ∷ x) rest e = by_test (c == a) _ _ _ e (λ h q. omega (arith, word_short w x rest q)) (λ h q. cc)

end_short : (opening : Mark) (o : Option (Mark × Text)) (ends : Marks) (rest : Text)
    → endraw_closed opening o ≡ Some (ends, rest) → (mark : Mark) × (o ≡ Some (mark, rest))
end_short opening None ends rest e = cc
end_short opening (Some p) ends rest e =
    let same : ◌≡◌ {A = Marks × Text} (marks opening p.0, p.1) (ends, rest) = cc in
    (p.0, ap (λ (q : Marks × Text). Some (p.0, q.1)) same)

named_short : (opening : Mark) (o : Option Text) (x : Text) (ends : Marks) (rest : Text)
    → ((y : Text) → o ≡ Some y → length y ≤ length x) → endraw_named opening o ≡ Some (ends, rest)
    → length rest < length x
named_short opening None x ends rest le e = cc
named_short opening (Some y) x ends rest le e =
    let c = end_short opening (closer_at kind.Block (after_space y)) ends rest e in
    let s = closer_says kind.Block c.0 (after_space y) rest c.1 in
    omega (arith, le y refl, space_short y, ap length s.1, closing_long kind.Block c.0 rest)

drop_short : (x : Text) → length (drop 2 x) ≤ length x
drop_short x = search (arith, rules)

pub endraw_short : (x : Text) (ends : Marks) (rest : Text) → endraw_at x ≡ Some (ends, rest) → length rest < length x
unfolding endraw_at
endraw_short x ends rest e =
    by_test (begins 123 37 x) _ _ _ e
    (λ h q.
    named_short (first_mark (drop 2 x)) (after_word (codes "endraw") (after_space (behind_mark (drop 2 x)))) x ends rest
    (λ y w. omega (
      arith,
      word_short (codes "endraw") (after_space (behind_mark (drop 2 x))) y w,
      space_short (behind_mark (drop 2 x)),
      behind_short (drop 2 x),
      drop_short x,
    )) q)
    (λ h q. cc)

-- A segment has at least one character, and its weight is at most its length.
pub shrinks : {n : ℕ} {s : Segment} {x rest : Text} → IsSegment n s x rest
    → (length rest < length x) × (weight s + length rest ≤ length x)
shrinks (some_data {d} {rest} n e) = (omega (arith, length-append d rest), omega (arith, length-append d rest))
shrinks (a_tag {x} i r) =
    (omega (arith, inside_weighs i, behind_short x), omega (arith, inside_weighs i, behind_short x))
shrinks (a_raw {ends} {x} {d} {rest} y i r h e) =
    search (arith, rules, inside_weighs, behind_short, length-append, endraw_short)
shrinks (a_comment {x} {rest} n) =
    (omega (arith, length-append x (35 ∷ 125 ∷ rest)), omega (arith, length-append x (35 ∷ 125 ∷ rest)))

pub weighs : {source : Text} {Ends : Text → Type 0} {ss : List Segment} {x : Text} → Cuts source Ends ss x
    → weight_of ss ≤ length x
weighs (no_more e) = omega arith
weighs (more p c) = omega (arith, weighs c, (shrinks p).1)
