-- A form of a level is its first move, and what follows it at each looser level.
use Rattle.std.proofs.Common.{◌≡◌, ◌==◌, ℕ, zero, suc, ◌+◌, ◌-◌, ◌<◌, ◌≤◌, ◌&&◌, nat_le, cond, Bool, true, false}
use Rattle.std.proofs.Common.{if◌then◌else◌, drop, codes, refl, ap, sym, ◌∙◌, Ok, Err, arith, rules}
use Rattle.std.proofs.lemmas.Bool.Decides.{nat_tests}
use Rattle.std.proofs.lemmas.Bool.{and_parts}
use Rattle.jt_scan.specs.declared.segment.Sign.TheVariants as s
use Rattle.jt_ast.specs.declared.expression.UnaryOperator.{UnaryOperator}
use Rattle.jt_ast.specs.declared.expression.UnaryOperator.TheVariants as u
use Rattle.jt_ast.specs.Expressions.{Expr}
use Rattle.jt_expr.specs.Front.{sees, says}
use Rattle.jt_expr.specs.Grammar.{Tokens, Level, whole, disjunction, conjunction, inversion, comparison, sum}
use Rattle.jt_expr.specs.Grammar.{concatenation, product, power, postscript, signed, postfix}
use Rattle.jt_expr.specs.internal.Reading as reading
use Rattle.jt_expr.specs.internal.Reading.{ParseResult, Reader, ◌>>=◌, read_at, read_whole, read_inversion}
use Rattle.jt_expr.specs.internal.Reading.{read_comparison, read_chain, read_postscript, read_signed, read_postfix}
use Rattle.jt_expr.specs.internal.Pending.{rank, looser, in_prefix, prefix_level, Move, nests, level_of}
use Rattle.jt_expr.specs.internal.Moves as moves
use Rattle.jt_expr.specs.internal.Unwinding.{more, onward, climb, climbs, finish}
use Rattle.jt_expr.proofs.Binding.{bind_identity, assoc, All}
use Rattle.jt_expr.proofs.MovesRead.{primary_reads, prefix_reads}
use Rattle.jt_expr.proofs.MoveBounds.{primary_level}
use Rattle.jt_expr.proofs.ParserSound.{Found}

-- ---- ranks

unrank : ℕ → Level
unrank n =
    cond (n == 0) postfix (cond (n == 1) signed
    (cond (n == 2) postscript (cond (n == 3) power (cond (n == 4) product (cond (n == 5) concatenation
    (cond (n == 6) sum (cond (n == 7) comparison
    (cond (n == 8) inversion (cond (n == 9) conjunction (cond (n == 10) disjunction whole))))))))))

unrank_rank : (k : Level) → unrank (rank k) ≡ k
unfolding unrank
unrank_rank k = search (arith, rules)

pub rank_same : (j k : Level) → rank j ≡ rank k → j ≡ k
rank_same j k e = sym (unrank_rank j) ∙ ap unrank e ∙ unrank_rank k

pub rank_most : (k : Level) → rank k ≤ 11
rank_most k = search (arith, rules)

pub looser_rank : (k : Level) → rank k < 11 → rank (looser k) ≡ suc (rank k)
looser_rank k h = search (arith, rules)

-- ---- levels without a prefix operator

-- No prefix operator of the next looser level begins the tokens.
abbrev Plain : Level → Tokens → Type 0
Plain postfix ts = (sees s.Minus ts ≡ false) × (sees s.Plus ts ≡ false)
Plain comparison ts = says (codes "not") ts ≡ false
Plain whole ts = ⊥
Plain _ ts = Unit {0}

second : (a b : Bool) → (a && b) ≡ false → a ≡ true → b ≡ false
second true b h e = h
second false b h e = absurd (cc)

module _ (inner : Level → Reader Expr) (m : ℕ) where
  one_up : (k : Level) (ts : Tokens) → Plain k ts
      → read_at inner (suc m) (looser k) ts ≡ (read_at inner (suc m) k ts >>= more inner (suc m) (looser k))
  unfolding read_at read_whole read_inversion read_comparison read_chain read_postscript read_signed more
  one_up postfix ts h = rw (h.0, h.1) (sym (bind_identity (read_postfix inner (suc m) ts)))
  one_up signed ts h = refl
  one_up postscript ts h = refl
  one_up power ts h = refl
  one_up product ts h = refl
  one_up concatenation ts h = refl
  one_up sum ts h = refl
  one_up comparison ts h = rw h (sym (bind_identity (read_at inner (suc m) comparison ts)))
  one_up inversion ts h = refl
  one_up conjunction ts h = refl
  one_up disjunction ts h = refl
  one_up whole ts h = absurd h

  climb_reads : (d : ℕ) (k goal : Level) (ts : Tokens) → rank goal ≡ d + rank k
      → ((j : Level) → rank k ≤ rank j → rank j < rank goal → Plain j ts)
      → read_at inner (suc m) goal ts ≡ (read_at inner (suc m) k ts >>= climb inner (suc m) d k)
  unfolding climb
  climb_reads zero k goal ts e h = search (arith, rules, rank_same, bind_identity)
  climb_reads (suc d) k goal ts e h =
      let most = rank_most goal in
      let up : rank (looser k) ≡ suc (rank k) = looser_rank k (omega (arith, most)) in
      climb_reads d (looser k) goal ts (omega arith) (λ j a b. h j (omega (arith, a, up)) b)
      ∙ ap (λ o. o >>= climb inner (suc m) d (looser k)) (one_up k ts (h k (omega arith) (omega arith)))
      ∙ assoc (read_at inner (suc m) k ts) (more inner (suc m) (looser k)) (climb inner (suc m) d (looser k))

  climbs_read : (k goal : Level) (ts : Tokens) → rank k ≤ rank goal
      → ((j : Level) → rank k ≤ rank j → rank j < rank goal → Plain j ts)
      → read_at inner (suc m) goal ts ≡ (read_at inner (suc m) k ts >>= climbs inner (suc m) goal k)
  climbs_read k goal ts le h = climb_reads (rank goal - rank k) k goal ts (omega arith) h

  -- The moves are those of one level.
  pub finishing : (goal k : Level) (o : ParseResult Move) → All (λ x v. level_of x ≡ k) o
      → ((o >>= onward inner (suc m)) >>= climbs inner (suc m) goal k) ≡ (o >>= finish inner (suc m) goal)
  unfolding finish
  finishing goal k (Ok p) h = ap (λ j. onward inner (suc m) p.0 p.1 >>= climbs inner (suc m) goal j) (sym h)
  finishing goal k (Err x) h = refl

  module _ (sound : (k : Level) (t : Expr) (ts rest : Tokens) → inner k ts ≡ Ok (t, rest) → Found k m t ts rest) where
    -- ---- prefix operators

    inversion_reads : (ts : Tokens) → says (codes "not") ts ≡ true
        → read_at inner (suc m) inversion ts ≡ onward inner (suc m) (nests (in_prefix u.Not)) (drop 1 ts)
    unfolding read_at read_inversion onward
    inversion_reads ts h = rw h (prefix_reads inner m sound inversion u.Not (drop 1 ts))

    minus_reads : (ts : Tokens) → sees s.Minus ts ≡ true
        → read_at inner (suc m) signed ts ≡ onward inner (suc m) (nests (in_prefix u.Negate)) (drop 1 ts)
    unfolding read_at read_signed onward
    minus_reads ts h = rw h (prefix_reads inner m sound signed u.Negate (drop 1 ts))

    plus_reads : (ts : Tokens) → sees s.Minus ts ≡ false → sees s.Plus ts ≡ true
        → read_at inner (suc m) signed ts ≡ onward inner (suc m) (nests (in_prefix u.Plus)) (drop 1 ts)
    unfolding read_at read_signed onward
    plus_reads ts h g = rw (h, g) (prefix_reads inner m sound signed u.Plus (drop 1 ts))

    -- From a sign or a primary on, only `not` can be a prefix operator.
    above_signed : (goal : Level) (ts : Tokens) → (nat_le (rank inversion) (rank goal) && says (codes "not") ts) ≡ false
        → (j : Level) → rank signed ≤ rank j → rank j < rank goal → Plain j ts
    above_signed goal ts h postfix a b = absurd (omega arith)
    above_signed goal ts h comparison a b =
        second (nat_le 8 (rank goal)) (says (codes "not") ts) h (grind (arith, nat_tests))
    above_signed goal ts h whole a b = absurd (omega (arith, rank_most goal))
    above_signed goal ts h _ a b = tt

    above_postfix : (goal : Level) (ts : Tokens)
        → (nat_le (rank inversion) (rank goal) && says (codes "not") ts) ≡ false
        → (nat_le (rank signed) (rank goal) && sees s.Minus ts) ≡ false
        → (nat_le (rank signed) (rank goal) && sees s.Plus ts) ≡ false
        → (j : Level) → rank postfix ≤ rank j → rank j < rank goal → Plain j ts
    above_postfix goal ts h g f postfix a b = search (arith, rules, nat_le, nat_tests, second)
    above_postfix goal ts h g f comparison a b =
        second (nat_le 8 (rank goal)) (says (codes "not") ts) h (grind (arith, nat_tests))
    above_postfix goal ts h g f whole a b = absurd (omega (arith, rank_most goal))
    above_postfix goal ts h g f _ a b = tt

    above_inversion : (goal : Level) (ts : Tokens) → (j : Level) → rank inversion ≤ rank j → rank j < rank goal
        → Plain j ts
    above_inversion goal ts postfix a b = absurd (omega arith)
    above_inversion goal ts comparison a b = absurd (omega arith)
    above_inversion goal ts whole a b = absurd (omega (arith, rank_most goal))
    above_inversion goal ts _ a b = tt

    at_least : (i : ℕ) (goal : Level) (b : Bool) → (nat_le i (rank goal) && b) ≡ true → i ≤ rank goal
    at_least i goal b h = let q = (and_parts (nat_le i (rank goal)) b h).0 in grind (arith, nat_tests)

    nested : (goal k : Level) (op : UnaryOperator) (ts : Tokens) → prefix_level op ≡ k → rank k ≤ rank goal
        → ((j : Level) → rank k ≤ rank j → rank j < rank goal → Plain j ts)
        → read_at inner (suc m) k ts ≡ onward inner (suc m) (nests (in_prefix op)) (drop 1 ts)
        → read_at inner (suc m) goal ts ≡ finish inner (suc m) goal (nests (in_prefix op)) (drop 1 ts)
    unfolding finish
    nested goal k op ts is le h e = search (arith, rules, climbs_read)

    more_follows : (ts : Tokens)
        → read_at inner (suc m) postfix ts ≡ (reading.primary inner (suc m) ts >>= more inner (suc m) postfix)
    unfolding read_at read_postfix more
    more_follows ts = refl

    postfix_begins : (ts : Tokens)
        → read_at inner (suc m) postfix ts ≡ (moves.primary inner (suc m) ts >>= onward inner (suc m))
    postfix_begins ts = more_follows ts ∙ primary_reads inner m sound ts

    primary_begins : (goal : Level) (ts : Tokens)
        → ((j : Level) → rank postfix ≤ rank j → rank j < rank goal → Plain j ts)
        → read_at inner (suc m) goal ts ≡ (moves.primary inner (suc m) ts >>= finish inner (suc m) goal)
    primary_begins goal ts h =
        climbs_read postfix goal ts (omega arith) h
        ∙ ap (λ o. o >>= climbs inner (suc m) goal postfix) (postfix_begins ts)
        ∙ finishing goal postfix (moves.primary inner (suc m) ts) (primary_level inner (suc m) ts)

    begin_cases : (goal : Level) (ts : Tokens) (x y z : Bool)
        → (nat_le (rank inversion) (rank goal) && says (codes "not") ts) ≡ x
        → (nat_le (rank signed) (rank goal) && sees s.Minus ts) ≡ y
        → (nat_le (rank signed) (rank goal) && sees s.Plus ts) ≡ z
        → read_at inner (suc m) goal ts
        ≡ ((if x then Ok (nests (in_prefix u.Not), drop 1 ts) else if y then Ok (nests (in_prefix u.Negate), drop 1 ts)
        else if z then Ok (nests (in_prefix u.Plus), drop 1 ts) else moves.primary inner (suc m) ts)
        >>= finish inner (suc m) goal)
    begin_cases goal ts true y z h g f =
        nested goal inversion u.Not ts refl (at_least 8 goal (says (codes "not") ts) h) (above_inversion goal ts)
        (inversion_reads ts (and_parts _ _ h).1)
    begin_cases goal ts false true z h g f =
        nested goal signed u.Negate ts refl (at_least 1 goal (sees s.Minus ts) g) (above_signed goal ts h)
        (minus_reads ts (and_parts _ _ g).1)
    begin_cases goal ts false false true h g f =
        let q = and_parts _ _ f in
        nested goal signed u.Plus ts refl (at_least 1 goal (sees s.Plus ts) f) (above_signed goal ts h)
        (plus_reads ts (second _ _ g q.0) q.1)
    begin_cases goal ts false false false h g f = primary_begins goal ts (above_postfix goal ts h g f)

    -- A form of the level is its first move and the rest.
    pub begin_reads : (goal : Level) (ts : Tokens)
        → read_at inner (suc m) goal ts ≡ (moves.begin inner (suc m) goal ts >>= finish inner (suc m) goal)
    unfolding moves.begin
    begin_reads goal ts = begin_cases goal ts _ _ _ refl refl refl
