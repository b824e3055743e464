-- Sequences that are collected from the front, and one iteration of the loop over their parts.
use Rattle.std.proofs.Common.{◌≡◌, ℕ, suc, ◌+◌, ◌-◌, ◌<◌, ◌≤◌, max, Bool, true, false, if◌then◌else◌, drop, sym, Option}
use Rattle.std.proofs.Common.{Some, None, Ok, Err, refl, ap, ◌∙◌, arith}
use Rattle.jt_scan.specs.declared.segment.Sign.TheVariants as s
use Rattle.jt_expr.specs.declared.error.ExprError.{ExprError}
use Rattle.jt_ast.specs.Expressions.{Text, Expr, levels, Exprs, no_exprs, expr, Pairs, no_pairs, pair, exprs_levels}
use Rattle.jt_ast.specs.Expressions.{pairs_levels}
use Rattle.jt_expr.specs.Grammar.{Tokens, Level, SequenceKind, closer, behind_key, LeveledList, no_parts, put}
use Rattle.jt_expr.specs.Front.{sees}
use Rattle.jt_expr.specs.internal.Reading.{syntax, Reader, ParseResult, ◌>>=◌, expect, part, row}
use Rattle.jt_expr.specs.internal.Elements.{ListElement, shut, last, further, element}
use Rattle.jt_expr.specs.internal.Collecting.{then_exprs, then_pairs, then_parts, then_part}
use Rattle.jt_expr.specs.internal.Gives.{Refuses}
use Rattle.jt_expr.proofs.ReaderLoops.{refused}

-- ---- concatenation

then_exprs-none : (ts : Exprs) → then_exprs ts no_exprs ≡ ts
then_exprs-none no_exprs = refl
then_exprs-none (expr t ts) = ap (expr t) (then_exprs-none ts)

then_pairs-none : (ps : Pairs) → then_pairs ps no_pairs ≡ ps
then_pairs-none no_pairs = refl
then_pairs-none (pair k t ps) = ap (pair k t) (then_pairs-none ps)

then_exprs-assoc : (ts us vs : Exprs) → then_exprs (then_exprs ts us) vs ≡ then_exprs ts (then_exprs us vs)
then_exprs-assoc no_exprs us vs = refl
then_exprs-assoc (expr t ts) us vs = ap (expr t) (then_exprs-assoc ts us vs)

then_pairs-assoc : (ps qs rs : Pairs) → then_pairs (then_pairs ps qs) rs ≡ then_pairs ps (then_pairs qs rs)
then_pairs-assoc no_pairs qs rs = refl
then_pairs-assoc (pair k t ps) qs rs = ap (pair k t) (then_pairs-assoc ps qs rs)

same_parts : {a b : Exprs} {p q : Pairs} → a ≡ b → p ≡ q → ◌≡◌ {A = LeveledList} (a, p) (b, q)
same_parts {a} {b} {p} {q} e f = ap (λ z. (z, p)) e ∙ ap (λ z. (b, z)) f

pub then_parts-none : (p : LeveledList) → then_parts p no_parts ≡ p
then_parts-none p = same_parts (then_exprs-none p.0) (then_pairs-none p.1)

-- A part that is prepended to the rest is appended to the collected parts.
pub then_put : (p : LeveledList) (k : Option Text) (t : Expr) (q : LeveledList)
    → then_parts p (put k t q) ≡ then_parts (then_part p (k, t)) q
then_put p None t q = same_parts (sym (then_exprs-assoc p.0 (expr t no_exprs) q.0)) refl
then_put p (Some k) t q = same_parts refl (sym (then_pairs-assoc p.1 (pair k t no_pairs) q.1))

pub then_put_last : (p : LeveledList) (k : Option Text) (t : Expr)
    → then_parts p (put k t no_parts) ≡ then_part p (k, t)
then_put_last p k t = then_put p k t no_parts ∙ then_parts-none (then_part p (k, t))

abbrev pub after_found : LeveledList → LeveledList → Reader LeveledList
after_found found q w = Ok (then_parts found q, w)

-- ---- one iteration

-- The sequence, given its first element.
abbrev on_element : (Level → Reader Expr) → ℕ → ℕ → SequenceKind → ListElement → Reader LeveledList
on_element inner n turns r shut ts = Ok (no_parts, ts)
on_element inner n turns r (last p) ts = Ok (put p.0 p.1 no_parts, ts)
on_element inner n turns r (further p) ts = row inner n turns (behind_key r p.0) ts >>= λ q w. Ok (put p.0 p.1 q, w)

abbrev part_tail : SequenceKind → Option Text × Expr → Reader ListElement
part_tail r p v = if sees s.Comma v then Ok (further p, drop 1 v) else (expect (closer r) v >>= λ _ w. Ok (last p, w))

abbrev row_tail : (Level → Reader Expr) → ℕ → ℕ → SequenceKind → Option Text × Expr → Reader LeveledList
row_tail inner n turns r p v =
    if sees s.Comma v then (row inner n turns (behind_key r p.0) (drop 1 v) >>= λ q z. Ok (put p.0 p.1 q, z))
    else (expect (closer r) v >>= λ _ z. Ok (put p.0 p.1 no_parts, z))

closes_so : (inner : Level → Reader Expr) (n turns : ℕ) (r : SequenceKind) (p : Option Text × Expr)
    (o : ParseResult (Unit {0}))
    → (o >>= λ _ z. Ok (put p.0 p.1 no_parts, z)) ≡ ((o >>= λ _ w. Ok (last p, w)) >>= on_element inner n turns r)
closes_so inner n turns r p (Ok q) = refl
closes_so inner n turns r p (Err x) = refl

tail_so : (inner : Level → Reader Expr) (n turns : ℕ) (r : SequenceKind) (p : Option Text × Expr) (v : Tokens)
    (b : Bool)
    → sees s.Comma v ≡ b
    → row_tail inner n turns r p v ≡ (part_tail r p v >>= on_element inner n turns r)
tail_so inner n turns r p v true e = rw e
tail_so inner n turns r p v false e = rw e (closes_so inner n turns r p (expect (closer r) v))

parts_so : (inner : Level → Reader Expr) (n turns : ℕ) (r : SequenceKind) (o : ParseResult (Option Text × Expr))
    → (o >>= row_tail inner n turns r) ≡ ((o >>= part_tail r) >>= on_element inner n turns r)
parts_so inner n turns r (Ok p) = tail_so inner n turns r p.0 p.1 (sees s.Comma p.1) refl
parts_so inner n turns r (Err x) = refl

row_element : (inner : Level → Reader Expr) (n turns : ℕ) (r : SequenceKind) (ts : Tokens) (b : Bool)
    → sees (closer r) ts ≡ b → row inner n (suc turns) r ts ≡ (element inner n r ts >>= on_element inner n turns r)
unfolding row element
row_element inner n turns r ts true e = rw e
row_element inner n turns r ts false e = rw e (parts_so inner n turns r (part inner n r ts))

-- The state of the loop: `found` holds the collected parts, and `count - at` iterations are left.
module _ (inner : Level → Reader Expr) (n count at : ℕ) (x : ParseResult LeveledList) (found : LeveledList)
    (r : SequenceKind) (ts : Tokens) (is : x ≡ (row inner n (count - at) r ts >>= after_found found)) where
  row_turn : at < count → x ≡ ((element inner n r ts >>= on_element inner n (count - (at + 1)) r) >>= after_found found)
  row_turn below =
      let turn : count - at ≡ suc (count - (at + 1)) = omega arith in
      is ∙ ap (λ m. row inner n m r ts >>= after_found found) turn
      ∙ ap (λ o. o >>= after_found found) (row_element inner n (count - (at + 1)) r ts (sees (closer r) ts) refl)

  pub row_closed : at < count → (v : Tokens) → element inner n r ts ≡ Ok (shut, v) → x ≡ Ok (found, v)
  row_closed below v e = row_turn below ∙ rw (e, then_parts-none found)

  pub row_last : at < count → (p : Option Text × Expr) (v : Tokens) → element inner n r ts ≡ Ok (last p, v)
      → (new : LeveledList) → new ≡ then_part found p → x ≡ Ok (new, v)
  row_last below p v e new same = row_turn below ∙ rw (e, then_put_last found p.0 p.1, same)

  further_so : (o : ParseResult LeveledList) (p : Option Text × Expr)
      → ((o >>= λ q w. Ok (put p.0 p.1 q, w)) >>= after_found found) ≡ (o >>= after_found (then_part found p))
  further_so (Ok q) p = ap (λ z. Ok (z, q.1)) (then_put found p.0 p.1 q.0)
  further_so (Err y) p = refl

  pub row_next : at < count → (p : Option Text × Expr) (v : Tokens) → element inner n r ts ≡ Ok (further p, v)
      → (new : LeveledList) → new ≡ then_part found p → (w : SequenceKind) → w ≡ behind_key r p.0
      → x ≡ (row inner n (count - (at + 1)) w v >>= after_found new)
  row_next below p v e new same w same_row =
      row_turn below ∙ rw (e, same, same_row) (further_so (row inner n (count - (at + 1)) (behind_key r p.0) v) p)

  pub row_refused : at < count → (e : ExprError) → Refuses (element inner n r ts) e → Refuses x e
  row_refused below e q =
      refused x (element inner n r ts >>= on_element inner n (count - (at + 1)) r) (after_found found) e
      (row_turn below)
      (refused (element inner n r ts >>= on_element inner n (count - (at + 1)) r) (element inner n r ts)
      (on_element inner n (count - (at + 1)) r) e refl q)

  pub row_ends : count ≤ at → x ≡ Err syntax
  unfolding row
  row_ends over =
      let no_turn : count - at ≡ 0 = omega arith in is ∙ ap (λ m. row inner n m r ts >>= after_found found) no_turn

-- Before the first iteration no parts are collected.
pub found_none : (o : ParseResult LeveledList) → o ≡ (o >>= after_found no_parts)
found_none (Ok p) = refl
found_none (Err x) = refl

pub row_starts : (inner : Level → Reader Expr) (n count end : ℕ) (found : LeveledList) (r : SequenceKind) (ts : Tokens)
    → end ≡ count → found ≡ no_parts → row inner n count r ts ≡ (row inner n (end - 0) r ts >>= after_found found)
row_starts inner n count end found r ts e f = grind (arith, found_none)

-- ---- levels of parts

exprs_levels-then : (ts us : Exprs) → exprs_levels (then_exprs ts us) ≡ max (exprs_levels ts) (exprs_levels us)
exprs_levels-then no_exprs us = omega arith
exprs_levels-then (expr t ts) us = omega (arith, exprs_levels-then ts us)

pairs_levels-then : (ps qs : Pairs) → pairs_levels (then_pairs ps qs) ≡ max (pairs_levels ps) (pairs_levels qs)
pairs_levels-then no_pairs qs = omega arith
pairs_levels-then (pair k t ps) qs = omega (arith, pairs_levels-then ps qs)

pub exprs_levels-one : (ts : Exprs) (t : Expr)
    → exprs_levels (then_exprs ts (expr t no_exprs)) ≡ max (exprs_levels ts) (levels t)
exprs_levels-one ts t = omega (arith, exprs_levels-then ts (expr t no_exprs))

pub pairs_levels-one : (ps : Pairs) (k : Text) (t : Expr)
    → pairs_levels (then_pairs ps (pair k t no_pairs)) ≡ max (pairs_levels ps) (levels t)
pairs_levels-one ps k t = omega (arith, pairs_levels-then ps (pair k t no_pairs))
