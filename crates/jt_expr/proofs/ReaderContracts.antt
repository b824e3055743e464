-- The reader keeps the contracts of Promises.
use Rattle.std.proofs.Common.{◌≡◌, ℕ, suc, ◌<◌, ◌≤◌, false, [], ◌∷◌, sym, ap, ◌∙◌, Result, Ok, Err, ⊎_elim, arith}
use Rattle.std.proofs.Common.{rules}
use Rattle.std.proofs.lemmas.Bool.{cases_lt, false_from_ne_true}
use Rattle.jt_scan.specs.declared.segment.Sign.TheVariants as s
use Rattle.jt_scan.specs.Cut as cut
use Rattle.jt_expr.specs.declared.error.ExprError.{ExprError}
use Rattle.jt_expr.specs.declared.error.ExprError.TheVariants as e
use Rattle.jt_expr.specs.declared.part.LeveledExpr.{LeveledExpr}
use Rattle.jt_expr.specs.declared.part.LeveledList.{LeveledList as SequenceKind}
use Rattle.jt_ast.specs.Expressions.{Expr, levels}
use Rattle.jt_ast.specs.ExpressionView.{expr_view}
use Rattle.jt_expr.specs.Grammar.{Tokens, Level, whole, disjunction, conjunction, inversion, comparison, sum}
use Rattle.jt_expr.specs.Grammar.{concatenation, product, power, postscript, signed, postfix, LeveledList, Spells}
use Rattle.jt_expr.specs.Grammar.{Arguments}
use Rattle.jt_expr.specs.Front.{sees}
use Rattle.jt_expr.specs.internal.Reading.{ParseResult, Fault, syntax, deep, cap, read, arguments_at}
use Rattle.jt_expr.specs.internal.Gives.{Refuses, Gives, GivesParts}
use Rattle.jt_expr.specs.Promises.{Leads, Reads, EndsAt, the_end, a_comma, an_if, OpensNone, parts_levels, parts_view}
use Rattle.jt_expr.proofs.FirstTokenTests.{sees_sound}
use Rattle.jt_expr.proofs.LevelCap.{cap_within, cap_beyond}
use Rattle.jt_expr.proofs.ParserComplete.{Stops, nothing_stops, comma_stops, if_stops, spelled_is_read}
use Rattle.jt_expr.proofs.ParserComplete.{arguments_are_read}
use Rattle.jt_expr.proofs.ParserSound.{read_is_spelled, arguments_are_spelled}

-- ---- the ends of expressions

stops_all : (ts : Tokens) → Stops whole ts → (k : Level) → Stops k ts
stops_all ts h x3 = search (arith, rules)

ends_stop : {k : Level} {ts : Tokens} → EndsAt k ts → Stops k ts
ends_stop {k} the_end = stops_all [] nothing_stops k
ends_stop {k} (a_comma {ts = ts}) = stops_all (cut.sign s.Comma ∷ ts) (comma_stops ts) k
ends_stop (an_if {ts}) = if_stops ts

opens_none : (ts : Tokens) → OpensNone ts → sees s.LeftParen ts ≡ false
opens_none ts h = false_from_ne_true (sees s.LeftParen ts) (λ q. h _ (sees_sound s.LeftParen ts q))

-- ---- exact outcomes

ok_parts : {A : Type 0} {a b : A} {v w : Tokens} → ◌≡◌ {A = ParseResult A} (Ok (a, v)) (Ok (b, w)) → (a ≡ b) × (v ≡ w)
ok_parts {A} {a} {b} {v} {w} e =
    let p : (a, v) ≡ (b, w) = cc in (ap (λ (q : A × Tokens). q.0) p, ap (λ (q : A × Tokens). q.1) p)

no_ok : {A G : Type 0} (f : Fault) (p : A × Tokens) → ◌≡◌ {A = ParseResult A} (Err f) (Ok p) → G
no_ok f p e = absurd (cc)

not_both : {A G : Type 0} → ◌≡◌ {A = ParseResult A} (Err deep) (Err syntax) → G
not_both e = absurd (cc)

module _ {A B : Type 0} (view : A → B) (NestedForm : B → Tokens → Type 0) (Ends : Tokens → Type 0) (height : B → ℕ)
    (n : ℕ) (ts : Tokens) (o : ParseResult B)
    (sound : (b : B) (rest : Tokens) → o ≡ Ok (b, rest) → Leads NestedForm b ts rest × (height b ≤ n))
    (complete : (b : B) (rest : Tokens) → Leads NestedForm b ts rest → Ends rest → o ≡ cap (height b) n b rest) where
  only : (a b : B) (rest v : Tokens) → o ≡ Ok (a, rest) → Leads NestedForm b ts v → Ends v → (b ≡ a) × (v ≡ rest)
  only a b rest v g l h =
      ⊎_elim
      (λ (gt : n < height b). no_ok deep (a, rest) (sym (complete b v l h ∙ cap_beyond (height b) n b v gt) ∙ g))
      (λ (le : height b ≤ n). ok_parts (sym (complete b v l h ∙ cap_within (height b) n b v le) ∙ g))
      (cases_lt n (height b))

  none : (b : B) (v : Tokens) → o ≡ Err syntax → Leads NestedForm b ts v → Ends v → ⊥
  none b v g l h =
      ⊎_elim
      (λ (gt : n < height b). not_both (sym (complete b v l h ∙ cap_beyond (height b) n b v gt) ∙ g))
      (λ (le : height b ≤ n). no_ok syntax (b, v) (sym g ∙ (complete b v l h ∙ cap_within (height b) n b v le)))
      (cases_lt n (height b))

  too_deep : (b : B) (v : Tokens) → o ≡ Err deep → Leads NestedForm b ts v → Ends v → n < height b
  too_deep b v g l h =
      ⊎_elim
      (λ (gt : n < height b). gt)
      (λ (le : height b ≤ n). no_ok deep (b, v) (sym g ∙ (complete b v l h ∙ cap_within (height b) n b v le)))
      (cases_lt n (height b))

  read_ok : (a : A) (new : Tokens) → o ≡ Ok (view a, new) → Reads view NestedForm Ends height n ts (Ok a) new
  read_ok a new g = let q = sound (view a) new g in (q.0, q.1, λ b v l h. only (view a) b new v g l h)

  read_err : (x : ExprError) (new : Tokens) → Refuses o x → Reads view NestedForm Ends height n ts (Err x) new
  read_err e.Syntax new g = λ b v l h. none b v g l h
  read_err e.TooDeep new g = λ b v l h. too_deep b v g l h
  read_err e.NoMemory new g = tt

-- ---- the public readers

read_sound : (n : ℕ) (k : Level) (ts : Tokens) (t : Expr) (rest : Tokens) → read n k ts ≡ Ok (t, rest)
    → Leads (Spells k) t ts rest × (levels t ≤ n)
read_sound n k ts t rest g = let d = read_is_spelled n k t ts rest g in ((d.0, d.1, d.2), d.3)

read_complete : (n : ℕ) (k : Level) (ts : Tokens) (t : Expr) (rest : Tokens) → Leads (Spells k) t ts rest
    → EndsAt k rest → read n k ts ≡ cap (levels t) n t rest
read_complete n k ts t rest l h = ap (read n k) l.1 ∙ spelled_is_read l.2 n rest (ends_stop h)

pub read_promised : (n : ℕ) (k : Level) (ts : Tokens) (r : Result LeveledExpr ExprError) (new : Tokens)
    → Gives (read n k ts) r new
    → Reads (λ (p : LeveledExpr). expr_view p.expr.value) (Spells k) (EndsAt k) levels n ts r new
read_promised n k ts (Ok p) new g =
    read_ok (λ (p : LeveledExpr). expr_view p.expr.value) (Spells k) (EndsAt k) levels n ts (read n k ts)
    (read_sound n k ts) (read_complete n k ts) p new g
read_promised n k ts (Err x) new g =
    read_err (λ (p : LeveledExpr). expr_view p.expr.value) (Spells k) (EndsAt k) levels n ts (read n k ts)
    (read_sound n k ts) (read_complete n k ts) x new g

arguments_sound : (n : ℕ) (ts : Tokens) (p : LeveledList) (rest : Tokens)
    → arguments_at (read n) (suc n) ts ≡ Ok (p, rest) → Leads Arguments p ts rest × (parts_levels p ≤ n)
arguments_sound n ts p rest g = let d = arguments_are_spelled n p ts rest g in ((d.0, d.1, d.2), d.3)

arguments_complete : (n : ℕ) (ts : Tokens) (p : LeveledList) (rest : Tokens) → Leads Arguments p ts rest
    → OpensNone rest → arguments_at (read n) (suc n) ts ≡ cap (parts_levels p) n p rest
arguments_complete n ts p rest l h =
    ap (arguments_at (read n) (suc n)) l.1 ∙ arguments_are_read l.2 n rest (opens_none rest h)

pub arguments_promised : (n : ℕ) (ts : Tokens) (r : Result SequenceKind ExprError) (new : Tokens)
    → GivesParts (arguments_at (read n) (suc n) ts) r new
    → Reads parts_view Arguments OpensNone parts_levels n ts r new
arguments_promised n ts (Ok p) new g =
    read_ok parts_view Arguments OpensNone parts_levels n ts (arguments_at (read n) (suc n) ts) (arguments_sound n ts)
    (arguments_complete n ts) p new g
arguments_promised n ts (Err x) new g =
    read_err parts_view Arguments OpensNone parts_levels n ts (arguments_at (read n) (suc n) ts) (arguments_sound n ts)
    (arguments_complete n ts) x new g
