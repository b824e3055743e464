-- The walk over the first tokens of a list, and the position at which it stops.
use Rattle.std.proofs.Common.{◌≡◌, ℕ, zero, suc, ◌<◌, false, List, [], ◌∷◌, ◌++◌, sym, ap, subst}
use Rattle.std.proofs.Common.{◌∙◌, arith, Option, Some, None, take, drop, length, map, get_or, append_assoc}
use Rattle.std.proofs.lemmas.List.{take-append-drop, take_all}
use Rattle.jt_scan.specs.declared.segment.Token.{Token}
use Rattle.jt_scan.specs.View.{token_view}
use Rattle.jt_expr.specs.Grammar.{Tokens, Spells, whole}
use Rattle.jt_syntax.specs.Prefixes.{Spelled, Begins, Stuck}
use Rattle.jt_syntax.specs.internal.Kinds.{kind_of}
use Rattle.jt_syntax.specs.internal.States.{State, step, step_by, walk, start, is_complete}
use Rattle.jt_syntax.proofs.Reaching.{reached, rejected, incomplete}

-- The state behind one more token.
pub more : (ts : List Token) (i : ℕ) (d : Token) (x : Option State) (y : State) → i < length ts
    → walk (take i (map token_view ts)) x ≡ Some y
    → walk (take (suc i) (map token_view ts)) x ≡ step y (kind_of (token_view (get_or ts i d)))
more [] i d x y less h = absurd (omega arith)
more (t ∷ ts) zero d x y less h = ap (λ z. step_by z (kind_of (token_view t))) h
more (t ∷ ts) (suc i) d x y less h =
    more ts i d (step_by x (kind_of (token_view t))) y (omega arith) h

-- Tokens that spell an expression begin one up to each position.
begins_up_to : (ts : Tokens) (i : ℕ) → Spelled ts → Begins (take i ts)
begins_up_to ts i v = (drop i ts, (v.0, subst (λ x. Spells whole v.0 x) (sym (take-append-drop i ts)) v.1))

-- No token may stand at the position.
pub stuck_inside : (ts : Tokens) (i : ℕ) (y : State) → i < length ts → walk (take i ts) (Some start) ≡ Some y
    → walk (take (suc i) ts) (Some start) ≡ None → Stuck ts i
stuck_inside ts i y less h n = record {
  spells_none = λ v. rejected (take (suc i) ts) n (begins_up_to ts (suc i) v);
  within = omega arith;
  begins = reached (take i ts) y h;
  ends = λ _. rejected (take (suc i) ts) n;
}

-- The tokens end too early.
pub stuck_behind : (ts : Tokens) (i : ℕ) (y : State) → i ≡ length ts → walk (take i ts) (Some start) ≡ Some y
    → is_complete y ≡ false → Stuck ts i
stuck_behind ts i y e h c = record {
  spells_none = incomplete ts y (subst (λ z. walk z (Some start) ≡ Some y) (take_all i ts (omega arith)) h) c;
  within = omega arith;
  begins = reached (take i ts) y h;
  ends = λ less. absurd (omega arith);
}

-- Tokens that begin an expression begin one up to each position.
pub begins_part : (ts : Tokens) (i : ℕ) → Begins ts → Begins (take i ts)
begins_part ts i v = (
  drop i ts ++ v.0,
  (
    v.1.0,
    subst (λ x. Spells whole v.1.0 x)
        (sym (sym (append_assoc (take i ts) (drop i ts) v.0) ∙ ap (λ x. x ++ v.0) (take-append-drop i ts))) v.1.1,
  ),
)
