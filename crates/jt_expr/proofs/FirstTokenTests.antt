-- Tests of words and of first tokens.
use Rattle.std.proofs.Common.{◌≡◌, ℕ, ◌<◌, Bool, true, false, not, ◌||◌, cond, List, [], ◌∷◌, get_or, length, drop}
use Rattle.std.proofs.Common.{codes, refl, sym, ap, subst, ◌∙◌, arith, ◌==◌, Some, None, bytes_eq, rules}
use Rattle.std.specs.List.{list_any}
use Rattle.std.proofs.lemmas.Bool.Decides.{nat_tests}
use Rattle.std.proofs.lemmas.List.Folds.{list_any_at}
use Rattle.std.proofs.lemmas.Slice.Eq.{bytes_eq-Decides}
use Rattle.std.proofs.lemmas.Bool.{false_from_ne_true, not-true, not_from_false}
use Rattle.jt_scan.specs.declared.segment.Sign.{Sign}
use Rattle.jt_scan.specs.declared.segment.Sign.TheVariants as s
use Rattle.jt_scan.specs.Cut as cut
use Rattle.jt_ast.specs.Expressions.{Text, Literal, truth, nothing}
use Rattle.jt_expr.specs.Grammar.{Tokens, word, reserved, is_reserved, literal_of, is_literal, is_operand}
use Rattle.jt_expr.specs.Front.{code, sees, says}

-- ---- words

unless : (b : Bool) (c : Bool) → (b ≡ true → c ≡ true) → c ≡ false → b ≡ false
unless true c f h = let g = f refl in cc
unless false c f h = refl

missed : (p : Text → Bool) (xs : List Text) (i : ℕ) → i < length xs → list_any p xs ≡ false → p (get_or xs i []) ≡ false
missed p xs i less h = unless (p (get_or xs i [])) (list_any p xs) (list_any_at p xs i [] less) h

chain : {A : Type 0} (a b c d e f : Bool) (p q r s t u z : A) → a ≡ false → b ≡ false → c ≡ false → d ≡ false
    → e ≡ false → f ≡ false
    → cond a p (cond b q (cond c r (cond d s (cond e t (cond f u z))))) ≡ z
chain a b c d e f p q r s t u z ha hb hc hd he hf = rw ha (rw hb (rw hc (rw hd (rw he (rw hf refl)))))

-- A name is no constant.
pub no_literal : (x : Text) → is_reserved x ≡ false → literal_of x ≡ None
no_literal x h = search (arith, rules, bytes_eq, chain, missed)

or_true : (b : Bool) → (b || true) ≡ true
or_true true = refl
or_true false = refl

pub literal_is_operand : (x : Text) (l : Literal) → literal_of x ≡ Some l → is_operand x ≡ true
literal_is_operand x l e = ap (λ o. is_literal o || not (is_reserved x)) e

pub name_is_operand : (x : Text) → is_reserved x ≡ false → is_operand x ≡ true
name_is_operand x h = ap (λ b. is_literal (literal_of x) || not b) h ∙ or_true (is_literal (literal_of x))

same_text : (x w : Text) → bytes_eq x w ≡ true → x ≡ w
same_text x w h = (bytes_eq-Decides x w).0 h

-- An operand does not begin with `not`.
pub operand_says : (x : Text) → is_operand x ≡ true → bytes_eq x (codes "not") ≡ false
operand_says x h = search (arith, rules, false_from_ne_true, bytes_eq, same_text)

pub says_sound : (w : Text) (ts : Tokens) → says w ts ≡ true → ts ≡ word w ∷ drop 1 ts
says_sound w ts e = search (arith, rules, same_text)

-- ---- signs

uncode : ℕ → Sign
uncode n =
    cond (n == 0) s.Plus (cond (n == 1) s.Minus
    (cond (n == 2) s.Times (cond (n == 3) s.Percent
    (cond (n == 4) s.Tilde (cond (n == 5) s.Less (cond (n == 6) s.Greater (cond (n == 7) s.Assign
    (cond (n == 8) s.Dot (cond (n == 9) s.Comma
    (cond (n == 10) s.Colon (cond (n == 11) s.Pipe
    (cond (n == 12) s.LeftParen
    (cond (n == 13) s.RightParen (cond (n == 14) s.LeftBracket (cond (n == 15) s.RightBracket
    (cond (n == 16) s.LeftBrace (cond (n == 17) s.RightBrace
    (cond (n == 18) s.Power (cond (n == 19) s.FloorDivide
    (cond (n == 20) s.Equal (cond (n == 21) s.NotEqual (cond (n == 22) s.LessEqual s.GreaterEqual))))))))))))))))))))))

uncode_code : (k : Sign) → uncode (code k) ≡ k
unfolding uncode
uncode_code k = search (arith, rules)

same_sign : (j k : Sign) → (code j == code k) ≡ true → j ≡ k
same_sign j k e =
    let same : code j ≡ code k = grind (arith, nat_tests) in sym (uncode_code j) ∙ ap uncode same ∙ uncode_code k

pub sees_sound : (k : Sign) (ts : Tokens) → sees k ts ≡ true → ts ≡ cut.sign k ∷ drop 1 ts
sees_sound k ts e = search (arith, rules, same_sign)

eqb_self : (n : ℕ) → (n == n) ≡ true
eqb_self n = grind (arith, nat_tests)

pub sees_self : (k : Sign) (ts : Tokens) → sees k (cut.sign k ∷ ts) ≡ true
sees_self k ts = eqb_self (code k)
