-- The kinds of words.
use Rattle.std.proofs.Common.{◌≡◌, ℕ, ◌<◌, Bool, true, false, not, ◌||◌, cond, List, [], get_or, length}
use Rattle.std.proofs.Common.{Option, ◌⊎◌, inl, inr, codes, refl, sym, ap, subst, ◌∙◌, arith, Some, None, bytes_eq}
use Rattle.std.proofs.Common.{rules}
use Rattle.std.specs.List.{list_any}
use Rattle.std.proofs.lemmas.List.Folds.{list_any_at}
use Rattle.std.proofs.lemmas.Slice.Eq.{bytes_eq-Decides}
use Rattle.jt_ast.specs.Expressions.{Text, Literal}
use Rattle.jt_expr.specs.Grammar.{reserved, is_reserved, literal_of, is_literal, is_operand}
use Rattle.jt_syntax.specs.declared.kinds.Kind.TheVariants as k
use Rattle.jt_syntax.specs.internal.Kinds.{word_kind, is_word}

unless : (b : Bool) (c : Bool) → (b ≡ true → c ≡ true) → c ≡ false → b ≡ false
unless true c f h = let g = f refl in cc
unless false c f h = refl

missed : (p : Text → Bool) (xs : List Text) (i : ℕ) → i < length xs → list_any p xs ≡ false → p (get_or xs i []) ≡ false
missed p xs i less h = unless (p (get_or xs i [])) (list_any p xs) (list_any_at p xs i [] less) h

chain : {A : Type 0} (a b c d e f : Bool) (p q r s t u z : A) → a ≡ false → b ≡ false → c ≡ false → d ≡ false
    → e ≡ false → f ≡ false
    → cond a p (cond b q (cond c r (cond d s (cond e t (cond f u z))))) ≡ z
chain a b c d e f p q r s t u z ha hb hc hd he hf = rw ha (rw hb (rw hc (rw hd (rw he (rw hf refl)))))

-- A name is no constant.
no_literal : (x : Text) → is_reserved x ≡ false → literal_of x ≡ None
no_literal x h = search (arith, rules, bytes_eq, chain, missed)

chain7 : {A : Type 0} (a b c d e f g : Bool) (p q r s t u v z : A) → a ≡ false → b ≡ false → c ≡ false → d ≡ false
    → e ≡ false → f ≡ false → g ≡ false
    → cond a p (cond b q (cond c r (cond d s (cond e t (cond f u (cond g v z)))))) ≡ z
chain7 a b c d e f g p q r s t u v z ha hb hc hd he hf hg = rw ha (rw hb (rw hc (rw hd (rw he (rw hf (rw hg refl))))))

-- A word that is not reserved is a name.
pub name_kind : (x : Text) → is_reserved x ≡ false → word_kind x ≡ k.Name
unfolding word_kind
name_kind x h =
    let m = λ (i : ℕ) (less : i < 13). missed (bytes_eq x) reserved i less h in
    chain7 _ _ _ _ _ _ _ _ _ _ _ _ _ _ _ (m 0 (omega arith)) (m 1 (omega arith)) (m 2 (omega arith)) (m 3 (omega arith))
    (m 4 (omega arith)) (m 5 (omega arith)) (m 6 (omega arith))
    ∙ ap (λ o. cond (is_literal o) k.Constant k.Name) (no_literal x h)

same_text : (x w : Text) → bytes_eq x w ≡ true → x ≡ w
same_text x w h = (bytes_eq-Decides x w).0 h

-- A word is a word.
pub word_is_word : (x : Text) → is_word (word_kind x) ≡ true
unfolding word_kind
word_is_word x = search (arith, rules)

-- The kind of a constant.
pub constant_kind : (x : Text) (l : Literal) → literal_of x ≡ Some l → word_kind x ≡ k.Constant
unfolding word_kind
constant_kind x l e = search (arith, rules, bytes_eq, same_text)

unreserved : (b : Bool) → not b ≡ true → b ≡ false
unreserved true h = sym h
unreserved false h = refl

operand_kind_by : (x : Text) (o : Option Literal) → literal_of x ≡ o → is_operand x ≡ true
    → (word_kind x ≡ k.Constant) ⊎ (word_kind x ≡ k.Name)
operand_kind_by x (Some l) e h = inl (constant_kind x l e)
operand_kind_by x None e h =
    inr (name_kind x (unreserved (is_reserved x)
    (subst (λ o. (is_literal o || not (is_reserved x)) ≡ true) e h)))

-- An operand is a constant or a name.
pub operand_kind : (x : Text) → is_operand x ≡ true → (word_kind x ≡ k.Constant) ⊎ (word_kind x ≡ k.Name)
operand_kind x h = operand_kind_by x (literal_of x) refl h

-- Only `not` is `not`.
pub not_kind : (x : Text) → bytes_eq x (codes "not") ≡ false → word_kind x ≡ k.Not → ⊥
unfolding word_kind
not_kind x h e = search (arith, rules)

or_true : (b : Bool) → (b || true) ≡ true
or_true true = refl
or_true false = refl

pub literal_is_operand : (x : Text) (l : Literal) → literal_of x ≡ Some l → is_operand x ≡ true
literal_is_operand x l e = ap (λ o. is_literal o || not (is_reserved x)) e

pub name_is_operand : (x : Text) → is_reserved x ≡ false → is_operand x ≡ true
name_is_operand x h = ap (λ b. is_literal (literal_of x) || not b) h ∙ or_true (is_literal (literal_of x))
