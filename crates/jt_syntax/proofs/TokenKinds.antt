-- The tokens of each kind.
use Rattle.std.proofs.Common.{◌≡◌, ℤ, Bool, true, false, ◌||◌, codes, refl, sym, subst}
use Rattle.std.proofs.Common.{Option, Some, None, bytes_eq, if◌then◌else◌}
use Rattle.std.proofs.lemmas.Slice.Eq.{bytes_eq-Decides}
use Rattle.jt_scan.specs.Cut as cut
use Rattle.jt_scan.specs.Cut.{Token}
use Rattle.jt_scan.specs.declared.segment.Sign.{Sign}
use Rattle.jt_ast.specs.Expressions.{Text, Literal}
use Rattle.jt_expr.specs.Grammar.{word, is_reserved, literal_of, is_literal}
use Rattle.jt_syntax.specs.declared.kinds.Kind.{Kind}
use Rattle.jt_syntax.specs.declared.kinds.Kind.TheVariants as k
use Rattle.jt_syntax.specs.internal.Kinds.{kind_of, word_kind}

-- The token is of the kind.
pub data IsOf : Token → Kind → Type 0 where
  a_name : {x : Text} → is_reserved x ≡ false → IsOf (cut.name x) k.Name
  a_constant : {x : Text} → (l : Literal) → literal_of x ≡ Some l → IsOf (cut.name x) k.Constant
  a_number : {n : ℤ} → IsOf (cut.number n) k.Number
  a_text : {v : Text} → IsOf (cut.text v) k.Text
  an_and : IsOf (word (codes "and")) k.And
  an_or : IsOf (word (codes "or")) k.Or
  a_not : IsOf (word (codes "not")) k.Not
  an_if : IsOf (word (codes "if")) k.If
  an_else : IsOf (word (codes "else")) k.Else
  an_in : IsOf (word (codes "in")) k.In
  an_is : IsOf (word (codes "is")) k.Is
  a_sign : (j : Sign) → IsOf (cut.sign j) (k.Sign j)

same_text : (x w : Text) → bytes_eq x w ≡ true → x ≡ w
same_text x w h = (bytes_eq-Decides x w).0 h

-- A word that is none of the six spells no constant.
none_of : (a b c d e f : Bool) (p q r s t u : Literal)
    → (if a then Some p else if b then Some q else if c then Some r else if d then Some s else if e then Some t
    else if f then Some u else None)
    ≡ None
    → (a || (c || (e || (b || (d || (f || false)))))) ≡ false
none_of true b c d e f p q r s t u h = absurd (cc)
none_of false true c d e f p q r s t u h = absurd (cc)
none_of false false true d e f p q r s t u h = absurd (cc)
none_of false false false true e f p q r s t u h = absurd (cc)
none_of false false false false true f p q r s t u h = absurd (cc)
none_of false false false false false true p q r s t u h = absurd (cc)
none_of false false false false false false p q r s t u h = refl

seven : (a b c d e f g z : Bool) → a ≡ false → b ≡ false → c ≡ false → d ≡ false → e ≡ false → f ≡ false
    → g ≡ false → z ≡ false → (a || (b || (c || (d || (e || (f || (g || z))))))) ≡ false
seven a b c d e f g z ha hb hc hd he hf hg hz =
    rw ha (rw hb (rw hc (rw hd (rw he (rw hf (rw hg hz))))))

-- A word that is neither an operator nor a constant is not reserved.
unreserved : (x : Text) → bytes_eq x (codes "and") ≡ false → bytes_eq x (codes "or") ≡ false
    → bytes_eq x (codes "not") ≡ false → bytes_eq x (codes "if") ≡ false → bytes_eq x (codes "else") ≡ false
    → bytes_eq x (codes "in") ≡ false → bytes_eq x (codes "is") ≡ false → literal_of x ≡ None → is_reserved x ≡ false
unreserved x ha hb hc hd he hf hg hl =
    seven _ _ _ _ _ _ _ _ ha hb hc hd he hf hg
    (none_of (bytes_eq x (codes "true")) (bytes_eq x (codes "True")) (bytes_eq x (codes "false"))
    (bytes_eq x (codes "False")) (bytes_eq x (codes "none")) (bytes_eq x (codes "None")) _ _ _ _ _ _ hl)

literal_view : (x : Text) (o : Option Literal) → literal_of x ≡ o → (o ≡ None → is_reserved x ≡ false)
    → IsOf (cut.name x) (if is_literal o then k.Constant else k.Name)
literal_view x (Some l) e h = a_constant l e
literal_view x None e h = a_name (h refl)

view_is : (x : Text) (c : Bool) → bytes_eq x (codes "is") ≡ c
    → (bytes_eq x (codes "is") ≡ false → literal_of x ≡ None → is_reserved x ≡ false)
    → IsOf (cut.name x) (if c then k.Is else if is_literal (literal_of x) then k.Constant else k.Name)
view_is x true e h = subst (λ y. IsOf (cut.name y) k.Is) (sym (same_text x (codes "is") e)) an_is
view_is x false e h = literal_view x (literal_of x) refl (h e)

view_in : (x : Text) (c : Bool) → bytes_eq x (codes "in") ≡ c
    → (bytes_eq x (codes "in") ≡ false → bytes_eq x (codes "is") ≡ false → literal_of x ≡ None
    → is_reserved x ≡ false)
    → IsOf (cut.name x) (if c then k.In else if bytes_eq x (codes "is") then k.Is
    else if is_literal (literal_of x) then k.Constant else k.Name)
view_in x true e h = subst (λ y. IsOf (cut.name y) k.In) (sym (same_text x (codes "in") e)) an_in
view_in x false e h = view_is x (bytes_eq x (codes "is")) refl (h e)

view_else : (x : Text) (c : Bool) → bytes_eq x (codes "else") ≡ c
    → (bytes_eq x (codes "else") ≡ false → bytes_eq x (codes "in") ≡ false → bytes_eq x (codes "is") ≡ false
    → literal_of x ≡ None → is_reserved x ≡ false)
    → IsOf (cut.name x) (if c then k.Else else if bytes_eq x (codes "in") then k.In
    else if bytes_eq x (codes "is") then k.Is else if is_literal (literal_of x) then k.Constant else k.Name)
view_else x true e h = subst (λ y. IsOf (cut.name y) k.Else) (sym (same_text x (codes "else") e)) an_else
view_else x false e h = view_in x (bytes_eq x (codes "in")) refl (h e)

view_if : (x : Text) (c : Bool) → bytes_eq x (codes "if") ≡ c
    → (bytes_eq x (codes "if") ≡ false → bytes_eq x (codes "else") ≡ false → bytes_eq x (codes "in") ≡ false
    → bytes_eq x (codes "is") ≡ false → literal_of x ≡ None → is_reserved x ≡ false)
    → IsOf (cut.name x) (if c then k.If else if bytes_eq x (codes "else") then k.Else
    else if bytes_eq x (codes "in") then k.In
    else if bytes_eq x (codes "is") then k.Is else if is_literal (literal_of x) then k.Constant else k.Name)
view_if x true e h = subst (λ y. IsOf (cut.name y) k.If) (sym (same_text x (codes "if") e)) an_if
view_if x false e h = view_else x (bytes_eq x (codes "else")) refl (h e)

view_not : (x : Text) (c : Bool) → bytes_eq x (codes "not") ≡ c
    → (bytes_eq x (codes "not") ≡ false → bytes_eq x (codes "if") ≡ false → bytes_eq x (codes "else") ≡ false
    → bytes_eq x (codes "in") ≡ false → bytes_eq x (codes "is") ≡ false → literal_of x ≡ None
    → is_reserved x ≡ false)
    → IsOf (cut.name x) (if c then k.Not else if bytes_eq x (codes "if") then k.If
    else if bytes_eq x (codes "else") then k.Else else if bytes_eq x (codes "in") then k.In
    else if bytes_eq x (codes "is") then k.Is else if is_literal (literal_of x) then k.Constant else k.Name)
view_not x true e h = subst (λ y. IsOf (cut.name y) k.Not) (sym (same_text x (codes "not") e)) a_not
view_not x false e h = view_if x (bytes_eq x (codes "if")) refl (h e)

view_or : (x : Text) (c : Bool) → bytes_eq x (codes "or") ≡ c
    → (bytes_eq x (codes "or") ≡ false → bytes_eq x (codes "not") ≡ false → bytes_eq x (codes "if") ≡ false
    → bytes_eq x (codes "else") ≡ false → bytes_eq x (codes "in") ≡ false → bytes_eq x (codes "is") ≡ false
    → literal_of x ≡ None → is_reserved x ≡ false)
    → IsOf (cut.name x) (if c then k.Or else if bytes_eq x (codes "not") then k.Not
    else if bytes_eq x (codes "if") then k.If
    else if bytes_eq x (codes "else") then k.Else else if bytes_eq x (codes "in") then k.In
    else if bytes_eq x (codes "is") then k.Is else if is_literal (literal_of x) then k.Constant else k.Name)
view_or x true e h = subst (λ y. IsOf (cut.name y) k.Or) (sym (same_text x (codes "or") e)) an_or
view_or x false e h = view_not x (bytes_eq x (codes "not")) refl (h e)

view_and : (x : Text) (c : Bool) → bytes_eq x (codes "and") ≡ c
    → IsOf (cut.name x) (if c then k.And else if bytes_eq x (codes "or") then k.Or
    else if bytes_eq x (codes "not") then k.Not else if bytes_eq x (codes "if") then k.If
    else if bytes_eq x (codes "else") then k.Else else if bytes_eq x (codes "in") then k.In
    else if bytes_eq x (codes "is") then k.Is else if is_literal (literal_of x) then k.Constant else k.Name)
view_and x true e = subst (λ y. IsOf (cut.name y) k.And) (sym (same_text x (codes "and") e)) an_and
view_and x false e = view_or x (bytes_eq x (codes "or")) refl (unreserved x e)

word_view : (x : Text) → IsOf (cut.name x) (word_kind x)
unfolding word_kind
word_view x = view_and x (bytes_eq x (codes "and")) refl

-- Each token is of its kind.
pub kind_view : (t : Token) → IsOf t (kind_of t)
kind_view (cut.name x) = word_view x
kind_view (cut.number n) = a_number
kind_view (cut.text v) = a_text
kind_view (cut.sign j) = a_sign j
