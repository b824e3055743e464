-- The view of each form of expression.
use Rattle.std.proofs.Common.{◌≡◌, List, [], ◌∷◌, map, refl, sym, ap, ◌∙◌, Vec, Box, String, Global, string_bytes}
use Rattle.jt_ast.specs.Expressions as trees
use Rattle.jt_ast.specs.Expressions.{pair}
use Rattle.jt_ast.specs.ExpressionView.{pairs_of, is_negated, expr_step, expr_view, exprs_view, pairs_view}
use Rattle.jt_ast.specs.ExpressionView.{literal_view}
use Rattle.jt_ast.specs.declared.expression.Literal.{Literal}
use Rattle.jt_ast.specs.declared.expression.UnaryOperator.{UnaryOperator}
use Rattle.jt_ast.specs.declared.expression.BinaryOperator.{BinaryOperator}
use Rattle.jt_ast.specs.declared.expression.Polarity.{Polarity}
use Rattle.jt_ast.specs.declared.expression.Expr.{Expr, fold-roll-Expr}
use Rattle.jt_ast.specs.declared.expression.Expr.TheOpen.{Expr-F}
use Rattle.jt_ast.specs.declared.expression.Expr.TheVariants as e
use Rattle.jt_ast.specs.declared.expression.Expr.TheVariants.{rolls-Constant, rolls-Name, rolls-Group, rolls-List}
use Rattle.jt_ast.specs.declared.expression.Expr.TheVariants.{rolls-Map, rolls-Attribute, rolls-Item, rolls-Call}
use Rattle.jt_ast.specs.declared.expression.Expr.TheVariants.{rolls-Filter, rolls-Test, rolls-Unary, rolls-Binary}
use Rattle.jt_ast.specs.declared.expression.Expr.TheVariants.{rolls-When, rolls-Choice}
use Rattle.jt_ast.proofs.RemainingParts.{Entry}

-- A function that keeps the keys and maps each value to its view maps pairs to their view.
pairs-map : (g : Entry → String Global × trees.Expr) → ((p : Entry) → (g p).0 ≡ p.0)
    → ((p : Entry) → (g p).1 ≡ expr_view p.1)
    → (ps : List Entry) → pairs_of (map g ps) ≡ pairs_view ps
pairs-map g k v [] = refl
pairs-map g k v (p ∷ ps) =
    ap (λ s. pair (string_bytes s) (g p).1 (pairs_of (map g ps))) (k p)
    ∙ ap (λ t. pair (string_bytes p.0) t (pairs_of (map g ps))) (v p)
    ∙ ap (pair (string_bytes p.0) (expr_view p.1)) (pairs-map g k v ps)

pub view_List : (ts : Vec Expr Global) → expr_view (e.List ts) ≡ trees.list_of (exprs_view ts.items)
view_List ts = ap expr_view (sym (rolls-List ts)) ∙ fold-roll-Expr trees.Expr expr_step (Expr-F.List ts)

pub view_Map : (ps : Vec Entry Global) → expr_view (e.Map ps) ≡ trees.map_of (pairs_view ps.items)
view_Map ps =
    ap expr_view (sym (rolls-Map ps)) ∙ fold-roll-Expr trees.Expr expr_step (Expr-F.Map ps)
    ∙ ap trees.map_of (pairs-map _ (λ p. refl) (λ p. refl) ps.items)

pub view_Attribute : (a : Box Expr Global) (k : String Global)
    → expr_view (e.Attribute a k) ≡ trees.attribute (expr_view a.value) (string_bytes k)
view_Attribute a k =
    ap expr_view (sym (rolls-Attribute a k)) ∙ fold-roll-Expr trees.Expr expr_step (Expr-F.Attribute a k)

pub view_Item : (a b : Box Expr Global) → expr_view (e.Item a b) ≡ trees.item (expr_view a.value) (expr_view b.value)
view_Item a b = ap expr_view (sym (rolls-Item a b)) ∙ fold-roll-Expr trees.Expr expr_step (Expr-F.Item a b)

pub view_Call : (a : Box Expr Global) (ts : Vec Expr Global) (ps : Vec Entry Global)
    → expr_view (e.Call a ts ps) ≡ trees.call (expr_view a.value) (exprs_view ts.items) (pairs_view ps.items)
view_Call a ts ps =
    ap expr_view (sym (rolls-Call a ts ps)) ∙ fold-roll-Expr trees.Expr expr_step (Expr-F.Call a ts ps)
    ∙ ap (trees.call (expr_view a.value) (exprs_view ts.items)) (pairs-map _ (λ p. refl) (λ p. refl) ps.items)

pub view_Filter : (a : Box Expr Global) (x : String Global) (ts : Vec Expr Global) (ps : Vec Entry Global)
    → expr_view (e.Filter a x ts ps)
    ≡ trees.filter (expr_view a.value) (string_bytes x) (exprs_view ts.items) (pairs_view ps.items)
view_Filter a x ts ps =
    ap expr_view (sym (rolls-Filter a x ts ps)) ∙ fold-roll-Expr trees.Expr expr_step (Expr-F.Filter a x ts ps)
    ∙ ap (trees.filter (expr_view a.value) (string_bytes x) (exprs_view ts.items))
    (pairs-map _ (λ p. refl) (λ p. refl) ps.items)

pub view_Test : (a : Box Expr Global) (n : Polarity) (x : String Global) (ts : Vec Expr Global) (ps : Vec Entry Global)
    → expr_view (e.Test a n x ts ps)
    ≡ trees.test (expr_view a.value) (is_negated n) (string_bytes x) (exprs_view ts.items) (pairs_view ps.items)
view_Test a n x ts ps =
    ap expr_view (sym (rolls-Test a n x ts ps)) ∙ fold-roll-Expr trees.Expr expr_step (Expr-F.Test a n x ts ps)
    ∙ ap (trees.test (expr_view a.value) (is_negated n) (string_bytes x) (exprs_view ts.items))
    (pairs-map _ (λ p. refl) (λ p. refl) ps.items)

pub view_Unary : (op : UnaryOperator) (a : Box Expr Global)
    → expr_view (e.Unary op a) ≡ trees.unary op (expr_view a.value)
view_Unary op a = ap expr_view (sym (rolls-Unary op a)) ∙ fold-roll-Expr trees.Expr expr_step (Expr-F.Unary op a)

pub view_Binary : (op : BinaryOperator) (a b : Box Expr Global)
    → expr_view (e.Binary op a b) ≡ trees.binary op (expr_view a.value) (expr_view b.value)
view_Binary op a b =
    ap expr_view (sym (rolls-Binary op a b)) ∙ fold-roll-Expr trees.Expr expr_step (Expr-F.Binary op a b)

pub view_When : (c a : Box Expr Global) → expr_view (e.When c a) ≡ trees.when (expr_view c.value) (expr_view a.value)
view_When c a = ap expr_view (sym (rolls-When c a)) ∙ fold-roll-Expr trees.Expr expr_step (Expr-F.When c a)

pub view_Choice : (c a b : Box Expr Global)
    → expr_view (e.Choice c a b) ≡ trees.choice (expr_view c.value) (expr_view a.value) (expr_view b.value)
view_Choice c a b = ap expr_view (sym (rolls-Choice c a b)) ∙ fold-roll-Expr trees.Expr expr_step (Expr-F.Choice c a b)

-- ---- the views of forms, given the values of references to their parts

pub shown_item : (x a b : Expr) (p q : Box Expr Global) → x ≡ e.Item p q → a ≡ p.value → b ≡ q.value
    → trees.item (expr_view a) (expr_view b) ≡ expr_view x
shown_item x a b p q is f g =
    ap (λ z. trees.item (expr_view z) (expr_view b)) f ∙ ap (λ z. trees.item (expr_view p.value) (expr_view z)) g
    ∙ sym (ap expr_view is ∙ view_Item p q)

pub shown_binary : (x a b : Expr) (o : BinaryOperator) (p q : Box Expr Global) → x ≡ e.Binary o p q → a ≡ p.value
    → b ≡ q.value → trees.binary o (expr_view a) (expr_view b) ≡ expr_view x
shown_binary x a b o p q is f g =
    ap (λ z. trees.binary o (expr_view z) (expr_view b)) f
    ∙ ap (λ z. trees.binary o (expr_view p.value) (expr_view z)) g ∙ sym (ap expr_view is ∙ view_Binary o p q)

pub shown_when : (x a b : Expr) (p q : Box Expr Global) → x ≡ e.When p q → a ≡ p.value → b ≡ q.value
    → trees.when (expr_view a) (expr_view b) ≡ expr_view x
shown_when x a b p q is f g =
    ap (λ z. trees.when (expr_view z) (expr_view b)) f ∙ ap (λ z. trees.when (expr_view p.value) (expr_view z)) g
    ∙ sym (ap expr_view is ∙ view_When p q)

pub shown_choice : (x a b c : Expr) (p q r : Box Expr Global) → x ≡ e.Choice p q r → a ≡ p.value → b ≡ q.value
    → c ≡ r.value → trees.choice (expr_view a) (expr_view b) (expr_view c) ≡ expr_view x
shown_choice x a b c p q r is f g h =
    ap (λ z. trees.choice (expr_view z) (expr_view b) (expr_view c)) f
    ∙ ap (λ z. trees.choice (expr_view p.value) (expr_view z) (expr_view c)) g
    ∙ ap (λ z. trees.choice (expr_view p.value) (expr_view q.value) (expr_view z)) h
    ∙ sym (ap expr_view is ∙ view_Choice p q r)

pub shown_test : (x a : Expr) (n : Polarity) (k : String Global) (us : List Expr) (qs : List Entry)
    (p : Box Expr Global) (ts : Vec Expr Global) (ps : Vec Entry Global)
    → x ≡ e.Test p n k ts ps → a ≡ p.value → us ≡ ts.items → qs ≡ ps.items
    → trees.test (expr_view a) (is_negated n) (string_bytes k) (exprs_view us) (pairs_view qs) ≡ expr_view x
shown_test x a n k us qs p ts ps is f g h =
    ap (λ z. trees.test (expr_view z) (is_negated n) (string_bytes k) (exprs_view us) (pairs_view qs)) f
    ∙ ap (λ z. trees.test (expr_view p.value) (is_negated n) (string_bytes k) (exprs_view z) (pairs_view qs)) g
    ∙ ap (λ z. trees.test (expr_view p.value) (is_negated n) (string_bytes k) (exprs_view ts.items) (pairs_view z)) h
    ∙ sym (ap expr_view is ∙ view_Test p n k ts ps)

pub shown_call : (x f : Expr) (us : List Expr) (qs : List Entry) (p : Box Expr Global) (ts : Vec Expr Global)
    (ps : Vec Entry Global)
    → x ≡ e.Call p ts ps → f ≡ p.value → us ≡ ts.items → qs ≡ ps.items
    → trees.call (expr_view f) (exprs_view us) (pairs_view qs) ≡ expr_view x
shown_call x f us qs p ts ps is g h k =
    ap (λ z. trees.call (expr_view z) (exprs_view us) (pairs_view qs)) g
    ∙ ap (λ z. trees.call (expr_view p.value) (exprs_view z) (pairs_view qs)) h
    ∙ ap (λ z. trees.call (expr_view p.value) (exprs_view ts.items) (pairs_view z)) k
    ∙ sym (ap expr_view is ∙ view_Call p ts ps)

pub shown_filter : (x a : Expr) (k : String Global) (us : List Expr) (qs : List Entry) (p : Box Expr Global)
    (ts : Vec Expr Global) (ps : Vec Entry Global)
    → x ≡ e.Filter p k ts ps → a ≡ p.value → us ≡ ts.items → qs ≡ ps.items
    → trees.filter (expr_view a) (string_bytes k) (exprs_view us) (pairs_view qs) ≡ expr_view x
shown_filter x a k us qs p ts ps is f g h =
    ap (λ z. trees.filter (expr_view z) (string_bytes k) (exprs_view us) (pairs_view qs)) f
    ∙ ap (λ z. trees.filter (expr_view p.value) (string_bytes k) (exprs_view z) (pairs_view qs)) g
    ∙ ap (λ z. trees.filter (expr_view p.value) (string_bytes k) (exprs_view ts.items) (pairs_view z)) h
    ∙ sym (ap expr_view is ∙ view_Filter p k ts ps)

pub shown_attribute : (x a : Expr) (p : Box Expr Global) (k : String Global) → x ≡ e.Attribute p k → a ≡ p.value
    → trees.attribute (expr_view a) (string_bytes k) ≡ expr_view x
shown_attribute x a p k is f =
    ap (λ z. trees.attribute (expr_view z) (string_bytes k)) f ∙ sym (ap expr_view is ∙ view_Attribute p k)

pub shown_unary : (x a : Expr) (o : UnaryOperator) (p : Box Expr Global) → x ≡ e.Unary o p → a ≡ p.value
    → trees.unary o (expr_view a) ≡ expr_view x
shown_unary x a o p is f = ap (λ z. trees.unary o (expr_view z)) f ∙ sym (ap expr_view is ∙ view_Unary o p)
