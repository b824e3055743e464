-- The number of locals that resolved statements use.
pub mod Vocabulary
pub use Vocabulary.*
use Rattle.jt_ir.proofs.ExpressionViews

-- Lemmas of lists that several functions need.
pub ruleset list_lemmas = (length-map, append-nil, take_all)

-- ---- the count does not depend on pool indices

both_counted : {a b c d : ℕ} → a ≡ b → c ≡ d → max a c ≡ max b d
both_counted e f = rw (e, f)

mutual
  pub expr_counted : (e : Term) (n : ℕ) → expr_locals (placed_expr e n) ≡ expr_locals e
  expr_counted (slots.made k es) n = row_counted es n
  expr_counted (slots.conjunction a b) n = both_counted (expr_counted a _) (expr_counted b _)
  expr_counted (slots.disjunction a b) n = both_counted (expr_counted a _) (expr_counted b _)
  expr_counted (slots.choice c a b) n =
      both_counted (expr_counted c _) (both_counted (expr_counted a _) (expr_counted b _))
  expr_counted (slots.invoke u escaping es) n = row_counted es n
  expr_counted a0 n = refl

  pub row_counted : (es : Row) (n : ℕ) → row_locals (placed_row es n) ≡ row_locals es
  row_counted slots.none n = refl
  row_counted (slots.item e es) n = both_counted (expr_counted e _) (row_counted es _)
  row_counted (slots.aside i e es) n =
      both_counted refl (both_counted (expr_counted e _) (row_counted es _))

pub condition_counted : (k : Option Term) (n : ℕ)
    → condition_locals (placed_condition k n) ≡ condition_locals k
condition_counted None n = refl
condition_counted (Some c) n = expr_counted c n

mutual
  pub stmt_counted : (c : slots.SlotStmt Constant) (n : ℕ) → stmt_locals (placed_stmt c n) ≡ stmt_locals c
  stmt_counted (slots.if_else p c a b) n =
      both_counted (expr_counted c _) (both_counted (body_counted a _) (body_counted b _))
  stmt_counted (slots.for_each p xs e c body other) n =
      search (arith, rules, both_counted, expr_counted, condition_counted, body_counted body, body_counted other)
  stmt_counted (slots.capture escaping s body) n = both_counted refl (body_counted body n)
  stmt_counted a0 n = search (arith, rules, expr_counted, both_counted, row_counted)

  pub body_counted : (b : Stmts) (n : ℕ) → body_locals (placed_body b n) ≡ body_locals b
  body_counted slots.end n = refl
  body_counted (slots.stmt c rest) n = both_counted (stmt_counted c _) (body_counted rest _)

-- ---- numbers

pub max_zero : (n : ℕ) → max n 0 ≡ n
max_zero n = omega arith

max_again : (a b c : ℕ) → max (max a b) c ≡ max a (max b c)
max_again a b c = omega arith

else_max : (l m r c t b f k rest : ℕ) → m ≡ max l (max (max c t) b) → max r 0 ≡ max m f → rest ≡ max b f
    → max r k ≡ max l (max (max c (max t rest)) k)
else_max l m r c t b f k rest e g h = rw (sym (max_zero r) ∙ g, e, h) (simp max_again)

-- The numbers of a loop: of its targets, its items, its condition, its body and its `else` part.
pub loop_max : (l m g k t r x e c b o z : ℕ) → m ≡ max l x → g ≡ max m e → k ≡ max g c → max t 0 ≡ max k b
    → max r 0 ≡ max t o → max r z ≡ max l (max (max x (max (max e c) (max b o))) z)
loop_max l m g k t r x e c b o z f p q u v =
    rw (sym (max_zero r) ∙ v, sym (max_zero t) ∙ u, q, p, f) (simp max_again)

-- ---- branches

else_counted : (templates : List Text) (bs : List SBranch) (f : Front)
    → body_locals (choice_view templates bs f slots.end)
    ≡ max (branches_locals templates bs) (body_locals (f slots.end))
else_counted templates [] f = omega arith
else_counted templates (b ∷ bs) f = (let rest = else_counted templates bs f in omega arith)

-- The last local after an `if`, from the one after its branches and the one after its `else` part.
pub choice_reaches : (templates : List Text) (bs : List SBranch) (f : Front) (l m r : Option ℕ)
    → up_to m ≡ max (up_to l) (branches_locals templates bs) → Reaches f m r
    → Reaches (choice_view templates bs f) l r
choice_reaches templates [] f l m r e h behind = (let here = h behind in omega arith)
choice_reaches templates (b ∷ bs) f l m r e h behind =
    else_max _ _ _ _ _ _ _ _ _ e (h slots.end) (else_counted templates bs f)

-- ---- loops that count

pub slots_step : (ss : List (Option code_slot.Slot)) (i : ℕ) (d : Option code_slot.Slot) (n m m' r : ℕ) → i < length ss
    → n ≡ target_locals (option_map slot_view (get_or ss i d)) → m' ≡ max m n
    → max m (slots_locals (map (option_map slot_view) (drop i ss))) ≡ r
    → max m' (slots_locals (map (option_map slot_view) (drop (i + 1) ss))) ≡ r
slots_step ss i d n m m' r lt is e so =
    let left = ap (λ l. slots_locals (map (option_map slot_view) l)) (drop_more ss i d lt)
    ∙ targets_first (option_map slot_view (get_or ss i d)) (map (option_map slot_view) (drop (i + 1) ss)) in omega arith
  where
    targets_first : (s : Option slots.Slot) (rest : List (Option slots.Slot))
        → slots_locals (s ∷ rest) ≡ max (target_locals s) (slots_locals rest)
    targets_first None rest = omega arith
    targets_first (Some s) rest = refl

pub row_step : (es : List Entry) (i : ℕ) (b : Entry) (n m m' r : ℕ) → i < length es → b ≡ get_or es i b
    → n ≡ max m (expr_locals (expr_view b.1)) → m' ≡ max n (up_to b.0)
    → max m (row_locals (row_view (drop i es) slots.none)) ≡ r
    → max m' (row_locals (row_view (drop (i + 1) es) slots.none)) ≡ r
row_step es i b n m m' r lt is e f so =
    let left = ap row_locals (ExpressionViews.row_left es i b lt is)
    ∙ entry_first b.0 (expr_view b.1) (row_view (drop (i + 1) es) slots.none) in omega arith
  where
    entry_first : (o : Option ℕ) (x : slots.SlotExpr ℕ) (rest : SRow ℕ)
        → row_locals (entry_front o x rest) ≡ max (up_to o) (max (expr_locals x) (row_locals rest))
    entry_first None x rest = omega arith
    entry_first (Some i) x rest = refl

-- The locals of the arguments of filters.
abbrev pub filters_locals : List SlotFilter → ℕ
filters_locals [] = 0
filters_locals (f ∷ fs) = max (row_locals (row_view f.row.items slots.none)) (filters_locals fs)

pub required_counted : (b : Bool) (x : slots.SlotExpr ℕ) → expr_locals (slots.required_if b x) ≡ expr_locals x
required_counted false x = refl
required_counted true x = max_zero (expr_locals x)

pub filters_counted : (fs : List SlotFilter) (x : slots.SlotExpr ℕ)
    → expr_locals (filters_after fs x) ≡ max (expr_locals x) (filters_locals fs)
filters_counted [] x = sym (max_zero (expr_locals x))
filters_counted (f ∷ fs) x = search (arith, rules, filters_counted fs, required_counted, max_again)
