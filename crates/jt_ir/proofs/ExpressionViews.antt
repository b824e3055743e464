-- Each form of resolved expression has the view of its definition.
use Rattle.std.proofs.Common.{◌≡◌, ℕ, ◌+◌, ◌<◌, List, [], ◌∷◌, ◌++◌, length, take, drop, get_or, map, refl, sym}
use Rattle.std.proofs.Common.{ap, ◌∙◌, Bool, Vec, Box, Global, Option}
use Rattle.std.proofs.lemmas.List.{drop_more, take_more}
use Rattle.jt_ir.specs.Slots as slots
use Rattle.jt_ir.specs.Slots.{SRow, none}
use Rattle.jt_ir.specs.View.{slot_view, nary_op_view, entry_front, row_front, expr_step, expr_view, row_view}
use Rattle.jt_ir.specs.View.{filter_after, filters_after}
use Rattle.jt_ir.specs.declared.program.Slot.{Slot}
use Rattle.jt_ids.specs.declared.loop_field.LoopField.{LoopField}
use Rattle.jt_ir.specs.declared.program.NaryOp.{NaryOp}
use Rattle.jt_ir.specs.declared.program.SlotFilter.{SlotFilter}
use Rattle.jt_ir.specs.declared.program.SlotExpr.{SlotExpr, fold-roll-SlotExpr}
use Rattle.jt_ir.specs.declared.program.SlotExpr.TheOpen.{SlotExpr-F}
use Rattle.jt_ir.specs.declared.program.SlotExpr.TheVariants as e
use Rattle.jt_ir.specs.declared.program.SlotExpr.TheVariants.{rolls-Pooled, rolls-Variable, rolls-Field, rolls-Absent}
use Rattle.jt_ir.specs.declared.program.SlotExpr.TheVariants.{rolls-Made, rolls-Conjunction, rolls-Disjunction}
use Rattle.jt_ir.specs.declared.program.SlotExpr.TheVariants.{rolls-Choice, rolls-Invoke}

abbrev pub Entry : Type 0
Entry = Option ℕ × SlotExpr

abbrev Shown : Type 0
Shown = Option ℕ × slots.SlotExpr ℕ

-- If `g` keeps the local of each entry and views its expression, then it views the sequence.
row_map : (g : Entry → Shown) → ((b : Entry) → (g b).0 ≡ b.0) → ((b : Entry) → (g b).1 ≡ expr_view b.1)
    → (es : List Entry) (behind : SRow ℕ) → row_front (map g es) behind ≡ row_view es behind
row_map g k v [] behind = refl
row_map g k v (b ∷ bs) behind =
    ap (λ (z : SRow ℕ). entry_front (g b).0 (g b).1 z) (row_map g k v bs behind)
    ∙ ap (λ (i : Option ℕ). entry_front i (g b).1 (row_view bs behind)) (k b)
    ∙ ap (λ (x : slots.SlotExpr ℕ). entry_front b.0 x (row_view bs behind)) (v b)

pub view_Pooled : (i : ℕ) → expr_view (e.Pooled i) ≡ slots.pooled i
view_Pooled i =
    ap expr_view (sym (rolls-Pooled i)) ∙ fold-roll-SlotExpr (slots.SlotExpr ℕ) expr_step (SlotExpr-F.Pooled i)

pub view_Variable : (s : Slot) → expr_view (e.Variable s) ≡ slots.variable (slot_view s)
view_Variable s =
    ap expr_view (sym (rolls-Variable s)) ∙ fold-roll-SlotExpr (slots.SlotExpr ℕ) expr_step (SlotExpr-F.Variable s)

pub view_Field : (f : LoopField) → expr_view (e.Field f) ≡ slots.field f
view_Field f = ap expr_view (sym (rolls-Field f)) ∙ fold-roll-SlotExpr (slots.SlotExpr ℕ) expr_step (SlotExpr-F.Field f)

pub view_Absent : expr_view e.Absent ≡ slots.absent
view_Absent = ap expr_view (sym rolls-Absent) ∙ fold-roll-SlotExpr (slots.SlotExpr ℕ) expr_step SlotExpr-F.Absent

pub view_Made : (k : NaryOp) (es : Vec Entry Global)
    → expr_view (e.Made k es) ≡ slots.made (nary_op_view k) (row_view es.items none)
view_Made k es =
    ap expr_view (sym (rolls-Made k es)) ∙ fold-roll-SlotExpr (slots.SlotExpr ℕ) expr_step (SlotExpr-F.Made k es)
    ∙ ap (slots.made (nary_op_view k)) (row_map _ (λ b. refl) (λ b. refl) es.items none)

pub view_Conjunction : (a b : Box SlotExpr Global)
    → expr_view (e.Conjunction a b) ≡ slots.conjunction (expr_view a.value) (expr_view b.value)
view_Conjunction a b =
    ap expr_view (sym (rolls-Conjunction a b))
    ∙ fold-roll-SlotExpr (slots.SlotExpr ℕ) expr_step (SlotExpr-F.Conjunction a b)

pub view_Disjunction : (a b : Box SlotExpr Global)
    → expr_view (e.Disjunction a b) ≡ slots.disjunction (expr_view a.value) (expr_view b.value)
view_Disjunction a b =
    ap expr_view (sym (rolls-Disjunction a b))
    ∙ fold-roll-SlotExpr (slots.SlotExpr ℕ) expr_step (SlotExpr-F.Disjunction a b)

pub view_Choice : (c a b : Box SlotExpr Global)
    → expr_view (e.Choice c a b) ≡ slots.choice (expr_view c.value) (expr_view a.value) (expr_view b.value)
view_Choice c a b =
    ap expr_view (sym (rolls-Choice c a b)) ∙ fold-roll-SlotExpr (slots.SlotExpr ℕ) expr_step (SlotExpr-F.Choice c a b)

pub view_Invoke : (u : ℕ) (escaping : Bool) (es : Vec Entry Global)
    → expr_view (e.Invoke u escaping es) ≡ slots.invoke u escaping (row_view es.items none)
view_Invoke u escaping es =
    ap expr_view (sym (rolls-Invoke u escaping es))
    ∙ fold-roll-SlotExpr (slots.SlotExpr ℕ) expr_step (SlotExpr-F.Invoke u escaping es)
    ∙ ap (slots.invoke u escaping) (row_map _ (λ b. refl) (λ b. refl) es.items none)

-- ---- Views by the contents of boxes

pub seen_conjunction : (s : SlotExpr) (a b : Box SlotExpr Global) (x y : SlotExpr) → s ≡ e.Conjunction a b → x ≡ a.value
    → y ≡ b.value → expr_view s ≡ slots.conjunction (expr_view x) (expr_view y)
seen_conjunction s a b x y is p q =
    ap expr_view is ∙ view_Conjunction a b ∙ ap (λ z. slots.conjunction (expr_view z) (expr_view b.value)) (sym p)
    ∙ ap (λ z. slots.conjunction (expr_view x) (expr_view z)) (sym q)

pub seen_disjunction : (s : SlotExpr) (a b : Box SlotExpr Global) (x y : SlotExpr) → s ≡ e.Disjunction a b → x ≡ a.value
    → y ≡ b.value → expr_view s ≡ slots.disjunction (expr_view x) (expr_view y)
seen_disjunction s a b x y is p q =
    ap expr_view is ∙ view_Disjunction a b ∙ ap (λ z. slots.disjunction (expr_view z) (expr_view b.value)) (sym p)
    ∙ ap (λ z. slots.disjunction (expr_view x) (expr_view z)) (sym q)

pub seen_choice : (s : SlotExpr) (c a b : Box SlotExpr Global) (w x y : SlotExpr) → s ≡ e.Choice c a b → w ≡ c.value
    → x ≡ a.value → y ≡ b.value → expr_view s ≡ slots.choice (expr_view w) (expr_view x) (expr_view y)
seen_choice s c a b w x y is o p q =
    ap expr_view is ∙ view_Choice c a b
    ∙ ap (λ z. slots.choice (expr_view z) (expr_view a.value) (expr_view b.value)) (sym o)
    ∙ ap (λ z. slots.choice (expr_view w) (expr_view z) (expr_view b.value)) (sym p)
    ∙ ap (λ z. slots.choice (expr_view w) (expr_view x) (expr_view z)) (sym q)

pub seen_made : (s : SlotExpr) (k : NaryOp) (es : Vec Entry Global) (ds : List Entry) → s ≡ e.Made k es → ds ≡ es.items
    → expr_view s ≡ slots.made (nary_op_view k) (row_view ds none)
seen_made s k es ds is same =
    ap expr_view is ∙ view_Made k es ∙ ap (λ (l : List Entry). slots.made (nary_op_view k) (row_view l none)) (sym same)

pub seen_invoke : (s : SlotExpr) (u : ℕ) (escaping : Bool) (es : Vec Entry Global) (ds : List Entry)
    → s ≡ e.Invoke u escaping es → ds ≡ es.items → expr_view s ≡ slots.invoke u escaping (row_view ds none)
seen_invoke s u escaping es ds is same =
    ap expr_view is ∙ view_Invoke u escaping es
    ∙ ap (λ (l : List Entry). slots.invoke u escaping (row_view l none)) (sym same)

-- ---- Sequences

pub row_push : (es : List Entry) (b : Entry) (behind : SRow ℕ)
    → row_view (es ++ b ∷ []) behind ≡ row_view es (entry_front b.0 (expr_view b.1) behind)
row_push [] b behind = refl
row_push (d ∷ es) b behind = ap (λ (z : SRow ℕ). entry_front d.0 (expr_view d.1) z) (row_push es b behind)

pub row_left : (es : List Entry) (i : ℕ) (e : Entry) → i < length es → e ≡ get_or es i e
    → row_view (drop i es) none ≡ entry_front e.0 (expr_view e.1) (row_view (drop (i + 1) es) none)
row_left es i e lt is =
    ap (λ l. row_view l none) (drop_more es i e lt)
    ∙ ap (λ (x : Entry). entry_front x.0 (expr_view x.1) (row_view (drop (i + 1) es) none)) (sym is)

-- ---- Filters of tags

pub filters_push : (fs : List SlotFilter) (f : SlotFilter) (e : slots.SlotExpr ℕ)
    → filters_after (fs ++ f ∷ []) e ≡ filter_after f (filters_after fs e)
filters_push [] f e = refl
filters_push (g ∷ fs) f e = filters_push fs f (filter_after g e)

pub filters_next : (fs : List SlotFilter) (i : ℕ) (f : SlotFilter) (e : slots.SlotExpr ℕ) → i < length fs
    → f ≡ get_or fs i f → filters_after (take (i + 1) fs) e ≡ filter_after f (filters_after (take i fs) e)
filters_next fs i f e lt is =
    ap (λ l. filters_after l e) (take_more fs i f lt) ∙ filters_push (take i fs) (get_or fs i f) e
    ∙ ap (λ (g : SlotFilter). filter_after g (filters_after (take i fs) e)) (sym is)
