-- Each form of resolved statement has the view of its definition: a function that puts it before a
-- body.
use Rattle.std.proofs.Common.{◌≡◌, ℕ, Bool, List, [], ◌∷◌, ◌++◌, map, Option, refl, sym, ap, ◌∙◌, rules, Vec, Global}
use Rattle.std.specs.Prelude.{option_map}
use Rattle.jt_ast.specs.Expressions.{Text}
use Rattle.jt_ir.specs.Slots as slots
use Rattle.jt_ir.specs.Slots.{SBody, none}
use Rattle.jt_ir.specs.View.{Front, slot_view, targets_view, place_view, expr_view, row_view, body_front, choice_front}
use Rattle.jt_ir.specs.View.{filtered_view, stmt_step, stmt_view, body_view, choice_view}
use Rattle.jt_ir.specs.declared.program.Place.{Place}
use Rattle.jt_ir.specs.declared.program.Slot.{Slot}
use Rattle.jt_ir.specs.declared.program.Targets.{Targets}
use Rattle.jt_ir.specs.declared.program.SlotBranch.{SlotBranch}
use Rattle.jt_ir.specs.declared.program.SlotExpr.{SlotExpr}
use Rattle.jt_ir.specs.declared.program.Filtered.{Filtered}
use Rattle.jt_ir.specs.declared.program.SlotStmt.{SlotStmt, the_lemmas, fold-roll-SlotStmt}
use Rattle.jt_ir.specs.declared.program.SlotStmt.TheOpen.{SlotStmt-F}
use Rattle.jt_ir.specs.declared.program.SlotStmt.TheVariants as s
use Rattle.jt_ir.specs.declared.program.SlotStmt.TheVariants.{rolls-If, rolls-For, rolls-Capture}
use Rattle.jt_ir.proofs.ExpressionViews.{Entry}

abbrev pub SBranch : Type 0
SBranch = SlotBranch SlotStmt

abbrev Shown : Type 0
Shown = SlotBranch Front

module _ (templates : List Text) where
  -- If `g` keeps the place and the condition of each branch and views its body, then it views the
  -- branches.
  choice_map : (g : SBranch → Shown) → ((b : SBranch) → (g b).place ≡ b.place)
      → ((b : SBranch) → (g b).condition ≡ b.condition)
      → ((b : SBranch) → (g b).body.items ≡ map (stmt_view templates) b.body.items)
      → (bs : List SBranch) (other : Front) (behind : SBody ℕ)
      → choice_front templates (map g bs) other behind ≡ choice_view templates bs other behind
  choice_map g p q r [] other behind = refl
  choice_map g p q r (b ∷ bs) other behind =
      let rest = choice_front templates (map g bs) other slots.end in
      let shown = λ (l : Place) (e : SlotExpr) (fs : List Front) (z : SBody ℕ).
      slots.stmt (slots.if_else (place_view templates l) (expr_view e) (body_front fs slots.end) z) behind in
      ap (λ (l : Place). shown l (g b).condition (g b).body.items rest) (p b)
      ∙ ap (λ (e : SlotExpr). shown b.place e (g b).body.items rest) (q b)
      ∙ ap (λ (fs : List Front). shown b.place b.condition fs rest) (r b)
      ∙ ap (λ (z : SBody ℕ). shown b.place b.condition (map (stmt_view templates) b.body.items) z)
      (choice_map g p q r bs other slots.end)

  pub view_If : (bs : Vec SBranch Global) (other : Vec SlotStmt Global) (behind : SBody ℕ)
      → stmt_view templates (s.If bs other) behind
      ≡ choice_view templates bs.items (body_view templates other.items) behind
  view_If bs other behind =
      ap (λ (x : SlotStmt). stmt_view templates x behind) (sym (rolls-If bs other))
      ∙ ap (λ (f : Front). f behind) (fold-roll-SlotStmt Front (stmt_step templates) (SlotStmt-F.If bs other))
      ∙ choice_map _ (λ b. refl) (λ b. refl) (λ b. refl) bs.items (body_view templates other.items) behind

  pub view_For : (p : Place) (xs : Targets) (e : SlotExpr) (c : Option SlotExpr) (body other : Vec SlotStmt Global)
      (behind : SBody ℕ)
      → stmt_view templates (s.For p xs e c body other) behind
      ≡ slots.stmt (slots.for_each (place_view templates p) (targets_view xs) (expr_view e) (option_map expr_view c)
      (body_view templates body.items slots.end) (body_view templates other.items slots.end)) behind
  view_For p xs e c body other behind =
      ap (λ (x : SlotStmt). stmt_view templates x behind) (sym (rolls-For p xs e c body other))
      ∙ ap (λ (f : Front). f behind)
      (fold-roll-SlotStmt Front (stmt_step templates) (SlotStmt-F.For p xs e c body other))

  pub view_Capture : (escaping : Bool) (x : Slot) (body : Vec SlotStmt Global) (behind : SBody ℕ)
      → stmt_view templates (s.Capture escaping x body) behind
      ≡ slots.stmt (slots.capture escaping (slot_view x) (body_view templates body.items slots.end)) behind
  view_Capture escaping x body behind =
      ap (λ (z : SlotStmt). stmt_view templates z behind) (sym (rolls-Capture escaping x body))
      ∙ ap (λ (f : Front). f behind)
      (fold-roll-SlotStmt Front (stmt_step templates) (SlotStmt-F.Capture escaping x body))

  pub view_PutPooled : (i : ℕ) (behind : SBody ℕ)
      → stmt_view templates (s.PutPooled i) behind ≡ slots.stmt (slots.put_pooled i) behind
  view_PutPooled i behind = search (rules, the_lemmas)

  pub view_Print : (p : Place) (escaping : Bool) (v : Filtered) (behind : SBody ℕ)
      → stmt_view templates (s.Print p escaping v) behind
      ≡ slots.stmt (slots.print (place_view templates p) escaping (filtered_view v)) behind
  view_Print p escaping v behind = search (rules, the_lemmas)

  pub view_Assign : (p : Place) (xs : Targets) (e : SlotExpr) (behind : SBody ℕ)
      → stmt_view templates (s.Assign p xs e) behind
      ≡ slots.stmt (slots.assign (place_view templates p) (targets_view xs) (expr_view e)) behind
  view_Assign p xs e behind = search (rules, the_lemmas)

  pub view_Run : (u : ℕ) (es : Vec Entry Global) (behind : SBody ℕ)
      → stmt_view templates (s.Run u es) behind ≡ slots.stmt (slots.run u (row_view es.items none)) behind
  view_Run u es behind = search (rules, the_lemmas)

  -- ---- One more statement or branch

  pub body_push : (ss : List SlotStmt) (x : SlotStmt) (behind : SBody ℕ)
      → body_view templates (ss ++ x ∷ []) behind ≡ body_view templates ss (stmt_view templates x behind)
  body_push [] x behind = refl
  body_push (y ∷ ss) x behind = ap (stmt_view templates y) (body_push ss x behind)

  -- A branch before the `else` part of an `if`.
  abbrev pub joined : SBranch → SBody ℕ → Front
  joined b other behind =
      slots.stmt (slots.if_else (place_view templates b.place) (expr_view b.condition)
      (body_view templates b.body.items slots.end) other) behind

  pub choice_push : (bs : List SBranch) (b : SBranch) (other : Front) (behind : SBody ℕ)
      → choice_view templates (bs ++ b ∷ []) other behind ≡ choice_view templates bs (joined b (other slots.end)) behind
  choice_push [] b other behind = refl
  choice_push (d ∷ bs) b other behind = ap (λ z. joined d z behind) (choice_push bs b other slots.end)
