-- The test of heights decides whether the height of statements is within a limit.
use Rattle.std.proofs.Common.{◌≡◌, ℕ, ◌+◌, ◌-◌, max, ◌<◌, ◌≤◌, Bool, true, false, ◌&&◌, List, [], ◌∷◌, length, drop}
use Rattle.std.proofs.Common.{get_or, map, Option, refl, sym, ap, ◌∙◌, subst, arith, Vec, Global, rules}
use Rattle.std.specs.List.{AllByRecursion}
use Rattle.std.proofs.lemmas.List.{drop_more, at_drop_all}
use Rattle.std.specs.Prelude.{nat_le, option_map}
use Rattle.std.proofs.lemmas.Bool.Decides.{nat_tests}
use Rattle.std.proofs.Math.Bool.{and-true, and-false}
use Rattle.jt_ast.specs.Expressions.{Text}
use Rattle.jt_ir.specs.Slots as slots
use Rattle.jt_ir.specs.Slots.{SlotStmt, SBody, end}
use Rattle.jt_ir.specs.View.{Front, slot_view, targets_view, place_view, expr_view, stmt_view, body_view, choice_view}
use Rattle.jt_ir.specs.View.{routine_view}
use Rattle.jt_ir.specs.declared.program.Place.{Place}
use Rattle.jt_ir.specs.declared.program.Slot.{Slot}
use Rattle.jt_ir.specs.declared.program.Targets.{Targets}
use Rattle.jt_ir.specs.declared.program.SlotExpr.{SlotExpr}
use Rattle.jt_ir.specs.declared.program.SlotStmt as given
use Rattle.jt_ir.specs.declared.program.Routine as given_routine
use Rattle.jt_ir.specs.declared.program.SlotStmt.TheVariants as v
use Rattle.jt_ir.specs.Size.{expr_height, targets_height, condition_height, stmt_height, body_height}
use Rattle.jt_ir.proofs.StatementViews.{SBranch, view_If, view_For, view_Capture}
use Rattle.jt_codegen.proofs.StatementEmission.{statements_left}

-- The maximum of two heights is within the limit if and only if both are.
pub both_low : (a b c : ℕ) → nat_le (max a b) c ≡ nat_le a c && nat_le b c
both_low a b c = grind (arith, nat_tests)

pub zero_low : (n : ℕ) → nat_le 0 n ≡ true
zero_low n = grind (arith, nat_tests)

raised : (a n : ℕ) → 1 ≤ n → nat_le (1 + a) n ≡ nat_le a (n - 1)
raised a n some = grind (arith, nat_tests)

-- `o` decides whether the statements of `f` are within the limit, whatever follows them.
abbrev pub Passes : ℕ → Front → Bool → Type 0
Passes room f o = (behind : SBody ℕ) → nat_le (body_height (f behind)) room ≡ o && nat_le (body_height behind) room

-- The test decides statements that no statement follows.
pub passes_alone : (room : ℕ) (f : Front) (o : Bool) → Passes room f o → nat_le (body_height (f end)) room ≡ o
passes_alone room f o h = h end ∙ ap (λ z. o && z) (zero_low room) ∙ and-true o

-- The test decides a statement with this view.
pub passes_one : (room : ℕ) (f : Front) (x : SlotStmt ℕ) (o : Bool)
    → ((behind : SBody ℕ) → f behind ≡ slots.stmt x behind) → o ≡ nat_le (stmt_height x) room → Passes room f o
passes_one room f x o seen same behind = search (arith, rules, both_low)

module _ (room : ℕ) (templates : List Text) where
  -- ---- loops

  regrouped : (h t w b o : Bool) → (h && ((t && (w && b)) && o)) ≡ (((h && t) && (w && b)) && o)
  regrouped true t w b o = refl
  regrouped false t w b o = refl

  loop_low : (x y z u v : ℕ) → 1 ≤ room → nat_le (max u (max (1 + max x (max y z)) v)) room
      ≡ (nat_le u room && ((nat_le x (room - 1) && (nat_le y (room - 1) && nat_le z (room - 1))) && nat_le v room))
  loop_low x y z u v some = search (arith, rules, both_low, raised)

  pub for_passes : (s : given.SlotStmt) (p : Place) (xs : Targets) (e : SlotExpr) (c : Option SlotExpr)
      (body other : Vec given.SlotStmt Global) (body' other' : List given.SlotStmt) (h t w b o : Bool)
      → 1 ≤ room
      → s ≡ v.For p xs e c body other → body' ≡ body.items → other' ≡ other.items
      → h ≡ nat_le (expr_height (expr_view e)) room → t ≡ nat_le (targets_height (targets_view xs)) (room - 1)
      → w ≡ nat_le (condition_height (option_map expr_view c)) (room - 1)
      → Passes (room - 1) (body_view templates body') b → Passes room (body_view templates other') o
      → Passes room (stmt_view templates s) (((h && t) && (w && b)) && o)
  for_passes s p xs e c body other body' other' h t w b o some is same_body same_other is_h is_t is_w is_b is_o =
      let x = targets_height (targets_view xs) in
      let y = condition_height (option_map expr_view c) in
      let z = body_height (body_view templates body' end) in
      let u = expr_height (expr_view e) in
      let k = body_height (body_view templates other' end) in
      let form = λ (l m : List given.SlotStmt). slots.for_each (place_view templates p) (targets_view xs) (expr_view e)
      (option_map expr_view c) (body_view templates l end) (body_view templates m end) in
      passes_one room (stmt_view templates s) (form body' other') (((h && t) && (w && b)) && o)
      (λ behind. ap (λ q. stmt_view templates q behind) is ∙ view_For templates p xs e c body other behind
      ∙ ap (λ l. slots.stmt (form l other.items) behind) (sym same_body)
      ∙ ap (λ l. slots.stmt (form body' l) behind) (sym same_other))
      (sym (loop_low x y z u k some
      ∙ ap (λ q. q && ((nat_le x (room - 1) && (nat_le y (room - 1) && nat_le z (room - 1))) && nat_le k room))
      (sym is_h)
      ∙ ap (λ q. h && ((q && (nat_le y (room - 1) && nat_le z (room - 1))) && nat_le k room)) (sym is_t)
      ∙ ap (λ q. h && ((t && (q && nat_le z (room - 1))) && nat_le k room)) (sym is_w)
      ∙ ap (λ q. h && ((t && (w && q)) && nat_le k room)) (passes_alone (room - 1) (body_view templates body') b is_b)
      ∙ ap (λ q. h && ((t && (w && b)) && q)) (passes_alone room (body_view templates other') o is_o)
      ∙ regrouped h t w b o))

  pub capture_passes : (s : given.SlotStmt) (escaping : Bool) (x : Slot) (body : Vec given.SlotStmt Global)
      (body' : List given.SlotStmt) (b : Bool)
      → 1 ≤ room → s ≡ v.Capture escaping x body → body' ≡ body.items → Passes (room - 1) (body_view templates body') b
      → Passes room (stmt_view templates s) b
  capture_passes s escaping x body body' b some is same is_b =
      let form = λ (l : List given.SlotStmt). slots.capture escaping (slot_view x) (body_view templates l end) in
      passes_one room (stmt_view templates s) (form body') b
      (λ behind. ap (λ q. stmt_view templates q behind) is ∙ view_Capture templates escaping x body behind
      ∙ ap (λ l. slots.stmt (form l) behind) (sym same))
      (sym (raised (body_height (body_view templates body' end)) room some
      ∙ passes_alone (room - 1) (body_view templates body') b is_b))

  -- ---- branches

  abbrev pub branches_low : List SBranch → Bool
  branches_low [] = true
  branches_low (b ∷ bs) =
      (nat_le (expr_height (expr_view b.condition)) room
      && nat_le (body_height (body_view templates b.body.items end)) room)
      && branches_low bs

  all_of : (e x l o y : Bool) → ((e && (x && ((l && o) && true))) && y) ≡ ((((e && x) && l) && o) && y)
  all_of e x l o y = search (arith, rules)

  -- The height of a choice is within the limit if and only if its parts are.
  split : (c x l y : ℕ)
      → nat_le (max (max c (max x l)) y) room ≡ (nat_le c room && (nat_le x room && nat_le l room)) && nat_le y room
  split c x l y = search (arith, rules, both_low)

  pub choice_passes : (bs : List SBranch) (other : Front) (o : Bool) → Passes room other o
      → Passes room (choice_view templates bs other) (branches_low bs && o)
  choice_passes [] other o h behind = h behind
  choice_passes (b ∷ bs) other o h behind = search (arith, rules, split, choice_passes bs other o h, zero_low, all_of)

  pub choice_high : (bs : List SBranch) (other : Front) (behind : SBody ℕ) → branches_low bs ≡ false
      → nat_le (body_height (choice_view templates bs other behind)) room ≡ false
  choice_high [] other behind h = absurd cc
  choice_high (b ∷ bs) other behind h =
      let c = expr_height (expr_view b.condition) in
      let x = body_height (body_view templates b.body.items end) in
      let later = body_height (choice_view templates bs other end) in
      split c x later (body_height behind) ∙ ap (λ z. z && nat_le (body_height behind) room)
      (high (nat_le c room) (nat_le x room) (branches_low bs) (nat_le later room) h (λ e. choice_high bs other end e))
    where
      high : (e x l z : Bool) → ((e && x) && l) ≡ false → (l ≡ false → z ≡ false) → (e && (x && z)) ≡ false
      high true true l z h f = f h
      high true false l z h f = refl
      high false x l z h f = refl

  branches_next : (bs : List SBranch) (i : ℕ) (b : SBranch) → i < length bs → b ≡ get_or bs i b
      → branches_low (drop i bs) ≡ (nat_le (expr_height (expr_view b.condition)) room
      && nat_le (body_height (body_view templates b.body.items end)) room)
      && branches_low (drop (i + 1) bs)
  branches_next bs i b lt is =
      ap branches_low (drop_more bs i b lt) ∙ ap (λ (x : SBranch). branches_low (x ∷ drop (i + 1) bs)) (sym is)

  -- The test of a branch decides both its condition and its body.
  branch_same : (b : SBranch) (ss : List given.SlotStmt) (t u : Bool) → ss ≡ b.body.items
      → t ≡ nat_le (expr_height (expr_view b.condition)) room → Passes room (body_view templates ss) u
      → (nat_le (expr_height (expr_view b.condition)) room
      && nat_le (body_height (body_view templates b.body.items end)) room)
      ≡ (t && u)
  branch_same b ss t u same e f = search (arith, rules, passes_alone)

  pub branch_passed : (bs : List SBranch) (i : ℕ) (b : SBranch) (ss : List given.SlotStmt) (t u : Bool) → i < length bs
      → b ≡ get_or bs i b → ss ≡ b.body.items → t ≡ nat_le (expr_height (expr_view b.condition)) room
      → Passes room (body_view templates ss) u → t ≡ true → u ≡ true
      → branches_low (drop i bs) ≡ branches_low (drop (i + 1) bs)
  branch_passed bs i b ss t u lt is same e f low too = search (arith, rules, branches_next, branch_same)

  pub condition_high : (bs : List SBranch) (i : ℕ) (b : SBranch) (t : Bool) → i < length bs → b ≡ get_or bs i b
      → t ≡ nat_le (expr_height (expr_view b.condition)) room → t ≡ false → branches_low (drop i bs) ≡ false
  condition_high bs i b t lt is e high = search (arith, rules, branches_next)

  pub inside_high : (bs : List SBranch) (i : ℕ) (b : SBranch) (ss : List given.SlotStmt) (t u : Bool) → i < length bs
      → b ≡ get_or bs i b → ss ≡ b.body.items → t ≡ nat_le (expr_height (expr_view b.condition)) room
      → Passes room (body_view templates ss) u → u ≡ false → branches_low (drop i bs) ≡ false
  inside_high bs i b ss t u lt is same e f high =
      branches_next bs i b lt is ∙ ap (λ z. z && branches_low (drop (i + 1) bs))
      (branch_same b ss t u same e f ∙ ap (λ z. t && z) high ∙ and-false t)

  pub if_view : (x : given.SlotStmt) (bs : Vec SBranch Global) (other : Vec given.SlotStmt Global) (bs' : List SBranch)
      (other' : List given.SlotStmt)
      → x ≡ v.If bs other → bs' ≡ bs.items → other' ≡ other.items → (behind : SBody ℕ)
      → stmt_view templates x behind ≡ choice_view templates bs' (body_view templates other') behind
  if_view x bs other bs' other' is p q behind =
      ap (λ z. stmt_view templates z behind) is ∙ view_If templates bs other behind
      ∙ ap (λ (l : List SBranch). choice_view templates l (body_view templates other.items) behind) (sym p)
      ∙ ap (λ (l : List given.SlotStmt). choice_view templates bs' (body_view templates l) behind) (sym q)

  -- ---- sequences of statements

  pub body_next : (ss : List given.SlotStmt) (i : ℕ) (x : given.SlotStmt) (t : Bool) (behind : SBody ℕ) → i < length ss
      → x ≡ get_or ss i x → Passes room (stmt_view templates x) t
      → nat_le (body_height (body_view templates (drop i ss) behind)) room
      ≡ t && nat_le (body_height (body_view templates (drop (i + 1) ss) behind)) room
  body_next ss i x t behind lt is h =
      ap (λ b. nat_le (body_height b) room) (statements_left templates ss i x lt is behind)
      ∙ h (body_view templates (drop (i + 1) ss) behind)

-- ---- routines

module _ (room : ℕ) (templates : List Text) where
  abbrev pub RoutinesLow : List given_routine.Routine → Type 0
  RoutinesLow rs = AllByRecursion (λ (r : slots.Routine ℕ). body_height r.body ≤ room) (map (routine_view templates) rs)

  -- All routines are low if and only if the rest are.
  pub record SameLow (all left : List given_routine.Routine) : Type 0 where
    pub all_low : RoutinesLow left → RoutinesLow all
    pub left_low : RoutinesLow all → RoutinesLow left

  pub low_more : (rs : List given_routine.Routine) (i : ℕ) (r : given_routine.Routine) (ss : List given.SlotStmt)
      → i < length rs → r ≡ get_or rs i r → ss ≡ r.body.items → Passes room (body_view templates ss) true
      → SameLow rs (drop i rs) → SameLow rs (drop (i + 1) rs)
  low_more rs i r ss lt is same passes s =
      let left : drop i rs ≡ r ∷ drop (i + 1) rs = drop_more rs i r lt ∙ ap (λ y. y ∷ drop (i + 1) rs) (sym is) in
      let low : nat_le (body_height (body_view templates r.body.items end)) room ≡ true = ap
      (λ (l : List given.SlotStmt). nat_le (body_height (body_view templates l end)) room) (sym same)
      ∙ passes_alone room (body_view templates ss) true passes in
      let within : body_height (body_view templates r.body.items end) ≤ room = grind (arith, nat_tests) in
      record {
        all_low = λ h. s.all_low (subst RoutinesLow (sym left) (within, h));
        left_low = λ h. (subst RoutinesLow left (s.left_low h)).1;
      }

  pub low_not : (rs : List given_routine.Routine) (i : ℕ) (r : given_routine.Routine) (ss : List given.SlotStmt)
      → i < length rs → r ≡ get_or rs i r → ss ≡ r.body.items → Passes room (body_view templates ss) false
      → SameLow rs (drop i rs) → ¬ (RoutinesLow rs)
  low_not rs i r ss lt is same passes s = search (arith, rules, drop_more, passes_alone, nat_tests)

  pub low_all : (rs : List given_routine.Routine) (i : ℕ) → length rs ≤ i → SameLow rs (drop i rs) → RoutinesLow rs
  low_all rs i le s = s.all_low (subst RoutinesLow (sym (at_drop_all (λ l. l) rs i le)) tt)
