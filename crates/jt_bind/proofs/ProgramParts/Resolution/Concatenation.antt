-- The scopes around tags, and the concatenation of resolved expressions, lists of them, and statements.
pub mod LocalCounts
pub use LocalCounts.*
use Rattle.jt_ir.specs.declared.program.Slot.TheVariants as s
use Rattle.jt_ir.specs.declared.program.Targets as code_targets
use Rattle.jt_ir.specs.declared.program.SlotStmt.TheVariants as v
use Rattle.jt_ir.specs.declared.program.SlotExpr.TheVariants as e
use Rattle.jt_ir.specs.declared.program.NaryOp as code_op
use Rattle.jt_semantics.specs.Resolve.{slot_of}
use Rattle.std.proofs.lemmas.Option.{slice_get-map}
use Rattle.jt_ir.specs.declared.program.Filtered.{Filtered}
use Rattle.jt_ir.proofs.StatementViews
use StatementViews.{view_Print, body_push, choice_push, joined, view_Assign, view_PutPooled, view_Run}

-- ---- names with numbers

-- The local that was found, or else another slot.
abbrev pub found_or : Option ℕ → Option Slot → Option Slot
found_or None s = s
found_or (Some i) s = Some (local i)

-- Names that are bound in an inner scope.
pub bound_found : (x : Text) (xs : List Text) (n : ℕ) (f : Option ℕ) (s : Option Slot) (t : Table)
    → found_or f s ≡ slot_in x t → found_or (last_among x xs n f) s ≡ slot_in x (bound_table xs n t)
bound_found x [] n f s t h = h
bound_found x (y ∷ ys) n f s t h =
    search (arith, rules, bound_found x ys (suc n) (if bytes_eq y x then Some n else f) s ((y, local n) ∷ t))

-- One more name is numbered.
pub placed_next : (ks : List (Bor Text)) (i : ℕ) (d : Bor Text) (x : Text) (n n' : ℕ) (f f' : Option ℕ) → i < length ks
    → n' ≡ n + 1 → f' ≡ (if bytes_eq (get_or ks i d).now x then Some n else f)
    → last_among x (texts (drop (i + 1) ks)) n' f' ≡ last_among x (texts (drop i ks)) n f
placed_next ks i d x n n' f f' lt e h = search (arith, rules, add-one, drop_more)

-- ---- scopes

-- One more scope.
pub framed_push : (fs : List NameScope) (f : NameScope) (t : Table)
    → framed (fs ++ f ∷ []) t ≡ bound_table (texts f.names.items) f.first (framed fs t)
framed_push [] f t = refl
framed_push (g ∷ fs) f t = framed_push fs f (bound_table (texts g.names.items) g.first t)

pub entered_more : (rs : List (Rc NameScope Global)) (r : Rc NameScope Global) (f : NameScope) (xs : List Text) (n : ℕ)
    (t : Table)
    → r.value ≡ f → texts f.names.items ≡ xs → f.first ≡ n
    → framed (map (λ z. z.value) (rs ++ r ∷ [])) t ≡ bound_table xs n (framed (map (λ z. z.value) rs) t)
entered_more rs r f xs n t e g h = search (arith, rules, map-append, framed_push)

-- Names that are bound in an environment.
pub senv_bound : (sp : StaticEnv) (xs : List Text) (t : Table) (n : ℕ) → t ≡ bound_table xs sp.free sp.table
    → n ≡ sp.free + length xs → record sp { table = t; free = n } ≡ bound_all xs sp
senv_bound sp xs t n e f = search (arith, rules)

-- ---- slots of names that are set

pub slot_of_found : (x : Text) (t : Table) → slot_of x t ≡ unwrap_or (slot_in x t) (local 0)
slot_of_found x [] = refl
slot_of_found x (b ∷ bs) = search (arith, rules, slot_of_found x bs)

pub viewed_or : (o : Option code_slot.Slot)
    → unwrap_or (option_map slot_view o) (local 0) ≡ slot_view (unwrap_or o (s.Local 0))
viewed_or o = search (arith, rules)

-- ---- names in a list of scopes

-- A name that the innermost scope has, or does not have.
pub framed_found : (x : Text) (rs : List (Rc NameScope Global)) (i n : ℕ) (f : NameScope) (r : Rc NameScope Global)
    (t : Table)
    → i < length rs → n ≡ i + 1 → f ≡ (get_or rs i r).value
    → slot_in x (framed (map (λ f. f.value) (take n rs)) t)
    ≡ found_or (value_in f.index.indices x) (slot_in x (framed (map (λ f. f.value) (take i rs)) t))
framed_found x rs i n f r t lt e is =
    let inner = framed (map (λ f. f.value) (take i rs)) t in
    rw (e, take_more rs i r lt, map-append, framed_push, ← is, f.indexed x)
    (sym (bound_found x (texts f.names.items) f.first None (slot_in x inner) inner refl))

-- ---- expressions

-- The length of a pool after a part.
pub grown_by : (p xs q : List Tree) → q ≡ p ++ xs → length q ≡ length p + length xs
grown_by p xs q e = ap length e ∙ length-append p xs

-- ---- parts of any kind

module _ {Part Item Shown : Type 0} {front : List Item → Shown → Shown} {placed : Part → ℕ → Shown}
    {kept : Part → List Tree} where
  pub lead_none : {a : Part} {es : List Item} {p : List Tree} → Leads front placed kept a a es es p p
  lead_none = record { shown = refl; pooled = refl }

  pub lead_both : {a b c : Part} {es fs gs : List Item} {p q r : List Tree}
      → Leads front placed kept a b es fs p q → Leads front placed kept b c fs gs q r
      → Leads front placed kept a c es gs p r
  lead_both h g = record { shown = g.shown ∙ h.shown; pooled = g.pooled ∙ h.pooled }

  -- The whole may be replaced by an equal one.
  pub lead_of : {a b left : Part} {es fs : List Item} {p q : List Tree} → a ≡ b
      → Leads front placed kept a left es fs p q → Leads front placed kept b left es fs p q
  lead_of e h = rw (← e) h

-- ---- lists of expressions

-- One more expression.
pub row_entry : (o : Option ℕ) (x : SlotExpr) {c : Term} {left : Row} {es fs : List Entry}
    {p q : List Tree}
    → IsPlaced c (expr_view x) p q → fs ≡ es ++ (o, x) ∷ [] → RowLeads (entry o c left) left es fs p q
row_entry None x h e = search (arith, rules, row_push, grown_by, append_assoc)
row_entry (Some i) x h e = search (arith, rules, row_push, grown_by, append_assoc)

-- A whole list of expressions.
pub made_placed : (k : code_op.NaryOp) (row : Entries) {whole : Row} {p q : List Tree}
    → RowLeads whole slots.none [] row.items p q
    → IsPlaced (slots.made (nary_op_view k) whole) (expr_view (e.Made k row)) p q
made_placed k row h = search (arith, rules, append-nil, view_Made)

pub invoked_placed : (row : Entries) {u : ℕ} {escaping : Bool} {whole : Row} {p q : List Tree}
    → RowLeads whole slots.none [] row.items p q
    → IsPlaced (slots.invoke u escaping whole) (expr_view (e.Invoke u escaping row)) p q
invoked_placed row h = search (arith, rules, append-nil, view_Invoke)

-- ---- bodies

pub followed_end : (b : Stmts) → followed b slots.end ≡ b
followed_end slots.end = refl
followed_end (slots.stmt s rest) = ap (slots.stmt s) (followed_end rest)

pub followed_again : (a b c : Stmts) → followed (followed a b) c ≡ followed a (followed b c)
followed_again slots.end b c = refl
followed_again (slots.stmt s rest) b c = ap (slots.stmt s) (followed_again rest b c)

pub followed_values : (a b : Stmts) → body_values (followed a b) ≡ body_values a ++ body_values b
followed_values slots.end b = refl
followed_values (slots.stmt s rest) b = search (arith, rules, followed_values rest b, append_assoc)

module _ (templates : List Text) where
  -- ---- concatenation of parts

  pub emits_nothing : (es : List SlotStmt) (p : List Tree) → Emits templates slots.end es es p p
  emits_nothing es p = λ left. lead_none

  -- A body after another one.
  pub emits_both : (a b : Stmts) (es fs gs : List SlotStmt) (p q r : List Tree)
      → Emits templates a es fs p q → Emits templates b fs gs q r → Emits templates (followed a b) es gs p r
  emits_both a b es fs gs p q r h g = search (arith, rules, lead_both, lead_of, followed_again)

  pub emits_of : (a b : Stmts) (es fs : List SlotStmt) (p q : List Tree) → a ≡ b
      → Emits templates a es fs p q → Emits templates b es fs p q
  emits_of a b es fs p q e h = rw (← e) h

  -- ---- a whole body

  pub body_shown : (w : Stmts) (es : List SlotStmt) (p q : List Tree) → Emits templates w [] es p q
      → ir.body_view templates es slots.end ≡ placed_body w (length p)
  body_shown w es p q h = rw followed_end at (h slots.end).shown

  pub body_pooled : (w : Stmts) (es : List SlotStmt) (p q : List Tree) → Emits templates w [] es p q
      → q ≡ p ++ body_values w
  body_pooled w es p q h = rw (append-nil, followed_end) at (h slots.end).pooled

  -- ---- one more statement

  pub stmt_emitted : (c : slots.SlotStmt Constant) (x : SlotStmt) (ss ts : List SlotStmt)
      (p q : List Tree)
      → ((behind : SBody ℕ) → stmt_view templates x behind ≡ slots.stmt (placed_stmt c (length p)) behind)
      → q ≡ p ++ stmt_values c → ts ≡ ss ++ x ∷ [] → Emits templates (alone c) ss ts p q
  stmt_emitted c x ss ts p q h f e = λ left. record {
    shown = rw (e, body_push, h, grown_by p (stmt_values c) q f);
    pooled = rw (f, append_assoc);
  }

  pub run_emitted : (u : ℕ) (es : Row) (row : Entries) (ss ts : List SlotStmt)
      (p q : List Tree)
      → RowLeads es slots.none [] row.items p q
      → ts ≡ ss ++ v.Run u row ∷ [] → Emits templates (alone (slots.run u es)) ss ts p q
  run_emitted u es row ss ts p q h =
      stmt_emitted (slots.run u es) (v.Run u row) ss ts p q
      (λ behind. rw (view_Run, h.shown)) (rw append-nil at h.pooled)

  pub capture_emitted : (escaping : Bool) (x : code_slot.Slot) (w : Stmts)
      (body : Vec SlotStmt Global) (ss ts : List SlotStmt) (p q : List Tree)
      → Emits templates w [] body.items p q
      → ts ≡ ss ++ v.Capture escaping x body ∷ []
      → Emits templates (alone (slots.capture escaping (slot_view x) w)) ss ts p q
  capture_emitted escaping x w body ss ts p q h =
      search (arith, rules, stmt_emitted, view_Capture, body_shown, body_pooled)

  pub data_emitted : (d : Tree) (i : ℕ) (ss ts : List SlotStmt) (p q : List Tree) → i ≡ length p
      → q ≡ p ++ d ∷ [] → ts ≡ ss ++ v.PutPooled i ∷ [] → Emits templates (alone (slots.put_pooled (own d))) ss ts p q
  data_emitted d i ss ts p q e = search (arith, rules, stmt_emitted, view_PutPooled)

  -- ---- `if` statements

  -- No branch is resolved yet.
  pub choice_same : (whole : Stmts) (bs : List SBranch) (p : List Tree) → bs ≡ []
      → ChoiceLeads templates whole whole bs p p
  choice_same whole bs p e = search (arith, rules)

  -- One more branch.
  pub branch_lead : (whole rest b : Stmts) (pl : Place) (c : Term) (x : SBranch)
      (bs cs : List SBranch) (p q t : List Tree)
      → ChoiceLeads templates whole (alone (slots.if_else pl c b rest)) bs p q → IsBranch templates pl c b x q t
      → cs ≡ bs ++ x ∷ [] → ChoiceLeads templates whole rest cs p t
  branch_lead whole rest b pl c x bs cs p q t so is w =
      let body = body_pooled b x.body.items is.between t is.taken in
      let first = grown_by q (expr_values c) is.between is.asked.pooled in
      let second = grown_by is.between (body_values b) t body in
      record {
        shown = λ o k.
            let last = rw followed_end at (k slots.end) in
            rw w (λ left. rw choice_push (so.shown (joined templates x (o slots.end)) (λ behind.
            rw (
              append-nil,
              is.stands,
              is.asked.shown,
              body_shown b x.body.items is.between t is.taken,
              last,
              second,
              first,
            )) left));
        pooled = rw (body, is.asked.pooled, append_assoc, append_assoc) (simp append-nil at so.pooled);
      }

  -- All branches, and the `else` part.
  pub choice_emitted : (whole last : Stmts) (bs : Vec SBranch Global) (other : Vec SlotStmt Global)
      (ss ts : List SlotStmt) (p q r : List Tree)
      → ChoiceLeads templates whole last bs.items p q → Emits templates last [] other.items q r
      → ts ≡ ss ++ v.If bs other ∷ [] → Emits templates whole ss ts p r
  choice_emitted whole last bs other ss ts p q r h g e = λ left.
      let added = body_pooled last other.items q r g in
      let all : r ≡ p ++ body_values whole = added ∙ h.pooled in
      let other_is = λ (behind : Stmts). rw (grown_by q (body_values last) r added) at (g behind).shown in
      record {
        shown =
            rw (
              e,
              body_push,
              view_If,
              grown_by p (body_values whole) r all,
              h.shown (ir.body_view templates other.items) other_is left,
            );
        pooled = rw (all, append_assoc, followed_values);
      }

-- ---- statements with the places of their tags

module _ (r : Resolver) (line : ℕ) where
  abbrev T : List Text
  T = templates_of r

  abbrev tag : Place
  tag = line_of r line

  pub place_is : place_view T (place_of r.senv line) ≡ tag
  place_is = rw slice_get-map

  pub print_emitted : (c : Term) (x : Filtered) (ss ts : List SlotStmt) (p q : List Tree)
      → IsPlaced c (filtered_view x) p q → ts ≡ ss ++ v.Print (place_of r.senv line) r.senv.escaping x ∷ []
      → Emits T (alone (slots.print tag r.senv.escaping c)) ss ts p q
  print_emitted c x ss ts p q h = search (arith, rules, stmt_emitted, view_Print, place_is)

  pub assign_emitted : (xs : code_targets.Targets) (c : Term) (e : SlotExpr)
      (ss ts : List SlotStmt) (p q : List Tree)
      → IsPlaced c (expr_view e) p q → ts ≡ ss ++ v.Assign (place_of r.senv line) xs e ∷ []
      → Emits T (alone (slots.assign tag (targets_view xs) c)) ss ts p q
  assign_emitted xs c e ss ts p q h = search (arith, rules, stmt_emitted, view_Assign, place_is)

  pub loop_emitted : (xs : slots.Targets) (c : Term) (k : Option Term)
      (turn last : Stmts) (t : Turns) (other : Vec SlotStmt Global)
      (ss ts : List SlotStmt) (p q u : List Tree)
      → AreTurns r.tables.now xs c k turn t p q → Emits T last [] other.items q u
      → ts ≡ ss ++ v.For (place_of r.senv line) t.head.value.targets t.head.value.items t.head.value.condition t.body
      other
      ∷ []
      → Emits T (alone (slots.for_each tag xs c k turn last)) ss ts p u
  loop_emitted xs c k turn last t other ss ts p q u w o =
      let h = w.headed in
      let body = body_pooled T turn t.body.items w.between q w.taken in
      let first = grown_by p (expr_values c) h.given h.goes_over.pooled in
      let second = grown_by h.given (condition_values k) w.between h.asked.pooled in
      let third = grown_by w.between (body_values turn) q body in
      stmt_emitted T (slots.for_each tag xs c k turn last)
      (v.For (place_of r.senv line) t.head.value.targets t.head.value.items t.head.value.condition t.body other) ss ts
      p u
      (λ behind. rw (
        view_For,
        place_is,
        h.takes,
        h.goes_over.shown,
        h.asked.shown,
        body_shown T turn t.body.items w.between q w.taken,
        body_shown T last other.items q u o,
        third,
        second,
        first,
      ))
      (rw (body_pooled T last other.items q u o, body, h.asked.pooled, h.goes_over.pooled) (simp append_assoc))
