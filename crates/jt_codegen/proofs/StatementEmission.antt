-- The code of statements is emitted after other code.
use Rattle.std.proofs.Common.{◌≡◌, ℕ, ◌+◌, ◌-◌, ◌<◌, ◌≤◌, List, [], ◌∷◌, ◌++◌, length, drop, get_or, Option, Some, refl}
use Rattle.std.proofs.Common.{sym, ap, ◌∙◌, subst, arith, length-append, rules}
use Rattle.std.specs.Prelude.{option_map}
use Rattle.std.proofs.lemmas.List.{drop_more, at_drop_all}
use Rattle.jt_image.specs.declared.instruction.Instruction.TheVariants as op
use Rattle.jt_ast.specs.Expressions.{Text}
use Rattle.jt_value.specs.Place.{Place}
use Rattle.jt_ir.specs.Slots as slots
use Rattle.jt_ir.specs.Slots.{SBody}
use Rattle.jt_ir.specs.View.{Front, slot_view, place_view, expr_view, stmt_view, body_view, choice_view}
use Rattle.jt_ir.specs.declared.program.Slot.{Slot}
use Rattle.jt_ir.specs.declared.program.SlotStmt.{SlotStmt}
use Rattle.jt_lower.specs.Asm.{Asm, nil, one, both, choose}
use Rattle.jt_lower.specs.Lower.{expr_asm, store_if_of, stores_asm, stmt_asm, body_asm}
use Rattle.jt_lower.specs.Emission.{StandsFor, Puts, Reserves, Patches, Ends}
use Rattle.jt_lower.specs.declared.emitter.Emitter.{Emitter}
use Rattle.jt_codegen.specs.internal.Statements.{slots_view, Emits, Closes}
use Rattle.jt_ir.proofs.StatementViews.{SBranch}
use Rattle.jt_lower.proofs.JumpPatching.{puts_nothing, puts_then, puts_last, puts_first, puts_choice}

pub stands_itself : (n : ℕ) → StandsFor n n
stands_itself n = record { same = λ l. refl; above = λ l. l }

-- ---- statements

-- The code of a statement with this view is emitted.
pub emits_seen : (ts : List Text) (h : ℕ) (old new : Emitter) (x y : SlotStmt) (form : slots.SlotStmt ℕ) → x ≡ y
    → ((behind : SBody ℕ) → stmt_view ts y behind ≡ slots.stmt form behind) → Puts ts old (stmt_asm form h) new
    → Emits ts h old (stmt_view ts x) new
emits_seen ts h old new x y form is seen p = λ behind final q.
    subst (λ b. Puts ts old (body_asm b h) final) (sym (ap (λ z. stmt_view ts z behind) is ∙ seen behind))
    (puts_then ts old new final (stmt_asm form h) (body_asm behind h) p q)

pub emits_as : (ts : List Text) (h : ℕ) (old new : Emitter) (f g : Front) → ((behind : SBody ℕ) → f behind ≡ g behind)
    → Emits ts h old g new → Emits ts h old f new
emits_as ts h old new f g same e =
    λ behind final q. subst (λ b. Puts ts old (body_asm b h) final) (sym (same behind)) (e behind final q)

-- Statements that no statement follows are emitted.
pub emits_alone : (ts : List Text) (h : ℕ) (old new : Emitter) (f : Front) → Emits ts h old f new
    → Puts ts old (body_asm (f slots.end) h) new
emits_alone ts h old new f e = e slots.end new (puts_nothing ts new)

-- For any later statements: if the code of the rest follows the current code, the code of all
-- statements follows the old code.
abbrev pub Leads : List Text → ℕ → Emitter → Front → Emitter → Front → Type 0
Leads ts h old all now left =
    (behind : SBody ℕ) (final : Emitter) → Puts ts now (body_asm (left behind) h) final
    → Puts ts old (body_asm (all behind) h) final

pub statements_left : (ts : List Text) (ss : List SlotStmt) (i : ℕ) (s : SlotStmt) → i < length ss → s ≡ get_or ss i s
    → (behind : SBody ℕ) → body_view ts (drop i ss) behind ≡ stmt_view ts s (body_view ts (drop (i + 1) ss) behind)
statements_left ts ss i s lt is behind =
    ap (λ l. body_view ts l behind) (drop_more ss i s lt)
    ∙ ap (λ (x : SlotStmt). stmt_view ts x (body_view ts (drop (i + 1) ss) behind)) (sym is)

module _ (templates : List Text) (h : ℕ) where
  pub leads_more : (ss : List SlotStmt) (i : ℕ) (s : SlotStmt) (old now new : Emitter) (all : Front) → i < length ss
      → s ≡ get_or ss i s → Leads templates h old all now (body_view templates (drop i ss))
      → Emits templates h now (stmt_view templates s) new
      → Leads templates h old all new (body_view templates (drop (i + 1) ss))
  leads_more ss i s old now new all lt is l e = λ behind final q.
      l behind final (subst (λ b. Puts templates now (body_asm b h) final)
      (sym (statements_left templates ss i s lt is behind)) (e (body_view templates (drop (i + 1) ss) behind) final q))

  pub leads_all : (ss : List SlotStmt) (i : ℕ) (old now : Emitter) (all : Front) → length ss ≤ i
      → Leads templates h old all now (body_view templates (drop i ss)) → Emits templates h old all now
  leads_all ss i old now all le l = λ behind final q.
      l behind final (subst (λ b. Puts templates now (body_asm b h) final)
      (sym (at_drop_all (λ es. body_view templates es behind) ss i le)) q)

  -- ---- branches

  -- A branch, and the code that is executed if it is not taken.
  abbrev pub first_asm : SBranch → Asm → Asm
  first_asm b other =
      both (expr_asm (Some (place_view templates b.place)) (expr_view b.condition) h)
      (choose (body_asm (body_view templates b.body.items slots.end) h) other)

  -- Branches, and the code that is executed if none is taken.
  abbrev pub inner_asm : List SBranch → Asm → Asm
  inner_asm [] other = other
  inner_asm (b ∷ bs) other = both (first_asm b (inner_asm bs other)) nil

  inner_is : (bs : List SBranch) (other : Front)
      → body_asm (choice_view templates bs other slots.end) h ≡ inner_asm bs (body_asm (other slots.end) h)
  inner_is [] other = refl
  inner_is (b ∷ bs) other = ap (λ x. both (first_asm b x) nil) (inner_is bs other)

  -- The branches so far, the last jumps of which are not patched yet. The jumps are at the points
  -- `ends`, and go to the end of the code that follows.
  pub record Opens (old : Emitter) (all : List SBranch) (now : Emitter) (left : List SBranch) (ends : List ℕ) : Type
      0 where
    pub counted : length ends + length left ≡ length all
    pub puts : (other : Asm) (final done : Emitter) → Puts templates now (inner_asm left other) final
        → Closes final ends done → Puts templates old (inner_asm all other) done

  closes_snoc : (final done : Emitter) (es : List ℕ) (m : ℕ) → Closes final (es ++ m ∷ []) done
      → (mid : Emitter) × Patches final m (op.Jump (length final.code.items)) mid × Closes mid es done
  closes_snoc final done [] m c = (done, subst (λ z. Patches z m (op.Jump (length z.code.items)) done) c.1 c.2, refl)
  closes_snoc final done (e ∷ es) m c = let r = closes_snoc final c.0 es m c.1 in (r.0, r.1, (c.0, r.2, c.2))

  pub opens_more : (bs : List SBranch) (i : ℕ) (b : SBranch) (ss : List SlotStmt) (old now c1 c2 c3 c4 : Emitter)
      (ends : List ℕ) (choice last : ℕ)
      → i < length bs → b ≡ get_or bs i b → ss ≡ b.body.items → Opens old bs now (drop i bs) ends
      → Puts templates now (expr_asm (Some (place_view templates b.place)) (expr_view b.condition) h) c1
      → Reserves c1 (op.JumpIfFalse 0) choice c2 → Emits templates h c2 (body_view templates ss) c3
      → Ends c3 choice last c4
      → Opens old bs c4 (drop (i + 1) bs) (ends ++ last ∷ [])
  opens_more bs i b ss old now c1 c2 c3 c4 ends choice last lt is same o tested tests taken ended = record {
    counted = omega (arith, o.counted, length-append ends (last ∷ []), ap length (drop_more bs i b lt));
    puts = λ other final done q c.
        let r = closes_snoc final done ends last c in
        let rest = inner_asm (drop (i + 1) bs) other in
        let whole : Puts templates now (both (first_asm b rest) nil) r.0 = puts_last templates now r.0
        (first_asm b rest) (puts_then templates now c1 r.0 x (choose a rest) tested
        (puts_choice templates c1 c2 c3 c4 final r.0 a rest choice last tests body ended q r.1)) in
        o.puts other r.0 done (subst (λ z. Puts templates now z r.0) (sym (left other)) whole) r.2;
  }
    where
      x : Asm
      x = expr_asm (Some (place_view templates b.place)) (expr_view b.condition) h

      a : Asm
      a = body_asm (body_view templates b.body.items slots.end) h

      body : Puts templates c2 a c3
      body =
          subst (λ l. Puts templates c2 (body_asm (body_view templates l slots.end) h) c3) same
          (emits_alone templates h c2 c3 (body_view templates ss) taken)

      left : (other : Asm) → inner_asm (drop i bs) other ≡ both (first_asm b (inner_asm (drop (i + 1) bs) other)) nil
      left other = search (arith, rules, drop_more)

  no_ends : (es : List ℕ) (n : ℕ) → length es + 0 ≡ 0 → es ≡ []
  no_ends [] n e = refl
  no_ends (x ∷ es) n e = absurd (omega (arith, e))

  -- All branches and the `else` part are emitted.
  pub emits_branches : (bs : List SBranch) (i : ℕ) (other : Front) (old now new done : Emitter) (ends es : List ℕ)
      → length bs ≤ i → Opens old bs now (drop i bs) ends → Emits templates h now other new → es ≡ ends
      → Closes new es done → Emits templates h old (choice_view templates bs other) done
  emits_branches bs i other old now new done ends es le o e same closes =
      λ behind final q. by bs (subst (λ l. Opens old bs now l ends) (at_drop_all (λ l. l) bs i le) o) behind final q
    where
      closed : Closes new ends done
      closed = subst (λ l. Closes new l done) same closes

      by : (cs : List SBranch) → Opens old cs now [] ends → (behind : SBody ℕ) (final : Emitter)
          → Puts templates done (body_asm behind h) final
          → Puts templates old (body_asm (choice_view templates cs other behind) h) final
      by [] p behind final q =
          let none = no_ends ends 0 p.counted in
          let is : done ≡ new = subst (λ l. Closes new l done) none closed in
          p.puts (body_asm (other behind) h) final final
          (e behind final (subst (λ z. Puts templates z (body_asm behind h) final) is q))
          (subst (λ l. Closes final l final) (sym none) refl)
      by (c ∷ cs) p behind final q =
          let whole = p.puts (body_asm (other slots.end) h) new done (emits_alone templates h now new other e) closed in
          let first = first_asm c (inner_asm cs (body_asm (other slots.end) h)) in
          let seen : first_asm c (body_asm (choice_view templates cs other slots.end) h) ≡ first =
          ap (first_asm c) (inner_is cs other) in
          subst (λ z. Puts templates old (both z (body_asm behind h)) final) (sym seen)
          (puts_then templates old done final first (body_asm behind h) (puts_first templates old done first whole) q)

-- ---- patched jumps and slots, from the last one to the first

pub drop_before : {A : Type 0} (xs : List A) (at : ℕ) (d : A) → 0 < at → at ≤ length xs
    → drop (at - 1) xs ≡ get_or xs (at - 1) d ∷ drop at xs
drop_before xs at d some le = search (arith, rules, drop_more)

pub stores_more : (ts : List Text) (o : Option Place) (ss : List (Option Slot)) (at : ℕ) (d s : Option Slot)
    (c0 c1 c2 : Emitter)
    → 0 < at → at ≤ length ss → get_or ss (at - 1) d ≡ s → Puts ts c0 (stores_asm o (slots_view (drop at ss))) c1
    → Puts ts c1 (one o (store_if_of (option_map slot_view s))) c2
    → Puts ts c0 (stores_asm o (slots_view (drop (at - 1) ss))) c2
stores_more ts o ss at d s c0 c1 c2 some le is p q =
    let left : drop (at - 1) ss ≡ s ∷ drop at ss = drop_before ss at d some le ∙ ap (λ x. x ∷ drop at ss) is in
    subst (λ l. Puts ts c0 (stores_asm o (slots_view l)) c2) (sym left)
    (puts_then ts c0 c1 c2 (stores_asm o (slots_view (drop at ss))) (one o (store_if_of (option_map slot_view s))) p q)

pub stores_all : (ts : List Text) (o : Option Place) (ss : List (Option Slot)) (at : ℕ) (c0 c1 : Emitter) → at ≤ 0
    → Puts ts c0 (stores_asm o (slots_view (drop at ss))) c1 → Puts ts c0 (stores_asm o (slots_view ss)) c1
stores_all ts o ss at c0 c1 le p =
    let none : at ≡ 0 = omega (arith, le) in subst (λ n. Puts ts c0 (stores_asm o (slots_view (drop n ss))) c1) none p
