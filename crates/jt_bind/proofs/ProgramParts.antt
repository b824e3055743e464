-- The bodies of blocks by their indices, concatenation of routines, the values at the beginning of a pool, and a
-- program by its parts.
pub mod Resolution
pub use Resolution.*
use Rattle.jt_semantics.specs.Layout as layout
use Rattle.jt_ast.specs.Statements.{Body}
use Rattle.jt_semantics.specs.Resolve.{chain_routine, resolved_routine}
use Rattle.jt_semantics.specs.Programs.{entry_routines}
use Rattle.jt_layout.specs.NamespaceLayout.{is_library}
use Rattle.jt_ir.specs.declared.program.Program.{Program}

-- ---- items of a list by their indices

-- The remaining items from an index on.
drop_counted : {A : Type 0} (i k : ℕ) (xs : List A) → drop i (counted_from k xs) ≡ counted_from (k + i) (drop i xs)
drop_counted zero k xs = ap (λ n. counted_from n xs) (omega arith)
drop_counted (suc i) k [] = refl
drop_counted (suc i) k (x ∷ xs) = drop_counted i (suc k) xs ∙ ap (λ n. counted_from n (drop i xs)) (omega arith)

-- The first body of a block is an item of the list.
pub first_within : (p : ℕ × BlockBody → Bool) (k i : ℕ) (bs : List BlockBody)
    → first_body (filter p (counted_from k bs)) ≡ Some i → i < k + length bs
first_within p k i [] e = absurd (cc)
first_within p k i (b ∷ bs) e = search (arith, rules, first_within p (suc k) i bs)

-- No item remains after the last one.
counted_end : {A : Type 0} (i : ℕ) (xs : List A) → length xs ≤ i → drop i (counted_from 0 xs) ≡ []
counted_end i xs le = drop_counted i 0 xs ∙ at_drop_all (counted_from (0 + i)) xs i le

next_of : (r : Bool) (k n m : ℕ) (o : Option ℕ) → (if r then o else Some k) ≡ Some n → k < m → (o ≡ Some n → n < m)
    → n < m
next_of r k n m o e lt f = search (arith, rules)

-- The next body of a block that is not required is an item of the list.
next_within : (p : ℕ × BlockBody → Bool) (k n : ℕ) (bs : List BlockBody)
    → next_given (filter p (counted_from k bs)) ≡ Some n → n < k + length bs
next_within p k n [] e = absurd (cc)
next_within p k n (b ∷ bs) e = search (arith, rules, next_within p (suc k) n bs, next_of)

-- ---- the bodies of a chain's blocks, by their indices

module _ (s : Chains) (us : List Block) (all : map (block_view (files_in s)) us
    ≡ all_bodies (cenv_in s).sources (cenv_in s).escaping (namespace_in s)) where
  abbrev shown : Block → BlockBody
  shown = block_view (files_in s)

  abbrev numbered : List (ℕ × BlockBody)
  numbered = numbered_in s

  pub numbered_next : (i : ℕ) (x : Block) → i < length us → x ≡ get_or us i x
      → drop i numbered ≡ (i, shown x) ∷ drop (i + 1) numbered
  numbered_next i x lt is =
      rw (← all, drop_counted i 0 (map shown us), drop_counted (i + 1) 0 (map shown us))
      (simp (drop-map, drop_more us i x lt, ← is, zero-add, add-one))

  pub numbered_end : (i : ℕ) → length us ≤ i → drop i numbered ≡ []
  numbered_end i h = search (arith, rules, length-map, counted_end)

  -- The next body of a block has a number.
  pub next_numbered : (p : ℕ × BlockBody → Bool) (i k : ℕ) → i < length us
      → next_given (filter p (drop (i + 1) numbered)) ≡ Some k → k < length us
  next_numbered p i k lt e =
      let bs = all_bodies (cenv_in s).sources (cenv_in s).escaping (namespace_in s) in
      let found : k < 0 + (i + 1) + length (drop (i + 1) bs) = next_within p (0 + (i + 1)) k (drop (i + 1) bs)
      (ap (λ (z : List (ℕ × BlockBody)). next_given (filter p z)) (sym (drop_counted (i + 1) 0 bs)) ∙ e) in
      let long : length us ≡ length bs = sym (length-map us shown) ∙ ap length all in
      omega (arith, length-drop (i + 1) bs)

module _ (templates : List Text) where
  -- The locals that were counted.
  pub locals_same : (w : Stmts) (ss : List SlotStmt) (p q : List Tree) (n : ℕ) → Emits templates w [] ss p q
      → n ≡ body_locals (ir.body_view templates ss slots.end) → n ≡ body_locals w
  locals_same w ss p q n h counted = rw (← body_counted w (length p), ← body_shown templates w ss p q h) counted

  pub routine_made : (parameters count : ℕ) (w : Stmts) (body : Vec SlotStmt Global) (n m : ℕ)
      (p q : List Tree)
      → Emits templates w [] body.items p q → parameters ≡ count → n ≡ m
      → IsRoutine templates (record { parameters = count; locals = m; body = w })
      (record { parameters = parameters; locals = n; body = body }) p q
  routine_made parameters count w body n m p q h e f = record {
    shown = rw (e, f, body_shown templates w body.items p q h);
    pooled = body_pooled templates w body.items p q h;
  }

  -- The names and the environment of a routine may be replaced by equal ones.
  pub routine_as : (cenv : CompileEnv) (order : List Namespace) (xs ys : List Text) (b : Body) (sp sq : StaticEnv)
      (r : Routine) (p q : List Tree)
      → IsRoutine templates (resolved_routine cenv order xs b sp) r p q → xs ≡ ys → sp ≡ sq
      → IsRoutine templates (resolved_routine cenv order ys b sq) r p q
  routine_as cenv order xs ys b sp sq r p q h e g = search (arith, rules)

-- ---- concatenation

module _ (ts : List Text) where
  pub routines_both : (a b : List Planned) (rs ss us : List Routine) (p q r : List Tree)
      → AreRoutines ts a rs ss p q → AreRoutines ts b ss us q r → AreRoutines ts (a ++ b) rs us p r
  routines_both a b rs ss us p q r h g = λ left. rw append_assoc (lead_both (h (b ++ left)) (g left))

  pub one_routine : (c : Planned) (r : Routine) (rs ss : List Routine) (p q : List Tree)
      → IsRoutine ts c r p q → ss ≡ rs ++ r ∷ [] → AreRoutines ts (c ∷ []) rs ss p q
  one_routine c r rs ss p q h e = λ left. record {
    shown = rw (e, map-append, append_assoc, h.shown, grown_by p (body_values c.body) q h.pooled);
    pooled = rw (h.pooled, append_assoc);
  }

-- ---- the routine of a chain, which a library lacks

pub no_entry : (ts : List Text) (cenv : CompileEnv) (order : List Namespace) (h : Namespace) → is_library h ≡ true
    → (rs : List Routine) (p : List Tree) → AreRoutines ts (entry_routines cenv order h) rs rs p p
no_entry ts cenv order (a_chain n) e rs p = absurd (cc)
no_entry ts cenv order (a_library n) e rs p = λ left. lead_none

pub one_entry : (ts : List Text) (cenv : CompileEnv) (order : List Namespace) (h : Namespace) → is_library h ≡ false
    → (r : Routine) (rs ss : List Routine) (p q : List Tree)
    → ((n : Text) → h ≡ a_chain n → IsRoutine ts (chain_routine cenv order n) r p q) → ss ≡ rs ++ r ∷ []
    → AreRoutines ts (entry_routines cenv order h) rs ss p q
one_entry ts cenv order (a_chain n) e r rs ss p q made pushed =
    one_routine ts (chain_routine cenv order n) r rs ss p q (made n refl) pushed
one_entry ts cenv order (a_library n) e r rs ss p q made pushed = absurd (cc)

-- ---- the values at the beginning of a pool, one more part

-- A part that was appended no longer remains.
pub part_put : {A : Type 0} (at part left all new : List A) → new ≡ at ++ part → at ++ (part ++ left) ≡ all
    → new ++ left ≡ all
part_put at part left all new e h = rw (e, append_assoc) h

-- The defaults of one macro come before the remaining ones.
pub defaults_left : (ts : List Template) (ms : List Macro) (i : ℕ) (m : Macro) → i < length ms → m ≡ get_or ms i m
    → defaults_of (map (macro_view ts) (drop i ms))
    ≡ map (λ p. default_value (parameter_view p).default) m.parameters.now
    ++ defaults_of (map (macro_view ts) (drop (i + 1) ms))
defaults_left ts ms i m lt is =
    rw (drop_more ms i m lt, ← is) (ap (λ vs. vs ++ defaults_of (map (macro_view ts) (drop (i + 1) ms)))
    (map-map (λ p. default_value p.default) parameter_view m.parameters.now))

-- ---- a program by its parts

abbrev made : List Text → ℕ → List Tree → List (slots.Routine ℕ) → slots.Program
made names globals pool routines = record { names = names; globals = globals; pool = pool; routines = routines }

module _ (cenv : CompileEnv) (order : List Namespace) (entry : Namespace) (ts : List Text) (p : Program) where
  pub program_is : ir.templates_of p ≡ ts → map string_bytes p.names.items ≡ layout.names cenv order entry
      → p.globals ≡ programs.count_globals cenv order order
      → (front : List Tree) → front ≡ layout.shared cenv order
      → RoutinesLead ts (programs.routines cenv order) [] [] p.routines.items front (values p.pool)
      → ir.program_of p ≡ programs.program cenv order entry
  program_is templates names globals front shared r =
      let routines = rw append-nil at r.shown in let pooled = rw append-nil at r.pooled in search (arith, rules)
