-- The weight of its chains bounds the size of a program: each body is a part of one unit.
use Rattle.std.proofs.Common.{◌≡◌, ℕ, suc, ◌+◌, ◌*◌, max, ◌≤◌, Bool, true, false, ◌||◌, if◌then◌else◌, List, [], ◌∷◌}
use Rattle.std.proofs.Common.{◌++◌, length, Option, Some, None, arith, refl, length-append, rules}
use Rattle.std.proofs.lemmas.List.{length-map}
use Rattle.std.specs.Prelude.{flat_map, filter, map}
use Rattle.std.specs.List.{AllByRecursion as Each}
use Rattle.std.specs.Str.{bytes_eq}
use Rattle.jt_ast.specs.Expressions.{Text}
use Rattle.jt_ast.specs.Statements.{Parameter, Stmt, choose, for_each, set_block, with_values, filter_block, autoescape}
use Rattle.jt_ast.specs.Statements.{macro, block, stmt_weight, Body, end, stmt, body_weight, Branches, no_branches}
use Rattle.jt_ast.specs.Statements.{branch, branch_weight}
use Rattle.jt_chains.specs.Chain.{Sources, Namespace, a_library, same_namespace, listed, Template, templates, BlockBody}
use Rattle.jt_chains.specs.Chain.{blocks_of, blocks_in, blocks_under, all_bodies, MacroBody, macros_in, macros}
use Rattle.jt_eval.specs.Filters.{default_value}
use Rattle.jt_rules.specs.CompileEnv.{CompileEnv}
use Rattle.jt_chains.specs.Uses.{set_in, scope_names}
use Rattle.jt_semantics.specs.Layout.{first_slot, names, block_parameters, counted_from, numbered_bodies, shared}
use Rattle.jt_semantics.specs.Layout.{defaults_of, scopes, is_scoped}
use Rattle.jt_ir.specs.Slots as slots
use Rattle.jt_ir.specs.Slots.{SlotExpr, SRow, SlotStmt, SBody, Routine}
use Rattle.jt_ir.specs.Pool.{Constant, expr_values, condition_values, body_values, routines_values, placed_expr}
use Rattle.jt_ir.specs.Pool.{placed_row, placed_condition, placed_stmt, placed_body, placed_routines}
use Rattle.jt_semantics.specs.Resolve.{Part, bound_all, scoped, resolved_body, top_senv, resolved_chain}
use Rattle.jt_semantics.specs.Resolve.{macro_routine}
use Rattle.jt_semantics.specs.Programs.{body_routines, entry_routines, chain_routines, routines, count_globals, program}
use Rattle.jt_ir.specs.Size.{expr_size, row_size, condition_size, stmt_size, body_size, routines_size, expr_height}
use Rattle.jt_ir.specs.Size.{row_height, condition_height, stmt_height, body_height}
use Rattle.jt_ir.specs.Locals.{body_locals}
use Rattle.jt_semantics.specs.Measure.{IsFew, HasAtMost, AreFew, IsSized}
use Rattle.jt_semantics.proofs.FreeNameWeights.{stmt_own, body_own, branch_own, pairs_bound}
use Rattle.jt_chains.specs.Weights.{templates_weight, chains_weight}
use Rattle.jt_semantics.proofs.InstructionBounds.{parameters_few, chain_sized, routine_sized}
use Rattle.jt_semantics.proofs.LocalBounds.{Below, globals_below, chain_localed, routine_localed}
use Rattle.jt_semantics.proofs.TreesHaveParts.{templates_own, templates_free}
use Rattle.jt_semantics.proofs.ValueBounds.{chain_counted, routine_counted}
use Rattle.jt_semantics.proofs.EntryBounds.{chain_low, routine_low}
use Rattle.jt_semantics.proofs.FreeNameWeights.{AllPaid, MacrosPaid, all_more, macros_more, body_paid, templates_bound}
use Rattle.jt_semantics.proofs.FreeNameWeights.{templates_pay, chain_blocks, chain_macros, scopes_few, parameters_bound}
use Rattle.jt_chains.specs.Includes.{InOrder}
use Rattle.jt_semantics.proofs.EnvLookup.{namespace_same, namespace_is, no_both}
use Rattle.jt_semantics.proofs.DefinedNames.{given_all, all_own}
use Rattle.jt_semantics.proofs.ChainOrder.{libraries_stand}
use Rattle.jt_semantics.proofs.EachElement.{each_append}

-- ---- Each body is counted once: in its template, or as the body of a block or a macro

abbrev bodies_own : List BlockBody → ℕ
bodies_own [] = 0
bodies_own (b ∷ bs) = body_own b.body + 1 + bodies_own bs

abbrev macros_own : List MacroBody → ℕ
macros_own [] = 0
macros_own (m ∷ ms) = body_own m.body + 2 * length m.parameters + 1 + macros_own ms

bodies_append : (a b : List BlockBody) → bodies_own (a ++ b) ≡ bodies_own a + bodies_own b
bodies_append [] b = omega arith
bodies_append (x ∷ a) b = omega (arith, bodies_append a b)

macros_append : (a b : List MacroBody) → macros_own (a ++ b) ≡ macros_own a + macros_own b
macros_append [] b = omega arith
macros_append (x ∷ a) b = omega (arith, macros_append a b)

module _ (t : Text) where
  mutual
    stmt_once : (s : Stmt) (on : Bool) → stmt_own s + bodies_own (blocks_of t s on) ≤ stmt_weight s
    stmt_once (choose bs other) on = search (arith, rules, bodies_append, branch_once bs on, body_once other on)
    stmt_once (for_each line xs e c body other) on = grind (arith, bodies_append, body_once body on, body_once other on)
    stmt_once (set_block line x body) on = omega (arith, body_once body on)
    stmt_once (with_values line ps body) on = omega (arith, pairs_bound ps, body_once body on)
    stmt_once (filter_block line fs body) on = omega (arith, body_once body on)
    stmt_once (autoescape line now body) on = omega (arith, body_once body now)
    stmt_once (macro line x ps body) on = omega (arith, body_once body on)
    stmt_once (block line x is required body) on = omega (arith, body_once body on)
    stmt_once s on = omega arith

    body_once : (b : Body) (on : Bool) → body_own b + bodies_own (blocks_in t b on) ≤ body_weight b
    body_once end on = omega arith
    body_once (stmt s rest) on = search (arith, rules, bodies_append, stmt_once s on, body_once rest on)

    branch_once : (bs : Branches) (on : Bool) → branch_own bs + bodies_own (blocks_under t bs on) ≤ branch_weight bs
    branch_once no_branches on = omega arith
    branch_once (branch line c body rest) on =
        search (arith, rules, bodies_append, body_once body on, branch_once rest on)

  -- A body weighs at least its own weight, the weight of its blocks and the weight of the macros at
  -- its top.
  top_once : (b : Body) (on : Bool)
      → body_own b + bodies_own (blocks_in t b on) + macros_own (macros_in t b) ≤ body_weight b
  top_once end on = omega arith
  top_once (stmt (macro line x ps body) rest) on =
      search (arith, rules, body_once, bodies_append, parameters_bound, top_once rest on)
  top_once (stmt s rest) on =
      omega (arith, top_once rest on, stmt_once s on, bodies_append (blocks_of t s on) (blocks_in t rest on))

chain_once : (on : Bool) (ts : List Template)
    → templates_own ts + bodies_own (flat_map (λ t. blocks_in t.name t.body on) ts)
    + macros_own (flat_map (λ t. macros_in t.name t.body) ts)
    ≤ templates_weight ts
chain_once on [] = omega arith
chain_once on (t ∷ ts) = search (arith, rules, top_once, chain_once on ts, bodies_append, macros_append)

-- ---- The instructions of a chain's routines

routines_append : {K : Type 0} (a b : List (Routine K)) → routines_size (a ++ b) ≡ routines_size a + routines_size b
routines_append [] b = omega arith
routines_append (r ∷ a) b = omega (arith, routines_append a b)

module _ (cenv : CompileEnv) (order : List Namespace) (h : Namespace) where
  module _ (k : IsFew cenv order h) where
    macros_sized : (ms : List MacroBody) → routines_size (map (macro_routine cenv order h) ms) ≤ 100 * macros_own ms
    macros_sized [] = omega arith
    macros_sized (m ∷ ms) = search (arith, rules, macros_sized ms, routine_sized)

    blocks_sized : (n : ℕ) (bs : List BlockBody)
        → routines_size (body_routines cenv order h (counted_from n bs)) ≤ 100 * bodies_own bs
    blocks_sized n [] = omega arith
    blocks_sized n (b ∷ bs) = search (arith, rules, blocks_sized (suc n) bs, routine_sized)

    entry_sized : (g : Namespace) → body_size (resolved_chain cenv order g (templates cenv.sources g))
        ≤ 100 * templates_own (templates cenv.sources g)
        → routines_size (entry_routines cenv order g) ≤ 100 * templates_own (templates cenv.sources g) + 1
    entry_sized g c = search (arith, rules)

    all_in_chain : routines_size (chain_routines cenv order h) ≤ 100 * templates_weight (templates cenv.sources h) + 1
    all_in_chain =
        let sized = chain_sized cenv order h k in
        search (arith, rules, chain_once, entry_sized, sized, macros_sized, blocks_sized, routines_append)

-- ---- Indices into the pool change no size and no height

mutual
  expr_placed : (e : SlotExpr Constant) (n : ℕ)
      → (expr_size (placed_expr e n) ≡ expr_size e) × (expr_height (placed_expr e n) ≡ expr_height e)
  expr_placed (slots.made m es) n = let a = row_placed es n in (omega (arith, a.0), omega (arith, a.1))
  expr_placed (slots.conjunction x y) n = search (arith, rules, expr_placed x n, expr_placed y)
  expr_placed (slots.disjunction x y) n = search (arith, rules, expr_placed x n, expr_placed y)
  expr_placed (slots.choice c x y) n = search (arith, rules, expr_placed c n, expr_placed x, expr_placed y)
  expr_placed (slots.invoke u on es) n = let a = row_placed es n in (omega (arith, a.0), omega (arith, a.1))
  expr_placed e n = (refl, refl)

  row_placed : (es : SRow Constant) (n : ℕ)
      → (row_size (placed_row es n) ≡ row_size es) × (row_height (placed_row es n) ≡ row_height es)
  row_placed slots.none n = (refl, refl)
  row_placed (slots.item e es) n = search (arith, rules, expr_placed e n, row_placed es)
  row_placed (slots.aside i e es) n = search (arith, rules, expr_placed e n, row_placed es)

condition_placed : (xs : slots.Targets) (c : Option (SlotExpr Constant)) (n : ℕ)
    → (condition_size xs (placed_condition c n) ≡ condition_size xs c)
    × (condition_height (placed_condition c n) ≡ condition_height c)
condition_placed xs None n = (refl, refl)
condition_placed xs (Some c) n = let a = expr_placed c n in (omega (arith, a.0), a.1)

mutual
  stmt_placed : (s : SlotStmt Constant) (n : ℕ)
      → (stmt_size (placed_stmt s n) ≡ stmt_size s) × (stmt_height (placed_stmt s n) ≡ stmt_height s)
  stmt_placed (slots.put_pooled c) n = (refl, refl)
  stmt_placed (slots.print p on e) n = let a = expr_placed e n in (omega (arith, a.0), a.1)
  stmt_placed (slots.assign p xs e) n = let a = expr_placed e n in (omega (arith, a.0), omega (arith, a.1))
  stmt_placed (slots.if_else p c x y) n = search (arith, rules, expr_placed, body_placed x, body_placed y)
  stmt_placed (slots.for_each p xs e c body other) n =
      search (
        arith,
        rules,
        expr_placed e n,
        condition_placed xs c (n + length (expr_values e)),
        body_placed body (n + length (expr_values e) + length (condition_values c)),
        body_placed other (n + length (expr_values e) + length (condition_values c) + length (body_values body)),
      )
  stmt_placed (slots.capture on s body) n = let a = body_placed body n in (omega (arith, a.0), omega (arith, a.1))
  stmt_placed (slots.run u es) n = let a = row_placed es n in (omega (arith, a.0), a.1)

  body_placed : (b : SBody Constant) (n : ℕ)
      → (body_size (placed_body b n) ≡ body_size b) × (body_height (placed_body b n) ≡ body_height b)
  body_placed slots.end n = (refl, refl)
  body_placed (slots.stmt s rest) n = search (arith, rules, stmt_placed s n, body_placed rest)

routines_placed : (rs : List (Routine Constant)) (n : ℕ) → routines_size (placed_routines rs n) ≡ routines_size rs
routines_placed [] n = refl
routines_placed (r ∷ rs) n = search (arith, rules, body_placed, routines_placed rs)

heights_placed : (w : ℕ) (rs : List (Routine Constant)) (n : ℕ) → Each (λ r. 2 * body_height r.body ≤ w) rs
    → Each (λ r. 2 * body_height r.body ≤ w) (placed_routines rs n)
heights_placed w [] n h = tt
heights_placed w (r ∷ rs) n h = search (arith, rules, body_placed, heights_placed w rs)

-- ---- The entries of a chain's routines: bound names pay for the parameters that calls load

abbrev Low : ℕ → Routine Constant → Type 0
Low w r = 2 * body_height r.body ≤ w

module _ (cenv : CompileEnv) (order : List Namespace) (h : Namespace) (q : ℕ) (k : HasAtMost cenv order q h) where
  blocks_low : (w n : ℕ) (bs : List BlockBody) → AllPaid w q bs
      → Each (Low (max 2 w)) (body_routines cenv order h (counted_from n bs))
  blocks_low w n [] g = tt
  blocks_low w n (b ∷ bs) g =
      let part : Part =
      record { name = b.name; behind = filter (λ c. bytes_eq c.1.name b.name) (counted_from (suc n) bs) } in
      let sp = record (top_senv cenv order h b.template) { escaping = b.escaping; part = Some part } in
      let f = g.0.free in (
        omega
            (arith, f, routine_low cenv order q (block_parameters cenv order h b.name) b.body sp k g.0.bound),
        blocks_low w (suc n) bs g.1,
      )

  macros_low : (w : ℕ) (ms : List MacroBody) → MacrosPaid w q ms
      → Each (Low (max 2 w)) (map (macro_routine cenv order h) ms)
  macros_low w [] g = tt
  macros_low w (m ∷ ms) g =
      let xs = map (λ (p : Parameter). p.name) m.parameters in
      let f = g.0.body.free in (
        omega
            (arith, f, routine_low cenv order q xs m.body (top_senv cenv order h m.template) k g.0.body.bound),
        macros_low w ms g.1,
      )

-- A chain is paid for, with the names that all templates bind.
templates_paid : (ts : List Template) → templates_free ts + 2 * templates_bound ts ≤ templates_weight ts
templates_paid [] = omega arith
templates_paid (t ∷ ts) = omega (arith, body_paid t.body, templates_paid ts)

macros_few : (w n : ℕ) (ms : List MacroBody) → MacrosPaid w n ms → Each (λ m. length m.parameters ≤ n) ms
macros_few w n [] p = tt
macros_few w n (m ∷ ms) p = (p.0.parameters, macros_few w n ms p.1)

-- ---- Chains and libraries together: the names that all of them bind pay for the calls of each

abbrev chains_bound : Sources → List Namespace → ℕ
chains_bound sources [] = 0
chains_bound sources (h ∷ hs) = templates_bound (templates sources h) + chains_bound sources hs

chains_pay : (sources : Sources) (hs : List Namespace) → 2 * chains_bound sources hs ≤ chains_weight sources hs
chains_pay sources [] = omega arith
chains_pay sources (h ∷ hs) = omega (arith, templates_pay (templates sources h), chains_pay sources hs)

-- Holds if the templates are a part of a whole of weight w with q bound names.
record IsPart (w q : ℕ) (ts : List Template) : Type 0 where
  pub paid : templates_weight ts + 2 * q ≤ w + 2 * templates_bound ts
  pub bound : templates_bound ts ≤ q

is_part : (sources : Sources) (hs : List Namespace) (h : Namespace) → listed h hs ≡ true
    → IsPart (chains_weight sources hs) (chains_bound sources hs) (templates sources h)
is_part sources [] h i = absurd (no_both i refl)
is_part sources (k ∷ ks) h i = through (same_namespace k h) refl i (λ j. is_part sources ks h j)
  where
    first : IsPart (chains_weight sources (k ∷ ks)) (chains_bound sources (k ∷ ks)) (templates sources k)
    first = record { paid = omega (arith, chains_pay sources ks); bound = omega arith }

    later : IsPart (chains_weight sources ks) (chains_bound sources ks) (templates sources h)
        → IsPart (chains_weight sources (k ∷ ks)) (chains_bound sources (k ∷ ks)) (templates sources h)
    later p =
        let a = p.paid in
        let b = p.bound in
        record { paid = omega (arith, a, templates_pay (templates sources k)); bound = omega (arith, b) }

    through : (b : Bool) → same_namespace k h ≡ b → (b || listed h ks) ≡ true
        → (listed h ks ≡ true → IsPart (chains_weight sources ks) (chains_bound sources ks) (templates sources h))
        → IsPart (chains_weight sources (k ∷ ks)) (chains_bound sources (k ∷ ks)) (templates sources h)
    through true p q f = search (arith, rules, namespace_same, first)
    through false p q f = later (f q)

module _ (cenv : CompileEnv) (order : List Namespace) (ordered : InOrder cenv.sources order)
    (filters : (f : ℕ) → length (cenv.filters.parameters f) ≤ 3) where
  abbrev w : ℕ
  w = chains_weight cenv.sources order

  abbrev q : ℕ
  q = chains_bound cenv.sources order

  namespace_macros : (h : Namespace) → listed h order ≡ true → MacrosPaid w q (macros cenv.sources h)
  namespace_macros h known = search (arith, rules, is_part, macros_more, templates_bound, chain_macros)

  at_most : (h : Namespace) → listed h order ≡ true → HasAtMost cenv order q h
  at_most h known = record {
    macros =
        given_all cenv.sources (λ m. length m.parameters ≤ q) h
        (macros_few w q (macros cenv.sources h) (namespace_macros h known))
        (λ l j. let there = (libraries_stand cenv order ordered h known l j).known in
        macros_few w q (macros cenv.sources (a_library l)) (namespace_macros (a_library l) there));
    blocks = λ x. of_scopes (is_scoped cenv h x);
    filters = filters;
  }
    where
      few : templates_bound (templates cenv.sources h) ≤ q
      few = (is_part cenv.sources order h known).bound

      in_order : (b : Bool) → length (if b then scope_names cenv.sources h else []) ≤ q
      in_order b = search (arith, rules, few, scopes_few)

      of_scopes : (b : Bool) → length (if b then scopes cenv order h else []) ≤ q
      of_scopes b = grind (arith, in_order)

  entry_low : (g : Namespace) → 2 * body_height (resolved_chain cenv order g (templates cenv.sources g)) ≤ w
      → Each (Low (max 2 w)) (entry_routines cenv order g)
  entry_low g c = search (arith, rules)

  low_in_chain : (h : Namespace) → listed h order ≡ true → Each (Low (max 2 w)) (chain_routines cenv order h)
  low_in_chain h known =
      let ts = templates cenv.sources h in
      let p = is_part cenv.sources order h known in
      let k = at_most h known in
      each_append (Low (max 2 w)) (entry_routines cenv order h)
      (map (macro_routine cenv order h) (macros cenv.sources h) ++ body_routines cenv order h (numbered_bodies cenv h))
      (entry_low h (let low = chain_low cenv order q h ts k p.bound in omega (arith, low, templates_paid ts, p.paid)))
      (each_append (Low (max 2 w)) (map (macro_routine cenv order h) (macros cenv.sources h))
      (body_routines cenv order h (numbered_bodies cenv h))
      (macros_low cenv order h q k w (macros cenv.sources h) (namespace_macros h known))
      (blocks_low cenv order h q k w 0 (all_bodies cenv.sources cenv.escaping h)
      (all_more (templates_weight ts) (templates_bound ts) w q p.bound p.paid (all_bodies cenv.sources cenv.escaping h)
      (chain_blocks cenv.escaping ts))))

  chains_low : (hs : List Namespace) → ((h : Namespace) → listed h hs ≡ true → listed h order ≡ true)
      → Each (Low (max 2 w)) (flat_map (chain_routines cenv order) hs)
  chains_low [] i = tt
  chains_low (h ∷ hs) i = search (arith, rules, each_append (Low (max 2 w)), low_in_chain, namespace_is, chains_low hs)

-- ---- All chains

chains_sized : (cenv : CompileEnv) (order hs : List Namespace) → Each (IsFew cenv order) hs
    → routines_size (flat_map (chain_routines cenv order) hs) ≤ 100 * chains_weight cenv.sources hs + length hs
chains_sized cenv order [] k = omega arith
chains_sized cenv order (h ∷ hs) k =
    omega (
      arith,
      chains_sized cenv order hs k.1,
      all_in_chain cenv order h k.0,
      routines_append (chain_routines cenv order h) (flat_map (chain_routines cenv order) hs),
    )

-- ---- Constants: the constants of the routines, and the defaults of macros

values_append : (a b : List (Routine Constant))
    → length (routines_values (a ++ b)) ≡ length (routines_values a) + length (routines_values b)
values_append [] b = omega arith
values_append (r ∷ a) b = search (arith, rules, length-append, values_append a b)

module _ (cenv : CompileEnv) (order : List Namespace) (h : Namespace)
    (k : (f : ℕ) → length (cenv.filters.parameters f) ≤ 3) where
  macros_counted : (ms : List MacroBody)
      → length (routines_values (map (macro_routine cenv order h) ms)) + length (defaults_of ms) ≤ macros_own ms
  macros_counted [] = omega arith
  macros_counted (m ∷ ms) =
      let xs = map (λ (p : Parameter). p.name) m.parameters in
      let r = macro_routine cenv order h m in
      omega (
        arith,
        macros_counted ms,
        routine_counted cenv order k xs m.body (top_senv cenv order h m.template),
        length-append (body_values r.body) (routines_values (map (macro_routine cenv order h) ms)),
        length-append (map (λ p. default_value p.default) m.parameters) (defaults_of ms),
        length-map m.parameters (λ (p : Parameter). default_value p.default),
      )

  blocks_counted : (n : ℕ) (bs : List BlockBody)
      → length (routines_values (body_routines cenv order h (counted_from n bs))) ≤ bodies_own bs
  blocks_counted n [] = omega arith
  blocks_counted n (b ∷ bs) =
      let part : Part =
      record { name = b.name; behind = filter (λ c. bytes_eq c.1.name b.name) (counted_from (suc n) bs) } in
      let sp = record (top_senv cenv order h b.template) { escaping = b.escaping; part = Some part } in
      let xs = block_parameters cenv order h b.name in
      let r = scoped (set_in b.body) (bound_all xs sp) (resolved_body cenv order b.body) in
      omega (
        arith,
        blocks_counted (suc n) bs,
        routine_counted cenv order k xs b.body sp,
        length-append (body_values r) (routines_values (body_routines cenv order h (counted_from (suc n) bs))),
      )

  entry_counted : (g : Namespace) → length (body_values (resolved_chain cenv order g (templates cenv.sources g)))
      ≤ templates_own (templates cenv.sources g)
      → length (routines_values (entry_routines cenv order g)) ≤ templates_own (templates cenv.sources g)
  entry_counted g c = search (arith, rules, length-append)

  counted_in_chain : length (routines_values (chain_routines cenv order h))
      + length (defaults_of (macros cenv.sources h))
      ≤ templates_weight (templates cenv.sources h)
  counted_in_chain =
      let counted = chain_counted cenv order k h in
      search (arith, rules, chain_once, entry_counted, counted, macros_counted, blocks_counted, values_append)

  -- A chain has one unit for itself, one for each macro, and one for each body.
  macros_number : (ms : List MacroBody) → length (map (macro_routine cenv order h) ms) ≤ macros_own ms
  macros_number [] = omega arith
  macros_number (m ∷ ms) = omega (arith, macros_number ms)

  bodies_number : (n : ℕ) (bs : List BlockBody)
      → length (body_routines cenv order h (counted_from n bs)) ≤ bodies_own bs
  bodies_number n [] = omega arith
  bodies_number n (b ∷ bs) = omega (arith, bodies_number (suc n) bs)

  entry_number : (g : Namespace) → length (entry_routines cenv order g) ≤ 1
  entry_number g = search (arith, rules)

  units_in_chain : length (chain_routines cenv order h) ≤ templates_weight (templates cenv.sources h) + 1
  units_in_chain = search (arith, rules, chain_once, macros_number, bodies_number, entry_number, length-append)

chains_counted : (cenv : CompileEnv) (order hs : List Namespace) (k : (f : ℕ) → length (cenv.filters.parameters f) ≤ 3)
    → length (routines_values (flat_map (chain_routines cenv order) hs))
    + length (flat_map (λ h. defaults_of (macros cenv.sources h)) hs)
    ≤ chains_weight cenv.sources hs
chains_counted cenv order [] k = omega arith
chains_counted cenv order (h ∷ hs) k =
    search (arith, rules, chains_counted cenv order hs k, counted_in_chain, values_append, length-append)

units_counted : (cenv : CompileEnv) (order hs : List Namespace) (k : (f : ℕ) → length (cenv.filters.parameters f) ≤ 3)
    → length (flat_map (chain_routines cenv order) hs) ≤ chains_weight cenv.sources hs + length hs
units_counted cenv order [] k = omega arith
units_counted cenv order (h ∷ hs) k =
    search (arith, rules, units_in_chain, length-append, units_counted cenv order hs k)

placed_len : (rs : List (Routine Constant)) (n : ℕ) → length (placed_routines rs n) ≡ length rs
placed_len [] n = refl
placed_len (r ∷ rs) n = omega (arith, placed_len rs (n + length (body_values r.body)))

globals_counted : (cenv : CompileEnv) (order hs : List Namespace)
    → ((k : Namespace) → length (names cenv order k) ≤ 200) → count_globals cenv order hs ≤ 200 * length hs
globals_counted cenv order [] k = omega arith
globals_counted cenv order (h ∷ hs) k = omega (arith, k h, globals_counted cenv order hs k)

-- ---- Locals: a unit's parameters, and one for each token

abbrev Holds : {K : Type 0} → ℕ → Routine K → Type 0
Holds n r = r.locals ≤ n

module _ (cenv : CompileEnv) (order : List Namespace) (n : ℕ) (some : 1 ≤ n)
    (few : (h : Namespace) (x : Text) → length (block_parameters cenv order h x) ≤ n) (h : Namespace) where
  top : (t : Text) → Below n some (top_senv cenv order h t).table
  top t = globals_below n some (first_slot cenv order h) (names cenv order h)

  macros_localed : (ms : List MacroBody) → Each (λ m. length m.parameters ≤ 200) ms → 200 + macros_own ms ≤ n
      → Each (Holds n) (map (macro_routine cenv order h) ms)
  macros_localed [] f k = tt
  macros_localed (m ∷ ms) f k =
      let l = length-map m.parameters (λ (p : Parameter). p.name) in (
        omega (
          arith,
          k,
          f.0,
          l,
          routine_localed n some cenv order few (map (λ p. p.name) m.parameters) m.body
              (top_senv cenv order h m.template) (top m.template)
              (omega (arith, k, f.0, l)),
        ),
        macros_localed ms f.1 (omega (arith, k)),
      )

  blocks_localed : (i : ℕ) (bs : List BlockBody) → ((x : Text) → length (block_parameters cenv order h x) ≤ 200)
      → 200 + bodies_own bs ≤ n → Each (Holds n) (body_routines cenv order h (counted_from i bs))
  blocks_localed i [] f k = tt
  blocks_localed i (b ∷ bs) f k =
      let part : Part =
      record { name = b.name; behind = filter (λ c. bytes_eq c.1.name b.name) (counted_from (suc i) bs) } in
      let sp = record (top_senv cenv order h b.template) { escaping = b.escaping; part = Some part } in
      let ps = block_parameters cenv order h b.name in (
        omega (
          arith,
          k,
          f b.name,
          routine_localed n some cenv order few ps b.body sp (top b.template) (omega (arith, k, f b.name)),
        ),
        blocks_localed (suc i) bs f (omega (arith, k)),
      )

  entry_localed : (g : Namespace) → body_locals (resolved_chain cenv order g (templates cenv.sources g)) ≤ n
      → Each (Holds n) (entry_routines cenv order g)
  entry_localed g c = search (arith, rules)

  localed_in_chain : IsFew cenv order h → 200 + templates_weight (templates cenv.sources h) ≤ n
      → Each (Holds n) (chain_routines cenv order h)
  localed_in_chain k room =
      let once = chain_once cenv.escaping (templates cenv.sources h) in
      each_append (Holds n) (entry_routines cenv order h)
      (map (macro_routine cenv order h) (macros cenv.sources h) ++ body_routines cenv order h (numbered_bodies cenv h))
      (entry_localed h (chain_localed n some cenv order few h (templates cenv.sources h) (omega (arith, room, once))))
      (each_append (Holds n) (map (macro_routine cenv order h) (macros cenv.sources h))
      (body_routines cenv order h (numbered_bodies cenv h))
      (macros_localed (macros cenv.sources h)
      (all_own cenv.sources (λ m. length m.parameters ≤ 200) h (macros cenv.sources h) _ k.macros)
      (omega (arith, room, once)))
      (blocks_localed 0 (all_bodies cenv.sources cenv.escaping h) (λ x. parameters_few cenv order h x (k.names h))
      (omega (arith, room, once))))

chains_localed : (cenv : CompileEnv) (order hs : List Namespace) (n : ℕ) (some : 1 ≤ n)
    (few : (h : Namespace) (x : Text) → length (block_parameters cenv order h x) ≤ n)
    → Each (IsFew cenv order) hs → 200 + chains_weight cenv.sources hs ≤ n
    → Each (Holds n) (flat_map (chain_routines cenv order) hs)
chains_localed cenv order [] n some few k room = tt
chains_localed cenv order (h ∷ hs) n some few k room =
    each_append (Holds n) (chain_routines cenv order h) (flat_map (chain_routines cenv order) hs)
    (localed_in_chain cenv order n some few h k.0 (omega (arith, room)))
    (chains_localed cenv order hs n some few k.1 (omega (arith, room)))

holds_placed : (n : ℕ) (rs : List (Routine Constant)) (i : ℕ) → Each (Holds n) rs
    → Each (Holds n) (placed_routines rs i)
holds_placed n [] i h = tt
holds_placed n (r ∷ rs) i h = (h.0, holds_placed n rs (i + length (body_values r.body)) h.1)

pub program_sized : (cenv : CompileEnv) (entry : Namespace) (rest : List Namespace)
    → InOrder cenv.sources (entry ∷ rest) → AreFew cenv (entry ∷ rest)
    → IsSized cenv (entry ∷ rest) (program cenv (entry ∷ rest) entry)
program_sized cenv entry rest ordered k =
    let order = entry ∷ rest in
    let rs = routines cenv order in
    let n = length (shared cenv order) in
    record {
      instructions = omega (arith, routines_placed rs n, chains_sized cenv order order k);
      constants =
          omega
          (arith, chains_counted cenv order order k.0.filters, length-append (shared cenv order) (routines_values rs));
      units = omega (arith, units_counted cenv order order k.0.filters, placed_len rs n);
      names = (k.0.names entry).0;
      globals = globals_counted cenv order order (λ h. (k.0.names h).0);
      locals =
          holds_placed (200 + chains_weight cenv.sources order) rs n
          (chains_localed cenv order order (200 + chains_weight cenv.sources order) (omega arith)
          (λ h x. omega (arith, parameters_few cenv order h x (k.0.names h))) k (omega arith));
      entries =
          heights_placed (max 2 (chains_weight cenv.sources order)) rs n
          (chains_low cenv order ordered k.0.filters order (λ h i. i));
    }
