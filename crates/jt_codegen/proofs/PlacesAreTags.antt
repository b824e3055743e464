-- Each place in the code of chains is that of a tag: a template of a chain, and the line of one of
-- its tags.
use Rattle.std.proofs.Common.{ℕ, suc, Bool, true, false, if◌then◌else◌, List, [], ◌∷◌, ◌++◌, map, Option, Some, None}
use Rattle.std.proofs.Common.{arith, rules}
use Rattle.std.specs.Prelude.{flat_map, filter}
use Rattle.std.specs.Str.{bytes_eq}
use Rattle.std.specs.List.{AllByRecursion}
use Rattle.std.specs.Option.{is_none}
use Rattle.jt_value.specs.Place.{Place}
use Rattle.jt_ast.specs.Expressions.{Text, Pairs, no_pairs, pair}
use Rattle.jt_ast.specs.Statements.{Stmt, data_of, print, choose, for_each, set, set_block, with_values, filter_block}
use Rattle.jt_ast.specs.Statements.{autoescape, macro, include, block, Body, end, stmt, Branches, no_branches, branch}
use Rattle.jt_chains.specs.Chain.{Namespace, a_chain, a_library, Template, templates, BlockBody, blocks_of, blocks_in}
use Rattle.jt_chains.specs.Chain.{blocks_under, MacroBody, macros_in, macros}
use Rattle.jt_chains.specs.Uses.{keywords, set_in}
use Rattle.jt_rules.specs.CompileEnv.{CompileEnv}
use Rattle.jt_semantics.specs.Meaning.{is_set}
use Rattle.jt_semantics.specs.Layout.{Table, counted_from, numbered_bodies, numbered_of, globals, names, first_slot}
use Rattle.jt_semantics.specs.Layout.{block_parameters, of_chain, unit}
use Rattle.jt_semantics.specs.Programs.{body_routines, entry_routines, chain_routines, routines, program}
use Rattle.jt_semantics.specs.Resolve.{StaticEnv, place, left_out, grown, bound_all, copied, scoped, handed_on}
use Rattle.jt_semantics.specs.Resolve.{followed, first_body, resolved_values, placed_body, resolved_stmt, resolved_body}
use Rattle.jt_semantics.specs.Resolve.{resolved_choice, resolved_sets, top_senv, resolved_chain, macro_routine}
use Rattle.jt_ir.specs.Slots as slots
use Rattle.jt_ir.specs.Slots.{NaryOp, SlotExpr, SRow, Targets, SlotStmt, SBody, Routine, Slot}
use Rattle.jt_ir.specs.Size.{row_count}
use Rattle.jt_ir.specs.Pool.{Constant, placed_stmt, placed_body as pooled_body, placed_routines}
use Rattle.jt_lower.specs.Asm.{Asm, nil, one, both, choose as either, when, each, invoke, places}
use Rattle.jt_lower.specs.Lower.{made_asm, expr_asm, row_asm, stores_asm, take_asm, kept_asm, stmt_asm, body_asm}
use Rattle.jt_lower.specs.Lower.{routine_places, places_of}
use Rattle.jt_lower.proofs.LawfulProgramsFit.{all_append}
use Rattle.jt_codegen.proofs.EitherHolds.{either_of}

-- ---- the lines of the tags of a tree

module _ (L : ℕ → Type 0) where
  abbrev mutual
    pub StmtLines : Stmt → Type 0
    StmtLines (print line e) = L line
    StmtLines (choose bs other) = BranchLines bs × BodyLines other
    StmtLines (for_each line xs e c body other) = L line × BodyLines body × BodyLines other
    StmtLines (set line xs e) = L line
    StmtLines (set_block line x body) = BodyLines body
    StmtLines (with_values line ps body) = L line × BodyLines body
    StmtLines (filter_block line fs body) = L line × BodyLines body
    StmtLines (autoescape line on body) = BodyLines body
    StmtLines (macro line x ps body) = BodyLines body
    StmtLines (include line n ignore_missing with_context) = L line
    StmtLines (block line x is_scoped required body) = BodyLines body
    StmtLines s = Unit {0}

    pub BodyLines : Body → Type 0
    BodyLines end = Unit {0}
    BodyLines (stmt s rest) = StmtLines s × BodyLines rest

    pub BranchLines : Branches → Type 0
    BranchLines no_branches = Unit {0}
    BranchLines (branch line c body rest) = L line × BodyLines body × BranchLines rest

-- ---- the places of a resolved tree

module _ (P : Place → Type 0) where
  abbrev mutual
    StmtPlaced : {K : Type 0} → SlotStmt K → Type 0
    StmtPlaced (slots.put_pooled k) = Unit {0}
    StmtPlaced (slots.print p escaping e) = P p
    StmtPlaced (slots.assign p xs e) = P p
    StmtPlaced (slots.if_else p c a b) = P p × BodyPlaced a × BodyPlaced b
    StmtPlaced (slots.for_each p xs e c body other) = P p × BodyPlaced body × BodyPlaced other
    StmtPlaced (slots.capture escaping s body) = BodyPlaced body
    StmtPlaced (slots.run u es) = Unit {0}

    BodyPlaced : {K : Type 0} → SBody K → Type 0
    BodyPlaced slots.end = Unit {0}
    BodyPlaced (slots.stmt s rest) = StmtPlaced s × BodyPlaced rest

  -- ---- the places of the code

  abbrev pub OnTag : Option Place → Type 0
  OnTag None = Unit {0}
  OnTag (Some q) = P q

  abbrev AsmPlaced : Asm → Type 0
  AsmPlaced nil = Unit {0}
  AsmPlaced (one o i) = OnTag o
  AsmPlaced (both a b) = AsmPlaced a × AsmPlaced b
  AsmPlaced (either a b) = AsmPlaced a × AsmPlaced b
  AsmPlaced (when a) = AsmPlaced a
  AsmPlaced (each a) = AsmPlaced a
  AsmPlaced (invoke o u) = OnTag o

  asm_placed : (a : Asm) → AsmPlaced a → AllByRecursion OnTag (places a)
  asm_placed nil h = tt
  asm_placed (one o i) h = (h, tt)
  asm_placed (both a b) h = all_append OnTag (places a) (places b) (asm_placed a h.0) (asm_placed b h.1)
  asm_placed (either a b) h =
      (tt, all_append OnTag (places a) (None ∷ places b) (asm_placed a h.0) (tt, asm_placed b h.1))
  asm_placed (when a) h = (tt, asm_placed a h)
  asm_placed (each a) h = (tt, all_append OnTag (places a) (None ∷ []) (asm_placed a h) (tt, tt))
  asm_placed (invoke o u) h = (h, tt)

  made_placed : (k : NaryOp) (n : ℕ) (o : Option Place) → OnTag o → AsmPlaced (made_asm o k n)
  made_placed k n o t = search (arith, rules)

  mutual
    expr_placed : (e : SlotExpr ℕ) (o : Option Place) (h : ℕ) → OnTag o → AsmPlaced (expr_asm o e h)
    expr_placed slots.absent o h t = tt
    expr_placed (slots.made k es) o h t = (row_placed es o h t, made_placed k (row_count es) o t)
    expr_placed (slots.conjunction a b) o h t = (expr_placed a o h t, (t, ((t, expr_placed b o h t), tt)))
    expr_placed (slots.disjunction a b) o h t = (expr_placed a o h t, (t, (tt, (t, expr_placed b o h t))))
    expr_placed (slots.choice c a b) o h t = (expr_placed c o h t, (expr_placed a o h t, expr_placed b o h t))
    expr_placed (slots.invoke u escaping es) o h t = (t, (row_placed es o (suc h) t, (t, t)))
    expr_placed e o h t = t

    row_placed : (es : SRow ℕ) (o : Option Place) (h : ℕ) → OnTag o → AsmPlaced (row_asm o es h)
    row_placed slots.none o h t = tt
    row_placed (slots.item e es) o h t = (expr_placed e o h t, row_placed es o (suc h) t)
    row_placed (slots.aside i e es) o h t = (expr_placed e o h t, (t, row_placed es o h t))

  stores_placed : (ss : List (Option Slot)) (o : Option Place) → OnTag o → AsmPlaced (stores_asm o ss)
  stores_placed [] o t = tt
  stores_placed (s ∷ ss) o t = (stores_placed ss o t, t)

  take_placed : (xs : Targets) (o : Option Place) → OnTag o → AsmPlaced (take_asm o xs)
  take_placed (slots.one s) o t = t
  take_placed (slots.several ss) o t = (t, stores_placed ss o t)

  kept_placed : (c : Option (SlotExpr ℕ)) (xs : Targets) (o : Option Place) → OnTag o → AsmPlaced (kept_asm o xs c)
  kept_placed None xs o t = tt
  kept_placed (Some c) xs o t = (((t, take_placed xs o t), (expr_placed c o 0 t, t)), t)

  mutual
    stmt_coded : (s : SlotStmt ℕ) (h : ℕ) → StmtPlaced s → AsmPlaced (stmt_asm s h)
    stmt_coded (slots.put_pooled i) h t = tt
    stmt_coded (slots.print p escaping e) h t = (expr_placed e (Some p) h t, t)
    stmt_coded (slots.assign p xs e) h t = (expr_placed e (Some p) h t, take_placed xs (Some p) t)
    stmt_coded (slots.if_else p c a b) h t = (expr_placed c (Some p) h t.0, (body_coded a h t.1, body_coded b h t.2))
    stmt_coded (slots.for_each p xs e c body other) h t = (
      (expr_placed e (Some p) h t.0, (t.0, kept_placed c xs (Some p) t.0)),
      (((t.0, take_placed xs (Some p) t.0), body_coded body 0 t.1), (t.0, body_coded other h t.2)),
    )
    stmt_coded (slots.capture escaping s body) h t = (tt, (body_coded body (suc h) t, (tt, tt)))
    stmt_coded (slots.run u es) h t = (row_placed es None h tt, tt)

    body_coded : (b : SBody ℕ) (h : ℕ) → BodyPlaced b → AsmPlaced (body_asm b h)
    body_coded slots.end h t = tt
    body_coded (slots.stmt s rest) h t = (stmt_coded s h t.0, body_coded rest h t.1)

  routine_coded : (rs : List (Routine ℕ)) → AllByRecursion (λ r. BodyPlaced r.body) rs
      → AllByRecursion OnTag (flat_map routine_places rs)
  routine_coded [] h = tt
  routine_coded (r ∷ rs) h =
      all_append OnTag (routine_places r) (flat_map routine_places rs)
      (all_append OnTag (places (body_asm r.body 0)) (None ∷ [])
      (asm_placed (body_asm r.body 0) (body_coded r.body 0 h.0)) (tt, tt)) (routine_coded rs h.1)

  -- ---- constants with indices into the pool leave the places of tags unchanged

  mutual
    stmt_pooled : (s : SlotStmt Constant) (n : ℕ) → StmtPlaced s → StmtPlaced (placed_stmt s n)
    stmt_pooled (slots.put_pooled k) n t = tt
    stmt_pooled (slots.print p escaping e) n t = t
    stmt_pooled (slots.assign p xs e) n t = t
    stmt_pooled (slots.if_else p c a b) n t = (t.0, body_pooled a _ t.1, body_pooled b _ t.2)
    stmt_pooled (slots.for_each p xs e c body other) n t = (t.0, body_pooled body _ t.1, body_pooled other _ t.2)
    stmt_pooled (slots.capture escaping s body) n t = body_pooled body n t
    stmt_pooled (slots.run u es) n t = tt

    body_pooled : (b : SBody Constant) (n : ℕ) → BodyPlaced b → BodyPlaced (pooled_body b n)
    body_pooled slots.end n t = tt
    body_pooled (slots.stmt s rest) n t = (stmt_pooled s n t.0, body_pooled rest _ t.1)

  routines_pooled : (rs : List (Routine Constant)) (n : ℕ) → AllByRecursion (λ r. BodyPlaced r.body) rs
      → AllByRecursion (λ r. BodyPlaced r.body) (placed_routines rs n)
  routines_pooled [] n h = tt
  routines_pooled (r ∷ rs) n h = (body_pooled r.body n h.0, routines_pooled rs _ h.1)

  -- ---- the places come from the tags of templates

  module _ (L : ℕ → Type 0) (first : L 1) where
    -- Each of these lines in a template of this name is such a place.
    abbrev pub IsHere : Text → Type 0
    IsHere t = (line : ℕ) → L line → P (record { template = t; line = line })

    pub record IsTagged (name : Text) (body : Body) : Type 0 where
      pub here : IsHere name
      pub lines : BodyLines L body

    abbrev B : SBody Constant → Type 0
    B b = BodyPlaced b

    followed_placed : (a b : SBody Constant) → B a → B b → B (followed a b)
    followed_placed slots.end b h g = g
    followed_placed (slots.stmt s rest) b h g = (h.0, followed_placed rest b h.1 g)

    copied_placed : (p : Place) (table : Table) (n : ℕ) (xs : List Text) (b : SBody Constant) → P p → B b
        → B (copied p table n xs b)
    copied_placed p table n [] b h g = g
    copied_placed p table n (x ∷ xs) b h g = (h, copied_placed p table (suc n) xs b h g)

    handed_placed : (p : Place) (table : Table) (n : ℕ) (xs : List Text) → P p → B (handed_on p table n xs)
    handed_placed p table n [] h = tt
    handed_placed p table n (x ∷ xs) h = (h, handed_placed p table (suc n) xs h)

    scope_placed : (xs : List Text) (sp : StaticEnv) (inner : StaticEnv → SBody Constant) → IsHere sp.template
        → B (inner (bound_all xs sp)) → B (scoped xs sp inner)
    scope_placed xs sp inner h g =
        copied_placed (place sp 1) sp.table sp.free xs (inner (bound_all xs sp)) (h 1 first) g

    left_placed : (sp : StaticEnv) (line : ℕ) (missing : Bool) → P (place sp line) → B (left_out sp line missing)
    left_placed sp line true h = tt
    left_placed sp line false h = (h, tt)

    module _ (cenv : CompileEnv) (order : List Namespace) where
      values_placed : (ps : Pairs) (sp : StaticEnv) (line : ℕ) (b : SBody Constant) → P (place sp line) → B b
          → B (resolved_values cenv order ps sp line b)
      values_placed no_pairs sp line b h g = g
      values_placed (pair x e ps) sp line b h g = (h, values_placed ps (grown sp) line b h g)

      block_placed : (sp : StaticEnv) (o : Option ℕ) (x : Text) (table : Table) → IsHere sp.template
          → B (placed_body cenv order sp o x table)
      block_placed sp None x table h = (h 1 first, tt)
      block_placed sp (Some i) x table h = (tt, tt)

      include_placed : (sp : StaticEnv) (line : ℕ) (m : Text) (u : ℕ) (missing with_context none : Bool)
          → P (place sp line)
          → B (if none then left_out sp line missing
          else followed (handed_on (place sp line) (if with_context then sp.table else [])
          (first_slot cenv order (a_chain m)) (names cenv order (a_chain m)))
          (slots.stmt (slots.run u slots.none) slots.end))
      include_placed sp line m u missing with_context true h = left_placed sp line missing h
      include_placed sp line m u missing with_context false h =
          followed_placed (handed_on (place sp line) (if with_context then sp.table else [])
          (first_slot cenv order (a_chain m)) (names cenv order (a_chain m)))
          (slots.stmt (slots.run u slots.none) slots.end)
          (handed_placed (place sp line) (if with_context then sp.table else []) (first_slot cenv order (a_chain m))
          (names cenv order (a_chain m)) h) (tt, tt)

      mutual
        stmt_placed : (s : Stmt) (sp : StaticEnv) → IsHere sp.template → StmtLines L s
            → B (resolved_stmt cenv order s sp)
        stmt_placed (data_of t) sp h l = (tt, tt)
        stmt_placed (print line e) sp h l = (h line l, tt)
        stmt_placed (choose bs other) sp h l =
            choice_placed bs sp (resolved_body cenv order other sp) h l.0 (body_placed other sp h l.1)
        stmt_placed (for_each line xs e c body other) sp h l = (
          (
            h line l.0,
            scope_placed (set_in body) (bound_all xs sp) (resolved_body cenv order body) h
                (body_placed body (bound_all (set_in body) (bound_all xs sp)) h l.1),
            body_placed other sp h l.2,
          ),
          tt,
        )
        stmt_placed (set line xs e) sp h l = (h line l, tt)
        stmt_placed (set_block line x body) sp h l = (
          scope_placed (set_in body) sp (resolved_body cenv order body) h
              (body_placed body (bound_all (set_in body) sp) h l),
          tt,
        )
        stmt_placed (with_values line ps body) sp h l =
            let inner = bound_all (keywords ps) sp in
            values_placed ps sp line (scoped (set_in body) inner (resolved_body cenv order body)) (h line l.0)
            (scope_placed (set_in body) inner (resolved_body cenv order body) h
            (body_placed body (bound_all (set_in body) inner) h l.1))
        stmt_placed (filter_block line fs body) sp h l = (
          scope_placed (set_in body) (grown sp) (resolved_body cenv order body) h
              (body_placed body (bound_all (set_in body) (grown sp)) h l.1),
          (h line l.0, tt),
        )
        stmt_placed (autoescape line on body) sp h l =
            let inner = record sp { escaping = on } in
            scope_placed (set_in body) inner (resolved_body cenv order body) h
            (body_placed body (bound_all (set_in body) inner) h l)
        stmt_placed (include line m missing with_context) sp h l =
            include_placed sp line m (unit cenv order (of_chain m)) missing with_context (is_none (cenv.sources m))
            (h line l)
        stmt_placed (block line x is required body) sp h l =
            block_placed sp (first_body (numbered_of cenv sp.namespace x)) x
            (if is then sp.table else globals cenv order sp.namespace) h
        stmt_placed s sp h l = tt

        body_placed : (b : Body) (sp : StaticEnv) → IsHere sp.template → BodyLines L b
            → B (resolved_body cenv order b sp)
        body_placed end sp h l = tt
        body_placed (stmt s rest) sp h l =
            followed_placed (resolved_stmt cenv order s sp) (resolved_body cenv order rest sp) (stmt_placed s sp h l.0)
            (body_placed rest sp h l.1)

        choice_placed : (bs : Branches) (sp : StaticEnv) (other : SBody Constant) → IsHere sp.template
            → BranchLines L bs → B other → B (resolved_choice cenv order bs sp other)
        choice_placed no_branches sp other h l g = g
        choice_placed (branch line c body rest) sp other h l g =
            ((h line l.0, body_placed body sp h l.1, choice_placed rest sp other h l.2 g), tt)

      -- ---- routines

      sets_placed : (b : Body) (sp : StaticEnv) → IsHere sp.template → BodyLines L b → B (resolved_sets cenv order b sp)
      sets_placed end sp h l = tt
      sets_placed (stmt s rest) sp h l =
          let left = resolved_sets cenv order rest sp in
          let placed = sets_placed rest sp h l.1 in
          either_of B (is_set s) (followed (resolved_stmt cenv order s sp) left) left
          (followed_placed (resolved_stmt cenv order s sp) left (stmt_placed s sp h l.0) placed) placed

      chain_placed : (h : Namespace) (ts : List Template) → AllByRecursion (λ t. IsTagged t.name t.body) ts
          → B (resolved_chain cenv order h ts)
      chain_placed h [] g = tt
      chain_placed h (t ∷ []) g = body_placed t.body (top_senv cenv order h t.name) g.0.here g.0.lines
      chain_placed h (t ∷ u ∷ us) g =
          followed_placed (resolved_sets cenv order t.body (top_senv cenv order h t.name))
          (resolved_chain cenv order h (u ∷ us)) (sets_placed t.body (top_senv cenv order h t.name) g.0.here g.0.lines)
          (chain_placed h (u ∷ us) g.1)

      abbrev Good : Routine Constant → Type 0
      Good r = B r.body

      routine_placed : (ps : List Text) (b : Body) (sp : StaticEnv) → IsHere sp.template → BodyLines L b
          → B (scoped (set_in b) (bound_all ps sp) (resolved_body cenv order b))
      routine_placed ps b sp h l =
          scope_placed (set_in b) (bound_all ps sp) (resolved_body cenv order b) h
          (body_placed b (bound_all (set_in b) (bound_all ps sp)) h l)

      macros_placed : (h : Namespace) (ms : List MacroBody) → AllByRecursion (λ m. IsTagged m.template m.body) ms
          → AllByRecursion Good (map (macro_routine cenv order h) ms)
      macros_placed h [] g = tt
      macros_placed h (m ∷ ms) g = (
        routine_placed (map (λ p. p.name) m.parameters) m.body (top_senv cenv order h m.template) g.0.here
            g.0.lines,
        macros_placed h ms g.1,
      )

      bodies_placed : (h : Namespace) (bs : List (ℕ × BlockBody))
          → AllByRecursion (λ b. IsTagged b.1.template b.1.body) bs
          → AllByRecursion Good (body_routines cenv order h bs)
      bodies_placed h [] g = tt
      bodies_placed h (b ∷ bs) g = (
        routine_placed (block_parameters cenv order h b.1.name) b.1.body
            (record (top_senv cenv order h b.1.template) {
              escaping = b.1.escaping;
              part = Some (record { name = b.1.name; behind = filter (λ c. bytes_eq c.1.name b.1.name) bs });
            }) g.0.here g.0.lines,
        bodies_placed h bs g.1,
      )

      macros_tagged : (t : Text) → IsHere t → (b : Body) → BodyLines L b
          → AllByRecursion (λ m. IsTagged m.template m.body) (macros_in t b)
      macros_tagged t h end l = tt
      macros_tagged t h (stmt (macro line x ps body) rest) l =
          (record { here = h; lines = l.0 }, macros_tagged t h rest l.1)
      macros_tagged t h (stmt s rest) l = macros_tagged t h rest l.1

      abbrev Blocks : List BlockBody → Type 0
      Blocks = AllByRecursion (λ b. IsTagged b.template b.body)

      both_blocks : (xs ys : List BlockBody) → Blocks xs → Blocks ys → Blocks (xs ++ ys)
      both_blocks xs ys h g = all_append (λ b. IsTagged b.template b.body) xs ys h g

      mutual
        blocks_tagged : (t : Text) → IsHere t → (s : Stmt) (on : Bool) → StmtLines L s → Blocks (blocks_of t s on)
        blocks_tagged t h (block line x is required body) on l =
            (record { here = h; lines = l }, inner_tagged t h body on l)
        blocks_tagged t h (autoescape line now body) on l = inner_tagged t h body now l
        blocks_tagged t h (choose bs other) on l =
            both_blocks (blocks_under t bs on) (blocks_in t other on) (branches_tagged t h bs on l.0)
            (inner_tagged t h other on l.1)
        blocks_tagged t h (for_each line xs e c body other) on l =
            both_blocks (blocks_in t body on) (blocks_in t other on) (inner_tagged t h body on l.1)
            (inner_tagged t h other on l.2)
        blocks_tagged t h (set_block line x body) on l = inner_tagged t h body on l
        blocks_tagged t h (with_values line ps body) on l = inner_tagged t h body on l.1
        blocks_tagged t h (filter_block line fs body) on l = inner_tagged t h body on l.1
        blocks_tagged t h (macro line x ps body) on l = inner_tagged t h body on l
        blocks_tagged t h s on l = tt

        inner_tagged : (t : Text) → IsHere t → (b : Body) (on : Bool) → BodyLines L b → Blocks (blocks_in t b on)
        inner_tagged t h end on l = tt
        inner_tagged t h (stmt s rest) on l =
            both_blocks (blocks_of t s on) (blocks_in t rest on) (blocks_tagged t h s on l.0)
            (inner_tagged t h rest on l.1)

        branches_tagged : (t : Text) → IsHere t → (bs : Branches) (on : Bool) → BranchLines L bs
            → Blocks (blocks_under t bs on)
        branches_tagged t h no_branches on l = tt
        branches_tagged t h (branch line c body rest) on l =
            both_blocks (blocks_in t body on) (blocks_under t rest on) (inner_tagged t h body on l.1)
            (branches_tagged t h rest on l.2)

      all_macros : (ts : List Template) → AllByRecursion (λ t. IsTagged t.name t.body) ts
          → AllByRecursion (λ m. IsTagged m.template m.body) (flat_map (λ t. macros_in t.name t.body) ts)
      all_macros [] g = tt
      all_macros (t ∷ ts) g =
          all_append (λ m. IsTagged m.template m.body) (macros_in t.name t.body)
          (flat_map (λ t. macros_in t.name t.body) ts) (macros_tagged t.name g.0.here t.body g.0.lines)
          (all_macros ts g.1)

      all_blocks : (on : Bool) (ts : List Template) → AllByRecursion (λ t. IsTagged t.name t.body) ts
          → Blocks (flat_map (λ t. blocks_in t.name t.body on) ts)
      all_blocks on [] g = tt
      all_blocks on (t ∷ ts) g =
          both_blocks (blocks_in t.name t.body on) (flat_map (λ t. blocks_in t.name t.body on) ts)
          (inner_tagged t.name g.0.here t.body on g.0.lines) (all_blocks on ts g.1)

      counted_tagged : (n : ℕ) (bs : List BlockBody) → Blocks bs
          → AllByRecursion (λ b. IsTagged b.1.template b.1.body) (counted_from n bs)
      counted_tagged n [] g = tt
      counted_tagged n (b ∷ bs) g = (g.0, counted_tagged (suc n) bs g.1)

      entry_placed : (h : Namespace) → AllByRecursion (λ t. IsTagged t.name t.body) (templates cenv.sources h)
          → AllByRecursion Good (entry_routines cenv order h)
      entry_placed (a_chain n) g = (chain_placed (a_chain n) (templates cenv.sources (a_chain n)) g, tt)
      entry_placed (a_library n) g = tt

      routines_placed : (hs : List Namespace)
          → AllByRecursion (λ h. AllByRecursion (λ t. IsTagged t.name t.body) (templates cenv.sources h)) hs
          → AllByRecursion Good (flat_map (chain_routines cenv order) hs)
      routines_placed [] g = tt
      routines_placed (h ∷ hs) g =
          let ts = templates cenv.sources h in
          let ms = map (macro_routine cenv order h) (macros cenv.sources h) in
          let bs = body_routines cenv order h (numbered_bodies cenv h) in
          let all = counted_tagged 0 (flat_map (λ t. blocks_in t.name t.body cenv.escaping) ts)
          (all_blocks cenv.escaping ts g.0) in
          all_append Good (chain_routines cenv order h) (flat_map (chain_routines cenv order) hs)
          (all_append Good (entry_routines cenv order h) (ms ++ bs) (entry_placed h g.0)
          (all_append Good ms bs (macros_placed h (macros cenv.sources h) (all_macros ts g.0))
          (bodies_placed h (numbered_bodies cenv h) all)))
          (routines_placed hs g.1)

      -- Each place in the code of the chains' program is the place of a tag.
      pub program_placed : (entry : Namespace)
          → AllByRecursion (λ h. AllByRecursion (λ t. IsTagged t.name t.body) (templates cenv.sources h)) order
          → AllByRecursion OnTag (places_of (program cenv order entry))
      program_placed entry g =
          routine_coded (program cenv order entry).routines
          (routines_pooled (routines cenv order) _ (routines_placed order g))
