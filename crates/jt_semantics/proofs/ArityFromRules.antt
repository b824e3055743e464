-- If the rules hold and each test and filter is known, each routine of a program gets the number of
-- values that it takes.
use Rattle.std.proofs.Common.{◌≡◌, ℕ, suc, Bool, true, false, List, [], ◌∷◌, ◌++◌, length, Option, Some}
use Rattle.std.proofs.Common.{None, sym, ap, ◌∙◌, subst, arith, rules}
use Rattle.std.specs.Option.{is_none}
use Rattle.std.specs.List.{AllByRecursion as Each}
use Rattle.jt_ast.specs.Expressions as written
use Rattle.jt_ast.specs.Expressions.{Expr, Text}
use Rattle.jt_value.specs.Place.{Place}
use Rattle.jt_chains.specs.Uses.{set_in}
use Rattle.jt_ast.specs.Statements.{FilterCall, Stmt, data_of, print, choose, for_each, set, set_block, with_values}
use Rattle.jt_ast.specs.Statements.{filter_block, autoescape, macro, include, import_as, import_from, extends, block}
use Rattle.jt_ast.specs.Statements.{Body, end, stmt, Branches, no_branches, branch}
use Rattle.jt_chains.specs.Chain.{Namespace, BlockBody, blocks_of, blocks_in, blocks_under}
use Rattle.jt_rules.specs.CompileEnv.{CompileEnv}
use Rattle.jt_chains.specs.Includes.{needs_by, needs_in, needs_under}
use Rattle.jt_ir.specs.Slots as slots
use Rattle.jt_ir.specs.Slots.{SlotExpr, SBody}
use Rattle.jt_ir.specs.Size.{row_count}
use Rattle.jt_ir.specs.Takes.{HasParameters, ConditionTakes, BodyTakes}
use Rattle.jt_rules.specs.Known.{ConditionKnown, FilterCallKnown, StmtKnown, BodyKnown, BranchesKnown}
use Rattle.jt_semantics.specs.Layout.{Table, slot_in, block_parameters, numbered_of}
use Rattle.jt_ir.specs.Pool.{Constant, known}
use Rattle.jt_semantics.specs.Resolve.{followed, reads, handed_on, StaticEnv, place, bound_all, copied, scoped}
use Rattle.jt_semantics.specs.Resolve.{first_body, resolved_condition, resolved_filters, resolved_values, placed_body}
use Rattle.jt_semantics.specs.Resolve.{resolved, resolved_stmt, resolved_body, resolved_choice}
use Rattle.jt_uses.specs.Uses.{bound, expr_uses, row_uses, pair_uses, condition_uses, filter_call_use, filter_call_uses}
use Rattle.jt_uses.specs.Uses.{stmt_uses, body_uses, branch_uses, place_at, before_loop, inside_scope, inside_loop}
use Rattle.jt_uses.specs.Uses.{keys_bound}
use Rattle.jt_uses.specs.declared.site.Enclosing.{Enclosing}
use Rattle.jt_uses.specs.declared.site.Place.{Place as UsePlace}
use Rattle.jt_semantics.proofs.CallInvariant.{Included}
use Rattle.jt_semantics.proofs.RoutineLookup.{chain_is, body_is}
use Rattle.jt_semantics.proofs.EnvLookup.{no_both}
use Rattle.jt_semantics.proofs.KeptUses.{AllKeep, front, back}
use Rattle.jt_semantics.proofs.ArityOfParts.{Stands, rs, ETakes, HasBody, none_numbered, required_takes}
use Rattle.jt_semantics.proofs.ArityOfParts.{PartTail, slot_takes, reads_take, reads_count, filtered_takes, some_takes}
use Rattle.jt_semantics.proofs.ArityOfParts.{row_counts, aside_counts, some_count, expr_takes, row_takes, asides_take}
use Rattle.jt_semantics.proofs.EachElement.{each_front, each_back}

module _ (cenv : CompileEnv) (order : List Namespace) where
  abbrev pub BTakes : Bool → SBody Constant → Type 0
  BTakes l b = BodyTakes cenv.filters (rs cenv order) l b

  pub followed_takes : (l : Bool) (a b : SBody Constant) → BTakes l a → BTakes l b → BTakes l (followed a b)
  followed_takes l slots.end b h k = k
  followed_takes l (slots.stmt s rest) b h k = (h.0, followed_takes l rest b h.1 k)

  pub copied_takes : (l : Bool) (p : Place) (table : Table) (n : ℕ) (xs : List Text) (behind : SBody Constant)
      → BTakes l behind → BTakes l (copied p table n xs behind)
  copied_takes l p table n [] behind h = h
  copied_takes l p table n (x ∷ xs) behind h =
      (slot_takes cenv order l (slot_in x table) (known 0), copied_takes l p table (suc n) xs behind h)

  handed_takes : (l : Bool) (p : Place) (table : Table) (n : ℕ) (xs : List Text) → BTakes l (handed_on p table n xs)
  handed_takes l p table n [] = tt
  handed_takes l p table n (x ∷ xs) =
      (slot_takes cenv order l (slot_in x table) (known 0), handed_takes l p table (suc n) xs)

  placed_takes : (l : Bool) (sp : StaticEnv) (x : Text) (table : Table) (bs : List (ℕ × BlockBody))
      → Stands cenv order sp.namespace → HasBody cenv order sp.namespace x → numbered_of cenv sp.namespace x ≡ bs
      → BTakes l (placed_body cenv order sp (first_body bs) x table)
  placed_takes l sp x table [] e there t = absurd (none_numbered cenv order sp.namespace x there t)
  placed_takes l sp x table (b ∷ bs) e there t =
      let found = body_is cenv order sp.namespace x b.0 b.1 [] bs e.0 t in (
        (
          subst (λ z. HasParameters z (row_count (reads table (block_parameters cenv order sp.namespace x))))
              (sym found.0) (ap (λ z. length (block_parameters cenv order sp.namespace z)) found.1
              ∙ sym (reads_count cenv order table (block_parameters cenv order sp.namespace x))),
          reads_take cenv order l table (block_parameters cenv order sp.namespace x),
        ),
        tt,
      )

  filters_take : (here : UsePlace) (fs : List FilterCall) (sp : StaticEnv) (e : SlotExpr Constant)
      → Stands cenv order sp.namespace → PartTail cenv order here.around.in_block sp.namespace sp.part
      → AllKeep cenv sp.namespace (filter_call_uses fs here) → FilterCallKnown cenv.filters fs
      → ETakes cenv order here.around.in_loop e
      → ETakes cenv order here.around.in_loop (resolved_filters cenv order fs sp e)
  filters_take here [] sp e k t h f r = r
  filters_take here (g ∷ fs) sp e k t h f r =
      let own = front cenv sp.namespace (filter_call_use g here) (filter_call_uses fs here) h in
      let parts = own.1 in
      search (
        arith,
        rules,
        filters_take here fs sp,
        filtered_takes,
        required_takes,
        own.0.fitting,
        row_counts,
        aside_counts,
        some_count,
        row_takes,
        front cenv sp.namespace (row_uses g.arguments here) (pair_uses g.keywords here) parts,
        asides_take,
        back cenv sp.namespace (row_uses g.arguments here) (pair_uses g.keywords here) parts,
        back cenv sp.namespace (filter_call_use g here) (filter_call_uses fs here) h,
        some_takes,
      )

  values_take : (here : UsePlace) (ps : written.Pairs) (sp : StaticEnv) (line : ℕ) (behind : SBody Constant)
      → Stands cenv order sp.namespace → PartTail cenv order here.around.in_block sp.namespace sp.part
      → AllKeep cenv sp.namespace (pair_uses ps here) → Rattle.jt_rules.specs.Known.PairsKnown cenv.filters ps
      → BTakes here.around.in_loop behind
      → BTakes here.around.in_loop (resolved_values cenv order ps sp line behind)
  values_take here written.no_pairs sp line behind e t h k r = r
  values_take here (written.pair x a ps) sp line behind e t h k r =
      search (arith, rules, expr_takes, front, back, values_take here ps)

  condition_takes : (here : UsePlace) (c : Option Expr) (sp : StaticEnv) → Stands cenv order sp.namespace
      → PartTail cenv order here.around.in_block sp.namespace sp.part
      → AllKeep cenv sp.namespace (condition_uses c here)
      → ConditionKnown cenv.filters c → ConditionTakes cenv.filters (rs cenv order) (resolved_condition cenv order c sp)
  condition_takes here None sp e t h k = tt
  condition_takes here (Some c) sp e t h k = expr_takes cenv order (before_loop here) c sp e t h k

  -- Holds if each of the blocks has a body in the chain.
  abbrev pub Embodied : Namespace → List BlockBody → Type 0
  Embodied h bs = Each (λ b. HasBody cenv order h b.name) bs

  -- Holds if the name has a source.
  abbrev pub HasSource : Text → Type 0
  HasSource x = is_none (cenv.sources x) ≡ false

  -- Holds if the first names are included, and the second ones, which may not be missing, have
  -- sources.
  abbrev pub Needed : Namespace → List Text → List Text → Type 0
  Needed h xs ys = Each (Included cenv order h) xs × Each HasSource ys

  pub needed_front : (h : Namespace) (xs ys us vs : List Text) → Needed h (xs ++ ys) (us ++ vs) → Needed h xs us
  needed_front h xs ys us vs n = (each_front (Included cenv order h) xs ys n.0, each_front HasSource us vs n.1)

  pub needed_back : (h : Namespace) (xs ys us vs : List Text) → Needed h (xs ++ ys) (us ++ vs) → Needed h ys vs
  needed_back h xs ys us vs n = (each_back (Included cenv order h) xs ys n.0, each_back HasSource us vs n.1)

  mutual
    pub stmt_takes : (s : Stmt) (sp : StaticEnv) (w : Enclosing) → Stands cenv order sp.namespace
        → PartTail cenv order w.in_block sp.namespace sp.part → AllKeep cenv sp.namespace (stmt_uses s w)
        → StmtKnown cenv.filters s → Needed sp.namespace (needs_by true s) (needs_by false s)
        → Embodied sp.namespace (blocks_of sp.template s sp.escaping) → BTakes w.in_loop (resolved_stmt cenv order s sp)
    stmt_takes (data_of s) sp w e t h k n d = (tt, tt)
    stmt_takes (print line a) sp w e t h k n d = (
      required_takes cenv order w.in_loop cenv.strict (resolved cenv order a sp)
          (expr_takes cenv order (place_at line w) a sp e t h k),
      tt,
    )
    stmt_takes (choose bs other) sp w e t h k n d =
        search (
          arith,
          rules,
          choice_takes bs sp w,
          front cenv sp.namespace (branch_uses bs w) (body_uses other w) h,
          needed_front,
          each_front,
          body_serves other sp w e t,
          back cenv sp.namespace (branch_uses bs w) (body_uses other w) h,
          needed_back,
          each_back,
        )
    stmt_takes (for_each line xs a c body other) sp w e t h k n d =
        let here = place_at line w in
        let inside = inside_loop w in
        let bodies = body_uses body inside ++ body_uses other w in
        let names = bound xs (place_at line (inside_scope w)) in
        let head = expr_uses a here ++ (names ++ condition_uses c here) in
        let h1 = front cenv sp.namespace head bodies h in
        let h2 = back cenv sp.namespace (expr_uses a here) (names ++ condition_uses c here) h1 in
        let h3 = back cenv sp.namespace head bodies h in (
          (
            required_takes cenv order w.in_loop cenv.strict (resolved cenv order a sp)
                (expr_takes cenv order here a sp e t
                (front cenv sp.namespace (expr_uses a here) (names ++ condition_uses c here) h1) k.0),
            condition_takes here c (bound_all xs sp) e t (back cenv sp.namespace names (condition_uses c here) h2) k.1,
            copied_takes true (place sp 1) (bound_all xs sp).table (bound_all xs sp).free (set_in body)
                (resolved_body cenv order body (bound_all (set_in body) (bound_all xs sp)))
                (body_serves body (bound_all (set_in body) (bound_all xs sp)) inside e t
                (front cenv sp.namespace (body_uses body inside) (body_uses other w) h3) k.2
                (needed_front sp.namespace (needs_in true body) (needs_in true other) (needs_in false body)
                (needs_in false other) n) (each_front (λ b. HasBody cenv order sp.namespace b.name)
                (blocks_in sp.template body sp.escaping) (blocks_in sp.template other sp.escaping) d)),
            body_serves other sp w e t
                (back cenv sp.namespace (body_uses body inside) (body_uses other w) h3) k.3
                (needed_back sp.namespace (needs_in true body) (needs_in true other) (needs_in false body)
                (needs_in false other) n) (each_back (λ b. HasBody cenv order sp.namespace b.name)
                (blocks_in sp.template body sp.escaping) (blocks_in sp.template other sp.escaping) d),
          ),
          tt,
        )
    stmt_takes (set line xs a) sp w e t h k n d =
        let here = place_at line w in
        (expr_takes cenv order here a sp e t (front cenv sp.namespace (expr_uses a here) (bound xs here) h) k, tt)
    stmt_takes (set_block line x body) sp w e t h k n d =
        let inner = λ (in_body : StaticEnv). body_serves body in_body (inside_scope w) in
        search (arith, rules, copied_takes, h.1, inner)
    stmt_takes (with_values line ps body) sp w e t h k n d =
        let here = place_at line w in
        let inner = λ (in_body : StaticEnv). body_serves body in_body (inside_scope w) in
        let keys = keys_bound ps (place_at line (inside_scope w)) in
        let rest = keys ++ body_uses body (inside_scope w) in
        search (
          arith,
          rules,
          values_take here ps,
          front cenv sp.namespace (pair_uses ps here) rest h,
          copied_takes,
          inner,
          back cenv sp.namespace keys (body_uses body (inside_scope w))
              (back cenv sp.namespace (pair_uses ps here) rest h),
        )
    stmt_takes (filter_block line fs body) sp w e t h k n d =
        let here = place_at line w in
        let inner = λ (in_body : StaticEnv). body_serves body in_body (inside_scope w) in
        search (
          arith,
          rules,
          copied_takes,
          required_takes,
          filters_take here fs,
          front cenv sp.namespace (filter_call_uses fs here) (body_uses body (inside_scope w)) h,
          inner,
          back cenv sp.namespace (filter_call_uses fs here) (body_uses body (inside_scope w)) h,
        )
    stmt_takes (autoescape line on body) sp w e t h k n d =
        let inner = λ (in_body : StaticEnv). body_serves body in_body (inside_scope w) in
        search (arith, rules, copied_takes, inner)
    stmt_takes (macro line x ps body) sp w e t h k n d = tt
    stmt_takes (include line x ignore_missing with_context) sp w e t h k n d =
        search (arith, rules, no_both, followed_takes, handed_takes, chain_is)
    stmt_takes (import_as line x new) sp w e t h k n d = tt
    stmt_takes (import_from line x news) sp w e t h k n d = tt
    stmt_takes (extends line x) sp w e t h k n d = tt
    stmt_takes (block line x scoped required body) sp w e t h k n d = search (arith, rules, placed_takes)

    pub body_serves : (c : Body) (sp : StaticEnv) (w : Enclosing) → Stands cenv order sp.namespace
        → PartTail cenv order w.in_block sp.namespace sp.part → AllKeep cenv sp.namespace (body_uses c w)
        → BodyKnown cenv.filters c → Needed sp.namespace (needs_in true c) (needs_in false c)
        → Embodied sp.namespace (blocks_in sp.template c sp.escaping) → BTakes w.in_loop (resolved_body cenv order c sp)
    body_serves end sp w e t h k n d = tt
    body_serves (stmt s rest) sp w e t h k n d =
        search (
          arith,
          rules,
          followed_takes,
          stmt_takes s sp w e t,
          front cenv sp.namespace (stmt_uses s w) (body_uses rest w) h,
          needed_front,
          each_front,
          body_serves rest sp w e t,
          back cenv sp.namespace (stmt_uses s w) (body_uses rest w) h,
          needed_back,
          each_back,
        )

    pub choice_takes : (bs : Branches) (sp : StaticEnv) (w : Enclosing) (other : SBody Constant)
        → Stands cenv order sp.namespace → PartTail cenv order w.in_block sp.namespace sp.part
        → AllKeep cenv sp.namespace (branch_uses bs w) → BranchesKnown cenv.filters bs
        → Needed sp.namespace (needs_under true bs) (needs_under false bs)
        → Embodied sp.namespace (blocks_under sp.template bs sp.escaping)
        → BTakes w.in_loop other → BTakes w.in_loop (resolved_choice cenv order bs sp other)
    choice_takes no_branches sp w other e t h k n d r = r
    choice_takes (branch line c body rest) sp w other e t h k n d r =
        let here = place_at line w in
        let own = expr_uses c here ++ body_uses body w in
        let first = front cenv sp.namespace own (branch_uses rest w) h in
        search (
          arith,
          rules,
          expr_takes cenv order here c sp,
          front cenv sp.namespace (expr_uses c here) (body_uses body w) first,
          body_serves body sp w e t,
          back cenv sp.namespace (expr_uses c here) (body_uses body w) first,
          needed_front,
          each_front,
          choice_takes rest sp w other e t,
          back cenv sp.namespace own (branch_uses rest w) h,
          needed_back,
          each_back,
        )
