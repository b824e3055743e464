-- The routines of a program get the number of values that they take.
use Rattle.std.proofs.Common.{◌≡◌, ℕ, suc, Bool, true, false, ◌&&◌, if◌then◌else◌, List, [], ◌∷◌, ◌++◌, map, Option}
use Rattle.std.proofs.Common.{Some, None, refl, sym, ap, ◌∙◌, append_assoc, arith, rules}
use Rattle.std.specs.Prelude.{◌||◌, flat_map, filter}
use Rattle.std.specs.List.{AllByRecursion as Each}
use Rattle.std.specs.Str.{bytes_eq}
use Rattle.jt_ast.specs.Expressions.{Text}
use Rattle.jt_ast.specs.Statements.{Stmt, choose, for_each, set_block, with_values, filter_block, autoescape, macro}
use Rattle.jt_ast.specs.Statements.{block, Body, end, stmt, Branches, no_branches, branch}
use Rattle.jt_chains.specs.Chain.{Namespace, same_namespace, listed, Template, templates, BlockBody}
use Rattle.jt_chains.specs.Chain.{blocks_of, blocks_in, blocks_under, all_bodies, bodies, from_given, MacroBody}
use Rattle.jt_chains.specs.Chain.{macros_in, macros}
use Rattle.jt_rules.specs.CompileEnv.{CompileEnv}
use Rattle.jt_chains.specs.Uses.{set_in}
use Rattle.jt_chains.specs.Includes.{needs_by, needs_in, needs_under, InOrder}
use Rattle.jt_chains.specs.Rules.{is_empty, lacks_super, Reaches, KeepsRules}
use Rattle.jt_chains.specs.Supers.{calls_super}
use Rattle.jt_semantics.specs.Meaning.{is_set}
use Rattle.jt_ir.specs.Slots.{Routine}
use Rattle.jt_ir.specs.Takes.{BodyTakes}
use Rattle.jt_rules.specs.Known.{StmtKnown, BodyKnown, BranchesKnown, TemplatesKnown, ChainsKnown}
use Rattle.jt_semantics.specs.Layout.{counted_from, numbered_bodies, numbered_of, block_parameters}
use Rattle.jt_ir.specs.Pool.{Constant}
use Rattle.jt_semantics.specs.Resolve.{StaticEnv, top_senv, place, bound_all, next_given, followed, resolved_stmt}
use Rattle.jt_semantics.specs.Resolve.{resolved_body, resolved_sets, resolved_chain, macro_routine, body_routine}
use Rattle.jt_semantics.specs.Programs.{body_routines, entry_routines, chain_routines}
use Rattle.jt_uses.specs.Uses.{place_at, outside, inside_scope, inside_block, inside_macro, filter_call_uses, stmt_uses}
use Rattle.jt_uses.specs.Uses.{body_uses, branch_uses}
use Rattle.jt_uses.specs.declared.site.Enclosing.{Enclosing}
use Rattle.jt_rules.specs.Rules.{chain_uses}
use Rattle.jt_semantics.proofs.CallInvariant.{Included, Tail}
use Rattle.jt_semantics.proofs.EnvLookup.{same_is, namespace_is, no_both}
use Rattle.jt_semantics.proofs.ChainOrder.{Belongs, Owned, OwnedMacro, libraries_stand}
use Rattle.jt_semantics.proofs.ChainOrder.{templates_belong, all_macro_bodies, all_block_bodies}
use Rattle.jt_semantics.proofs.KeptUses.{AllKeep, ChainsKeep, front, back}
use Rattle.jt_semantics.proofs.ArityOfParts.{rs, HasBody, Stands}
use Rattle.jt_semantics.proofs.ExpressionCorrect.{numbered_are}
use Rattle.jt_semantics.proofs.WithoutSuper.{out_of, body_without}
use Rattle.jt_semantics.proofs.ChainRules.{lacks_at, not_called, needed_there, bodies_behind}
use Rattle.jt_semantics.proofs.ArityFromRules.{BTakes, followed_takes, copied_takes, Embodied, HasSource, stmt_takes}
use Rattle.jt_semantics.proofs.ArityFromRules.{body_serves}
use Rattle.jt_semantics.proofs.EachElement.{each_front, each_back, each_append}
use Rattle.std.proofs.lemmas.Bool.{or_right}

-- The contexts of the bodies of blocks.
abbrev in_block : Bool → Enclosing
in_block callee = record { in_loop = false; in_block = true; in_callee = callee; in_scope = true }

-- If a list has a block of this name, its blocks of this name are not empty.
never_empty : (x : Text) (pre : List BlockBody) (b : BlockBody) (bs : List BlockBody) → bytes_eq b.name x ≡ true
    → filter (λ c. bytes_eq c.name x) (pre ++ (b ∷ bs)) ≡ [] → ⊥
never_empty x [] b bs same e = search (arith, rules, no_both)
never_empty x (p ∷ pre) b bs same e = search (arith, rules, never_empty x pre b bs same)

module _ (cenv : CompileEnv) (order : List Namespace) (h : Namespace) where
  -- Holds if each of the blocks has a body in the chain.
  abbrev Bodied : List BlockBody → Type 0
  Bodied bs = Embodied cenv order h bs

  abbrev IsBodied : BlockBody → Type 0
  IsBodied b = HasBody cenv order h b.name

  bodied_behind : (pre bs : List BlockBody) → all_bodies cenv.sources cenv.escaping h ≡ pre ++ bs → Bodied bs
  bodied_behind pre [] e = tt
  bodied_behind pre (b ∷ bs) e =
      search (
        arith,
        rules,
        never_empty,
        same_is,
        bodied_behind (pre ++ (b ∷ [])) bs (e ∙ sym (append_assoc pre (b ∷ []) bs)),
        append_assoc,
      )

  templates_bodied : (ts : List Template) → Bodied (flat_map (λ t. blocks_in t.name t.body cenv.escaping) ts)
      → Each (λ t. Bodied (blocks_in t.name t.body cenv.escaping)) ts
  templates_bodied [] d = tt
  templates_bodied (t ∷ ts) d = search (arith, rules, each_front, templates_bodied ts, each_back)

  -- Holds if each of the names has a source.
  abbrev Sourced : List Text → Type 0
  Sourced xs = Each (HasSource cenv order) xs

  -- Holds if a body of a template keeps the rules, its tests and filters are known, and its blocks
  -- have bodies. The names that it includes have sources unless they may be missing.
  abbrev Fine : Enclosing → Text → Bool → Body → Type 0
  Fine w t on c =
      AllKeep cenv h (body_uses c w) × BodyKnown cenv.filters c × Bodied (blocks_in t c on)
      × Sourced (needs_in false c)

  abbrev FineMacro : MacroBody → Type 0
  FineMacro m = Fine (inside_macro outside) m.template cenv.escaping m.body

  macros_fine : (t : Text) (c : Body) → Fine outside t cenv.escaping c → Each FineMacro (macros_in t c)
  macros_fine t end f = tt
  macros_fine t (stmt (macro line x ps body) rest) f =
      search (arith, rules, front, back, each_front, each_back, macros_fine t rest)
  macros_fine t (stmt s rest) f = search (arith, rules, back, each_back, macros_fine t rest)

  abbrev FineBlock : BlockBody → Type 0
  FineBlock b = (callee : Bool) × Fine (in_block callee) b.template b.escaping b.body

  abbrev AllFine : List BlockBody → Type 0
  AllFine bs = Each FineBlock bs

  module _ (t : Text) where
    mutual
      stmt_fine : (s : Stmt) (on : Bool) (w : Enclosing) → AllKeep cenv h (stmt_uses s w) → StmtKnown cenv.filters
          s
          → Bodied (blocks_of t s on) → Sourced (needs_by false s) → AllFine (blocks_of t s on)
      stmt_fine (block line x scoped required body) on w e k d m =
          ((w.in_callee, (e.1, k, d.1, m)), body_fine body on (inside_block w) e.1 k d.1 m)
      stmt_fine (choose bs other) on w e k d m =
          grind (arith, each_append, front, each_front, back, each_back, branches_fine bs on w, body_fine other on w)
      stmt_fine (for_each line xs a c body other) on w e k d m =
          grind (arith, back, each_append, front, each_front, each_back, body_fine body on, body_fine other on w)
      stmt_fine (set_block line x body) on w e k d m =
          body_fine body on (inside_scope w) e.1 k d m
      stmt_fine (with_values line ps body) on w e k d m = search (arith, rules, back, body_fine body on)
      stmt_fine (filter_block line fs body) on w e k d m =
          body_fine body on (inside_scope w)
          (back cenv h (filter_call_uses fs (place_at line w)) (body_uses body (inside_scope w)) e) k.1 d m
      stmt_fine (autoescape line now body) on w e k d m = body_fine body now (inside_scope w) e k d m
      stmt_fine (macro line x ps body) on w e k d m = search (arith, rules, back, body_fine body on)
      stmt_fine s on w e k d m = tt

      body_fine : (c : Body) (on : Bool) (w : Enclosing) → AllKeep cenv h (body_uses c w) → BodyKnown cenv.filters
          c
          → Bodied (blocks_in t c on) → Sourced (needs_in false c) → AllFine (blocks_in t c on)
      body_fine end on w e k d m = tt
      body_fine (stmt s rest) on w e k d m =
          search (arith, rules, each_append, front, each_front, back, each_back, stmt_fine s on w, body_fine rest on w)

      branches_fine : (bs : Branches) (on : Bool) (w : Enclosing) → AllKeep cenv h (branch_uses bs w)
          → BranchesKnown cenv.filters bs → Bodied (blocks_under t bs on) → Sourced (needs_under false bs)
          → AllFine (blocks_under t bs on)
      branches_fine no_branches on w e k d m = tt
      branches_fine (branch line c body rest) on w e k d m =
          grind (arith, front, each_append, back, each_front, each_back, body_fine body on w, branches_fine rest on w)

  abbrev FineTemplate : Template → Type 0
  FineTemplate t = Fine outside t.name cenv.escaping t.body

  templates_fine : (ts : List Template) → AllKeep cenv h (flat_map (λ t. body_uses t.body outside) ts)
      → TemplatesKnown cenv.filters ts
      → Each (λ t. Bodied (blocks_in t.name t.body cenv.escaping)) ts
      → Sourced (flat_map (λ t. needs_in false t.body) ts) → Each FineTemplate ts
  templates_fine [] e k d m = tt
  templates_fine (t ∷ ts) e k d m = search (arith, rules, front, each_front, back, each_back, templates_fine ts)

  all_macros_fine : (ts : List Template) → Each FineTemplate ts
      → Each FineMacro (flat_map (λ t. macros_in t.name t.body) ts)
  all_macros_fine [] f = tt
  all_macros_fine (t ∷ ts) f =
      each_append FineMacro (macros_in t.name t.body) (flat_map (λ u. macros_in u.name u.body) ts)
      (macros_fine t.name t.body f.0) (all_macros_fine ts f.1)

  all_blocks_fine : (ts : List Template) → Each FineTemplate ts
      → AllFine (flat_map (λ t. blocks_in t.name t.body cenv.escaping) ts)
  all_blocks_fine [] f = tt
  all_blocks_fine (t ∷ ts) f =
      each_append FineBlock (blocks_in t.name t.body cenv.escaping)
      (flat_map (λ u. blocks_in u.name u.body cenv.escaping) ts)
      (body_fine t.name t.body cenv.escaping outside f.0.0 f.0.1 f.0.2 f.0.3) (all_blocks_fine ts f.1)

-- ---- Routines

module _ (cenv : CompileEnv) (order : List Namespace) (ordered : InOrder cenv.sources order) (h : Namespace)
    (known : listed h order ≡ true) where
  stands : Stands cenv order h
  stands = search (arith, rules, libraries_stand)

  abbrev Serves : Routine Constant → Type 0
  Serves r = BodyTakes cenv.filters (rs cenv order) false r.body

  abbrev InChain : Body → Type 0
  InChain c = Belongs cenv order ordered h known c

  chain_sets : (c : Body) (t : Text) → Fine cenv order h outside t cenv.escaping c
      → Each (Included cenv order h) (needs_in true c)
      → BTakes cenv order false (resolved_sets cenv order c (top_senv cenv order h t))
  chain_sets end t f n = tt
  chain_sets (stmt s rest) t f n =
      which (is_set s) (chain_sets rest t (
        back cenv h (stmt_uses s outside) (body_uses rest outside) f.0,
        f.1.1,
        each_back (IsBodied cenv order h) (blocks_of t s cenv.escaping) (blocks_in t rest cenv.escaping) f.2,
        each_back (HasSource cenv order) (needs_by false s) (needs_in false rest) f.3,
      ) (each_back (Included cenv order h) (needs_by true s) (needs_in true rest) n))
    where
      which : (b : Bool) → BTakes cenv order false (resolved_sets cenv order rest (top_senv cenv order h t))
          → BTakes cenv order false (if b then followed (resolved_stmt cenv order s (top_senv cenv order h t))
          (resolved_sets cenv order rest (top_senv cenv order h t))
          else resolved_sets cenv order rest (top_senv cenv order h t))
      which false r = r
      which true r =
          followed_takes cenv order false (resolved_stmt cenv order s (top_senv cenv order h t))
          (resolved_sets cenv order rest (top_senv cenv order h t))
          (stmt_takes cenv order s (top_senv cenv order h t) outside stands refl
          (front cenv h (stmt_uses s outside) (body_uses rest outside) f.0) f.1.0 (
            each_front (Included cenv order h) (needs_by true s) (needs_in true rest) n,
            each_front (HasSource cenv order) (needs_by false s) (needs_in false rest) f.3,
          )
          (each_front (IsBodied cenv order h) (blocks_of t s cenv.escaping) (blocks_in t rest cenv.escaping) f.2)) r

  chain_takes : (ts : List Template) → Each (FineTemplate cenv order h) ts → Each (λ t. InChain t.body) ts
      → BTakes cenv order false (resolved_chain cenv order h ts)
  chain_takes [] f b = tt
  chain_takes (t ∷ []) f b =
      body_serves cenv order t.body (top_senv cenv order h t.name) outside stands refl f.0.0 f.0.1 (b.0.included, f.0.3)
      f.0.2
  chain_takes (t ∷ u ∷ us) f b =
      followed_takes cenv order false (resolved_sets cenv order t.body (top_senv cenv order h t.name))
      (resolved_chain cenv order h (u ∷ us)) (chain_sets t.body t.name f.0 b.0.included) (chain_takes (u ∷ us) f.1 b.1)

  macros_take : (ms : List MacroBody) → Each (FineMacro cenv order h) ms
      → Each (OwnedMacro cenv order ordered h known) ms → Each Serves (map (macro_routine cenv order h) ms)
  macros_take [] f b = tt
  macros_take (m ∷ ms) f b =
      let sp = bound_all (map (λ p. p.name) m.parameters) (top_senv cenv order h m.template) in (
        copied_takes cenv order false (place sp 1) sp.table sp.free (set_in m.body)
            (resolved_body cenv order m.body (bound_all (set_in m.body) sp))
            (body_serves cenv order m.body (bound_all (set_in m.body) sp) (inside_macro outside) stands refl f.0.0 f.0.1
            (b.0.body.belongs.included, f.0.3) f.0.2),
        macros_take ms f.1 b.1,
      )

  filter_behind : (p : (ℕ × BlockBody) → Bool) (pre : List (ℕ × BlockBody)) (b : ℕ × BlockBody)
      (bs : List (ℕ × BlockBody))
      → p b ≡ true → filter p (pre ++ (b ∷ bs)) ≡ filter p pre ++ (b ∷ filter p bs)
  filter_behind p [] b bs e = ap (λ c. if c then b ∷ filter p bs else filter p bs) e
  filter_behind p (x ∷ pre) b bs e = search (arith, rules, filter_behind p pre b bs e)

  -- The routine of a block's body gets the values that it takes. If no later body can be called,
  -- the body does not call `super()`.
  block_takes : (c : BlockBody) (behind : List (ℕ × BlockBody)) → Tail cenv order h c.name behind
      → (calls_super c.body && is_empty (from_given (map (λ d. d.1) behind))) ≡ false → FineBlock cenv order h c
      → Owned cenv order ordered h known c.body
      → Serves (body_routine cenv order h c behind)
  block_takes c behind tail lacks f b =
      (copied_takes cenv order false (place sp 1) sp.table sp.free (set_in c.body)
      (resolved_body cenv order c.body (bound_all (set_in c.body) sp)) (goes_on (next_given behind) refl))
    where
      sp : StaticEnv
      sp =
          bound_all (block_parameters cenv order h c.name)
          (record (top_senv cenv order h c.template)
          { escaping = c.escaping; part = Some (record { name = c.name; behind = behind }) })

      goes_on : (o : Option ℕ) → next_given behind ≡ o
          → BTakes cenv order false (resolved_body cenv order c.body (bound_all (set_in c.body) sp))
      goes_on (Some i) g =
          body_serves cenv order c.body (bound_all (set_in c.body) sp) (in_block f.0) stands
          (record { tail = tail; next = λ e none. let never : Some i ≡ None = sym g ∙ none in cc }) f.1.0 f.1.1
          (b.belongs.included, f.1.3) f.1.2
      goes_on None g =
          body_serves cenv order c.body (bound_all (set_in c.body) sp) (out_of (in_block f.0)) stands
          (record { tail = tail; next = λ e none. no_both e refl })
          ((body_without cenv h c.body (in_block f.0) (not_called behind (calls_super c.body) lacks g)).kept f.1.0)
          f.1.1 (b.belongs.included, f.1.3) f.1.2

  blocks_take : (pre bs : List (ℕ × BlockBody)) → numbered_bodies cenv h ≡ pre ++ bs
      → Each (λ b. FineBlock cenv order h b.1) bs → Each (λ b. Owned cenv order ordered h known b.1.body) bs
      → Each (λ b. lacks_super (bodies cenv.sources cenv.escaping h b.1.name) ≡ false) bs
      → Each Serves (body_routines cenv order h bs)
  blocks_take pre [] e f b l = tt
  blocks_take pre (c ∷ cs) e f b l =
      let same = λ (d : ℕ × BlockBody). bytes_eq d.1.name c.1.name in
      let behind = filter same cs in
      let at : numbered_of cenv h c.1.name ≡ filter same pre ++ (c ∷ behind) =
      ap (filter same) e ∙ filter_behind same pre c cs (same_is c.1.name) in
      let tail : Tail cenv order h c.1.name behind =
      (filter same pre ++ (c ∷ []), at ∙ sym (append_assoc (filter same pre) (c ∷ []) behind)) in
      let lacks = lacks_at (filter same pre) c behind
      (sym (ap lacks_super (numbered_are cenv h c.1.name ∙ ap (map (λ (d : ℕ × BlockBody). d.1)) at)) ∙ l.0) in (
        block_takes c.1 behind tail lacks f.0 b.0,
        blocks_take (pre ++ (c ∷ [])) cs (e ∙ sym (append_assoc pre (c ∷ []) cs)) f.1 b.1 l.1,
      )

  counted_each : (P : BlockBody → Type 0) (n : ℕ) (bs : List BlockBody) → Each P bs
      → Each (λ b. P b.1) (counted_from n bs)
  counted_each P n [] a = tt
  counted_each P n (b ∷ bs) a = (a.0, counted_each P (suc n) bs a.1)

  entry_serves : (k : Namespace) → BTakes cenv order false (resolved_chain cenv order k (templates cenv.sources k))
      → Each Serves (entry_routines cenv order k)
  entry_serves k r = search (arith, rules)

  chain_serves : (entry : Namespace) → Reaches cenv.sources cenv.escaping entry h
      → KeepsRules cenv.sources cenv.escaping entry → AllKeep cenv h (chain_uses cenv.sources h)
      → TemplatesKnown cenv.filters (templates cenv.sources h)
      → Each Serves (chain_routines cenv order h)
  chain_serves entry reached unbroken e k =
      let ts = templates cenv.sources h in
      let f = templates_fine cenv order h ts e k
      (templates_bodied cenv order h ts (bodied_behind cenv order h [] (all_bodies cenv.sources cenv.escaping h) refl))
      (needed_there cenv.sources cenv.escaping entry h reached unbroken) in
      let b = templates_belong cenv order ordered h known in
      each_append Serves (entry_routines cenv order h)
      (map (macro_routine cenv order h) (macros cenv.sources h) ++ body_routines cenv order h (numbered_bodies cenv h))
      (entry_serves h (chain_takes ts f b))
      (each_append Serves (map (macro_routine cenv order h) (macros cenv.sources h))
      (body_routines cenv order h (numbered_bodies cenv h))
      (macros_take (macros cenv.sources h) (all_macros_fine cenv order h ts f)
      (all_macro_bodies cenv order ordered h known ts b))
      (blocks_take [] (numbered_bodies cenv h) refl
      (counted_each (FineBlock cenv order h) 0 (all_bodies cenv.sources cenv.escaping h)
      (all_blocks_fine cenv order h ts f))
      (counted_each (λ b. Owned cenv order ordered h known b.body) 0 (all_bodies cenv.sources cenv.escaping h)
      (all_block_bodies cenv order ordered h known cenv.escaping ts b))
      (counted_each (λ b. lacks_super (bodies cenv.sources cenv.escaping h b.name) ≡ false) 0
      (all_bodies cenv.sources cenv.escaping h) (bodies_behind cenv.sources cenv.escaping entry h reached unbroken))))

-- Every routine of the chains gets the number of values that it takes.
pub routines_serve : (cenv : CompileEnv) (order hs : List Namespace) (entry : Namespace)
    (ordered : InOrder cenv.sources order)
    → ((h : Namespace) → listed h hs ≡ true → listed h order ≡ true)
    → Each (Reaches cenv.sources cenv.escaping entry) hs
    → KeepsRules cenv.sources cenv.escaping entry → ChainsKeep cenv hs → ChainsKnown cenv hs
    → Each (λ r. BodyTakes cenv.filters (rs cenv order) false r.body) (flat_map (chain_routines cenv order) hs)
routines_serve cenv order [] entry ordered i reached unbroken e k = tt
routines_serve cenv order (h ∷ hs) entry ordered i reached unbroken e k =
    each_append (λ r. BodyTakes cenv.filters (rs cenv order) false r.body) (chain_routines cenv order h)
    (flat_map (chain_routines cenv order) hs)
    (chain_serves cenv order ordered h (i h (ap (λ b. b || listed h hs) (namespace_is h))) entry reached.0 unbroken
    e.0 k.0)
    (routines_serve cenv order hs entry ordered (λ g j. i g (or_right (same_namespace h g) (listed g hs) j))
    reached.1 unbroken e.1 k.1)
