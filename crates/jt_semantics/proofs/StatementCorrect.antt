-- The meaning of a statement by names is its meaning by slots, if the calls agree.
use Rattle.std.proofs.Common.{◌≡◌, ℕ, suc, ◌+◌, ◌≤◌, Bool, true, false, if◌then◌else◌, List, [], ◌∷◌, ◌++◌, length}
use Rattle.std.proofs.Common.{map, Option, Some, None, refl, sym, ap, ◌∙◌, subst, arith, inl, inr, rules}
use Rattle.std.specs.Prelude.{unwrap_or}
use Rattle.std.specs.Str.{bytes_eq}
use Rattle.std.specs.List.{AllByRecursion as Each}
use Rattle.jt_value.specs.Tree as tree
use Rattle.jt_value.specs.Tree.{Tree}
use Rattle.jt_value.specs.Pairs.{Pairs, look}
use Rattle.jt_ast.specs.Expressions as written
use Rattle.jt_ast.specs.Expressions.{Expr, Text}
use Rattle.jt_value.specs.Place.{Place}
use Rattle.jt_eval.specs.Eval.{Eval, gives, bind, checked, at}
use Rattle.jt_eval.specs.Values.{shown, value_in, as_value}
use Rattle.jt_ast.specs.Statements.{FilterCall, Stmt, data_of, print, choose, for_each, set, set_block, with_values}
use Rattle.jt_ast.specs.Statements.{filter_block, autoescape, macro, include, import_as, import_from, extends, block}
use Rattle.jt_ast.specs.Statements.{Body, end, stmt, Branches, no_branches, branch}
use Rattle.jt_semantics.specs.Env.{Env, read, all_bound, inside, top, seen_in, seen, first_of}
use Rattle.jt_chains.specs.Chain.{Namespace, a_chain, BlockBody}
use Rattle.jt_eval.specs.Loops.{Loop, items_of_value, tree_at}
use Rattle.jt_rules.specs.CompileEnv.{CompileEnv}
use Rattle.jt_semantics.specs.EvalContext.{Placement, State, the_chain, Calls}
use Rattle.jt_chains.specs.Uses.{keywords, expr_names, row_names, pair_names, condition_names, filter_call_names}
use Rattle.jt_chains.specs.Uses.{stmt_names, body_names, branch_names, set_by, set_in, set_under}
use Rattle.jt_semantics.specs.Expressions.{block_text, requires_input, value, named_values}
use Rattle.jt_semantics.specs.Meaning.{put, within, captured, turns, eval_loop, kept, through, meaning, meanings}
use Rattle.jt_semantics.specs.Meaning.{chosen}
use Rattle.jt_chains.specs.Includes.{needs_by, needs_in, needs_under}
use Rattle.jt_ir.specs.Slots as slots
use Rattle.jt_ir.specs.Slots.{Slot, local, global, one, SlotExpr, SlotStmt, SBody, none, assign, capture, run, Memory}
use Rattle.jt_ir.specs.Slots.{Valued, Listed, Written, SCalls, store, take, in_front, sturns, seval_loop, svalue, skept}
use Rattle.jt_ir.specs.Slots.{smeaning, smeanings}
use Rattle.jt_semantics.specs.Layout.{Table, slot_in, globals_from, of_chain, of_body, names, first_slot, globals}
use Rattle.jt_semantics.specs.Layout.{block_parameters, is_scoped, numbered_of, unit, scopes}
use Rattle.jt_semantics.specs.Programs.{pool}
use Rattle.jt_ir.specs.Pool.{Constant, constant_in}
use Rattle.jt_semantics.specs.Resolve.{followed, alone, fresh_targets, slot_of, set_targets, reads, handed_on}
use Rattle.jt_semantics.specs.Resolve.{StaticEnv, Part, place, grown, bound_table, bound_all, copied, scoped}
use Rattle.jt_semantics.specs.Resolve.{first_body, resolved, resolved_condition, resolved_filters, resolved_values}
use Rattle.jt_semantics.specs.Resolve.{placed_body, resolved_stmt, resolved_body, resolved_choice}
use Rattle.jt_semantics.proofs.SameEval.{SameEval, both, bind_both, at_both, if_both, weaken, left_both, right_both}
use Rattle.jt_semantics.proofs.SameEval.{at_bind, bind_gives, bind_assoc, bind_ext, by_left, by_right, checked_both}
use Rattle.jt_semantics.proofs.SameEval.{same_both, deep}
use Rattle.jt_semantics.proofs.EnvLookup.{same_text, is_same, no_both, IsInner, all_inner, all_globals, all_top}
use Rattle.jt_semantics.proofs.EnvLookup.{read_top, held, put_here}
use Rattle.jt_semantics.proofs.EnvMemoryAgreement.{Kept, kept_same, kept_then, kept_less, kept_out, kept_store}
use Rattle.jt_semantics.proofs.EnvMemoryAgreement.{kept_global, Held, global_slot, global_given, global_held}
use Rattle.jt_semantics.proofs.EnvMemoryAgreement.{global_reads, limit, read_names, Fits, Agrees, agrees_kept}
use Rattle.jt_semantics.proofs.EnvMemoryAgreement.{pairs_held, copies_held, fits_all, InLocals, in_locals}
use Rattle.jt_semantics.proofs.CallInvariant.{Evaluated, Rowed, Sees, PartHolds, part_kept, part_more, Good, good_kept}
use Rattle.jt_semantics.proofs.CallInvariant.{good_grown, around_of, Wrote, CallsMean, Laid, Hands, Included}
use Rattle.jt_semantics.proofs.ExpressionCorrect.{numbered_are, value_same, values_same, asides_same, filter_both}
use Rattle.jt_semantics.proofs.ExpressionCorrect.{required_both, read_gives, reads_give, seen_params, sees_globals}
use Rattle.jt_semantics.proofs.ScopesToSlots.{taken, Set, one_set, all_set}
use Rattle.jt_semantics.proofs.Among.{Among, AllAmong, among_front, among_back, among_both, all_of}
use Rattle.jt_semantics.proofs.EachElement.{each_front, each_back}

-- ---- Names

-- The names that a statement sets are among the names that are read or bound.
mutual
  pub set_among : (s : Stmt) (ns : List Text) → AllAmong (stmt_names s) ns → AllAmong (set_by s) ns
  set_among (set line xs e) ns a = among_back (expr_names e) xs ns a
  set_among (set_block line x body) ns a = (a.0, tt)
  set_among (choose bs other) ns a =
      search (arith, rules, among_both, among_front, among_back, under_among bs ns, in_among other ns)
  set_among (for_each line xs e c body other) ns a = search (arith, rules, among_back, in_among other ns)
  set_among s ns a = tt

  pub in_among : (b : Body) (ns : List Text) → AllAmong (body_names b) ns → AllAmong (set_in b) ns
  in_among end ns a = tt
  in_among (stmt s rest) ns a =
      search (arith, rules, among_both, among_front, among_back, set_among s ns, in_among rest ns)

  under_among : (bs : Branches) (ns : List Text) → AllAmong (branch_names bs) ns → AllAmong (set_under bs) ns
  under_among no_branches ns a = tt
  under_among (branch line c body rest) ns a =
      search (arith, rules, among_back, among_both, in_among body ns, among_front, under_among rest ns)

-- ---- The blocks whose tags have `scoped`, and the names that scopes bind, one for each occurrence

pub data Scoping : Type 0 where
  a_tag : Text → Scoping
  a_name : Text → Scoping

abbrev pub named : List Text → List Scoping
named [] = []
named (x ∷ xs) = a_name x ∷ named xs

abbrev mutual
  pub scoped_by : Stmt → List Scoping
  scoped_by (block line x true required body) = a_tag x ∷ (named (set_in body) ++ scoped_in body)
  scoped_by (block line x false required body) = named (set_in body) ++ scoped_in body
  scoped_by (choose bs other) = scoped_under bs ++ scoped_in other
  scoped_by (for_each line xs e c body other) = named xs ++ (named (set_in body) ++ (scoped_in body ++ scoped_in other))
  scoped_by (set_block line x body) = named (set_in body) ++ scoped_in body
  scoped_by (with_values line ps body) = named (keywords ps) ++ (named (set_in body) ++ scoped_in body)
  scoped_by (filter_block line fs body) = named (set_in body) ++ scoped_in body
  scoped_by (autoescape line on body) = named (set_in body) ++ scoped_in body
  scoped_by (macro line x ps body) = named (map (λ p. p.name) ps) ++ (named (set_in body) ++ scoped_in body)
  scoped_by s = []

  pub scoped_in : Body → List Scoping
  scoped_in end = []
  scoped_in (stmt s rest) = scoped_by s ++ scoped_in rest

  pub scoped_under : Branches → List Scoping
  scoped_under no_branches = []
  scoped_under (branch line c body rest) = scoped_in body ++ scoped_under rest

-- Holds if a tag's block is a scoped one of the chain, or the name is bound by a scope of the
-- chain.
abbrev pub Proper : CompileEnv → List Namespace → Namespace → Scoping → Type 0
Proper cenv order h (a_tag x) = is_scoped cenv h x ≡ true
Proper cenv order h (a_name x) = Among x (scopes cenv order h)

pub names_proper : (cenv : CompileEnv) (order : List Namespace) (h : Namespace) (xs : List Text) (ys : List Scoping)
    → Each (Proper cenv order h) (named xs ++ ys) → AllAmong xs (scopes cenv order h)
names_proper cenv order h [] ys e = tt
names_proper cenv order h (x ∷ xs) ys e = (e.0, names_proper cenv order h xs ys e.1)

pub behind_proper : (cenv : CompileEnv) (order : List Namespace) (h : Namespace) (xs : List Text) (ys : List Scoping)
    → Each (Proper cenv order h) (named xs ++ ys) → Each (Proper cenv order h) ys
behind_proper cenv order h xs ys e = each_back (Proper cenv order h) (named xs) ys e

-- An include sees all names that can be read.
look_append : (x : Text) (s t : Pairs)
    → unwrap_or (look x (s ++ t)) tree.undefined ≡ unwrap_or (look x s) (value_in t x)
look_append x [] t = refl
look_append x (b ∷ s) t = search (arith, rules, look_append x s t)

seen_reads : (ss : List Pairs) (gs : Pairs) (x : Text) → value_in (seen_in ss gs) x ≡ first_of ss gs x
seen_reads [] gs x = refl
seen_reads (s ∷ ss) gs x = look_append x s (seen_in ss gs) ∙ ap (λ v. unwrap_or (look x s) v) (seen_reads ss gs x)

module _ (cenv : CompileEnv) (order : List Namespace) (calls : Calls) (scall : SCalls)
    (mean : CallsMean cenv order calls scall) (laid : Laid cenv order) where
  abbrev pub constants : Constant → Tree
  constants = constant_in (pool cenv order)

  abbrev pub sstmt : SlotStmt Constant → Option Loop → Memory → Eval Memory
  sstmt s l m = smeaning cenv.filters constants scall s l m

  abbrev pub sbody : SBody Constant → Option Loop → Memory → Eval Memory
  sbody b l m = smeanings cenv.filters constants scall b l m

  abbrev pub ns : StaticEnv → List Text
  ns sp = read_names cenv order sp.namespace

  abbrev pub bound_names : StaticEnv → List Text
  bound_names sp = scopes cenv order sp.namespace

  abbrev pub lim : StaticEnv → ℕ
  lim sp = limit cenv order sp.namespace

  -- ---- Consecutive bodies

  pub followed_same : (a b : SBody Constant) (l : Option Loop) (m : Memory)
      → sbody (followed a b) l m ≡ bind (sbody a l m) (λ n. sbody b l n)
  followed_same slots.end b l m = refl
  followed_same (slots.stmt s rest) b l m = search (arith, rules, bind_ext, bind_assoc, followed_same rest b l)

  alone_same : (s : SlotStmt Constant) (l : Option Loop) (m : Memory) → sbody (alone s) l m ≡ sstmt s l m
  alone_same s l m = bind_gives (sstmt s l m)

  -- ---- Changes that a statement may make

  pub data Owns (sp : StaticEnv) (q : Option Placement) (b g : ℕ) (S : List Text) (env : Env) : Type 0 where
    -- At the top of a template, names are globals.
    of_top : b ≤ sp.free → sp.table ≡ globals cenv order sp.namespace → g ≤ first_slot cenv order sp.namespace
        → env.scopes ≡ [] → sp.part ≡ None → read_names cenv order sp.namespace ≡ names cenv order sp.namespace
        → Owns sp q b g S env
    -- In a scope, the names that it sets are locals of its own.
    of_scope : b ≤ sp.free → g ≤ limit cenv order sp.namespace → IsInner env → InLocals b sp.table S
        → ((n : Memory) → PartHolds cenv order sp.namespace sp.part q sp.free n
        → PartHolds cenv order sp.namespace sp.part q b n)
        → Owns sp q b g S env

  owns_room : {sp : StaticEnv} {q : Option Placement} {b g : ℕ} {S : List Text} {env : Env} → Owns sp q b g S env
      → b ≤ sp.free
  owns_room a0 = search (arith, rules)

  owns_limit : {sp : StaticEnv} {q : Option Placement} {b g : ℕ} {S : List Text} {env : Env} → Owns sp q b g S env
      → g ≤ limit cenv order sp.namespace
  owns_limit {sp = sp} {g = g} (of_top r t l e p c) = search (arith, rules)
  owns_limit (of_scope r l i s f) = l

  pub record Here (sp : StaticEnv) (q : Option Placement) (b g : ℕ) (S : List Text) (st : State) (m : Memory) : Type
      0 where
    pub good : Good cenv order sp q st.env m
    pub owns : Owns sp q b g S st.env
    pub out : m.out ≡ st.out

  pub record After (sp : StaticEnv) (q : Option Placement) (b g : ℕ) (S : List Text) (m : Memory) (st : State)
      (n : Memory) : Type 0 where
    pub here : Here sp q b g S st n
    pub kept : Kept b g m n

  since : {sp : StaticEnv} {q : Option Placement} {b g : ℕ} {S : List Text} {m n o : Memory} {st : State} → Kept b g m n
      → After sp q b g S n st o → After sp q b g S m st o
  since u a = record { here = a.here; kept = kept_then u a.kept }

  lower : {sp : StaticEnv} {q : Option Placement} {b g : ℕ} {S : List Text} {env : Env} {m n : Memory}
      → Owns sp q b g S env → Kept sp.free (lim sp) m n → Kept b g m n
  lower o u = kept_less (owns_room o) (owns_limit o) u

  -- A step that appends to the text and keeps the names is a valid change.
  stays : {sp : StaticEnv} {q : Option Placement} {b g : ℕ} {S : List Text} {st : State} {m n : Memory} (t : Text)
      → Here sp q b g S st m → Kept sp.free (lim sp) m n → n.out ≡ t → After sp q b g S m (record st { out = t }) n
  stays t h u e = search (arith, rules, good_kept, lower)

  -- ---- Scopes

  abbrev copies : Table → ℕ → List Text → Memory → Memory
  copies table k [] m = m
  copies table k (x ∷ xs) m = copies table (suc k) xs (store (local k) (held (slot_in x table) m) m)

  copied_same : (p : Place) (table : Table) (k : ℕ) (xs : List Text) (behind : SBody Constant) (l : Option Loop)
      (q : Option Placement) (m : Memory)
      → sbody (copied p table k xs behind) l m ≡ sbody behind l (copies table k xs m)
  copied_same p table k [] behind l q m = refl
  copied_same p table k (x ∷ xs) behind l q m =
      search (
        arith,
        rules,
        read_gives,
        copied_same p table (suc k) xs behind l q (store (local k) (held (slot_in x table) m) m),
        held,
      )

  record Copied (h : Namespace) (k : ℕ) (vs : List Tree) (m n : Memory) : Type 0 where
    pub kept : Kept k (limit cenv order h) m n
    pub values : Held n.locals k vs
    pub out : n.out ≡ m.out

  copies_hold : (h : Namespace) (table : Table) (j k : ℕ) (env : Env) (xs : List Text) (m : Memory)
      → Fits cenv order h table j → j ≤ k → Agrees cenv order h table env m → AllAmong xs (read_names cenv order h)
      → Copied h k (map (read env) xs) m (copies table k xs m)
  copies_hold h table j k env [] m f l a i = search (arith, rules, kept_same, limit)
  copies_hold h table j k env (x ∷ xs) m f l a i =
      let n = store (local k) (held (slot_in x table) m) m in
      let one = kept_store k (limit cenv order h) k (held (slot_in x table) m) m (omega arith) in
      let r = copies_hold h table j (suc k) env xs n f (omega (arith, l))
      (agrees_kept cenv order f a
      (kept_less l (omega arith) one)) i.1 in
      record {
        kept =
            kept_then one (kept_less (omega arith)
            (omega arith) r.kept);
        values = (
          r.kept.locals k (omega arith) ∙ put_here k (held (slot_in x table) m) m.locals
              ∙ sym (a.names x i.0),
          r.values,
        );
        out = r.out;
      }

  part_lower : (h : Namespace) (p : Option Part) (q : Option Placement) (k j : ℕ) (m : Memory)
      → PartHolds cenv order h p q k m → (n : Memory) → PartHolds cenv order h p q j n → PartHolds cenv order h p q k n
  part_lower h p q k j m t n u = search (arith, rules)

  -- Holds after the end of a scope if the locals and globals from before the scope are kept.
  pub record Left (sp : StaticEnv) (m : Memory) (st : State) (n : Memory) : Type 0 where
    pub kept : Kept sp.free (lim sp) m n
    pub out : n.out ≡ st.out

  -- The meaning of a body in a new scope by names is its meaning by slots.
  pub scope_both : (body : Body) (sp : StaticEnv) (l : Option Loop) (q : Option Placement) (env : Env) (out : Text)
      (m : Memory)
      → Good cenv order sp q env m → IsInner env → m.out ≡ out → AllAmong (body_names body) (ns sp)
      → AllAmong (set_in body) (bound_names sp)
      → ((b g : ℕ) (S : List Text) (st : State) (n : Memory) → Here (bound_all (set_in body) sp) q b g S st n
      → AllAmong (set_in body) S
      → SameEval (After (bound_all (set_in body) sp) q b g S n)
      (meanings cenv calls body (around_of cenv order sp l q) st)
      (sbody (resolved_body cenv order body (bound_all (set_in body) sp)) l n))
      → SameEval (Left sp m) (meanings cenv calls body (around_of cenv order sp l q) (record { env = env; out = out }))
      (sbody (scoped (set_in body) sp (resolved_body cenv order body)) l m)
  scope_both body sp l q env out m g inner o i own same =
      let xs = set_in body in
      let n = copies sp.table sp.free xs m in
      let c = copies_hold sp.namespace sp.table sp.free sp.free env xs m g.fits
      (omega arith) g.agrees (in_among body (ns sp) i) in
      let k = good_kept cenv order g c.kept in
      let more : sp.free ≤ sp.free + length xs = omega arith in
      let here : Here (bound_all xs sp) q sp.free (lim sp) xs (record { env = env; out = out }) n = record {
        good = record {
          known = g.known;
          fits = fits_all cenv order xs sp.free sp.table own g.fits;
          agrees = copies_held cenv order sp.table sp.free xs c.values k.agrees;
          part = part_more cenv order sp.namespace sp.part q sp.free (sp.free + length xs) n more k.part;
        };
        owns =
            of_scope more (omega arith) inner
            (in_locals sp.free sp.free sp.table xs (omega arith))
            (part_lower sp.namespace sp.part q sp.free (sp.free + length xs) m g.part);
        out = c.out ∙ o;
      } in
      by_right (copied_same (place sp 1) sp.table sp.free xs (resolved_body cenv order body (bound_all xs sp)) l q m)
      (weaken (λ st r a. record { kept = kept_then c.kept a.kept; out = a.here.out })
      (same sp.free (lim sp) xs (record { env = env; out = out }) n here (all_of xs)))

  -- The invariant holds after names are bound in a new scope and consecutive locals hold their
  -- values.
  pub good_bound : {m n : Memory} {env : Env} (sp : StaticEnv) (q : Option Placement) (bs : Pairs) (xs : List Text)
      → map (λ p. p.0) bs ≡ xs → AllAmong xs (bound_names sp) → Good cenv order sp q env m → Kept sp.free (lim sp) m n
      → Held n.locals sp.free (map (λ p. p.1) bs)
      → Good cenv order (bound_all xs sp) q (inside bs env) n
  good_bound {n = n} {env = env} sp q bs xs e own g u h =
      let k = good_kept cenv order g u in
      let outer : Agrees cenv order sp.namespace sp.table (record { scopes = [] ∷ env.scopes; globals = env.globals }) n
      = record { names = k.agrees.names; globals = k.agrees.globals } in
      record {
        known = g.known;
        fits = fits_all cenv order xs sp.free sp.table own g.fits;
        agrees =
            subst (λ ys. Agrees cenv order sp.namespace (bound_table ys sp.free sp.table) (inside bs env) n) e
            (pairs_held cenv order sp.table sp.free bs ([], env.scopes, refl) h outer);
        part =
            part_more cenv order sp.namespace sp.part q sp.free (sp.free + length xs) n
            (omega arith) k.part;
      }

  pub inside_inner : (env : Env) (bs : Pairs) → IsInner (inside bs env)
  inside_inner env bs = all_inner (record { scopes = [] ∷ env.scopes; globals = env.globals }) bs ([], env.scopes, refl)

  -- The invariant holds in a new scope without names.
  good_inside : {sp : StaticEnv} {q : Option Placement} {env : Env} {m : Memory} → Good cenv order sp q env m
      → Good cenv order sp q (inside [] env) m
  good_inside g = search (arith, rules, names)

  -- ---- Names that are set

  part_top : (h : Namespace) (p : Option Part) (q : Option Placement) (k : ℕ) (m n : Memory) → p ≡ None
      → PartHolds cenv order h p q k m → PartHolds cenv order h p q k n
  part_top h p q k m n e t = search (arith, rules)

  inside_some : {s t : Slot} → Some s ≡ Some t → s ≡ t
  inside_some q = cc

  set_all : {g : Eval Pairs} {h : Eval Memory} (xs : List Text) (sp : StaticEnv) (q : Option Placement) (b j : ℕ)
      (S : List Text) (st : State) (m : Memory) (here : Here sp q b j S st m)
      → ((T : Memory → Type 0) (first : T m) (next : (x : Text) (s : Slot) (v : Tree) (n : Memory) → Among x S
      → Among x (read_names cenv order sp.namespace) → slot_in x sp.table ≡ Some s → T n → T (store s v n))
      (there : (x : Text) → Among x S → Among x (read_names cenv order sp.namespace)
      → (s : Slot) × (slot_in x sp.table ≡ Some s))
      → SameEval (Set cenv order sp.namespace sp.table sp.free here.good.fits S m T first next there xs) g h)
      → SameEval (λ s n. After sp q b j S m (record st { env = all_bound st.env s }) n) g h
  set_all {g = g} {h = h} xs sp q b j S st m here runs = by_owns here.owns
    where
      by_owns : Owns sp q b j S st.env
          → SameEval (λ s n. After sp q b j S m (record st { env = all_bound st.env s }) n) g h
      by_owns (of_top r t l e p c) =
          weaken (λ s n w. record {
            here = record {
              good = record {
                known = here.good.known;
                fits = here.good.fits;
                agrees = record {
                  names = λ y i. w.reads st.env here.good.agrees.names y i;
                  globals = λ y i.
                      sym (read_top (all_bound st.env s) y (all_top st.env s e))
                      ∙ w.reads st.env here.good.agrees.names y i ∙ ap (λ o. held o n) (ap (slot_in y) t)
                      ∙ global_reads (first_slot cenv order sp.namespace) (names cenv order sp.namespace) y n;
                };
                part = part_top sp.namespace sp.part q sp.free m n p here.good.part;
              };
              owns = of_top r t l (all_top st.env s e) p c;
              out = w.out ∙ here.out;
            };
            kept = w.touched;
          }) (runs (λ n. Kept b j m n) (kept_same b j m) (λ x z v n inS inN f u.
          let k = global_given (first_slot cenv order sp.namespace) (names cenv order sp.namespace) x
          (subst (λ zs. Among x zs) c inN) in
          let z_is : z ≡ global k.0 = inside_some (sym f ∙ ap (slot_in x) t ∙ k.1) in
          let range = (global_slot (first_slot cenv order sp.namespace) (names cenv order sp.namespace) x k.0 k.1).0 in
          kept_then u (subst (λ y. Kept b j n (store y v n)) (sym z_is)
          (kept_global b j k.0 v n (omega (arith, l, range)))))
          (λ x inS inN. let k = global_given (first_slot cenv order sp.namespace) (names cenv order sp.namespace) x
          (subst (λ zs. Among x zs) c inN) in
          (global k.0, ap (slot_in x) t ∙ k.1)))
      by_owns (of_scope r l inner il f) =
          weaken (λ s n w. record {
            here = record {
              good = record {
                known = here.good.known;
                fits = here.good.fits;
                agrees = record {
                  names = λ y i. w.reads st.env here.good.agrees.names y i;
                  globals =
                      λ y i. ap (λ gs. value_in gs y) (all_globals st.env s inner) ∙ here.good.agrees.globals y i
                      ∙ ap (global_held (slot_in y (globals cenv order sp.namespace))) (sym w.touched.1);
                };
                part =
                    part_more cenv order sp.namespace sp.part q b sp.free n r
                    (part_kept cenv order sp.namespace sp.part q b m n w.touched.0 (f m here.good.part));
              };
              owns = of_scope r l (all_inner st.env s inner) il f;
              out = w.out ∙ here.out;
            };
            kept = kept_less (omega arith) l w.touched.0;
          }) (runs (λ n. Kept b (lim sp) m n × (n.globals ≡ m.globals)) (kept_same b (lim sp) m, refl)
          (λ x z v n inS inN e u.
          let k = il x inS in
          let z_is : z ≡ local k.0 = inside_some (sym e ∙ k.1) in
          subst (λ y. Kept b (lim sp) m (store y v n) × ((store y v n).globals ≡ m.globals)) (sym z_is)
          (kept_then u.0 (kept_store b (lim sp) k.0 v n k.2), u.1))
          (λ x inS inN. let k = il x inS in (local k.0, k.1)))

  -- ---- Prints

  put_shown : {g : Eval Tree} {h : Eval Valued} (sp : StaticEnv) (q : Option Placement) (b j : ℕ) (S : List Text)
      (st : State) (m : Memory)
      → Here sp q b j S st m → SameEval (Evaluated sp.free (lim sp) m) g h
      → SameEval (After sp q b j S m) (bind g (λ v. bind (shown sp.escaping v) (λ s. gives (put st s))))
      (bind h (λ r. bind (shown sp.escaping r.value) (λ s. gives (record r.memory { out = r.memory.out ++ s }))))
  put_shown sp q b j S st m here u =
      bind_both u (λ v r w.
      by_right (ap (λ x. bind (shown sp.escaping x) (λ s. gives (record r.memory { out = r.memory.out ++ s }))) w.value)
      (bind_both (same_both (shown sp.escaping v))
      (λ s t e. both (stays (st.out ++ s) here (kept_out (record r.memory { out = r.memory.out ++ t }) refl refl w.kept)
      (ap (λ o. o ++ t) (w.out ∙ here.out) ∙ ap (λ z. st.out ++ z) e)))))

  -- ---- Loops

  rowed_if : (sp : StaticEnv) (m : Memory) (v : Tree) (b c : Tree) → c ≡ b → (rest : List Tree) (rs : Listed)
      → Rowed sp.free (lim sp) m rest rs → SameEval (Rowed sp.free (lim sp) m)
      (gives (if tree.truth b then v ∷ rest else rest)) (gives (if tree.truth c then in_front v rs else rs))
  rowed_if sp m v b c e rest rs w = search (arith, rules, by_right, both)

  kept_both : (l : Option Loop) (q : Option Placement) (c : Option Expr) (xs : List Text) (sp : StaticEnv) (env : Env)
      (vs : List Tree) (m : Memory)
      → AllAmong xs (bound_names sp) → Good cenv order sp q env m → AllAmong (condition_names c) (ns sp)
      → SameEval (Rowed sp.free (lim sp) m) (kept cenv calls c xs (around_of cenv order sp l q) env vs)
      (skept cenv.filters constants scall (resolved_condition cenv order c (bound_all xs sp)) (fresh_targets sp.free xs)
      vs m)
  kept_both l q None xs sp env vs m own g i = search (arith, rules, both, kept_same)
  kept_both l q (Some c) xs sp env [] m own g i = search (arith, rules, both, kept_same)
  kept_both l q (Some c) xs sp env (v ∷ vs) m own g i =
      bind_both (taken (lim sp) xs v sp.free m) (λ s n w.
      bind_both (value_same cenv order calls scall mean laid None q c (bound_all xs sp) (inside s env) n
      (good_bound sp q s xs w.names own g w.kept w.values) i) (λ b r z.
      let u : Kept sp.free (lim sp) m r.memory = kept_then w.kept
      (kept_less (omega arith) (omega arith)
      z.kept) in
      bind_both (kept_both l q (Some c) xs sp env vs r.memory own (good_kept cenv order g u) i) (λ rest rs y.
      rowed_if sp m v b r.value z.value rest rs
      (record { values = y.values; kept = kept_then u y.kept; out = y.out ∙ z.out ∙ w.out }))))

  -- Holds if the outer names are unchanged.
  record Stays (sp : StaticEnv) (st : State) (m : Memory) (st' : State) (n : Memory) : Type 0 where
    pub env : st'.env ≡ st.env
    pub kept : Kept sp.free (lim sp) m n
    pub out : n.out ≡ st'.out

  after_stays : {sp : StaticEnv} {q : Option Placement} {b g : ℕ} {S : List Text} {st : State} {m : Memory}
      (st' : State) (n : Memory)
      → Here sp q b g S st m → Stays sp st m st' n → After sp q b g S m st' n
  after_stays {sp = sp} {q = q} {b = b} {g = g} {S = S} st' n h w = record {
    here =
        record {
          good = subst (λ e. Good cenv order sp q e n) (sym w.env) (good_kept cenv order h.good w.kept);
          owns = subst (λ e. Owns sp q b g S e) (sym w.env) h.owns;
          out = w.out;
        };
    kept = lower h.owns w.kept;
  }

  module _ (l : Option Loop) (q : Option Placement) (body : Body) (xs : List Text) (sp : StaticEnv)
      (own : AllAmong xs (bound_names sp))
      (same : (l' : Option Loop) (env : Env) (out : Text) (n : Memory) → Good cenv order (bound_all xs sp) q env n
      → IsInner env → n.out ≡ out
      → SameEval (Left (bound_all xs sp) n)
      (meanings cenv calls body (around_of cenv order sp l' q) (record { env = env; out = out }))
      (sbody (scoped (set_in body) (bound_all xs sp) (resolved_body cenv order body)) l' n)) where
    turns_both : (p : Place) (all : List Tree) (i : ℕ) (vs : List Tree) (st : State) (m : Memory)
        → Good cenv order sp q st.env m → m.out ≡ st.out
        → SameEval (Stays sp st m)
        (turns (λ l'. meanings cenv calls body (around_of cenv order sp l' q)) xs p all i vs st)
        (sturns (λ l' n. sbody (scoped (set_in body) (bound_all xs sp) (resolved_body cenv order body)) l' n)
        (fresh_targets sp.free xs) p all i vs m)
    turns_both p all i [] st m g o = both (record { env = refl; kept = kept_same sp.free (lim sp) m; out = o })
    turns_both p all i (v ∷ vs) st m g o =
        bind_both (at_both p (taken (lim sp) xs v sp.free m)) (λ s n w.
        bind_both (left_both {S = Stays sp st m} (λ r. record st { out = r.out })
        (weaken (λ r n' z. record {
          env = refl;
          kept =
              kept_then w.kept (kept_less (omega arith)
              (omega arith) z.kept);
          out = z.out;
        }) (same (Some (record { items = all; before = i })) (inside s st.env) st.out n
        (good_bound sp q s xs w.names own g w.kept w.values) (inside_inner st.env s) (w.out ∙ o)))) (λ st1 n1 z.
        weaken (λ st2 n2 y. record { env = y.env ∙ z.env; kept = kept_then z.kept y.kept; out = y.out })
        (turns_both p all (suc i) vs st1 n1
        (subst (λ e. Good cenv order sp q e n1) (sym z.env) (good_kept cenv order g z.kept)) z.out)))

    gone_both : (p : Place) (b g : ℕ) (S : List Text) (vs : List Tree) (st : State) (m : Memory)
        (other : State → Eval State) (sother : Memory → Eval Memory)
        → Here sp q b g S st m → SameEval (After sp q b g S m) (other st) (sother m)
        → SameEval (After sp q b g S m)
        (eval_loop (λ l'. meanings cenv calls body (around_of cenv order sp l' q)) other xs p vs st)
        (seval_loop (λ l' n. sbody (scoped (set_in body) (bound_all xs sp) (resolved_body cenv order body)) l' n) sother
        (fresh_targets sp.free xs) p vs m)
    gone_both p b g S [] st m other sother h u = u
    gone_both p b g S (v ∷ vs) st m other sother h u =
        weaken (λ st' n w. after_stays st' n h w) (turns_both p (v ∷ vs) 0 (v ∷ vs) st m h.good h.out)

  -- ---- Captures

  record Caught (sp : StaticEnv) (on : Bool) (m : Memory) (v : Tree) (n : Memory) : Type 0 where
    pub value : as_value on n.out ≡ v
    pub kept : Kept sp.free (lim sp) m n

  caught : (body : Body) (sp : StaticEnv) (l : Option Loop) (q : Option Placement) (on : Bool) (env : Env) (m : Memory)
      → Good cenv order sp q env m → AllAmong (body_names body) (ns sp) → AllAmong (set_in body) (bound_names sp)
      → ((b g : ℕ) (S : List Text) (st : State) (n : Memory) → Here (bound_all (set_in body) sp) q b g S st n
      → AllAmong (set_in body) S
      → SameEval (After (bound_all (set_in body) sp) q b g S n)
      (meanings cenv calls body (around_of cenv order sp l q) st)
      (sbody (resolved_body cenv order body (bound_all (set_in body) sp)) l n))
      → SameEval (Caught sp on m) (captured on (meanings cenv calls body (around_of cenv order sp l q)) env)
      (sbody (scoped (set_in body) sp (resolved_body cenv order body)) l (record m { out = [] }))
  caught body sp l q on env m g i own same =
      left_both (λ r. as_value on r.out) (weaken (λ st n w. record {
        value = ap (as_value on) w.out;
        kept = kept_then (kept_out (record m { out = [] }) refl refl (kept_same sp.free (lim sp) m)) w.kept;
      })
      (scope_both body sp l q (inside [] env) [] (record m { out = [] })
      (good_kept cenv order (good_inside g) (kept_out (record m { out = [] }) refl refl (kept_same sp.free (lim sp) m)))
      (inside_inner env []) refl i own same))

  -- The filters that are applied in order have one outcome by names and by slots.
  through_same : (fs : List FilterCall) (sp : StaticEnv) (l : Option Loop) (q : Option Placement) (env : Env)
      (m : Memory) (g : Eval Tree) (e : SlotExpr Constant)
      → Good cenv order sp q env m → AllAmong (filter_call_names fs) (ns sp)
      → SameEval (Evaluated sp.free (lim sp) m) g (svalue cenv.filters constants scall e l m)
      → SameEval (Evaluated sp.free (lim sp) m) (through cenv calls fs (around_of cenv order sp l q) env g)
      (svalue cenv.filters constants scall (resolved_filters cenv order fs sp e) l m)
  through_same [] sp l q env m g e good i u = u
  through_same (f ∷ fs) sp l q env m g e good i u =
      let rest = among_back (row_names f.arguments) (pair_names f.keywords ++ filter_call_names fs) (ns sp) i in
      through_same fs sp l q env m _ _ good (among_back (pair_names f.keywords) (filter_call_names fs) (ns sp) rest)
      (filter_both cenv order calls scall mean laid l q f.name f.arguments f.keywords sp env
      (slots.required_if (requires_input cenv.strict (cenv.filters.named f.name f.arguments f.keywords)) e)
      (λ n k. values_same cenv order calls scall mean laid l q f.arguments sp env n (good_kept cenv order good k)
      (among_front (row_names f.arguments) (pair_names f.keywords ++ filter_call_names fs) (ns sp) i))
      (λ n k. asides_same cenv order calls scall mean laid l q f.keywords sp env n (good_kept cenv order good k)
      (among_front (pair_names f.keywords) (filter_call_names fs) (ns sp) rest))
      (required_both cenv order calls scall mean laid l q _ e u))

  -- ---- `with`

  pub record Filled (sp : StaticEnv) (m : Memory) (kw : List Text) (ks : Pairs) (n : Memory) : Type 0 where
    pub names : map (λ p. p.0) ks ≡ kw
    pub values : Held n.locals sp.free (map (λ p. p.1) ks)
    pub kept : Kept sp.free (lim sp) m n
    pub out : n.out ≡ m.out

  with_same : (ps : written.Pairs) (sp : StaticEnv) (l : Option Loop) (q : Option Placement) (env : Env) (m : Memory)
      (line : ℕ)
      → Good cenv order sp q env m → AllAmong (pair_names ps) (ns sp)
      → {X : Type 0} (S : X → Memory → Type 0) (f : Pairs → Eval X) (behind : SBody Constant)
      → ((ks : Pairs) (n : Memory) → Filled sp m (keywords ps) ks n → SameEval S (f ks) (sbody behind l n))
      → SameEval S (bind (at (place sp line) (named_values cenv calls ps (around_of cenv order sp l q) env)) f)
      (sbody (resolved_values cenv order ps sp line behind) l m)
  with_same written.no_pairs sp l q env m line g i S f behind k = search (arith, rules, kept_same)
  with_same (written.pair x e ps) sp l q env m line g i S f behind k =
      let p = place sp line in
      let v_e = value cenv calls e (around_of cenv order sp l q) env in
      let nv = named_values cenv calls ps (around_of cenv order sp l q) env in
      by_left (ap (λ z. bind z f) (at_bind p v_e (λ v. bind nv (λ bs. gives ((x, v) ∷ bs))))
      ∙ bind_assoc (at p v_e) (λ v. at p (bind nv (λ bs. gives ((x, v) ∷ bs)))) f)
      (bind_both {R = λ v n. (tree_at n.locals sp.free ≡ v) × Kept sp.free (lim sp) m n × (n.out ≡ m.out)}
      (at_both p (right_both (λ r. store (local sp.free) r.value r.memory) (weaken (λ v r w. (
        put_here sp.free r.value r.memory.locals ∙ w.value,
        kept_then w.kept
            (kept_store sp.free (lim sp) sp.free r.value r.memory (omega arith)),
        w.out,
      )) (value_same cenv order calls scall mean laid l q e sp env m g
      (among_front (expr_names e) (pair_names ps) (ns sp) i)))))
      (λ v n w.
      by_left (ap (λ z. bind z f) (at_bind p nv (λ bs. gives ((x, v) ∷ bs)))
      ∙ bind_assoc (at p nv) (λ bs. gives ((x, v) ∷ bs)) f)
      (with_same ps (grown sp) l q env n line (good_grown cenv order (good_kept cenv order g w.1))
      (among_back (expr_names e) (pair_names ps) (ns sp) i) S (λ bs. f ((x, v) ∷ bs)) behind (λ ks o z.
      k ((x, v) ∷ ks) o (record {
        names = ap (λ ys. x ∷ ys) z.names;
        values = (z.kept.locals sp.free (omega arith) ∙ w.0, z.values);
        kept =
            kept_then w.1 (kept_less (omega arith)
            (omega arith) z.kept);
        out = z.out ∙ w.2;
      })))))

  -- ---- Blocks at their tags

  run_both : {g : Eval Text} (sp : StaticEnv) (l : Option Loop) (q : Option Placement) (b j : ℕ) (S : List Text)
      (st : State) (m n : Memory) (w : Eval Written) (k : ℕ)
      → Here sp q b j S st m → Kept sp.free (lim sp) m n → n.out ≡ m.out → lim sp ≤ k
      → SameEval (Wrote cenv order k n.globals) g w
      → SameEval (After sp q b j S m) (bind g (λ s. gives (put st s)))
      (bind w (λ z. gives (record n { globals = z.globals; out = n.out ++ z.text })))
  run_both sp l q b j S st m n w k here u o le c =
      bind_both c (λ s z y. both (stays (st.out ++ s) here
      (kept_then u
      (record { locals = λ i d. refl; globals = λ i d. y.globals i (omega (arith, d, le)) }))
      (ap (λ t. t ++ z.text) (o ∙ here.out) ∙ ap (λ t. st.out ++ t) y.text)))

  placed_both : (x : Text) (table : Table) (env : Env) (bs : List (ℕ × BlockBody)) (sp : StaticEnv) (l : Option Loop)
      (q : Option Placement) (b j : ℕ) (S : List Text) (st : State) (m : Memory)
      → Here sp q b j S st m
      → Sees cenv order sp.namespace x env
      (map (λ y. held (slot_in y table) m) (block_parameters cenv order sp.namespace x)) m.globals
      → numbered_of cenv sp.namespace x ≡ bs
      → SameEval (After sp q b j S m)
      (bind (block_text calls sp.namespace (map (λ c. c.1) bs) env) (λ s. gives (put st s)))
      (sbody (placed_body cenv order sp (first_body bs) x table) l m)
  placed_both x table env [] sp l q b j S st m here sees e = deep
  placed_both x table env (c ∷ cs) sp l q b j S st m here sees e =
      by_right (alone_same
      (run (unit cenv order (of_body sp.namespace c.0)) (reads table (block_parameters cenv order sp.namespace x))) l m
      ∙ ap (λ g. bind g (λ r. bind (scall (unit cenv order (of_body sp.namespace c.0)) r.values r.memory.globals)
      (λ w. gives (record r.memory { globals = w.globals; out = r.memory.out ++ w.text }))))
      (reads_give cenv order calls scall mean laid l q table (block_parameters cenv order sp.namespace x) m))
      (run_both sp l q b j S st m m (scall (unit cenv order (of_body sp.namespace c.0))
      (map (λ y. held (slot_in y table) m) (block_parameters cenv order sp.namespace x)) m.globals) (lim sp) here
      (kept_same sp.free (lim sp) m) refl (omega arith)
      (mean.block_means sp.namespace here.good.known x c.0 c.1 cs ([], e) env
      (map (λ y. held (slot_in y table) m) (block_parameters cenv order sp.namespace x)) m.globals sees))

  -- The values that a tag passes to its block are the arguments of its parameters, with `scoped`
  -- and without.
  sees_around : (x : Text) (sp : StaticEnv) (q : Option Placement) (env : Env) (m : Memory) → Good cenv order sp q env m
      → is_scoped cenv sp.namespace x ≡ true
      → Sees cenv order sp.namespace x env
      (map (λ y. held (slot_in y sp.table) m) (block_parameters cenv order sp.namespace x)) m.globals
  sees_around x sp q env m g e = record {
    arguments =
        seen_params cenv order calls scall mean laid None q sp (is_scoped cenv sp.namespace x) sp.table env m
        g.agrees.names g.fits.few;
    globals = g.agrees.globals;
    others = λ y i f.
        g.agrees.names y i ∙ ap (λ o. held o m)
        (g.fits.outer y (λ k. f (subst (λ b. Among y (if b then bound_names sp else [])) (sym e) k)))
        ∙ global_reads (first_slot cenv order sp.namespace) (names cenv order sp.namespace) y m;
  }

  -- ---- Includes

  abbrev handed : Table → ℕ → List Text → Memory → Memory
  handed table k [] m = m
  handed table k (x ∷ xs) m = handed table (suc k) xs (store (global k) (held (slot_in x table) m) m)

  handed_same : (p : Place) (table : Table) (k : ℕ) (xs : List Text) (l : Option Loop) (q : Option Placement)
      (m : Memory)
      → sbody (handed_on p table k xs) l m ≡ gives (handed table k xs m)
  handed_same p table k [] l q m = refl
  handed_same p table k (x ∷ xs) l q m =
      search (
        arith,
        rules,
        read_gives,
        handed_same p table (suc k) xs l q (store (global k) (held (slot_in x table) m) m),
        held,
      )

  record HandedOn (c d k : ℕ) (xs : List Text) (f : Text → Tree) (m n : Memory) : Type 0 where
    pub kept : Kept c d m n
    pub values : (x : Text) → Among x xs → (i : ℕ) → slot_in x (globals_from k xs) ≡ Some (global i)
        → tree_at n.globals i ≡ f x
    pub out : n.out ≡ m.out

  handed_holds : (table : Table) (c d k : ℕ) (xs : List Text) (f : Text → Tree) (m : Memory) → d ≤ k
      → ((n : Memory) → Kept c d m n → (x : Text) → Among x xs → held (slot_in x table) n ≡ f x)
      → HandedOn c d k xs f m (handed table k xs m)
  handed_holds table c d k [] f m le a = record { kept = kept_same c d m; values = λ x i. absurd i; out = refl }
  handed_holds table c d k (x ∷ xs) f m le a =
      let v = held (slot_in x table) m in
      let m1 = store (global k) v m in
      let one = kept_global c d k v m le in
      let less : d ≤ suc k = omega (arith, le) in
      let r = handed_holds table c (suc k) (suc k) xs f m1 (omega arith)
      (λ n u y i. a n (kept_then one (kept_less (omega arith) less u)) y (inr i)) in
      record {
        kept = kept_then one (kept_less (omega arith) less r.kept);
        values = λ y i j e. which (handed table (suc k) xs m1) y (bytes_eq x y) refl i j e
            (r.kept.globals k (omega arith) ∙ put_here k v m.globals
            ∙ a m (kept_same c d m) x (inl refl))
            (λ i' e'. r.values y i' j e');
        out = r.out;
      }
    where
      here : {j : ℕ} → Some (global k) ≡ Some (global j) → k ≡ j
      here q = cc

      which : (n : Memory) (y : Text) (b : Bool) → bytes_eq x y ≡ b → Among y (x ∷ xs) → (j : ℕ)
          → (if b then Some (global k) else slot_in y (globals_from (suc k) xs)) ≡ Some (global j)
          → tree_at n.globals k ≡ f x
          → (Among y xs → slot_in y (globals_from (suc k) xs) ≡ Some (global j) → tree_at n.globals j ≡ f y)
          → tree_at n.globals j ≡ f y
      which n y b e x5 j s w r = search (arith, rules, here, same_text, no_both, is_same)

  include_both : (n : Text) (with_context : Bool) (sp : StaticEnv) (l : Option Loop) (q : Option Placement) (b j : ℕ)
      (S : List Text) (st : State) (m : Memory) (line : ℕ)
      → Here sp q b j S st m → Hands cenv order sp.namespace n
      → SameEval (After sp q b j S m)
      (bind (calls (the_chain n (if with_context then seen st.env else []))) (λ s. gives (put st s)))
      (sbody (followed (handed_on (place sp line) (if with_context then sp.table else [])
      (first_slot cenv order (a_chain n)) (names cenv order (a_chain n)))
      (alone (run (unit cenv order (of_chain n)) none))) l m)
  include_both n with_context sp l q b j S st m line here hands = by_flag with_context
    where
      passed : (table : Table) (gs : Pairs) (f : Text → Tree)
          → ((o : Memory) → Kept sp.free (lim sp) m o → (x : Text) → Among x (names cenv order (a_chain n))
          → held (slot_in x table) o ≡ f x) → ((x : Text) → value_in gs x ≡ f x)
          → SameEval (After sp q b j S m) (bind (calls (the_chain n gs)) (λ s. gives (put st s)))
          (sbody (followed
          (handed_on (place sp line) table (first_slot cenv order (a_chain n)) (names cenv order (a_chain n)))
          (alone (run (unit cenv order (of_chain n)) none))) l m)
      passed table gs f a g =
          let r = handed_holds table sp.free (lim sp) (first_slot cenv order (a_chain n)) (names cenv order (a_chain n))
          f m hands.behind a in
          let o = handed table (first_slot cenv order (a_chain n)) (names cenv order (a_chain n)) m in
          by_right (followed_same
          (handed_on (place sp line) table (first_slot cenv order (a_chain n)) (names cenv order (a_chain n)))
          (alone (run (unit cenv order (of_chain n)) none)) l m
          ∙ ap (λ z. bind z (λ y. sbody (alone (run (unit cenv order (of_chain n)) none)) l y))
          (handed_same (place sp line) table (first_slot cenv order (a_chain n)) (names cenv order (a_chain n)) l q m)
          ∙ alone_same (run (unit cenv order (of_chain n)) none) l o)
          (run_both sp l q b j S st m o (scall (unit cenv order (of_chain n)) [] o.globals)
          (first_slot cenv order (a_chain n)) here r.kept r.out hands.behind
          (mean.chain_means n hands.known gs o.globals (λ x i.
          let k = global_given (first_slot cenv order (a_chain n)) (names cenv order (a_chain n)) x i in
          g x ∙ sym (r.values x i k.0 k.1) ∙ sym (ap (λ z. global_held z o.globals) k.1))))

      by_flag : (c : Bool) → SameEval (After sp q b j S m)
          (bind (calls (the_chain n (if c then seen st.env else []))) (λ s. gives (put st s)))
          (sbody (followed (handed_on (place sp line) (if c then sp.table else []) (first_slot cenv order (a_chain n))
          (names cenv order (a_chain n)))
          (alone (run (unit cenv order (of_chain n)) none))) l m)
      by_flag true =
          passed sp.table (seen st.env) (read st.env)
          (λ o u x i. sym ((good_kept cenv order here.good u).agrees.names x (hands.names x i)))
          (λ x. seen_reads st.env.scopes st.env.globals x)
      by_flag false = passed [] [] (λ x. tree.undefined) (λ o u x i. refl) (λ x. refl)

  -- ---- Every statement

  mutual
    pub stmt_same : (s : Stmt) (sp : StaticEnv) (l : Option Loop) (q : Option Placement) (b j : ℕ) (S : List Text)
        (st : State) (m : Memory)
        → Here sp q b j S st m → AllAmong (stmt_names s) (ns sp) → AllAmong (set_by s) S
        → Each (Included cenv order sp.namespace) (needs_by true s)
        → Each (Proper cenv order sp.namespace) (scoped_by s)
        → SameEval (After sp q b j S m) (meaning cenv calls s (around_of cenv order sp l q) st)
        (sbody (resolved_stmt cenv order s sp) l m)
    stmt_same (data_of t) sp l q b j S st m h i o n d = search (arith, rules, both, stays, kept_out, kept_same)
    stmt_same (print line e) sp l q b j S st m h i o n d =
        by_right (alone_same
        (slots.print (place sp line) sp.escaping (slots.required_if cenv.strict (resolved cenv order e sp))) l m)
        (at_both (place sp line)
        (put_shown sp q b j S st m h
        (required_both cenv order calls scall mean laid l q cenv.strict (resolved cenv order e sp)
        (value_same cenv order calls scall mean laid l q e sp st.env m h.good i))))
    stmt_same (choose bs other) sp l q b j S st m h i o n d =
        choice_same bs sp l q b j S st (meanings cenv calls other (around_of cenv order sp l q))
        (resolved_body cenv order other sp)
        (λ m' h'. body_same other sp l q b j S st m' h' (among_back (branch_names bs) (body_names other) (ns sp) i)
        (among_back (set_under bs) (set_in other) S o)
        (each_back (Included cenv order sp.namespace) (needs_under true bs) (needs_in true other) n)
        (each_back (Proper cenv order sp.namespace) (scoped_under bs) (scoped_in other) d))
        m h (among_front (branch_names bs) (body_names other) (ns sp) i) (among_front (set_under bs) (set_in other) S o)
        (each_front (Included cenv order sp.namespace) (needs_under true bs) (needs_in true other) n)
        (each_front (Proper cenv order sp.namespace) (scoped_under bs) (scoped_in other) d)
    stmt_same (for_each line xs e c body other) sp l q b j S st m h i o n d =
        let i1 =
        among_front (expr_names e) (xs ++ (condition_names c ++ (body_names body ++ body_names other))) (ns sp) i in
        let i2 = among_back xs (condition_names c ++ (body_names body ++ body_names other)) (ns sp)
        (among_back (expr_names e) (xs ++ (condition_names c ++ (body_names body ++ body_names other))) (ns sp) i) in
        let i3 = among_back (condition_names c) (body_names body ++ body_names other) (ns sp) i2 in
        let own =
        names_proper cenv order sp.namespace xs (named (set_in body) ++ (scoped_in body ++ scoped_in other)) d in
        let d1 =
        behind_proper cenv order sp.namespace xs (named (set_in body) ++ (scoped_in body ++ scoped_in other)) d in
        let sets = names_proper cenv order sp.namespace (set_in body) (scoped_in body ++ scoped_in other) d1 in
        let d2 = behind_proper cenv order sp.namespace (set_in body) (scoped_in body ++ scoped_in other) d1 in
        by_right (alone_same (slots.for_each (place sp line) (fresh_targets sp.free xs)
        (slots.required_if cenv.strict (resolved cenv order e sp))
        (resolved_condition cenv order c (bound_all xs sp))
        (scoped (set_in body) (bound_all xs sp) (resolved_body cenv order body)) (resolved_body cenv order other sp)) l
        m)
        (bind_both {R = Rowed sp.free (lim sp) m}
        (at_both (place sp line)
        (bind_both (required_both cenv order calls scall mean laid l q cenv.strict (resolved cenv order e sp)
        (value_same cenv order calls scall mean laid l q e sp st.env m h.good i1)) (λ v r w.
        by_right (ap (λ z. bind (checked (items_of_value z))
        (λ vs. skept cenv.filters constants scall (resolved_condition cenv order c (bound_all xs sp))
        (fresh_targets sp.free xs) vs r.memory)) w.value)
        (bind_both (checked_both (items_of_value v)) (λ vs ws f.
        by_right (ap (λ z. skept cenv.filters constants scall (resolved_condition cenv order c (bound_all xs sp))
        (fresh_targets sp.free xs) z r.memory) f)
        (weaken (λ us rs y. record { values = y.values; kept = kept_then w.kept y.kept; out = y.out ∙ w.out })
        (kept_both l q c xs sp st.env vs r.memory own (good_kept cenv order h.good w.kept)
        (among_front (condition_names c) (body_names body ++ body_names other) (ns sp) i2))))))))
        (λ vs r w.
        let h' : Here sp q b j S st r.memory =
        record { good = good_kept cenv order h.good w.kept; owns = h.owns; out = w.out ∙ h.out } in
        by_right (ap (λ z. seval_loop
        (λ l' n'. sbody (scoped (set_in body) (bound_all xs sp) (resolved_body cenv order body)) l' n')
        (λ n'. sbody (resolved_body cenv order other sp) l n') (fresh_targets sp.free xs) (place sp line) z r.memory)
        w.values)
        (weaken (λ st' n' y. since (lower h.owns w.kept) y)
        (gone_both l q body xs sp own
        (λ l' env out n' g inner z. scope_both body (bound_all xs sp) l' q env out n' g inner z
        (among_front (body_names body) (body_names other) (ns sp) i3) sets
        (λ b' j' S' st' n'' h'' o''. body_same body (bound_all (set_in body) (bound_all xs sp)) l' q b' j' S' st' n''
        h'' (among_front (body_names body) (body_names other) (ns sp) i3) o''
        (each_front (Included cenv order sp.namespace) (needs_in true body) (needs_in true other) n)
        (each_front (Proper cenv order sp.namespace) (scoped_in body) (scoped_in other) d2)))
        (place sp line) b j S vs st r.memory (meanings cenv calls other (around_of cenv order sp l q))
        (λ n'. sbody (resolved_body cenv order other sp) l n') h'
        (body_same other sp l q b j S st r.memory h' (among_back (body_names body) (body_names other) (ns sp) i3) o
        (each_back (Included cenv order sp.namespace) (needs_in true body) (needs_in true other) n)
        (each_back (Proper cenv order sp.namespace) (scoped_in body) (scoped_in other) d2))))))
    stmt_same (set line xs e) sp l q b j S st m h i o n d =
        by_right (alone_same (assign (place sp line) (set_targets sp.table xs) (resolved cenv order e sp)) l m)
        (left_both (λ s. record st { env = all_bound st.env s })
        (at_both (place sp line) (bind_both
        (value_same cenv order calls scall mean laid l q e sp st.env m h.good (among_front (expr_names e) xs (ns sp) i))
        (λ v r w.
        by_right (ap (λ z. take (set_targets sp.table xs) z r.memory) w.value)
        (let h' : Here sp q b j S st r.memory =
        record { good = good_kept cenv order h.good w.kept; owns = h.owns; out = w.out ∙ h.out } in
        weaken (λ s n' y. since (lower h.owns w.kept) y)
        (set_all xs sp q b j S st r.memory h' (λ T first next there. all_set cenv order sp.namespace sp.table sp.free
        h'.good.fits S r.memory T first next there xs v o (among_back (expr_names e) xs (ns sp) i))))))))
    stmt_same (set_block line x body) sp l q b j S st m h i o n d =
        by_right (alone_same
        (capture sp.escaping (slot_of x sp.table) (scoped (set_in body) sp (resolved_body cenv order body))) l m)
        (bind_both (caught body sp l q sp.escaping st.env m h.good i.1
        (names_proper cenv order sp.namespace (set_in body) (scoped_in body) d)
        (λ b' j' S' st' n' h' o'. body_same body (bound_all (set_in body) sp) l q b' j' S' st' n' h' i.1 o' n
        (behind_proper cenv order sp.namespace (set_in body) (scoped_in body) d))) (λ v n' w.
        let m2 : Memory = record n' { out = m.out } in
        let u : Kept sp.free (lim sp) m m2 = kept_out m2 refl refl w.kept in
        let h' : Here sp q b j S st m2 = record { good = good_kept cenv order h.good u; owns = h.owns; out = h.out } in
        by_right (ap (λ z. gives (store (slot_of x sp.table) z m2)) w.value)
        (weaken (λ st' n'' y. since (lower h.owns u) y)
        (left_both (λ s. record st { env = all_bound st.env s })
        (set_all {g = gives ((x, v) ∷ [])} (x ∷ []) sp q b j S st m2 h'
        (λ T first next there.
        both (one_set cenv order sp.namespace sp.table sp.free h'.good.fits S m2 T first next there x v o.0 i.0)))))))
    stmt_same (with_values line ps body) sp l q b j S st m h i o n d =
        let i1 = among_back (keywords ps) (body_names body) (ns sp)
        (among_back (pair_names ps) (keywords ps ++ body_names body) (ns sp) i) in
        let own = names_proper cenv order sp.namespace (keywords ps) (named (set_in body) ++ scoped_in body) d in
        let d1 = behind_proper cenv order sp.namespace (keywords ps) (named (set_in body) ++ scoped_in body) d in
        with_same ps sp l q st.env m line h.good
        (among_front (pair_names ps) (keywords ps ++ body_names body) (ns sp) i) (After sp q b j S m)
        (λ ks. within ks (meanings cenv calls body (around_of cenv order sp l q)) st)
        (scoped (set_in body) (bound_all (keywords ps) sp) (resolved_body cenv order body)) (λ ks n' w.
        left_both (λ r. record st { out = r.out })
        (weaken (λ st' n'' y. stays st'.out h (kept_then w.kept
        (kept_less (omega arith)
        (omega arith) y.kept)) y.out)
        (scope_both body (bound_all (keywords ps) sp) l q (inside ks st.env) st.out n'
        (good_bound sp q ks (keywords ps) w.names own h.good w.kept w.values) (inside_inner st.env ks) (w.out ∙ h.out)
        i1 (names_proper cenv order sp.namespace (set_in body) (scoped_in body) d1)
        (λ b' j' S' st' n'' h' o'. body_same body (bound_all (set_in body) (bound_all (keywords ps) sp)) l q b' j' S'
        st' n'' h' i1 o' n (behind_proper cenv order sp.namespace (set_in body) (scoped_in body) d1)))))
    stmt_same (filter_block line fs body) sp l q b j S st m h i o n d =
        by_right (bind_assoc
        (sbody (scoped (set_in body) (grown sp) (resolved_body cenv order body)) l (record m { out = [] }))
        (λ n'. gives (store (local sp.free) (as_value sp.escaping n'.out) (record n' { out = m.out })))
        (λ n'. sbody (alone (slots.print (place sp line) sp.escaping (slots.required_if cenv.strict
        (resolved_filters cenv order fs (grown sp) (slots.variable (local sp.free)))))) l n'))
        (bind_both (caught body (grown sp) l q sp.escaping st.env m (good_grown cenv order h.good)
        (among_front (body_names body) (filter_call_names fs) (ns sp) i)
        (names_proper cenv order sp.namespace (set_in body) (scoped_in body) d)
        (λ b' j' S' st' n' h' o'. body_same body (bound_all (set_in body) (grown sp)) l q b' j' S' st' n' h'
        (among_front (body_names body) (filter_call_names fs) (ns sp) i) o' n
        (behind_proper cenv order sp.namespace (set_in body) (scoped_in body) d))) (λ v n' w.
        let m2 : Memory = store (local sp.free) (as_value sp.escaping n'.out) (record n' { out = m.out }) in
        let less : sp.free ≤ suc sp.free = omega arith in
        let one = kept_store sp.free (lim sp) sp.free (as_value sp.escaping n'.out) (record n' { out = m.out })
        (omega arith) in
        let u : Kept sp.free (lim sp) m m2 = kept_then (kept_out (record n' { out = m.out }) refl refl
        (kept_less less (omega arith) w.kept)) one in
        let h' : Here sp q b j S st m2 = record { good = good_kept cenv order h.good u; owns = h.owns; out = h.out } in
        by_right (alone_same (slots.print (place sp line) sp.escaping (slots.required_if cenv.strict
        (resolved_filters cenv order fs (grown sp) (slots.variable (local sp.free))))) l m2)
        (at_both (place sp line) (weaken (λ st' n'' y. since (lower h.owns u) y) (put_shown sp q b j S st m2 h'
        (weaken (λ x r y. record {
          value = y.value;
          kept = kept_less less (omega arith) y.kept;
          out = y.out;
        })
        (required_both cenv order calls scall mean laid l q cenv.strict
        (resolved_filters cenv order fs (grown sp) (slots.variable (local sp.free)))
        (through_same fs (grown sp) l q st.env m2 (gives v) (slots.variable (local sp.free))
        (good_grown cenv order h'.good) (among_back (body_names body) (filter_call_names fs) (ns sp) i)
        (both (record {
          value = put_here sp.free (as_value sp.escaping n'.out) n'.locals ∙ w.value;
          kept = kept_same (suc sp.free) (lim sp) m2;
          out = refl;
        }))))))))))
    stmt_same (autoescape line on body) sp l q b j S st m h i o n d =
        let sp' : StaticEnv = record sp { escaping = on } in
        let g = good_inside h.good in
        left_both (λ r. record st { out = r.out })
        (weaken (λ st' n' y. stays st'.out h y.kept y.out)
        (scope_both body sp' l q (inside [] st.env) st.out m
        (record { known = g.known; fits = g.fits; agrees = g.agrees; part = g.part }) (inside_inner st.env []) h.out i
        (names_proper cenv order sp.namespace (set_in body) (scoped_in body) d)
        (λ b' j' S' st' n' h' o'. body_same body (bound_all (set_in body) sp') l q b' j' S' st' n' h' i o' n
        (behind_proper cenv order sp.namespace (set_in body) (scoped_in body) d))))
    stmt_same (macro line x ps body) sp l q b j S st m h i o n d = both (record { here = h; kept = kept_same b j m })
    stmt_same (include line k ignore_missing with_context) sp l q b j S st m h i o n d =
        search (arith, rules, both, kept_same, by_right, alone_same, deep, no_both, include_both)
    stmt_same (import_as line x new) sp l q b j S st m h i o n d = both (record { here = h; kept = kept_same b j m })
    stmt_same (import_from line x news) sp l q b j S st m h i o n d = both (record { here = h; kept = kept_same b j m })
    stmt_same (extends line x) sp l q b j S st m h i o n d = both (record { here = h; kept = kept_same b j m })
    stmt_same (block line x true required body) sp l q b j S st m h i o n d =
        by_left (ap (λ bs. bind (block_text calls sp.namespace bs st.env) (λ s. gives (put st s)))
        (numbered_are cenv sp.namespace x))
        (placed_both x sp.table st.env (numbered_of cenv sp.namespace x) sp l q b j S st m h
        (sees_around x sp q st.env m h.good d.0) refl)
    stmt_same (block line x false required body) sp l q b j S st m h i o n d =
        by_left (ap (λ bs. bind (block_text calls sp.namespace bs (top st.env.globals)) (λ s. gives (put st s)))
        (numbered_are cenv sp.namespace x))
        (placed_both x (globals cenv order sp.namespace) (top st.env.globals) (numbered_of cenv sp.namespace x) sp l q b
        j S st m h (sees_globals cenv order calls scall mean laid l q x sp st.env m h.good) refl)

    pub body_same : (c : Body) (sp : StaticEnv) (l : Option Loop) (q : Option Placement) (b j : ℕ) (S : List Text)
        (st : State) (m : Memory)
        → Here sp q b j S st m → AllAmong (body_names c) (ns sp) → AllAmong (set_in c) S
        → Each (Included cenv order sp.namespace) (needs_in true c)
        → Each (Proper cenv order sp.namespace) (scoped_in c)
        → SameEval (After sp q b j S m) (meanings cenv calls c (around_of cenv order sp l q) st)
        (sbody (resolved_body cenv order c sp) l m)
    body_same end sp l q b j S st m h i o n d = both (record { here = h; kept = kept_same b j m })
    body_same (stmt s rest) sp l q b j S st m h i o n d =
        by_right (followed_same (resolved_stmt cenv order s sp) (resolved_body cenv order rest sp) l m)
        (bind_both (stmt_same s sp l q b j S st m h (among_front (stmt_names s) (body_names rest) (ns sp) i)
        (among_front (set_by s) (set_in rest) S o)
        (each_front (Included cenv order sp.namespace) (needs_by true s) (needs_in true rest) n)
        (each_front (Proper cenv order sp.namespace) (scoped_by s) (scoped_in rest) d)) (λ st' m' a.
        weaken (λ st'' m'' y. since a.kept y)
        (body_same rest sp l q b j S st' m' a.here (among_back (stmt_names s) (body_names rest) (ns sp) i)
        (among_back (set_by s) (set_in rest) S o)
        (each_back (Included cenv order sp.namespace) (needs_by true s) (needs_in true rest) n)
        (each_back (Proper cenv order sp.namespace) (scoped_by s) (scoped_in rest) d))))

    -- The branches of an `if` have one outcome by names and by slots, if the `else` part has.
    pub choice_same : (bs : Branches) (sp : StaticEnv) (l : Option Loop) (q : Option Placement) (b j : ℕ)
        (S : List Text) (st : State) (other : State → Eval State) (sother : SBody Constant)
        → ((m : Memory) → Here sp q b j S st m → SameEval (After sp q b j S m) (other st) (sbody sother l m))
        → (m : Memory) → Here sp q b j S st m → AllAmong (branch_names bs) (ns sp) → AllAmong (set_under bs) S
        → Each (Included cenv order sp.namespace) (needs_under true bs)
        → Each (Proper cenv order sp.namespace) (scoped_under bs)
        → SameEval (After sp q b j S m) (chosen cenv calls bs (around_of cenv order sp l q) st other)
        (sbody (resolved_choice cenv order bs sp sother) l m)
    choice_same no_branches sp l q b j S st other sother others m h i o n d = others m h
    choice_same (branch line c body rest) sp l q b j S st other sother others m h i o n d =
        let i1 = among_back (expr_names c) (body_names body ++ branch_names rest) (ns sp) i in
        by_right (alone_same (slots.if_else (place sp line) (resolved cenv order c sp)
        (resolved_body cenv order body sp) (resolved_choice cenv order rest sp sother)) l m)
        (bind_both (at_both (place sp line) (value_same cenv order calls scall mean laid l q c sp st.env m h.good
        (among_front (expr_names c) (body_names body ++ branch_names rest) (ns sp) i))) (λ v r w.
        let h' : Here sp q b j S st r.memory =
        record { good = good_kept cenv order h.good w.kept; owns = h.owns; out = w.out ∙ h.out } in
        by_right (ap (λ z. if tree.truth z then sbody (resolved_body cenv order body sp) l r.memory
        else sbody (resolved_choice cenv order rest sp sother) l r.memory) w.value)
        (weaken (λ st' n' y. since (lower h.owns w.kept) y) (if_both (tree.truth v)
        (body_same body sp l q b j S st r.memory h' (among_front (body_names body) (branch_names rest) (ns sp) i1)
        (among_front (set_in body) (set_under rest) S o)
        (each_front (Included cenv order sp.namespace) (needs_in true body) (needs_under true rest) n)
        (each_front (Proper cenv order sp.namespace) (scoped_in body) (scoped_under rest) d))
        (choice_same rest sp l q b j S st other sother others r.memory h'
        (among_back (body_names body) (branch_names rest) (ns sp) i1) (among_back (set_in body) (set_under rest) S o)
        (each_back (Included cenv order sp.namespace) (needs_in true body) (needs_under true rest) n)
        (each_back (Proper cenv order sp.namespace) (scoped_in body) (scoped_under rest) d))))))
