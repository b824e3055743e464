-- The agreement of an environment and a memory, and the changes that keep it.
use Rattle.std.proofs.Common.{◌≡◌, ℕ, suc, ◌+◌, ◌<◌, ◌≤◌, Bool, true, false, if◌then◌else◌, List, [], ◌∷◌, ◌++◌, length}
use Rattle.std.proofs.Common.{map, Option, Some, None, refl, sym, ◌∙◌, subst, arith, inl, inr, rules}
use Rattle.std.specs.Prelude.{flat_map}
use Rattle.std.specs.Str.{bytes_eq}
use Rattle.jt_value.specs.Tree as tree
use Rattle.jt_value.specs.Tree.{Tree}
use Rattle.jt_value.specs.Pairs.{Pairs}
use Rattle.jt_ast.specs.Expressions.{Text}
use Rattle.jt_ast.specs.Texts.{ascending}
use Rattle.jt_semantics.specs.Env.{Env, read, bound, all_bound}
use Rattle.jt_eval.specs.Values.{value_in}
use Rattle.jt_chains.specs.Chain.{Namespace, a_chain, a_library}
use Rattle.jt_chains.specs.Uses.{own_names}
use Rattle.jt_chains.specs.Includes.{included}
use Rattle.jt_eval.specs.Loops.{tree_at}
use Rattle.jt_rules.specs.CompileEnv.{CompileEnv}
use Rattle.jt_ir.specs.Slots.{Slot, local, global, Memory, load, put_at, store}
use Rattle.jt_semantics.specs.Layout.{Table, slot_in, globals_from, names_in, names, first_slot, globals, scopes}
use Rattle.jt_semantics.specs.Resolve.{bound_table}
use Rattle.jt_semantics.specs.Expressions.{seen_by}
use Rattle.jt_semantics.proofs.EnvLookup.{same_text, is_same, no_both, read_bound, IsInner, inner_bound, inner_globals}
use Rattle.jt_semantics.proofs.EnvLookup.{held, put_elsewhere}
use Rattle.jt_semantics.proofs.Among.{Among, AllAmong}

-- ---- The first locals and the first globals are kept

pub record Kept (b g : ℕ) (m n : Memory) : Type 0 where
  pub locals : (i : ℕ) → i < b → tree_at n.locals i ≡ tree_at m.locals i
  pub globals : (i : ℕ) → i < g → tree_at n.globals i ≡ tree_at m.globals i

pub kept_same : (b g : ℕ) (m : Memory) → Kept b g m m
kept_same b g m = record { locals = λ i l. refl; globals = λ i l. refl }

pub kept_then : {b g : ℕ} {m n o : Memory} → Kept b g m n → Kept b g n o → Kept b g m o
kept_then u v = record { locals = λ i l. v.locals i l ∙ u.locals i l; globals = λ i l. v.globals i l ∙ u.globals i l }

pub kept_less : {b g c d : ℕ} {m n : Memory} → c ≤ b → d ≤ g → Kept b g m n → Kept c d m n
kept_less {b = b} {g = g} {c = c} {d = d} p q u = search (arith, rules)

-- A change of the output keeps the first locals and the first globals.
pub kept_out : {b g : ℕ} {m n : Memory} (o : Memory) → o.locals ≡ n.locals → o.globals ≡ n.globals → Kept b g m n
    → Kept b g m o
kept_out o e f u = search (arith, rules)

apart_less : (i b j : ℕ) → b ≤ i → j < b → i ≡ j → ⊥
apart_less i b j p l e = omega (arith, p, l, e)

-- A store to a later local keeps the first locals and the first globals.
pub kept_store : (b g i : ℕ) (v : Tree) (m : Memory) → b ≤ i → Kept b g m (store (local i) v m)
kept_store b g i v m p = search (arith, rules, put_elsewhere, apart_less)

pub kept_global : (b g i : ℕ) (v : Tree) (m : Memory) → g ≤ i → Kept b g m (store (global i) v m)
kept_global b g i v m p = search (arith, rules, put_elsewhere, apart_less)

-- ---- Values in consecutive locals

abbrev pub Held : List Tree → ℕ → List Tree → Type 0
Held ts k [] = Unit {0}
Held ts k (v ∷ vs) = (tree_at ts k ≡ v) × Held ts (suc k) vs

pub held_put : (ts : List Tree) (k j : ℕ) (v : Tree) (vs : List Tree) → k < j → Held ts j vs → Held (put_at k v ts) j vs
held_put ts k j v [] l h = tt
held_put ts k j v (w ∷ ws) l h = (
  put_elsewhere k j v ts (λ e. omega (arith, l, e)) ∙ h.0,
  held_put ts k (suc j) v ws (omega (arith, l)) h.1,
)

pub held_kept : {b g : ℕ} {m n : Memory} (k : ℕ) (vs : List Tree) → k + length vs ≤ b → Kept b g m n
    → Held m.locals k vs → Held n.locals k vs
held_kept k [] p u h = tt
held_kept {b = b} k (v ∷ vs) p u h = (
  u.locals k (omega (arith, p)) ∙ h.0,
  held_kept (suc k) vs (omega (arith, p)) u h.1,
)

-- ---- Slots of globals

-- The global of a name lies in the range of the names' globals.
pub global_slot : (n : ℕ) (ns : List Text) (x : Text) (i : ℕ) → slot_in x (globals_from n ns) ≡ Some (global i)
    → (n ≤ i) × (i < n + length ns)
global_slot n [] x i e = search (arith, rules)
global_slot n (y ∷ ys) x i e = search (arith, rules, global_slot (suc n) ys x i)

-- Each name of the range has a global.
pub global_given : (n : ℕ) (ns : List Text) (x : Text) → Among x ns
    → (i : ℕ) × (slot_in x (globals_from n ns) ≡ Some (global i))
global_given n [] x h = absurd h
global_given n (y ∷ ys) x h = through (bytes_eq y x) refl h (λ h'. global_given (suc n) ys x h')
  where
    through : (b : Bool) → bytes_eq y x ≡ b → Among x (y ∷ ys)
        → (Among x ys → (i : ℕ) × (slot_in x (globals_from (suc n) ys) ≡ Some (global i)))
        → (i : ℕ) × ((if b then Some (global n) else slot_in x (globals_from (suc n) ys)) ≡ Some (global i))
    through true e k f = (n, refl)
    through false e (inl s) f = absurd (no_both (is_same y x s) e)
    through false e (inr k) f = f k

-- Different names have different globals.
pub globals_apart : (n : ℕ) (ns : List Text) (x y : Text) (s : Slot) → slot_in x (globals_from n ns) ≡ Some s
    → slot_in y (globals_from n ns) ≡ Some s → x ≡ y
globals_apart n [] x y s e f = search (arith, rules)
globals_apart n (z ∷ zs) x y s e f = search (arith, rules, globals_apart (suc n) zs x y s, global_slot, same_text)

-- The value that the slot of a global holds.
abbrev pub global_held : Option Slot → List Tree → Tree
global_held None ts = tree.undefined
global_held (Some (local i)) ts = tree.undefined
global_held (Some (global i)) ts = tree_at ts i

pub global_reads : (n : ℕ) (ns : List Text) (x : Text) (m : Memory)
    → held (slot_in x (globals_from n ns)) m ≡ global_held (slot_in x (globals_from n ns)) m.globals
global_reads n [] x m = refl
global_reads n (y ∷ ys) x m = search (arith, rules, global_reads (suc n) ys x m, held)

-- ---- Agreement

module _ (cenv : CompileEnv) (order : List Namespace) where
  -- The names that are read or bound. The names of a chain have slots of globals, the names of a
  -- library have no slots.
  abbrev pub read_names : Namespace → List Text
  read_names (a_chain n) = names cenv order (a_chain n)
  read_names (a_library n) =
      ascending
      (own_names cenv.sources (a_library n) ++ flat_map (names cenv order) (included cenv.sources (a_library n)))

  -- The first slot after a chain's globals.
  abbrev pub limit : Namespace → ℕ
  limit h = first_slot cenv order h + length (names cenv order h)

  abbrev pub Below : ℕ → ℕ → Slot → Type 0
  Below k g (local i) = i < k
  Below k g (global i) = i < g

  -- Holds if each slot of the table belongs to one name, and lies below the first free local or
  -- among the chain's globals. A name that no scope binds has its global.
  pub record Fits (h : Namespace) (table : Table) (k : ℕ) : Type 0 where
    pub slotted : (x : Text) (s : Slot) → slot_in x table ≡ Some s → Below k (limit h) s
    pub apart : (x y : Text) (s : Slot) → slot_in x table ≡ Some s → slot_in y table ≡ Some s → x ≡ y
    pub outer : (x : Text) → (Among x (scopes cenv order h) → ⊥) → slot_in x table ≡ slot_in x (globals cenv order h)
    pub few : AllAmong (scopes cenv order h) (read_names h)

  -- Holds if each global of the chain holds the value of its name. A library has no globals, so
  -- each of its names is undefined outside its macros.
  abbrev pub GlobalsAgree : Namespace → Pairs → List Tree → Type 0
  GlobalsAgree h gs ts =
      (x : Text) → Among x (read_names h) → value_in gs x ≡ global_held (slot_in x (globals cenv order h)) ts

  -- Holds if each name has the value that its slot holds, and the globals agree.
  pub record Agrees (h : Namespace) (table : Table) (env : Env) (m : Memory) : Type 0 where
    pub names : (x : Text) → Among x (read_names h) → read env x ≡ held (slot_in x table) m
    pub globals : GlobalsAgree h env.globals m.globals

  -- A library has no globals.
  pub names_library : (n : Text) → names cenv order (a_library n) ≡ []
  names_library n = by order
    where
      by : (hs : List Namespace) → names_in cenv hs (a_library n) ≡ []
      by [] = refl
      by (k ∷ ks) = search (arith, rules, by ks)

  pub library_agrees : (n : Text) (ts : List Tree) → GlobalsAgree (a_library n) [] ts
  library_agrees n ts x i = search (arith, rules, names_library)

  pub seen_agree : (h : Namespace) (gs : Pairs) (ts : List Tree) → GlobalsAgree h gs ts
      → GlobalsAgree h (seen_by h gs) ts
  seen_agree h gs ts a = search (arith, rules, library_agrees)

  load_kept : (k g : ℕ) (m n : Memory) (s : Slot) → Below k g s → Kept k g m n → load s n ≡ load s m
  load_kept k g m n s l u = search (arith, rules)

  held_kept_in : {h : Namespace} {table : Table} {k : ℕ} {m n : Memory} → Fits h table k → Kept k (limit h) m n
      → (x : Text) → held (slot_in x table) n ≡ held (slot_in x table) m
  held_kept_in {h = h} {table = table} {k = k} {m = m} {n = n} fits u x = by (slot_in x table) refl
    where
      by : (o : Option Slot) → slot_in x table ≡ o → held o n ≡ held o m
      by None e = refl
      by (Some s) e = load_kept k (limit h) m n s (fits.slotted x s e) u

  -- Globals that are kept still hold their values.
  pub global_kept : (h : Namespace) {k : ℕ} {m n : Memory} → Kept k (limit h) m n → (x : Text)
      → global_held (slot_in x (globals cenv order h)) n.globals
      ≡ global_held (slot_in x (globals cenv order h)) m.globals
  global_kept h {m = m} {n = n} u x = search (arith, rules, global_slot)

  pub agrees_kept : {h : Namespace} {table : Table} {k : ℕ} {env : Env} {m n : Memory} → Fits h table k
      → Agrees h table env m → Kept k (limit h) m n → Agrees h table env n
  agrees_kept {h = h} fits a u = search (arith, rules, held_kept_in, global_kept)

  -- The table still fits if one more name gets a local of its own.
  pub fits_one : {h : Namespace} {table : Table} {k : ℕ} (x : Text) → Among x (scopes cenv order h) → Fits h table k
      → Fits h ((x, local k) ∷ table) (suc k)
  fits_one {h = h} {table = table} {k = k} x bound_in fits = record {
    slotted = λ y s e. in_it y s (bytes_eq x y) e (λ f. fits.slotted y s f);
    apart = λ y z s e f. part y z s (bytes_eq x y) (bytes_eq x z) refl refl e f;
    outer = λ y n. around y (bytes_eq x y) refl n (fits.outer y n);
    few = fits.few;
  }
    where
      more : (s : Slot) → Below k (limit h) s → Below (suc k) (limit h) s
      more (local i) l = omega (arith, l)
      more (global i) l = l

      first : {s : Slot} → Some (local k) ≡ Some s → s ≡ local k
      first q = cc

      in_it : (y : Text) (s : Slot) (b : Bool) → (if b then Some (local k) else slot_in y table) ≡ Some s
          → (slot_in y table ≡ Some s → Below k (limit h) s) → Below (suc k) (limit h) s
      in_it y s true e f = subst (λ t. Below (suc k) (limit h) t) (sym (first e)) (omega arith)
      in_it y s false e f = more s (f e)

      clash : (y : Text) (s : Slot) → s ≡ local k → slot_in y table ≡ Some s → ⊥
      clash y s q r = let l : k < k = subst (λ t. Below k (limit h) t) q (fits.slotted y s r) in omega (arith, l)

      part : (y z : Text) (s : Slot) (b c : Bool) → bytes_eq x y ≡ b → bytes_eq x z ≡ c
          → (if b then Some (local k) else slot_in y table) ≡ Some s
          → (if c then Some (local k) else slot_in z table) ≡ Some s → y ≡ z
      part y z s b c p q e f = search (arith, rules, same_text, clash, first)

      around : (y : Text) (b : Bool) → bytes_eq x y ≡ b → (Among y (scopes cenv order h) → ⊥)
          → slot_in y table ≡ slot_in y (globals cenv order h)
          → (if b then Some (local k) else slot_in y table) ≡ slot_in y (globals cenv order h)
      around y true p n e = absurd (n (subst (λ z. Among z (scopes cenv order h)) (same_text x y p) bound_in))
      around y false p n e = e

  -- The table still fits if one more local is in use, for no name.
  pub fits_more : {h : Namespace} {table : Table} {k : ℕ} → Fits h table k → Fits h table (suc k)
  fits_more {h = h} {table = table} {k = k} fits = record {
    slotted = λ y s e. more s (fits.slotted y s e);
    apart = fits.apart;
    outer = fits.outer;
    few = fits.few;
  }
    where
      more : (s : Slot) → Below k (limit h) s → Below (suc k) (limit h) s
      more (local i) l = omega (arith, l)
      more (global i) l = l

  -- The agreement holds after a name is bound in the innermost scope and its local holds the value.
  pub bind_held : {h : Namespace} {table : Table} {env : Env} {n : Memory} (x : Text) (v : Tree) (k : ℕ) → IsInner env
      → tree_at n.locals k ≡ v → Agrees h table env n → Agrees h ((x, local k) ∷ table) (bound env x v) n
  bind_held {h = h} {table = table} {env = env} {n = n} x v k inner e a =
      search (arith, rules, read_bound, inner_globals, held)

  -- The agreement holds after a name gets a local with the value that the name already has.
  pub copy_held : {h : Namespace} {table : Table} {env : Env} {n : Memory} (x : Text) (k : ℕ)
      → tree_at n.locals k ≡ read env x → Agrees h table env n → Agrees h ((x, local k) ∷ table) env n
  copy_held {h = h} {table = table} {env = env} {n = n} x k e a = search (arith, rules, held, same_text)

  -- The agreement holds after names are bound in order and consecutive locals hold their values.
  pub pairs_held : {h : Namespace} {env : Env} {n : Memory} (table : Table) (k : ℕ) (bs : Pairs) → IsInner env
      → Held n.locals k (map (λ b. b.1) bs) → Agrees h table env n
      → Agrees h (bound_table (map (λ b. b.0) bs) k table) (all_bound env bs) n
  pairs_held table k [] inner held a = a
  pairs_held {h = h} {env = env} {n = n} table k (b ∷ bs) inner held a =
      pairs_held {env = bound env b.0 b.1} ((b.0, local k) ∷ table) (suc k) bs (inner_bound env b.0 b.1 inner) held.1
      (bind_held b.0 b.1 k inner held.0 a)

  -- The agreement holds after names get locals with the values that they already have.
  pub copies_held : {h : Namespace} {env : Env} {n : Memory} (table : Table) (k : ℕ) (xs : List Text)
      → Held n.locals k (map (read env) xs) → Agrees h table env n → Agrees h (bound_table xs k table) env n
  copies_held table k [] held a = a
  copies_held table k (x ∷ xs) held a = copies_held ((x, local k) ∷ table) (suc k) xs held.1 (copy_held x k held.0 a)

  pub fits_all : {h : Namespace} (xs : List Text) (k : ℕ) (table : Table) → AllAmong xs (scopes cenv order h)
      → Fits h table k → Fits h (bound_table xs k table) (k + length xs)
  fits_all {h = h} [] k table a f = subst (λ n. Fits h table n) (omega arith) f
  fits_all {h = h} (x ∷ xs) k table a f =
      subst (λ n. Fits h (bound_table xs (suc k) ((x, local k) ∷ table)) n)
      (omega arith)
      (fits_all xs (suc k) ((x, local k) ∷ table) a.1 (fits_one x a.0 f))

-- Holds if the names are in locals from a base on.
abbrev pub InLocals : ℕ → Table → List Text → Type 0
InLocals b table xs = (x : Text) → Among x xs → (i : ℕ) × (slot_in x table ≡ Some (local i)) × (b ≤ i)

-- A name with a local from the base on still has such a local when more names get locals.
later_local : (b k : ℕ) (table : Table) (x y : Text) → b ≤ k → (i : ℕ) × (slot_in x table ≡ Some (local i)) × (b ≤ i)
    → (i : ℕ) × (slot_in x ((y, local k) ∷ table) ≡ Some (local i)) × (b ≤ i)
later_local b k table x y l s = through (bytes_eq y x)
  where
    through : (c : Bool) → (i : ℕ) × ((if c then Some (local k) else slot_in x table) ≡ Some (local i)) × (b ≤ i)
    through true = (k, refl, l)
    through false = s

still_local : (b k : ℕ) (table : Table) (x : Text) (ys : List Text) → b ≤ k
    → (i : ℕ) × (slot_in x table ≡ Some (local i)) × (b ≤ i)
    → (i : ℕ) × (slot_in x (bound_table ys k table) ≡ Some (local i)) × (b ≤ i)
still_local b k table x [] l s = s
still_local b k table x (y ∷ ys) l s =
    still_local b (suc k) ((y, local k) ∷ table) x ys (omega (arith, l))
    (later_local b k table x y l s)

pub in_locals : (b k : ℕ) (table : Table) (xs : List Text) → b ≤ k → InLocals b (bound_table xs k table) xs
in_locals b k table [] l x i = absurd i
in_locals b k table (y ∷ ys) l x (inl e) =
    still_local b (suc k) ((y, local k) ∷ table) x ys (omega (arith, l))
    (here (bytes_eq y x) (is_same y x e))
  where
    here : (c : Bool) → c ≡ true
        → (i : ℕ) × ((if c then Some (local k) else slot_in x table) ≡ Some (local i)) × (b ≤ i)
    here true q = (k, refl, l)
    here false q = absurd (no_both q refl)
in_locals b k table (y ∷ ys) l x (inr i) =
    in_locals b (suc k) ((y, local k) ∷ table) ys (omega (arith, l)) x i
