-- The values that targets and scopes bind to names are the values that slots store.
use Rattle.std.proofs.Common.{◌≡◌, ℕ, suc, Bool, true, false, if◌then◌else◌, List, [], ◌∷◌, map, Option, Some}
use Rattle.std.proofs.Common.{None, refl, sym, ap, ◌∙◌, subst, arith, inl, inr, rules}
use Rattle.std.specs.Str.{bytes_eq}
use Rattle.jt_value.specs.Tree.{Tree}
use Rattle.jt_value.specs.Pairs.{Pairs}
use Rattle.jt_eval.specs.Eval.{bind, checked}
use Rattle.jt_ast.specs.Expressions.{Text}
use Rattle.jt_semantics.specs.Env.{Env, read, bound, all_bound}
use Rattle.jt_chains.specs.Chain.{Namespace}
use Rattle.jt_eval.specs.Loops.{items_of_value}
use Rattle.jt_ast.specs.Texts.{among}
use Rattle.jt_rules.specs.CompileEnv.{CompileEnv}
use Rattle.jt_semantics.specs.Meaning.{each_target, targets}
use Rattle.jt_ir.specs.Slots.{Slot, Memory, load, store, store_if, store_each, take}
use Rattle.jt_semantics.specs.Layout.{Table, slot_in}
use Rattle.jt_semantics.specs.Resolve.{fresh, fresh_targets, kept_slots, slot_of, set_targets}
use Rattle.jt_semantics.proofs.SameEval.{SameEval, both, fault, bind_both, by_right, checked_both}
use Rattle.jt_semantics.proofs.EnvLookup.{same_text, same_is, is_same, no_both, read_bound, held, put_here}
use Rattle.jt_semantics.proofs.EnvLookup.{put_elsewhere}
use Rattle.jt_semantics.proofs.EnvMemoryAgreement.{Kept, kept_same, kept_then, kept_less, kept_store, Held, held_put}
use Rattle.jt_semantics.proofs.EnvMemoryAgreement.{read_names, Fits}
use Rattle.jt_semantics.proofs.Among.{Among, AllAmong, among_is, among_has}

-- ---- Fresh targets

pub record Taken (k g : ℕ) (m : Memory) (xs : List Text) (s : Pairs) (n : Memory) : Type 0 where
  pub names : map (λ p. p.0) s ≡ xs
  pub values : Held n.locals k (map (λ p. p.1) s)
  pub kept : Kept k g m n
  pub out : n.out ≡ m.out

each_taken : (g : ℕ) (xs : List Text) (vs : List Tree) (k : ℕ) (m : Memory)
    → SameEval (Taken k g m xs) (each_target xs vs) (store_each (fresh k xs) vs m)
each_taken g [] [] k m = both (record { names = refl; values = tt; kept = kept_same k g m; out = refl })
each_taken g [] (v ∷ vs) k m = fault
each_taken g (x ∷ xs) [] k m = fault
each_taken g (x ∷ xs) (v ∷ vs) k m =
    search (
      arith,
      rules,
      bind_both,
      each_taken g xs vs (suc k) m,
      both,
      put_here k v,
      held_put,
      kept_then,
      kept_less,
      kept_store k g k v,
    )

several_taken : (g : ℕ) (xs : List Text) (v : Tree) (k : ℕ) (m : Memory)
    → SameEval (Taken k g m xs) (bind (checked (items_of_value v)) (each_target xs))
    (bind (checked (items_of_value v)) (λ vs. store_each (fresh k xs) vs m))
several_taken g xs v k m =
    bind_both (checked_both (items_of_value v))
    (λ vs ws e. by_right (ap (λ z. store_each (fresh k xs) z m) e) (each_taken g xs vs k m))

pub taken : (g : ℕ) (xs : List Text) (v : Tree) (k : ℕ) (m : Memory)
    → SameEval (Taken k g m xs) (targets xs v) (take (fresh_targets k xs) v m)
taken g [] v k m = several_taken g [] v k m
taken g (x ∷ []) v k m =
    both (record {
      names = refl;
      values = (put_here k v m.locals, tt);
      kept = kept_store k g k v m (omega arith);
      out = refl;
    })
taken g (x ∷ y ∷ ys) v k m = several_taken g (x ∷ y ∷ ys) v k m

-- ---- Reads after several bindings

pub reads_all : (bs : Pairs) (e f : Env) (y : Text) → read e y ≡ read f y
    → read (all_bound e bs) y ≡ read (all_bound f bs) y
reads_all [] e f y r = r
reads_all (b ∷ bs) e f y r = search (arith, rules, read_bound, reads_all bs)

reads_bound : (bs : Pairs) (e f : Env) (x : Text) → Among x (map (λ b. b.0) bs)
    → read (all_bound e bs) x ≡ read (all_bound f bs) x
reads_bound [] e f x i = absurd i
reads_bound (b ∷ bs) e f x (inl p) = search (arith, rules, reads_all, read_bound, is_same, no_both)
reads_bound (b ∷ bs) e f x (inr i) = reads_bound bs (bound e b.0 b.1) (bound f b.0 b.1) x i

reads_not : (bs : Pairs) (e : Env) (x : Text) → (Among x (map (λ b. b.0) bs) → ⊥) → read (all_bound e bs) x ≡ read e x
reads_not [] e x n = refl
reads_not (b ∷ bs) e x n = search (arith, rules, reads_not bs, read_bound, same_text)

-- ---- Slots that exist

slot_there : (x : Text) (table : Table) (s : Slot) → slot_in x table ≡ Some s → slot_of x table ≡ s
slot_there x [] s e = search (arith, rules)
slot_there x (b ∷ bs) s e = search (arith, rules, slot_there x bs s)

load_here : (s : Slot) (v : Tree) (m : Memory) → load s (store s v m) ≡ v
load_here s v m = search (arith, rules, put_here)

load_elsewhere : (s t : Slot) (v : Tree) (m : Memory) → (s ≡ t → ⊥) → load t (store s v m) ≡ load t m
load_elsewhere s t v m n = search (arith, rules, put_elsewhere)

store_out : (s : Slot) (v : Tree) (m : Memory) → (store s v m).out ≡ m.out
store_out s v m = search (arith, rules)

module _ (cenv : CompileEnv) (order : List Namespace) (h : Namespace) (table : Table) (k : ℕ)
    (fits : Fits cenv order h table k) (S : List Text) (m : Memory) (T : Memory → Type 0) (first : T m)
    (next : (x : Text) (s : Slot) (v : Tree) (n : Memory) → Among x S → Among x (read_names cenv order h)
    → slot_in x table ≡ Some s → T n → T (store s v n))
    (there : (x : Text) → Among x S → Among x (read_names cenv order h) → (s : Slot) × (slot_in x table ≡ Some s)) where
  -- Holds if each name that is set has the value of its slot, and any other name keeps its value.
  pub record Set (xs : List Text) (s : Pairs) (n : Memory) : Type 0 where
    pub names : map (λ p. p.0) s ≡ xs
    pub reads : (env : Env) → ((y : Text) → Among y (read_names cenv order h) → read env y ≡ held (slot_in y table) m)
        → (y : Text) → Among y (read_names cenv order h) → read (all_bound env s) y ≡ held (slot_in y table) n
    pub touched : T n
    pub out : n.out ≡ m.out

  -- The names that are set may have one more name at the front.
  set_more : (x : Text) (v : Tree) (xs : List Text) (s : Pairs) (n : Memory) → Among x S
      → Among x (read_names cenv order h) → Set xs s n
      → Set (x ∷ xs) ((x, v) ∷ s) (store_if (if among x xs then None else slot_in x table) v n)
  set_more x v xs s n inS inN w = through (among x xs) refl
    where
      shadowed : Among x xs → (env : Env) (y : Text) → read (all_bound (bound env x v) s) y ≡ read (all_bound env s) y
      shadowed i env y = search (arith, rules, reads_bound, same_text, reads_all, read_bound)

      slotted : (t : Slot) × (slot_in x table ≡ Some t)
      slotted = there x inS inN

      set_here : (t : Slot) → slot_in x table ≡ Some t → (among x xs ≡ false) → (env : Env)
          → ((y : Text) → Among y (read_names cenv order h) → read env y ≡ held (slot_in y table) m)
          → (y : Text) → Among y (read_names cenv order h)
          → read (all_bound (bound env x v) s) y ≡ held (slot_in y table) (store t v n)
      set_here t e f env a y i = which (bytes_eq x y) refl
        where
          not_there : Among x (map (λ p. p.0) s) → ⊥
          not_there j = no_both (among_has x xs (subst (λ zs. Among x zs) w.names j)) f

          which : (b : Bool) → bytes_eq x y ≡ b
              → read (all_bound (bound env x v) s) y ≡ held (slot_in y table) (store t v n)
          which true c = search (arith, rules, same_text, reads_not, not_there, read_bound, same_is, load_here, held)
          which false c =
              reads_all s (bound env x v) env y (read_bound env x y v ∙ ap (λ b. if b then v else read env y) c)
              ∙ w.reads env a y i ∙ elsewhere (slot_in y table) refl
            where
              elsewhere : (o : Option Slot) → slot_in y table ≡ o → held o n ≡ held o (store t v n)
              elsewhere None d = refl
              elsewhere (Some z) d =
                  sym (load_elsewhere t z v n (λ r. no_both (is_same x y (fits.apart x y t e (d ∙ ap Some (sym r)))) c))

      at_slot : (o : Option Slot) → slot_in x table ≡ o → among x xs ≡ false
          → Set (x ∷ xs) ((x, v) ∷ s) (store_if o v n)
      at_slot o e f = search (arith, rules, slotted, set_here, store_out)

      through : (b : Bool) → among x xs ≡ b
          → Set (x ∷ xs) ((x, v) ∷ s) (store_if (if b then None else slot_in x table) v n)
      through b e = search (arith, rules, shadowed, among_is, at_slot)

  nothing_set : Set [] [] m
  nothing_set = record { names = refl; reads = λ env a y i. a y i; touched = first; out = refl }

  each_set : (xs : List Text) (vs : List Tree) → AllAmong xs S → AllAmong xs (read_names cenv order h)
      → SameEval (Set xs) (each_target xs vs) (store_each (kept_slots table xs) vs m)
  each_set [] [] a b = both nothing_set
  each_set [] (v ∷ vs) a b = fault
  each_set (x ∷ xs) [] a b = fault
  each_set (x ∷ xs) (v ∷ vs) a b = bind_both (each_set xs vs a.1 b.1) (λ s n w. both (set_more x v xs s n a.0 b.0 w))

  several_set : (xs : List Text) (v : Tree) → AllAmong xs S → AllAmong xs (read_names cenv order h)
      → SameEval (Set xs) (bind (checked (items_of_value v)) (each_target xs))
      (bind (checked (items_of_value v)) (λ vs. store_each (kept_slots table xs) vs m))
  several_set xs v a b =
      bind_both (checked_both (items_of_value v))
      (λ vs ws e. by_right (ap (λ z. store_each (kept_slots table xs) z m) e) (each_set xs vs a b))

  -- The set of one name stores its value in the slot of the name.
  pub one_set : (x : Text) (v : Tree) → Among x S → Among x (read_names cenv order h)
      → Set (x ∷ []) ((x, v) ∷ []) (store (slot_of x table) v m)
  one_set x v inS inN = search (arith, rules, slot_there x, set_more x v [] [], nothing_set)

  pub all_set : (xs : List Text) (v : Tree) → AllAmong xs S → AllAmong xs (read_names cenv order h)
      → SameEval (Set xs) (targets xs v) (take (set_targets table xs) v m)
  all_set [] v a b = several_set [] v a b
  all_set (x ∷ []) v a b = both (one_set x v a.0 b.0)
  all_set (x ∷ y ∷ ys) v a b = several_set (x ∷ y ∷ ys) v a b
