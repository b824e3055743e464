-- Depth-first search: the effect of a changed state, and the facts at the finish of a node.
use Rattle.std.proofs.Common.{◌≡◌, ℕ, zero, suc, ◌+◌, ◌<◌, ◌≤◌, ◌==◌, Bool, true, false, not, cond, ◌||◌, List, [], ◌∷◌}
use Rattle.std.proofs.Common.{◌++◌, ◌⊎◌, inl, inr, length, take, reverse, get_or, set, refl, sym, ap, subst, ◌∙◌}
use Rattle.std.proofs.Common.{arith, rules}
use Rattle.std.proofs.Math.ListN.{replicate}
use Rattle.std.specs.List.{AllByRecursion, count_by}
use Rattle.std.proofs.lemmas.List.{get_or_default, reverse-append, get_or-set_same, get_or-set_other, length-replicate}
use Rattle.std.proofs.lemmas.List.{length-set}
use Rattle.std.proofs.lemmas.List.Sums.{sum_by-set}
use Rattle.std.proofs.lemmas.Option.{unwrap_or-slice_get}
use Rattle.std.proofs.lemmas.Bool.Decides.{nat_tests}
use Rattle.jt_graph.specs.Graph.{Graph, among, next_of, Reaches, step, further, Leads, AreOrdered, IsOrder}
use Rattle.jt_graph.specs.internal.Walks.{is_new, is_open, is_done, visit_of, done_of, IsWalk, IsPath, GoesOn}
use Rattle.jt_graph.specs.declared.walk.VisitState.{VisitState}
use Rattle.jt_graph.specs.declared.walk.VisitState.TheVariants.{New, Open, Done}
use Rattle.jt_graph.specs.declared.walk.Walk.{Walk}
use Rattle.jt_graph.specs.View.{graph_of}
use Rattle.std.specs.declared.vec.Vec.{Vec}
use Rattle.std.specs.declared.alloc.Global.{Global}
use Rattle.std.proofs.lemmas.Bool.{or_right}

-- ---- numbers

pub equal : (i j : ℕ) → (i == j) ≡ true → i ≡ j
equal i j e = grind (arith, nat_tests)

pub differ : (i j : ℕ) → (i == j) ≡ false → i ≡ j → ⊥
differ i j e p = grind (arith, nat_tests)

pub itself : (i : ℕ) → (i == i) ≡ true
itself i = grind (arith, nat_tests)

-- A case split on a boolean.
pub either : {P : Type 0} (b : Bool) → (b ≡ true → P) → (b ≡ false → P) → P
either true f g = f refl
either false f g = g refl

pub never : {P : Type 0} → false ≡ true → P
never h = absurd (cc)

-- ---- visits

set_visit : (ms : List VisitState) (i : ℕ) (m : VisitState) → i < length ms → visit_of (set ms i m) i ≡ m
set_visit ms i m lt = unwrap_or-slice_get (set ms i m) i New ∙ get_or-set_same ms i m New lt

keep_visit : (ms : List VisitState) (i j : ℕ) (m : VisitState) → (j ≡ i → ⊥) → visit_of (set ms i m) j ≡ visit_of ms j
keep_visit ms i j m apart =
    unwrap_or-slice_get (set ms i m) j New ∙ get_or-set_other ms i j m New apart ∙ sym (unwrap_or-slice_get ms j New)

-- A test of the states after one of them changes.
pub told_set : (p : VisitState → Bool) (ms : List VisitState) (i j : ℕ) (m : VisitState) → i < length ms
    → p (visit_of (set ms i m) j) ≡ cond (i == j) (p m) (p (visit_of ms j))
told_set p ms i j m lt = search (arith, rules, either, equal, set_visit, keep_visit, differ)

pub fewer_news : (ms : List VisitState) (i : ℕ) → i < length ms → visit_of ms i ≡ New
    → count_by is_new (set ms i Open) + 1 ≡ count_by is_new ms
fewer_news ms i lt e = search (arith, rules, unwrap_or-slice_get, sum_by-set)

pub same_news : (ms : List VisitState) (i : ℕ) → i < length ms → is_open (visit_of ms i) ≡ true
    → count_by is_new (set ms i Done) ≡ count_by is_new ms
same_news ms i lt e =
    let f : VisitState → ℕ = λ m. cond (is_new m) 1 0 in
    let at : get_or ms i New ≡ visit_of ms i = sym (unwrap_or-slice_get ms i New) in
    let old : f (get_or ms i New) ≡ 0 = ap f at ∙ ap (λ b. cond b 1 0) (opened (visit_of ms i) e) in
    let s = sum_by-set f ms i Done New lt in
    omega (arith, s, old)
  where
    opened : (m : VisitState) → is_open m ≡ true → is_new m ≡ false
    opened New h = absurd (cc)
    opened Open h = refl
    opened Done h = absurd (cc)

-- ---- reads

pub read_visit : (ms : List VisitState) (i : ℕ) (m : VisitState) → i < length ms → m ≡ get_or ms i m → visit_of ms i ≡ m
read_visit ms i m lt is = unwrap_or-slice_get ms i New ∙ get_or_default ms i New m lt ∙ sym is

pub next_at : (vs : List (Vec ℕ Global)) (i : ℕ) (v : Vec ℕ Global) → i < length vs → v ≡ get_or vs i v
    → next_of (graph_of vs) i ≡ v.items
next_at [] i v lt is = absurd (omega arith)
next_at (u ∷ vs) zero v lt is = ap (λ (z : Vec ℕ Global). z.items) (sym is)
next_at (u ∷ vs) (suc i) v lt is = next_at vs i v (omega arith) is

pub graph_len : (vs : List (Vec ℕ Global)) → length (graph_of vs) ≡ length vs
graph_len [] = refl
graph_len (v ∷ vs) = ap suc (graph_len vs)

all_next : (n : ℕ) (g : Graph) (i : ℕ) → AllByRecursion (λ js. AllByRecursion (λ j. j < n) js) g
    → AllByRecursion (λ j. j < n) (next_of g i)
all_next n [] i a = tt
all_next n (js ∷ g) zero a = a.0
all_next n (js ∷ g) (suc i) a = all_next n g i a.1

all_among : (n : ℕ) (js : List ℕ) (j : ℕ) → AllByRecursion (λ k. k < n) js → among j js ≡ true → j < n
all_among n [] j a h = absurd (cc)
all_among n (k ∷ js) j a h =
    either (k == j) (λ e. subst (λ z. z < n) (equal k j e) a.0)
    (λ e. all_among n js j a.1 (sym (ap (λ b. b || among j js) e) ∙ h))

pub next_within : (g : Graph) (i j : ℕ) → AllByRecursion (λ js. AllByRecursion (λ k. k < length g) js) g
    → among j (next_of g i) ≡ true → j < length g
next_within g i j a h = all_among (length g) (next_of g i) j (all_next (length g) g i a) h

-- ---- the first numbers of a list, and one more

pub among_take : (P : ℕ → Type 0) (xs : List ℕ) (k m : ℕ) → m ≡ k + 1 → k < length xs
    → ((j : ℕ) → among j (take k xs) ≡ true → P j) → P (get_or xs k 0) → (j : ℕ) → among j (take m xs) ≡ true → P j
among_take P [] k m is lt old new j h = absurd (omega arith)
among_take P (x ∷ xs) k zero is lt old new j h = absurd (omega arith)
among_take P (x ∷ xs) zero (suc m) is lt old new j h =
    either (x == j) (λ e. subst P (equal x j e) new)
    (λ e. absurd (none m (omega arith) (sym (ap (λ b. b || among j (take m xs)) e) ∙ h)))
  where
    none : (n : ℕ) → n ≡ 0 → among j (take n xs) ≡ true → ⊥
    none zero z a = absurd (cc)
    none (suc n) z a = absurd (omega arith)
among_take P (x ∷ xs) (suc k) (suc m) is lt old new j h = either (x == j)
    (λ e. old j (ap (λ b. b || among j (take k xs)) e))
    (λ e. among_take P xs k m (omega arith) (omega arith) (λ i a. old i (or_right (x == i) (among i (take k xs)) a)) new
    j (sym (ap (λ b. b || among j (take m xs)) e) ∙ h))

pub among_all : (xs : List ℕ) (k j : ℕ) → length xs ≤ k → among j xs ≡ true → among j (take k xs) ≡ true
among_all [] k j le h = absurd (cc)
among_all (x ∷ xs) zero j le h = absurd (omega arith)
among_all (x ∷ xs) (suc k) j le h = either (x == j)
    (λ e. ap (λ b. b || among j (take k xs)) e)
    (λ e.
    or_right (x == j) (among j (take k xs)) (among_all xs k j (omega arith) (sym (ap (λ b. b || among j xs) e) ∙ h)))

pub among_at : (xs : List ℕ) (k : ℕ) → k < length xs → among (get_or xs k 0) xs ≡ true
among_at [] k lt = absurd (omega arith)
among_at (x ∷ xs) zero lt = ap (λ b. b || among x xs) (itself x)
among_at (x ∷ xs) (suc k) lt = or_right (x == get_or xs k 0) (among (get_or xs k 0) xs) (among_at xs k (omega arith))

-- ---- paths and rings

-- A node before a path.
pub led : (g : Graph) (i j : ℕ) (ks : List ℕ) (t : ℕ) → among i (next_of g j) ≡ true → IsPath g i ks t
    → Leads g j ks t
led g i j [] t e p = subst (λ z. among z (next_of g j) ≡ true) p e
led g i j (k ∷ ks) t e p = (subst (λ z. among z (next_of g j) ≡ true) (sym p.0) e, p.1)

pub ring_reaches : (g : Graph) (i : ℕ) (ks : List ℕ) (t : ℕ) → Leads g i ks t → Reaches g i t
ring_reaches g i [] t l = step l
ring_reaches g i (k ∷ ks) t l = further l.0 (ring_reaches g k ks t l.1)

-- ---- the start of a search

new_at : (n j : ℕ) → get_or (replicate n New) j New ≡ New
new_at zero j = refl
new_at (suc n) zero = refl
new_at (suc n) (suc j) = new_at n j

pub all_new : (ms : List VisitState) (n j : ℕ) → ms ≡ replicate n New → visit_of ms j ≡ New
all_new ms n j e = ap (λ is. visit_of is j) e ∙ unwrap_or-slice_get (replicate n New) j New ∙ new_at n j

pub new_walk : (g : Graph) (w : Walk) (n : ℕ) → w.visits.items ≡ replicate n New → n ≡ length g → w.done.items ≡ []
    → IsWalk g w
new_walk g w n new e d = search (arith, rules, length-replicate, all_new)

-- ---- a node opens

pub opened_walk : (g : Graph) (v w : Walk) (i : ℕ) → i < length g → visit_of v.visits.items i ≡ New
    → w.visits.items ≡ set v.visits.items i Open → w.done.items ≡ v.done.items → IsWalk g v → IsWalk g w
opened_walk g v w i lt new e d walk =
    let done : done_of w ≡ done_of v = ap reverse d in
    let within : i < length v.visits.items = omega (arith, walk.each) in
    record {
      each = ap length e ∙ length-set v.visits.items i Open ∙ walk.each;
      told =
          λ j. ap (λ ms. is_done (visit_of ms j)) e ∙ told_set is_done v.visits.items i j Open within ∙ still j
          ∙ walk.told j ∙ sym (ap (among j) done);
      within = subst (AllByRecursion (λ j. j < length g)) (sym done) walk.within;
      ordered = subst (AreOrdered g) (sym done) walk.ordered;
    }
  where
    still : (j : ℕ) → cond (i == j) false (is_done (visit_of v.visits.items j)) ≡ is_done (visit_of v.visits.items j)
    still j = either (i == j)
        (λ q. ap (λ b. cond b false (is_done (visit_of v.visits.items j))) q
        ∙ sym (ap (λ k. is_done (visit_of v.visits.items k)) (sym (equal i j q)) ∙ ap is_done new))
        (λ q. ap (λ b. cond b false (is_done (visit_of v.visits.items j))) q)

-- A node that is open after a node opens is that node, or was open before.
pub opened_one : (v u w : Walk) (i : ℕ) → i < length v.visits.items → u.visits.items ≡ set v.visits.items i Open
    → GoesOn u w → (j : ℕ) → is_open (visit_of w.visits.items j) ≡ true
    → (i ≡ j) ⊎ (is_open (visit_of v.visits.items j) ≡ true)
opened_one v u w i lt e goes j h = either (i == j) (λ q. inl (equal i j q))
    (λ q. inr (sym (ap (λ b. cond b true (is_open (visit_of v.visits.items j))) q)
    ∙ sym (told_set is_open v.visits.items i j Open lt) ∙ sym (ap (λ ms. is_open (visit_of ms j)) e)
    ∙ sym (goes.opens j) ∙ h))

-- ---- a node finishes

pub done_walk : (g : Graph) (w x : Walk) (i : ℕ) → i < length g → is_open (visit_of w.visits.items i) ≡ true
    → x.visits.items ≡ set w.visits.items i Done → x.done.items ≡ w.done.items ++ i ∷ []
    → ((j : ℕ) → among j (next_of g i) ≡ true → is_done (visit_of w.visits.items j) ≡ true) → IsWalk g w → IsWalk g x
done_walk g w x i lt now_open e d next walk =
    let done : done_of x ≡ i ∷ done_of w = ap reverse d ∙ reverse-append w.done.items (i ∷ []) in
    let within : i < length w.visits.items = omega (arith, walk.each) in
    record {
      each = ap length e ∙ length-set w.visits.items i Done ∙ walk.each;
      told =
          λ j. ap (λ ms. is_done (visit_of ms j)) e ∙ told_set is_done w.visits.items i j Done within
          ∙ ap (λ b. cond (i == j) true b) (walk.told j) ∙ either_one (i == j) (among j (done_of w))
          ∙ sym (ap (among j) done);
      within = subst (AllByRecursion (λ j. j < length g)) (sym done) (lt, walk.within);
      ordered = subst (AreOrdered g) (sym done) (fresh, (λ j a. sym (walk.told j) ∙ next j a, walk.ordered));
    }
  where
    either_one : (a b : Bool) → cond a true b ≡ (a || b)
    either_one true b = refl
    either_one false b = refl

    not_done : (m : VisitState) → is_open m ≡ true → is_done m ≡ false
    not_done New h = refl
    not_done Open h = refl
    not_done Done h = absurd (cc)

    fresh : not (among i (done_of w)) ≡ true
    fresh = ap not (sym (walk.told i) ∙ not_done (visit_of w.visits.items i) now_open)

-- A search goes on from before a node opens until it finishes.
pub done_goes : (g : Graph) (v u w x : Walk) (i : ℕ) → i < length v.visits.items → i < length w.visits.items
    → visit_of v.visits.items i ≡ New → u.visits.items ≡ set v.visits.items i Open
    → GoesOn u w → x.visits.items ≡ set w.visits.items i Done → GoesOn v x
done_goes g v u w x i lv lw new e goes f =
    record {
      opens =
          λ j. ap (λ ms. is_open (visit_of ms j)) f ∙ told_set is_open w.visits.items i j Done lw
          ∙ ap (cond (i == j) false)
          (goes.opens j ∙ ap (λ ms. is_open (visit_of ms j)) e ∙ told_set is_open v.visits.items i j Open lv)
          ∙ same_open j;
      dones = λ j h. ap (λ ms. is_done (visit_of ms j)) f ∙ told_set is_done w.visits.items i j Done lw ∙ still j h;
      fewer =
          let a = fewer_news v.visits.items i lv new in
          let b = same_news w.visits.items i lw now_open in
          let c = goes.fewer in
          let p : count_by is_new u.visits.items ≡ count_by is_new (set v.visits.items i Open) =
          ap (count_by is_new) e in
          let q : count_by is_new x.visits.items ≡ count_by is_new (set w.visits.items i Done) =
          ap (count_by is_new) f in
          omega (arith, a, b, c, p, q);
    }
  where
    now_open : is_open (visit_of w.visits.items i) ≡ true
    now_open =
        goes.opens i ∙ ap (λ ms. is_open (visit_of ms i)) e ∙ told_set is_open v.visits.items i i Open lv
        ∙ ap (λ b. cond b true (is_open (visit_of v.visits.items i))) (itself i)

    same_open : (j : ℕ) → cond (i == j) false (cond (i == j) true (is_open (visit_of v.visits.items j)))
        ≡ is_open (visit_of v.visits.items j)
    same_open j = either (i == j)
        (λ q. ap (λ b. cond b false (cond b true (is_open (visit_of v.visits.items j)))) q
        ∙ sym (ap (λ k. is_open (visit_of v.visits.items k)) (sym (equal i j q)) ∙ ap is_open new))
        (λ q. ap (λ b. cond b false (cond b true (is_open (visit_of v.visits.items j)))) q)

    still : (j : ℕ) → is_done (visit_of v.visits.items j) ≡ true
        → cond (i == j) true (is_done (visit_of w.visits.items j)) ≡ true
    still j h = either (i == j)
        (λ q. ap (λ b. cond b true (is_done (visit_of w.visits.items j))) q)
        (λ q. ap (λ b. cond b true (is_done (visit_of w.visits.items j))) q
        ∙ goes.dones j (ap (λ ms. is_done (visit_of ms j)) e ∙ told_set is_done v.visits.items i j Open lv
        ∙ ap (λ b. cond b false (is_done (visit_of v.visits.items j))) q ∙ h))

pub still_open : (v u w : Walk) (i : ℕ) → i < length v.visits.items → u.visits.items ≡ set v.visits.items i Open
    → GoesOn u w → is_open (visit_of w.visits.items i) ≡ true
still_open v u w i lv e goes =
    goes.opens i ∙ ap (λ ms. is_open (visit_of ms i)) e ∙ told_set is_open v.visits.items i i Open lv
    ∙ ap (λ b. cond b true (is_open (visit_of v.visits.items i))) (itself i)

pub goes_none : (w : Walk) → GoesOn w w
goes_none w = record { opens = λ j. refl; dones = λ j h. h; fewer = omega arith }

pub goes_both : (u v w : Walk) → GoesOn u v → GoesOn v w → GoesOn u w
goes_both u v w p q = search (arith, rules)

-- ---- a search visits all nodes

pub before_next : (P : ℕ → Type 0) (n m : ℕ) → m ≡ n + 1 → ((j : ℕ) → j < n → P j) → P n → (j : ℕ) → j < m → P j
before_next P n m is old new j lt = either (n == j) (λ e. subst P (equal n j e) new) (λ e. old j (below (differ n j e)))
  where
    below : (n ≡ j → ⊥) → j < n
    below apart = omega arith

pub all_ordered : (g : Graph) (w : Walk) (is : List ℕ) → is ≡ done_of w → IsWalk g w
    → ((j : ℕ) → j < length g → is_done (visit_of w.visits.items j) ≡ true) → IsOrder g is
all_ordered g w is e walk all = search (arith, rules)
