-- Whole runs of a typed code are safe.
use Rattle.std.proofs.Common.{◌≡◌, ◌≢◌, ◌↔◌, ℕ, zero, suc, ◌+◌, ◌<◌, ◌≤◌, List, [], ◌∷◌, length, Option, Some, None}
use Rattle.std.proofs.Common.{refl, ap, subst, ◌∙◌, arith, rules}
use Rattle.std.specs.Prelude.{slice_get, replicate}
use Rattle.std.proofs.lemmas.Bool.{ltb-true, ltb-false}
use Rattle.std.proofs.lemmas.List.{length-set}
use Rattle.jt_value.specs.Tree.{Tree}
use Rattle.jt_value.specs.Pairs.{Pairs}
use Rattle.jt_image.specs.declared.instruction.Instruction.{Instruction}
use Rattle.jt_image.specs.Code.{Name, Section, Code}
use Rattle.jt_image.specs.IsCode.{IsCode}
use Rattle.jt_value.specs.Place.{Place}
use Rattle.jt_image.specs.Places.{place_at}
use Rattle.jt_image.specs.Typed.{IsTyped}
use Rattle.jt_image.specs.Config as config
use Rattle.jt_image.specs.Config.{Budget, Outcome, Config}
use Rattle.jt_image.specs.Step.{Action, locals_of, strict, cost, fetch}
use Rattle.jt_image.specs.Run.{Next, Goes, Ends, Wrong, spends, placed, next_at, next, passed, filled, entry_locals}
use Rattle.jt_image.specs.Run.{start, then_goes, after, RunFrom, cost_at, taken, then_costs, costs, IsSafe}
use Rattle.jt_image.proofs.TypeSafety.{IsGood, depth_of, IsFineStep, length-locals_of, step_fine}

-- The run ends within `m` steps, if its fuel is at most `m`.
ends_at : (k : Code) (m fuel depth : ℕ) (n : Next) → fuel < suc m → IsFineStep k fuel depth n
    → ((d : Config) → IsGood k d → d.left.fuel < m → (o : Outcome) × (after k m d ≡ Ends o))
    → (o : Outcome) × (then_goes n (after k m) ≡ Ends o)
ends_at k m fuel depth (Goes d) lt f h = h d f.0 (omega (arith, f.1))
ends_at k m fuel depth (Ends o) lt f h = (o, refl)
ends_at k m fuel depth Wrong lt f h = absurd f

pub ends_within : (k : Code) (m : ℕ) (c : Config) → IsGood k c → c.left.fuel < m
    → (o : Outcome) × (after k m c ≡ Ends o)
ends_within k zero c g lt = absurd (omega arith)
ends_within k (suc m) c g lt =
    ends_at k m c.left.fuel (depth_of c) (next k c) lt (step_fine k c g) (λ d e less. ends_within k m d e less)

not_wrong_at : (k : Code) (n fuel depth : ℕ) (x : Next) → IsFineStep k fuel depth x
    → ((d : Config) → IsGood k d → after k n d ≢ Wrong) → then_goes x (after k n) ≢ Wrong
not_wrong_at k n fuel depth a4 f h = search (arith, rules)

pub never_wrong : (k : Code) (n : ℕ) (c : Config) → IsGood k c → after k n c ≢ Wrong
never_wrong k zero c g = λ e. absurd cc
never_wrong k (suc n) c g =
    not_wrong_at k n c.left.fuel (depth_of c) (next k c) (step_fine k c g) (λ d e. never_wrong k n d e)

good_at : (k : Code) (n fuel depth : ℕ) (x : Next) (d : Config) → IsFineStep k fuel depth x
    → ((c : Config) → IsGood k c → after k n c ≡ Goes d → IsGood k d) → then_goes x (after k n) ≡ Goes d → IsGood k d
good_at k n fuel depth a4 d f h e = search (arith, rules)

-- A configuration that a good one reaches is good.
pub good_after : (k : Code) (n : ℕ) (c d : Config) → IsGood k c → after k n c ≡ Goes d → IsGood k d
good_after k zero c d g e = let same : c ≡ d = cc in subst (IsGood k) same g
good_after k (suc n) c d g e =
    good_at k n c.left.fuel (depth_of c) (next k c) d (step_fine k c g) (λ c' g' e'. good_after k n c' d g' e') e

same_end : (k : Code) (n m : ℕ) (x : Next) (o p : Outcome) → then_goes x (after k n) ≡ Ends o
    → then_goes x (after k m) ≡ Ends p → ((d : Config) → after k n d ≡ Ends o → after k m d ≡ Ends p → o ≡ p) → o ≡ p
same_end k n m a3 o p e f h = search (arith, rules)

pub one_end : (k : Code) (n m : ℕ) (c : Config) (o p : Outcome) → after k n c ≡ Ends o → after k m c ≡ Ends p → o ≡ p
one_end k zero m c o p e f = absurd cc
one_end k (suc n) zero c o p e f = absurd cc
one_end k (suc n) (suc m) c o p e f = same_end k n m (next k c) o p e f (λ d a b. one_end k n m d o p a b)

length-filled : (x : Pairs) (ns : List Name) (gs : List Tree) → length (filled x ns gs) ≡ length gs
length-filled x [] gs = refl
length-filled x (n ∷ ns) gs = search (arith, rules, length-filled x ns, length-set)

length-replicate : {A : Type 0} (n : ℕ) (a : A) → length (replicate n a) ≡ n
length-replicate zero a = refl
length-replicate (suc n) a = ap suc (length-replicate n a)

-- Unit 0 has its number of locals.
first_locals : (us : List Section) (u : Section) → slice_get us 0 ≡ Some u
    → length (locals_of (entry_locals us) []) ≡ u.locals
first_locals [] u e = absurd cc
first_locals (v ∷ us) u e = let same : v ≡ u = cc in length-locals_of v.locals [] ∙ ap (λ (w : Section). w.locals) same

pub start_good : (k : Code) → IsCode k → IsTyped k → (x : Pairs) (b : Budget) → IsGood k (start k x b)
start_good k code t x b = search (arith, rules, first_locals, length-filled, length-replicate)

-- ---- the fuel that is taken

-- The costs after a step are at most the fuel that the step leaves.
fuel_left : (n : ℕ) (a : Action) (b : Budget) (go : Config → ℕ) → ((c : Config) → go c ≤ c.left.fuel)
    → taken b.fuel n + then_costs (spends n a b) go ≤ b.fuel
fuel_left n a1 b go h = search (arith, rules, ltb-false)

placed_costs : (q : Option Place) (n : Next) (go : Config → ℕ) → then_costs (placed q n) go ≡ then_costs n go
placed_costs q a1 go = search (arith, rules)

placed_back : (q : Option Place) (n : Next) (l : config.Limit) → placed q n ≡ Ends (config.spent l)
    → n ≡ Ends (config.spent l)
placed_back q a1 l e = search (arith, rules)

cost_within : (k : Code) (o : Option (Section × Instruction)) (c : Config) (go : Config → ℕ)
    → ((d : Config) → go d ≤ d.left.fuel)
    → taken c.left.fuel (cost_at o c) + then_costs (next_at k o c) go ≤ c.left.fuel
cost_within k a1 c go h = search (arith, rules, fuel_left, placed_costs)

pub costs_within : (k : Code) (n : ℕ) (c : Config) → costs k n c ≤ c.left.fuel
costs_within k zero c = omega arith
costs_within k (suc n) c =
    cost_within k (fetch k c.machine.unit c.machine.point) c (costs k n) (λ d. costs_within k n d)

-- ---- when the fuel is spent

spent_iff : (n : ℕ) (a : Action) (b : Budget) → spends n a b ≢ Wrong
    → (spends n a b ≡ Ends (config.spent config.fuel)) ↔ (b.fuel < n)
spent_iff n a1 b ok = search (arith, rules, ltb-true, ltb-false)

spent_at : (k : Code) (o : Option (Section × Instruction)) (c : Config) → next_at k o c ≢ Wrong
    → (next_at k o c ≡ Ends (config.spent config.fuel)) ↔ (c.left.fuel < cost_at o c)
spent_at k None c ok = absurd (ok refl)
spent_at k (Some (u, i)) c ok =
    let q = place_at k c.machine.unit c.machine.point in
    let n = spends (cost i c.machine.state) (strict k u i c.machine) c.left in
    let iff = spent_iff (cost i c.machine.state) (strict k u i c.machine) c.left (λ w. ok (ap (placed q) w)) in
    (λ e. iff.0 (placed_back q n config.fuel e), λ lt. ap (placed q) (iff.1 lt))

-- If `n` steps lead to a configuration whose next step is wrong, then `n + 1` steps are wrong.
then_more : (k : Code) (n : ℕ) (d : Config) (x : Next)
    → ((f : Config) → after k n f ≡ Goes d → after k (suc n) f ≡ Wrong) → then_goes x (after k n) ≡ Goes d
    → then_goes x (after k (suc n)) ≡ Wrong
then_more k n d a3 h e = search (arith, rules)

after_more : (k : Code) (n : ℕ) (c d : Config) → after k n c ≡ Goes d → next k d ≡ Wrong → after k (suc n) c ≡ Wrong
after_more k zero c d e w = let same : c ≡ d = cc in ap (λ x. then_goes x (after k zero)) (ap (next k) same ∙ w)
after_more k (suc n) c d e w = then_more k n d (next k c) (λ f e'. after_more k n f d e' w) e

-- ---- the whole run

-- The test of the context, or else the run, has exactly one outcome.
run_of : (k : Code) → IsCode k → IsTyped k → (x : Pairs) (b : Budget) (p : Option config.Limit)
    → (o : Outcome) × RunFrom p k x b o × ((q : Outcome) → RunFrom p k x b q → q ≡ o)
run_of k h t x b (Some l) = (config.spent l, refl, λ q e. e)
run_of k h t x b None =
    let e = ends_within k (suc b.fuel) (start k x b) (start_good k h t x b) (omega arith) in
    (e.0, (suc b.fuel, e.1), λ q f. one_end k f.0 (suc b.fuel) (start k x b) q e.0 f.1 e.1)

pub safe : (k : Code) → IsCode k → IsTyped k → (x : Pairs) (b : Budget) → IsSafe k x b
safe k h t x b =
    let r = run_of k h t x b (passed b x k.names) in
    let whole : (n : ℕ) → after k n (start k x b) ≢ Wrong = λ n. never_wrong k n (start k x b) (start_good k h t x b) in
    record {
      outcome = r.0;
      runs = r.1;
      only = r.2;
      never_wrong = whole;
      within = λ n. costs_within k n (start k x b);
      fuel =
          λ n c e. spent_at k (fetch k c.machine.unit c.machine.point) c
          (λ w. whole (suc n) (after_more k n (start k x b) c e w));
    }
