-- What a run that ends with a text has used is the least budget with which it ends so.
use Rattle.jt_machine.proofs.Vocabulary.{Action, Budget, Code, CodeLaws, Config, Ends, Goes, Instruction, IsCode}
use Rattle.jt_machine.proofs.Vocabulary.{IsSound, IsTyped, Next, Pairs, Place, RunFrom, Section, Tree, Wrong, after}
use Rattle.jt_machine.proofs.Vocabulary.{cost}
use Rattle.jt_machine.proofs.Vocabulary.{goes_on, greatest, limit_of, nat_lt, nat_tests, next, next_at, passed}
use Rattle.jt_machine.proofs.Vocabulary.{place_at}
use Rattle.jt_machine.proofs.Vocabulary.{placed, spends, start, strict, then_goes, unless, wrong}
use Rattle.std.proofs.Common.{◌≡◌, ◌∙◌, ℕ, zero, suc, ◌+◌, ◌-◌, ◌≤◌, false, max, List, [], ◌∷◌, length, Option, Some}
use Rattle.std.proofs.Common.{None, ap, arith, inl, inr, refl, rules, subst, sym}
use Rattle.std.specs.Prelude.{◌⊎◌, ◌↔◌}
use Rattle.jt_image.specs.Code.{Name}
use Rattle.jt_image.specs.Config as config
use Rattle.jt_image.specs.Config.{MachineState}
use Rattle.jt_image.specs.Enough.{AtLeast}
use Rattle.jt_image.specs.Run.{Run, cost_at, first_of, limit_of_named, next_cost, spared}
use Rattle.jt_image.specs.Step.{Demand, ends, faulty, fetch}
use Rattle.jt_value.specs.Pairs.{look}
use Rattle.jt_value.specs.Tree as tree
use Rattle.jt_machine.specs.declared.metered_run.Used.{Used}
use Rattle.jt_machine.specs.Metering.{IsLeast, UsesLeast, budget_of, demand_at, demand_of, named_values, next_demand}
use Rattle.jt_machine.specs.Metering.{stage_use, start_use, step_use, then_uses, together, used_within, with_found}
use Rattle.jt_machine.specs.Session.{begun, end_of, going, led, moved}
use Rattle.jt_machine.proofs.LimitsRaised.{cost_under, demand_under, under}
use Rattle.jt_machine.proofs.LimitsRaised.{ends_not, faulty_not, has_passed, step_within}
use Rattle.jt_machine.proofs.PeaksAddUp.{passed_none, passed_within}
use Rattle.jt_machine.proofs.PushedMeasured.{step_measured}
use Rattle.jt_machine.proofs.UseAddsUp.{first_counted, has_taken, last_cost, placed_text, same_used, spent_text}
use Rattle.jt_machine.proofs.UseAddsUp.{used_ended}
use Rattle.jt_machine.proofs.UseAddsUp.{if_text, within_left}

-- ---- a step that goes on, and other budgets

abbrev left_in : Budget → Next → Budget
left_in b (Goes c) = c.left
left_in b (Ends o) = b
left_in b Wrong = b

-- A step of this cost and demand has passed the tests of the budget, and has taken both from it.
pub record HasSpared (n : ℕ) (w : Demand) (b : Budget) (d : Config) : Type 0 where
  pub fuel : n ≤ b.fuel
  pub calls : w.calls ≤ b.depth
  pub bytes : w.bytes ≤ b.output
  pub left : d.left ≡ spared n w b

spent_spared : (n : ℕ) (a : Action) (b : Budget) (p : Option Place) (d : Config) → placed p (spends n a b) ≡ Goes d
    → HasSpared n (demand_of a) b d
spent_spared n (goes_on m w) b p d e =
    let h = has_passed n m w b p d e in
    record {
      fuel = grind (arith, nat_tests, h.fuel);
      calls = grind (arith, nat_tests, h.calls);
      bytes = grind (arith, nat_tests, h.bytes);
      left = sym (ap (left_in b) h.is);
    }
spent_spared n (ends t) b p d e = absurd (ends_not n t b p d e)
spent_spared n (faulty f) b p d e = absurd (faulty_not n f b p d e)
spent_spared n wrong b p d e = absurd cc

step_spared_at : (k : Code) (o : Option (Section × Instruction)) (c d : Config) → next_at k o c ≡ Goes d
    → HasSpared (cost_at o c) (demand_at k o c) c.left d
step_spared_at k None c d e = absurd cc
step_spared_at k (Some x) c d e = spent_spared _ _ c.left _ d e

step_spared : (k : Code) (c d : Config) → next k c ≡ Goes d → HasSpared (next_cost k c) (next_demand k c) c.left d
step_spared k c d e = step_spared_at k (fetch k c.machine.unit c.machine.point) c d e

-- The budget has enough for a step of this cost and demand.
record HasFor (n : ℕ) (w : Demand) (b : Budget) : Type 0 where
  pub fuel : n ≤ b.fuel
  pub calls : w.calls ≤ b.depth
  pub bytes : w.bytes ≤ b.output
  pub size : w.size ≤ b.size
  pub nesting : w.nesting ≤ b.nesting

spent_under : (n : ℕ) (a : Action) (b : Budget) (p : Option Place) (d : Config) (o : Budget)
    → HasFor n (demand_of a) o → placed p (spends n a b) ≡ Goes d
    → placed p (spends n a o) ≡ Goes (under (spared n (demand_of a) o) d)
spent_under n (goes_on m w) b p d o h e =
    let t = has_passed n m w b p d e in
    let fuel : nat_lt o.fuel n ≡ false = grind (arith, nat_tests, h.fuel) in
    let calls : nat_lt o.depth w.calls ≡ false = grind (arith, nat_tests, h.calls) in
    let bytes : nat_lt o.output w.bytes ≡ false = grind (arith, nat_tests, h.bytes) in
    let size : nat_lt o.size w.size ≡ false = grind (arith, nat_tests, h.size) in
    let nesting : nat_lt o.nesting w.nesting ≡ false = grind (arith, nat_tests, h.nesting) in
    let is : record { machine = m; left = spared n w b } ≡ d = cc (t.is) in
    rw (fuel, calls, bytes, size, nesting) (ap (λ (x : Config). Goes (under (spared n w o) x)) is)
spent_under n (ends t) b p d o h e = absurd (ends_not n t b p d e)
spent_under n (faulty f) b p d o h e = absurd (faulty_not n f b p d e)
spent_under n wrong b p d o h e = absurd cc

step_under_at : (k : Code) (i : Option (Section × Instruction)) (c d : Config) (o : Budget)
    → HasFor (cost_at i c) (demand_at k i c) o → next_at k i c ≡ Goes d
    → next_at k i (under o c) ≡ Goes (under (spared (cost_at i c) (demand_at k i c) o) d)
step_under_at k None c d o h e = absurd cc
step_under_at k (Some x) c d o h e =
    spent_under (cost x.1 c.machine.state) (strict k x.0 x.1 c.machine) c.left
    (place_at k c.machine.unit c.machine.point) d o h e

step_under : (k : Code) (c d : Config) (o : Budget) → HasFor (next_cost k c) (next_demand k c) o → next k c ≡ Goes d
    → next k (under o c) ≡ Goes (under (spared (next_cost k c) (next_demand k c) o) d)
step_under k c d o h e = step_under_at k (fetch k c.machine.unit c.machine.point) c d o h e

-- ---- the step that ends with a text

text_under_at : (k : Code) (i : Option (Section × Instruction)) (c : Config) (t : List ℕ) (o : Budget)
    → cost_at i c ≤ o.fuel → next_at k i c ≡ Ends (config.text t) → next_at k i (under o c) ≡ Ends (config.text t)
text_under_at k None c t o h e = absurd cc
text_under_at k (Some x) c t o h e =
    let n = cost x.1 c.machine.state in
    let s = spent_text n (strict k x.0 x.1 c.machine) c.left t (placed_text _ _ t e) in
    let fuel : nat_lt o.fuel n ≡ false = grind (arith, nat_tests, h) in
    ap (λ (a : Action). placed (place_at k c.machine.unit c.machine.point) (spends n a o)) s.0 ∙ rw fuel refl

text_under : (k : Code) (c : Config) (t : List ℕ) (o : Budget) → next_cost k c ≤ o.fuel
    → next k c ≡ Ends (config.text t) → next k (under o c) ≡ Ends (config.text t)
text_under k c t o h e = text_under_at k (fetch k c.machine.unit c.machine.point) c t o h e

-- ---- whole runs

-- Each configuration that is reached is sound.
abbrev AreSound : Code → Config → Type 0
AreSound k c = (n : ℕ) (d : Config) → after k n c ≡ Goes d → IsSound k d

sound_on : (k : Code) (c d : Config) → AreSound k c → next k c ≡ Goes d → AreSound k d
sound_on k c d s e n f r = s (suc n) f (ap (λ (x : Next). then_goes x (after k n)) e ∙ r)

-- The budget has what was used; the open calls of the first configuration took their depth already.
pub record HasWhole (u : Used) (b : Budget) (calls : ℕ) : Type 0 where
  pub fuel : u.fuel ≤ b.fuel
  pub depth : u.depth ≤ b.depth + calls
  pub output : u.output ≤ b.output
  pub size : u.size ≤ b.size
  pub nesting : u.nesting ≤ b.nesting

-- A run that ends with a text uses no more than its budget.
used_whole : (k : Code) (n : ℕ) (c : Config) (t : List ℕ) → AreSound k c → after k n c ≡ Ends (config.text t)
    → HasWhole (used_within k n c) c.left (length c.machine.callers)
used_whole k zero c t s e = absurd cc
used_whole k (suc n) c t s e = along (λ b r z. used_whole k n b t r z) (next k c) refl e
  where
    along : ((b : Config) → AreSound k b → after k n b ≡ Ends (config.text t)
        → HasWhole (used_within k n b) b.left (length b.machine.callers))
        → (x : Next) → next k c ≡ x → then_goes x (after k n) ≡ Ends (config.text t)
        → HasWhole (used_within k (suc n) c) c.left (length c.machine.callers)
    along more (Goes b) r e =
        let one = step_within k c b r in
        let rest = more b (sound_on k c b s r) e in
        let all = within_left k (suc n) c in
        let level = (s 0 c refl).depth b r in
        rw r (record {
          fuel = rw r at all.0;
          depth = omega (arith, rest.depth, level);
          output = rw r at all.1;
          size = omega (arith, one.size, one.same_size, rest.size);
          nesting = omega (arith, one.nesting, one.same_nesting, rest.nesting);
        })
    along more (Ends o) r e =
        let all = within_left k (suc n) c in
        rw r (record {
          fuel = rw r at all.0;
          depth = omega arith;
          output = rw r at all.1;
          size = omega arith;
          nesting = omega arith;
        })
    along more Wrong r e = absurd cc

-- Under another budget the run ends with the text after the same steps, and uses the same.
pub record EndsUnder (k : Code) (n : ℕ) (c : Config) (t : List ℕ) (o : Budget) : Type 0 where
  pub ends : after k n (under o c) ≡ Ends (config.text t)
  pub uses : used_within k n (under o c) ≡ used_within k n c

-- A budget that has what a run with a text used is enough for it.
ends_under : (k : Code) (n : ℕ) (c : Config) (t : List ℕ) (o : Budget) → AreSound k c
    → after k n c ≡ Ends (config.text t) → HasWhole (used_within k n c) o (length c.machine.callers)
    → EndsUnder k n c t o
ends_under k zero c t o s e h = absurd cc
ends_under k (suc n) c t o s e h = along (λ b p r z i. ends_under k n b t p r z i) (next k c) refl e
  where
    along : ((b : Config) → (p : Budget) → AreSound k b → after k n b ≡ Ends (config.text t)
        → HasWhole (used_within k n b) p (length b.machine.callers) → EndsUnder k n b t p)
        → (x : Next) → next k c ≡ x → then_goes x (after k n) ≡ Ends (config.text t) → EndsUnder k (suc n) c t o
    along more (Goes b) r e =
        let w = next_demand k c in
        let took = step_spared k c b r in
        let depth : b.left.depth ≡ (c.left.depth - w.calls) + w.returns = ap (λ (x : Budget). x.depth) took.left in
        let output : b.left.output ≡ c.left.output - w.bytes = ap (λ (x : Budget). x.output) took.left in
        let level = (s 0 c refl).depth b r in
        let counted = first_counted k n b in
        let fits = rw r at h in
        let cost : next_cost k c + (used_within k n b).fuel ≤ o.fuel = fits.fuel in
        let ways = (step_measured k c b r).level in
        let calls : w.calls ≤ o.depth =
        elim ways [
          | inl z ↦ omega (arith, z)
          | inr z ↦ omega (
            arith,
            z,
            fits.depth,
            depth,
            level,
            counted,
            took.calls,
          )
        ] in
        let for : HasFor (next_cost k c) w o = record {
          fuel = omega (arith, cost);
          calls = calls;
          bytes = omega (arith, fits.output, output, took.bytes);
          size = omega (arith, fits.size);
          nesting = omega (arith, fits.nesting);
        } in
        let step = step_under k c b o for r in
        let same_cost : next_cost k (under o c) ≡ next_cost k c =
        cost_under (fetch k c.machine.unit c.machine.point) c o in
        let same_demand : next_demand k (under o c) ≡ next_demand k c =
        demand_under k (fetch k c.machine.unit c.machine.point) c o in
        let rest = more b (spared (next_cost k c) w o) (sound_on k c b s r) e (record {
          fuel = omega (arith, cost);
          depth = omega (arith, fits.depth, depth, level, took.calls, calls);
          output = omega (arith, fits.output, output, took.bytes);
          size = omega (arith, fits.size);
          nesting = omega (arith, fits.nesting);
        }) in
        record {
          ends = ap (λ (x : Next). then_goes x (after k n)) step ∙ rest.ends;
          uses = rw (step, r) (same_used _ _
              (omega (arith, same_cost, ap (λ (u : Used). u.fuel) rest.uses))
              (omega (arith, ap (λ (u : Used). u.output) rest.uses, output, took.bytes, for.bytes))
              (omega (arith, ap (λ (u : Used). u.depth) rest.uses))
              (omega (arith, ap (λ (v : Demand). v.size) same_demand, ap (λ (u : Used). u.size) rest.uses))
              (omega (arith, ap (λ (v : Demand). v.nesting) same_demand, ap (λ (u : Used). u.nesting) rest.uses)));
        }
    along more (Ends p) r e =
        let is : p ≡ config.text t = cc e in
        let f : next k c ≡ Ends (config.text t) = r ∙ ap Ends is in
        let fuel : next_cost k c + 0 ≤ o.fuel = rw f at h.fuel in
        let step = text_under k c t o (omega (arith, fuel)) f in
        let same_cost : next_cost k (under o c) ≡ next_cost k c =
        cost_under (fetch k c.machine.unit c.machine.point) c o in
        record {
          ends = ap (λ (x : Next). then_goes x (after k n)) step;
          uses = rw (step, f) (same_used _ _ (omega (arith, same_cost)) refl refl refl refl);
        }
    along more Wrong r e = absurd cc

-- ---- the least budget

ended_text : (x : Next) (t : List ℕ) → end_of (led x) ≡ Some (config.text t) → x ≡ Ends (config.text t)
ended_text (Goes c) t e = absurd cc
ended_text (Ends o) t e = cc e
ended_text Wrong t e = absurd cc

-- A run whose context passes the tests ends with a text after some steps.
run_text : (l : Option config.Limit) (k : Code) (x : Pairs) (b : Budget) (t : List ℕ)
    → RunFrom l k x b (config.text t)
    → (l ≡ None) × ((n : ℕ) × (after k n (start k x b) ≡ Ends (config.text t)))
run_text None k x b t r = (refl, r)
run_text (Some l) k x b t r = absurd cc

-- The greater of each number of two budgets.
abbrev greater : Budget → Budget → Budget
greater a b = record {
  fuel = max a.fuel b.fuel;
  depth = max a.depth b.depth;
  output = max a.output b.output;
  size = max a.size b.size;
  nesting = max a.nesting b.nesting;
}

-- Runs that end with a text use the same under any two budgets.
one_use : (k : Code) (x : Pairs) → ((b : Budget) → AreSound k (start k x b)) → (b o : Budget) (n m : ℕ) (t s : List ℕ)
    → after k n (start k x b) ≡ Ends (config.text t) → after k m (start k x o) ≡ Ends (config.text s)
    → used_within k n (start k x b) ≡ used_within k m (start k x o)
one_use k x sound b o n m t s e f =
    let u = used_whole k n (start k x b) t (sound b) e in
    let v = used_whole k m (start k x o) s (sound o) f in
    let one = ends_under k n (start k x b) t (greater b o) (sound b) e (record {
      fuel = omega (arith, u.fuel);
      depth = omega (arith, u.depth);
      output = omega (arith, u.output);
      size = omega (arith, u.size);
      nesting = omega (arith, u.nesting);
    }) in
    let other = ends_under k m (start k x o) s (greater b o) (sound o) f (record {
      fuel = omega (arith, v.fuel);
      depth = omega (arith, v.depth);
      output = omega (arith, v.output);
      size = omega (arith, v.size);
      nesting = omega (arith, v.nesting);
    }) in
    let swap : m + n ≡ n + m = omega arith in
    sym one.uses ∙ sym (used_ended k n m _ _ one.ends)
    ∙ (rw swap at (used_ended k m n _ _ other.ends)) ∙ other.uses

-- What a run from its start uses in all.
abbrev all_used : Option config.Limit → Code → Pairs → Budget → ℕ → Used
all_used l k x b n = together (start_use l (named_values x k.names)) (stage_use k n (begun l k x b))

is_least : (k : Code) (x : Pairs) → ((b : Budget) → AreSound k (start k x b)) → (l : Option config.Limit) (b : Budget)
    (n : ℕ) (t : List ℕ)
    → end_of (moved k n (begun l k x b)) ≡ Some (config.text t) → IsLeast k x t (all_used l k x b n)
is_least k x sound (Some l) b n t e o = absurd cc
is_least k x sound None b n t e o = (needs, suffices)
  where
    first : after k n (start k x b) ≡ Ends (config.text t)
    first = ended_text _ t e

    needs : Run k x o (config.text t) → AtLeast (budget_of (all_used None k x b n)) o
    needs r =
        let other = run_text (passed o x k.names) k x o t r in
        let same = one_use k x sound b o n (other.1).0 t t first (other.1).1 in
        let u = used_whole k (other.1).0 (start k x o) t (sound o) (other.1).1 in
        let given = passed_within o x k.names other.0 in
        rw same (record {
          fuel = omega (arith, u.fuel);
          depth = omega (arith, u.depth);
          output = omega (arith, u.output);
          size = omega (arith, u.size, given.0);
          nesting = omega (arith, u.nesting, given.1);
        })

    suffices : AtLeast (budget_of (all_used None k x b n)) o → Run k x o (config.text t)
    suffices h =
        let none = passed_none o x k.names (omega (arith, h.size)) (omega (arith, h.nesting)) in
        let whole = ends_under k n (start k x b) t o (sound b) first (record {
          fuel = omega (arith, h.fuel);
          depth = omega (arith, h.depth);
          output = omega (arith, h.output);
          size = omega (arith, h.size);
          nesting = omega (arith, h.nesting);
        }) in
        rw none (n, whole.ends)

pub uses_least : CodeLaws → (j k : Code) → j ≡ k → IsCode j → IsTyped j → (x : Pairs) (b : Budget) → UsesLeast k x b
uses_least laws j k e whole typed x b n t is =
    let sound : (b : Budget) → AreSound k (start k x b) =
    subst (λ (i : Code). (b : Budget) → AreSound i (start i x b)) e (λ b. (laws.runs j whole typed).sound x b) in
    is_least k x sound (passed b x k.names) b n t is
