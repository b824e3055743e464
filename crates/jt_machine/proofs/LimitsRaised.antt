-- Steps that go on under some limits of values are the same steps under higher limits.
use Rattle.jt_machine.proofs.Vocabulary.{Fault}
use Rattle.jt_machine.proofs.Vocabulary.{Action, Budget, Code, Config, Ends, Goes, Instruction, Next, Place, Section}
use Rattle.jt_machine.proofs.Vocabulary.{HasRunFast, State, Wrong, after, config_view, cost, goes_on, next, next_at}
use Rattle.jt_machine.proofs.Vocabulary.{placed, place_at, spends, strict, then_goes, wrong, nat_tests, nat_lt}
use Rattle.std.proofs.Common.{◌≡◌, ◌∙◌, ℕ, zero, suc, ◌≤◌, ◌-◌, false, length, List, Option, Some, None, refl, sym}
use Rattle.std.proofs.Common.{ap, arith}
use Rattle.jt_image.specs.Config.{MachineState}
use Rattle.jt_image.specs.Run.{cost_at, next_cost, spared}
use Rattle.jt_image.specs.Step.{Demand, ends, faulty, fetch}
use Rattle.jt_machine.specs.declared.metered_run.Used.{Used}
use Rattle.jt_machine.specs.declared.peaks.Peak.{Peak}
use Rattle.jt_machine.specs.Metering.{demand_at, demand_of, next_demand, step_use, then_uses, together, used_within}
use Rattle.jt_machine.specs.internal.Peaks.{HasRunBelow}
use Rattle.jt_machine.proofs.UseAddsUp.{placed_goes, same_used, unless_goes}

-- ---- a step that goes on

-- A step that goes on has passed each test of the budget.
pub record HasPassed (n : ℕ) (m : MachineState) (w : Demand) (b : Budget) (d : Config) : Type 0 where
  pub fuel : nat_lt b.fuel n ≡ false
  pub calls : nat_lt b.depth w.calls ≡ false
  pub bytes : nat_lt b.output w.bytes ≡ false
  pub size : nat_lt b.size w.size ≡ false
  pub nesting : nat_lt b.nesting w.nesting ≡ false
  pub is : Goes (record { machine = m; left = spared n w b }) ≡ Goes d

pub has_passed : (n : ℕ) (m : MachineState) (w : Demand) (b : Budget) (p : Option Place) (d : Config)
    → placed p (spends n (goes_on m w) b) ≡ Goes d → HasPassed n m w b d
has_passed n m w b p d e =
    let enough = unless_goes (nat_lt b.fuel n) _ _ d (placed_goes p _ d e) in
    let calls = unless_goes (nat_lt b.depth w.calls) _ _ d enough.1 in
    let bytes = unless_goes (nat_lt b.output w.bytes) _ _ d calls.1 in
    let size = unless_goes (nat_lt b.size w.size) _ _ d bytes.1 in
    let nesting = unless_goes (nat_lt b.nesting w.nesting) _ _ d size.1 in
    record {
      fuel = enough.0;
      calls = calls.0;
      bytes = bytes.0;
      size = size.0;
      nesting = nesting.0;
      is = nesting.1;
    }

pub ends_not : (n : ℕ) (t : List ℕ) (b : Budget) (p : Option Place) (d : Config) → placed p (spends n (ends t) b) ≡
    Goes d
    → ⊥
ends_not n t b p d e =
    let enough = unless_goes (nat_lt b.fuel n) _ _ d (placed_goes p _ d e) in absurd (cc (enough.1))

pub faulty_not : (n : ℕ) (f : Fault) (b : Budget) (p : Option Place) (d : Config)
    → placed p (spends n (faulty f) b) ≡ Goes d → ⊥
faulty_not n f b p d e =
    let enough = unless_goes (nat_lt b.fuel n) _ _ d (placed_goes p _ d e) in absurd (cc (enough.1))

abbrev size_in : Next → ℕ
size_in (Goes c) = c.left.size
size_in (Ends o) = 0
size_in Wrong = 0

abbrev nesting_in : Next → ℕ
nesting_in (Goes c) = c.left.nesting
nesting_in (Ends o) = 0
nesting_in Wrong = 0

-- These measures are within the limits, which stay the same.
pub record IsWithin (s n : ℕ) (b : Budget) (d : Config) : Type 0 where
  pub size : s ≤ b.size
  pub nesting : n ≤ b.nesting
  pub same_size : d.left.size ≡ b.size
  pub same_nesting : d.left.nesting ≡ b.nesting

spent_within : (n : ℕ) (a : Action) (b : Budget) (p : Option Place) (d : Config) → placed p (spends n a b) ≡ Goes d
    → IsWithin (demand_of a).size (demand_of a).nesting b d
spent_within n (goes_on m w) b p d e =
    let h = has_passed n m w b p d e in
    record {
      size = grind (arith, nat_tests, h.size);
      nesting = grind (arith, nat_tests, h.nesting);
      same_size = sym (ap size_in h.is);
      same_nesting = sym (ap nesting_in h.is);
    }
spent_within n (ends t) b p d e = absurd (ends_not n t b p d e)
spent_within n (faulty f) b p d e = absurd (faulty_not n f b p d e)
spent_within n wrong b p d e = absurd cc

step_within_at : (k : Code) (o : Option (Section × Instruction)) (c d : Config) → next_at k o c ≡ Goes d
    → IsWithin (demand_at k o c).size (demand_at k o c).nesting c.left d
step_within_at k None c d e = absurd cc
step_within_at k (Some x) c d e = spent_within _ _ c.left _ d e

-- The values that a step pushes are within the limits.
pub step_within : (k : Code) (c d : Config) → next k c ≡ Goes d
    → IsWithin (next_demand k c).size (next_demand k c).nesting c.left d
step_within k c d e = step_within_at k (fetch k c.machine.unit c.machine.point) c d e

-- The values that steps push are within the limits.
pub kept_within : (k : Code) (n : ℕ) (c d : Config) → after k n c ≡ Goes d
    → IsWithin (used_within k n c).size (used_within k n c).nesting c.left d
kept_within k zero c d e =
    let same : c ≡ d = cc e in
    rw same (record { size = omega arith; nesting = omega arith; same_size = refl; same_nesting = refl })
kept_within k (suc n) c d e = along (λ b r. kept_within k n b d r) (next k c) refl e
  where
    along : ((b : Config) → after k n b ≡ Goes d
        → IsWithin (used_within k n b).size (used_within k n b).nesting b.left d)
        → (x : Next) → next k c ≡ x → then_goes x (after k n) ≡ Goes d
        → IsWithin (used_within k (suc n) c).size (used_within k (suc n) c).nesting c.left d
    along more (Goes b) s e =
        let one = step_within k c b s in
        let rest = more b e in
        rw s (record {
          size = omega (arith, one.size, one.same_size, rest.size);
          nesting = omega (arith, one.nesting, one.same_nesting, rest.nesting);
          same_size = rest.same_size ∙ one.same_size;
          same_nesting = rest.same_nesting ∙ one.same_nesting;
        })
    along more (Ends o) s e = absurd cc
    along more Wrong s e = absurd cc

-- ---- higher limits

-- The configuration under another budget.
abbrev pub under : Budget → Config → Config
under b c = record c { left = b }

-- The cost and the demand of an instruction do not depend on the budget.
pub cost_under : (i : Option (Section × Instruction)) (c : Config) (b : Budget) → cost_at i (under b c) ≡ cost_at i c
cost_under None c b = refl
cost_under (Some x) c b = refl

pub demand_under : (k : Code) (i : Option (Section × Instruction)) (c : Config) (b : Budget)
    → demand_at k i (under b c) ≡ demand_at k i c
demand_under k None c b = refl
demand_under k (Some x) c b = refl

-- The configuration with other limits of values.
abbrev pub limited_to : ℕ → ℕ → Config → Config
limited_to s l c = record c { left = record c.left { size = s; nesting = l } }

spent_raised : (n : ℕ) (a : Action) (b : Budget) (p : Option Place) (d : Config) (s l : ℕ) → b.size ≤ s
    → b.nesting ≤ l → placed p (spends n a b) ≡ Goes d
    → placed p (spends n a (record b { size = s; nesting = l })) ≡ Goes (limited_to s l d)
spent_raised n (goes_on m w) b p d s l h i e =
    let t = has_passed n m w b p d e in
    let size : nat_lt s w.size ≡ false = grind (arith, nat_tests, t.size) in
    let nesting : nat_lt l w.nesting ≡ false = grind (arith, nat_tests, t.nesting) in
    let is : record { machine = m; left = spared n w b } ≡ d = cc (t.is) in
    rw (t.fuel, t.calls, t.bytes, size, nesting) (ap (λ (x : Config). Goes (limited_to s l x)) is)
spent_raised n (ends t) b p d s l h i e = absurd (ends_not n t b p d e)
spent_raised n (faulty f) b p d s l h i e = absurd (faulty_not n f b p d e)
spent_raised n wrong b p d s l h i e = absurd cc

step_raised_at : (k : Code) (o : Option (Section × Instruction)) (c d : Config) (s l : ℕ) → c.left.size ≤ s
    → c.left.nesting ≤ l → next_at k o c ≡ Goes d → next_at k o (limited_to s l c) ≡ Goes (limited_to s l d)
step_raised_at k None c d s l h i e = absurd cc
step_raised_at k (Some x) c d s l h i e =
    spent_raised (cost x.1 c.machine.state) (strict k x.0 x.1 c.machine) c.left
    (place_at k c.machine.unit c.machine.point) d s l h i e

step_raised : (k : Code) (c d : Config) (s l : ℕ) → c.left.size ≤ s → c.left.nesting ≤ l → next k c ≡ Goes d
    → next k (limited_to s l c) ≡ Goes (limited_to s l d)
step_raised k c d s l h i e = step_raised_at k (fetch k c.machine.unit c.machine.point) c d s l h i e

-- Steps under some limits are the same steps under higher limits, and use the same.
pub record IsRaised (k : Code) (n : ℕ) (c d : Config) (s l : ℕ) : Type 0 where
  pub goes : after k n (limited_to s l c) ≡ Goes (limited_to s l d)
  pub uses : used_within k n (limited_to s l c) ≡ used_within k n c

pub are_raised : (k : Code) (n : ℕ) (c d : Config) (s l : ℕ) → c.left.size ≤ s → c.left.nesting ≤ l
    → after k n c ≡ Goes d → IsRaised k n c d s l
are_raised k zero c d s l h i e =
    let same : c ≡ d = cc e in
    record { goes = ap (λ (x : Config). Goes (limited_to s l x)) same; uses = refl }
are_raised k (suc n) c d s l h i e = along (λ b. are_raised k n b d s l) (next k c) refl e
  where
    along : ((b : Config) → b.left.size ≤ s → b.left.nesting ≤ l → after k n b ≡ Goes d → IsRaised k n b d s l)
        → (x : Next) → next k c ≡ x → then_goes x (after k n) ≡ Goes d → IsRaised k (suc n) c d s l
    along more (Goes b) r e =
        let w = step_within k c b r in
        let step = step_raised k c b s l h i r in
        let rest = more b (omega (arith, w.same_size, h)) (omega (arith, w.same_nesting, i)) e in
        let cost : next_cost k (limited_to s l c) ≡ next_cost k c =
        cost_under (fetch k c.machine.unit c.machine.point) c (limited_to s l c).left in
        let demand : next_demand k (limited_to s l c) ≡ next_demand k c =
        demand_under k (fetch k c.machine.unit c.machine.point) c (limited_to s l c).left in
        record {
          goes = ap (λ (x : Next). then_goes x (after k n)) step ∙ rest.goes;
          uses = rw (step, r) (same_used _ _
              (omega (arith, cost, ap (λ (u : Used). u.fuel) rest.uses))
              (omega (arith, ap (λ (u : Used). u.output) rest.uses))
              (omega (arith, ap (λ (u : Used). u.depth) rest.uses))
              (omega (arith, ap (λ (v : Demand). v.size) demand, ap (λ (u : Used). u.size) rest.uses))
              (omega (arith, ap (λ (v : Demand). v.nesting) demand, ap (λ (u : Used). u.nesting) rest.uses)));
        }
    along more (Ends o) r e = absurd cc
    along more Wrong r e = absurd cc

-- ---- the fast path

-- The state with the limits of the peak.
abbrev pub lowered : Peak → State → State
lowered p s = record s { left = record s.left { size = p.size; nesting = p.nesting } }

-- The state with the limits of another state.
abbrev pub restored : State → State → State
restored s t = record t { left = record t.left { size = s.left.size; nesting = s.left.nesting } }

-- What the fast path executes under the limits of a peak, it executes under the limits of the run.
pub ran_below : (k : Code) (most left : ℕ) (p : Peak) (s t : State) → p.size ≤ s.left.size
    → p.nesting ≤ s.left.nesting → HasRunFast k most left (lowered p s) t
    → HasRunBelow k most left p s (restored s t)
ran_below k most left p s t h i g =
    let low = config_view (lowered p s) in
    let r = are_raised k g.steps low (config_view t) s.left.size s.left.nesting h i g.goes in
    let w = kept_within k g.steps low (config_view t) g.goes in
    record {
      gone = record {
        steps = g.steps;
        count = g.count;
        goes = r.goes;
        depth = g.depth;
        callers = g.callers;
        fuel = g.fuel;
        level = ap (λ (u : Used). u.depth) r.uses ∙ g.level;
      };
      size = rw r.uses (w.size);
      nesting = rw r.uses (w.nesting);
    }
