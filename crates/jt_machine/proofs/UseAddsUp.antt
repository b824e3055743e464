-- What parts of a run use adds up.
use Rattle.jt_machine.proofs.Vocabulary.{Action, Budget, Code, Config, Ends, Goes, Instruction, Next, Outcome, Pairs}
use Rattle.jt_machine.proofs.Vocabulary.{Place, RunFrom, Section, Wrong, after, cost, next, next_at, placed, spends}
use Rattle.jt_machine.proofs.Vocabulary.{start}
use Rattle.jt_machine.proofs.Vocabulary.{goes_on, goes, faults_by, broken, straight, strict, then_goes, unless, wrong}
use Rattle.jt_machine.proofs.Vocabulary.{HasRunFast, State, config_view, nat_tests, nat_lt}
use Rattle.std.proofs.Common.{◌≡◌, ◌∙◌, ℕ, zero, suc, ◌+◌, ◌-◌, ◌<◌, ◌≤◌, Bool, true, false, List, length, max, Option}
use Rattle.std.proofs.Common.{Some, None, refl, sym, ap, arith, rules, zero-add, if◌then◌else◌}
use Rattle.jt_image.specs.Config as config
use Rattle.jt_image.specs.Config.{MachineState}
use Rattle.jt_image.specs.Step.{Plain, action, ends, faulty, plain}
use Rattle.jt_image.specs.Run.{cost_at, next_cost}
use Rattle.jt_image.specs.declared.instruction.Instruction.TheVariants as op
use Rattle.jt_machine.specs.declared.metered_run.Used.{Used}
use Rattle.jt_machine.specs.Metering.{counted_cost, nothing_used, step_use, then_uses, together, used_within}
use Rattle.jt_machine.specs.Metering.{Metered, MeteringLaws, stage_use}
use Rattle.jt_machine.specs.Session.{RunStage, Session, going, done, lost, led, moved, begun}
use Rattle.jt_machine.specs.Session.{end_of, SessionLaws}
use Rattle.jt_machine.specs.internal.Meters.{end_cost}

-- ---- what one step takes from the budget

abbrev fuel_in : Next → ℕ
fuel_in (Goes c) = c.left.fuel
fuel_in (Ends o) = 0
fuel_in Wrong = 0

abbrev output_in : Next → ℕ
output_in (Goes c) = c.left.output
output_in (Ends o) = 0
output_in Wrong = 0

pub placed_goes : (p : Option Place) (n : Next) (d : Config) → placed p n ≡ Goes d → n ≡ Goes d
placed_goes p (Goes c) d e = e
placed_goes p (Ends (config.text t)) d e = e
placed_goes p (Ends (config.fault f q)) d e = absurd cc
placed_goes p (Ends (config.spent l)) d e = e
placed_goes p Wrong d e = e

pub unless_goes : (x : Bool) (l : config.Limit) (n : Next) (d : Config) → unless x l n ≡ Goes d
    → (x ≡ false) × (n ≡ Goes d)
unless_goes true l n d e = absurd cc
unless_goes false l n d e = (refl, e)

-- A step of this cost that goes on has taken it from the fuel, and no byte was given back.
pub record HasTaken (n : ℕ) (b : Budget) (d : Config) : Type 0 where
  pub fuel : n + d.left.fuel ≡ b.fuel
  pub output : d.left.output ≤ b.output

spent_goes : (n : ℕ) (a : Action) (b : Budget) (p : Option Place) (d : Config) → placed p (spends n a b) ≡ Goes d
    → HasTaken n b d
spent_goes n (goes_on m w) b p d e =
    let enough = unless_goes (nat_lt b.fuel n) _ _ d (placed_goes p _ d e) in
    let calls = unless_goes (nat_lt b.depth w.calls) _ _ d enough.1 in
    let bytes = unless_goes (nat_lt b.output w.bytes) _ _ d calls.1 in
    let size = unless_goes (nat_lt b.size w.size) _ _ d bytes.1 in
    let nesting = unless_goes (nat_lt b.nesting w.nesting) _ _ d size.1 in
    let fuel : b.fuel - n ≡ d.left.fuel = ap fuel_in nesting.1 in
    let output : b.output - w.bytes ≡ d.left.output = ap output_in nesting.1 in
    let le : n ≤ b.fuel = grind (arith, nat_tests, enough.0) in
    record { fuel = omega (arith, fuel, le); output = omega (arith, output) }
spent_goes n (ends t) b p d e =
    let enough = unless_goes (nat_lt b.fuel n) _ _ d (placed_goes p _ d e) in absurd (cc (enough.1))
spent_goes n (faulty f) b p d e =
    let enough = unless_goes (nat_lt b.fuel n) _ _ d (placed_goes p _ d e) in absurd (cc (enough.1))
spent_goes n wrong b p d e = absurd cc

taken_at : (k : Code) (o : Option (Section × Instruction)) (c d : Config) → next_at k o c ≡ Goes d
    → HasTaken (cost_at o c) c.left d
taken_at k None c d e = absurd cc
taken_at k (Some x) c d e = spent_goes _ _ c.left _ d e

pub has_taken : (k : Code) (c d : Config) → next k c ≡ Goes d → HasTaken (next_cost k c) c.left d
has_taken k c d e = taken_at k _ c d e

-- ---- the cost of the step that ends with a text

straight_goes : (x : Plain) (c : MachineState) (t : List ℕ) → straight x c ≡ ends t → ⊥
straight_goes (goes s d) c t e = absurd cc
straight_goes (faults_by f) c t e = absurd cc
straight_goes broken c t e = absurd cc

text_cost : (k : Code) (u : Section) (i : Instruction) (c : MachineState) (t : List ℕ) → action k u i c ≡ ends t
    → cost i c.state ≡ 1
text_cost k u (op.Const n) c t e = refl
text_cost k u (op.Load n) c t e = refl
text_cost k u (op.Store n) c t e = refl
text_cost k u (op.GLoad n) c t e = refl
text_cost k u (op.GStore n) c t e = refl
text_cost k u op.Drop c t e = refl
text_cost k u op.Dup c t e = refl
text_cost k u (op.Emit a) c t e = absurd (straight_goes (plain k (op.Emit a) c.state) c t e)
text_cost k u (op.Data n) c t e = refl
text_cost k u (op.Jump p) c t e = refl
text_cost k u (op.JumpIfFalse p) c t e = refl
text_cost k u (op.JumpIfTrue p) c t e = refl
text_cost k u (op.Op a) c t e = absurd (straight_goes (plain k (op.Op a) c.state) c t e)
text_cost k u (op.Filter a b n) c t e = absurd (straight_goes (plain k (op.Filter a b n) c.state) c t e)
text_cost k u (op.Test a b) c t e = absurd (straight_goes (plain k (op.Test a b) c.state) c t e)
text_cost k u (op.MakeList n) c t e = absurd (straight_goes (plain k (op.MakeList n) c.state) c t e)
text_cost k u (op.MakeMap n) c t e = absurd (straight_goes (plain k (op.MakeMap n) c.state) c t e)
text_cost k u op.LoopStart c t e = absurd (straight_goes (plain k op.LoopStart c.state) c t e)
text_cost k u (op.LoopNext p) c t e = refl
text_cost k u (op.LoopGet a n) c t e = refl
text_cost k u (op.LoopKeep n) c t e = refl
text_cost k u op.LoopRewind c t e = refl
text_cost k u op.LoopEnd c t e = refl
text_cost k u op.CaptureBegin c t e = refl
text_cost k u (op.CaptureEnd a) c t e = refl
text_cost k u (op.Unpack n) c t e = absurd (straight_goes (plain k (op.Unpack n) c.state) c t e)
text_cost k u (op.Call n) c t e = refl
text_cost k u op.Return c t e = refl

pub if_text : (x : Bool) (a : Action) (t : List ℕ) → (if x then a else wrong) ≡ ends t → a ≡ ends t
if_text true a t e = e
if_text false a t e = absurd cc

pub placed_text : (p : Option Place) (n : Next) (t : List ℕ) → placed p n ≡ Ends (config.text t) → n ≡ Ends
    (config.text t)
placed_text p (Goes c) t e = absurd cc
placed_text p (Ends (config.text s)) t e = e
placed_text p (Ends (config.fault f q)) t e = absurd cc
placed_text p (Ends (config.spent l)) t e = absurd cc
placed_text p Wrong t e = absurd cc

unless_text : (x : Bool) (l : config.Limit) (n : Next) (t : List ℕ) → unless x l n ≡ Ends (config.text t)
    → (x ≡ false) × (n ≡ Ends (config.text t))
unless_text true l n t e = absurd cc
unless_text false l n t e = (refl, e)

-- An action of this cost that ends a run with a text has enough fuel.
pub spent_text : (n : ℕ) (a : Action) (b : Budget) (t : List ℕ) → spends n a b ≡ Ends (config.text t)
    → (a ≡ ends t) × (n ≤ b.fuel)
spent_text n (goes_on m w) b t e =
    let enough = unless_text (nat_lt b.fuel n) _ _ t e in
    let calls = unless_text (nat_lt b.depth w.calls) _ _ t enough.1 in
    let bytes = unless_text (nat_lt b.output w.bytes) _ _ t calls.1 in
    let size = unless_text (nat_lt b.size w.size) _ _ t bytes.1 in
    let nesting = unless_text (nat_lt b.nesting w.nesting) _ _ t size.1 in
    absurd (cc (nesting.1))
spent_text n (ends s) b t e =
    let enough = unless_text (nat_lt b.fuel n) _ _ t e in
    (cc (enough.1), grind (arith, nat_tests, enough.0))
spent_text n (faulty f) b t e =
    let enough = unless_text (nat_lt b.fuel n) _ _ t e in absurd (cc (enough.1))
spent_text n wrong b t e = absurd cc

text_at : (k : Code) (o : Option (Section × Instruction)) (c : Config) (t : List ℕ)
    → next_at k o c ≡ Ends (config.text t) → (cost_at o c ≡ 1) × (1 ≤ c.left.fuel)
text_at k None c t e = absurd cc
text_at k (Some x) c t e =
    let s = spent_text (cost x.1 c.machine.state) (strict k x.0 x.1 c.machine) c.left t (placed_text _ _ t e) in
    let one : cost x.1 c.machine.state ≡ 1 = text_cost k x.0 x.1 c.machine t (if_text _ _ t s.0) in
    (one, omega (arith, one, s.1))

-- The step that ends a run counts the cost of its outcome, which is no more than the fuel.
pub last_cost : (k : Code) (c : Config) (o : Outcome) → next k c ≡ Ends o
    → (counted_cost (next k c) (next_cost k c) ≡ end_cost o) × (end_cost o ≤ c.left.fuel)
last_cost k c (config.text t) e = let one = text_at k _ c t e in rw e one
last_cost k c (config.fault f p) e = rw e (refl, omega arith)
last_cost k c (config.spent l) e = rw e (refl, omega arith)

-- ---- uses

abbrev parts_of : ℕ → ℕ → ℕ → ℕ → ℕ → Used
parts_of f o d s n = record { fuel = f; output = o; depth = d; size = s; nesting = n }

abbrev use_of : ℕ → ℕ → ℕ → Used
use_of f o d = parts_of f o d 0 0

same_parts : (f g o p d e s t n m : ℕ) → f ≡ g → o ≡ p → d ≡ e → s ≡ t → n ≡ m
    → parts_of f o d s n ≡ parts_of g p e t m
same_parts f g o p d e s t n m x y z v w = rw (x, y, z, v, w) refl

pub same_used : (a b : Used) → a.fuel ≡ b.fuel → a.output ≡ b.output → a.depth ≡ b.depth → a.size ≡ b.size
    → a.nesting ≡ b.nesting → a ≡ b
same_used a b x y z v w =
    same_parts a.fuel b.fuel a.output b.output a.depth b.depth a.size b.size a.nesting b.nesting x y z v w

together_both : (a b c : Used) → together a (together b c) ≡ together (together a b) c
together_both a b c =
    same_used _ _ (omega arith) (omega arith) (omega arith) (omega arith) (omega arith)

pub together_none : (a : Used) → together a nothing_used ≡ a
together_none a = same_used _ _ (omega arith) (omega arith) (omega arith) (omega arith) (omega arith)

-- The calls that are open at the first configuration are counted.
pub first_counted : (k : Code) (n : ℕ) (c : Config) → length c.machine.callers ≤ (used_within k n c).depth
first_counted k zero c = omega arith
first_counted k (suc n) c = omega arith

-- ---- parts of a run

-- If some steps go on, the steps after them use what the rest of the run uses.
pub used_on : (k : Code) (n m : ℕ) (c d : Config) → after k n c ≡ Goes d
    → used_within k (n + m) c ≡ together (used_within k n c) (used_within k m d)
used_on k zero m c d e =
    let same : c ≡ d = cc e in
    rw (zero-add m, sym same)
    (same_used _ _ (omega arith) (omega arith) (omega (arith, first_counted k m c)) (omega arith) (omega arith))
used_on k (suc n) m c d e =
    let s : suc n + m ≡ suc (n + m) = omega arith in rw s (along (λ b r. used_on k n m b d r) (next k c) e)
  where
    along : ((b : Config) → after k n b ≡ Goes d
        → used_within k (n + m) b ≡ together (used_within k n b) (used_within k m d))
        → (x : Next) → then_goes x (after k n) ≡ Goes d
        → together (step_use k c) (then_uses x (used_within k (n + m)))
        ≡ together (together (step_use k c) (then_uses x (used_within k n))) (used_within k m d)
    along more (Goes b) e = ap (λ u. together (step_use k c) u) (more b e)
        ∙ together_both (step_use k c) (used_within k n b) (used_within k m d)
    along more (Ends o) e = absurd cc
    along more Wrong e = absurd cc

-- If some steps end the run, the steps after them use nothing.
pub used_ended : (k : Code) (n m : ℕ) (c : Config) (o : Outcome) → after k n c ≡ Ends o
    → used_within k (n + m) c ≡ used_within k n c
used_ended k zero m c o e = absurd cc
used_ended k (suc n) m c o e =
    let s : suc n + m ≡ suc (n + m) = omega arith in rw s (along (λ b r. used_ended k n m b o r) (next k c) e)
  where
    along : ((b : Config) → after k n b ≡ Ends o → used_within k (n + m) b ≡ used_within k n b)
        → (x : Next) → then_goes x (after k n) ≡ Ends o
        → together (step_use k c) (then_uses x (used_within k (n + m)))
        ≡ together (step_use k c) (then_uses x (used_within k n))
    along more (Goes b) e = ap (λ u. together (step_use k c) u) (more b e)
    along more (Ends p) e = refl
    along more Wrong e = absurd cc

pub used_wrong : (k : Code) (n m : ℕ) (c : Config) → after k n c ≡ Wrong
    → used_within k (n + m) c ≡ used_within k n c
used_wrong k zero m c e = absurd cc
used_wrong k (suc n) m c e =
    let s : suc n + m ≡ suc (n + m) = omega arith in rw s (along (λ b r. used_wrong k n m b r) (next k c) e)
  where
    along : ((b : Config) → after k n b ≡ Wrong → used_within k (n + m) b ≡ used_within k n b)
        → (x : Next) → then_goes x (after k n) ≡ Wrong
        → together (step_use k c) (then_uses x (used_within k (n + m)))
        ≡ together (step_use k c) (then_uses x (used_within k n))
    along more (Goes b) e = ap (λ u. together (step_use k c) u) (more b e)
    along more (Ends p) e = absurd cc
    along more Wrong e = refl

-- Steps that go on have taken what they used from the budget.
pub record HaveTaken (u : Used) (b : Budget) (d : Config) : Type 0 where
  pub fuel : u.fuel + d.left.fuel ≡ b.fuel
  pub output : u.output + d.left.output ≡ b.output

pub have_taken : (k : Code) (n : ℕ) (c d : Config) → after k n c ≡ Goes d
    → HaveTaken (used_within k n c) c.left d
have_taken k zero c d e =
    let same : c ≡ d = cc e in rw same (record { fuel = omega arith; output = omega arith })
have_taken k (suc n) c d e = along (λ b r. have_taken k n b d r) (next k c) refl e
  where
    along : ((b : Config) → after k n b ≡ Goes d → HaveTaken (used_within k n b) b.left d)
        → (x : Next) → next k c ≡ x → then_goes x (after k n) ≡ Goes d → HaveTaken (used_within k (suc n) c) c.left d
    along more (Goes b) s e =
        let one = has_taken k c b s in
        let rest = more b e in
        rw s (record {
          fuel = omega (arith, one.fuel, rest.fuel);
          output = omega (arith, one.output, rest.output);
        })
    along more (Ends o) s e = absurd cc
    along more Wrong s e = absurd cc

-- The greatest depth counts the configuration that is reached.
pub last_counted : (k : Code) (n : ℕ) (c d : Config) → after k n c ≡ Goes d
    → length d.machine.callers ≤ (used_within k n c).depth
last_counted k n c d r =
    let none = ap (λ (u : Used). u.depth) (used_on k n 0 c d r) in
    let same : n + 0 ≡ n = omega arith in
    let last : (used_within k n c).depth ≡ max (used_within k n c).depth (length d.machine.callers) = rw same at none in
    omega (arith, last)

-- A run that ends within some steps uses what its steps before the last one use, and the cost of its
-- end.
pub used_to_end : (k : Code) (n m : ℕ) (c d : Config) (o : Outcome) → after k n c ≡ Goes d → next k d ≡ Ends o → n < m
    → used_within k m c
    ≡ record (used_within k n c) { fuel = (used_within k n c).fuel + end_cost o }
used_to_end k n m c d o r e lt =
    let whole : n + suc (m - (n + 1)) ≡ m = omega (arith, lt) in
    let split = used_on k n (suc (m - (n + 1))) c d r in
    let cost = (last_cost k d o e).0 in
    let none = last_taken k (m - (n + 1)) d o e in
    let on : used_within k m c ≡ together (used_within k n c) (used_within k (suc (m - (n + 1))) d) =
    rw whole at split in
    same_used _ _
    (omega (arith, ap (λ (u : Used). u.fuel) on, cost, ap (λ (u : Used). u.fuel) none))
    (omega (arith, ap (λ (u : Used). u.output) on, ap (λ (u : Used). u.output) none))
    (omega (arith, ap (λ (u : Used). u.depth) on, ap (λ (u : Used). u.depth) none, last_counted k n c d r))
    (omega (arith, ap (λ (u : Used). u.size) on, ap (λ (u : Used). u.size) none))
    (omega (arith, ap (λ (u : Used). u.nesting) on, ap (λ (u : Used). u.nesting) none))
  where
    last_taken : (k : Code) (r : ℕ) (d : Config) (o : Outcome) → next k d ≡ Ends o
        → used_within k (suc r) d ≡ use_of (counted_cost (next k d) (next_cost k d)) 0 (length d.machine.callers)
    last_taken k r d o e =
        rw e (same_used _ _ (omega arith) (omega arith) (omega arith) (omega arith) (omega arith))

-- ---- slices

stage_both : (k : Code) (n m : ℕ) (t : RunStage)
    → together (stage_use k n t) (stage_use k m (moved k n t)) ≡ stage_use k (n + m) t
stage_both k n m (going c) = along (after k n c) refl
  where
    along : (x : Next) → after k n c ≡ x
        → together (used_within k n c) (stage_use k m (led x)) ≡ used_within k (n + m) c
    along (Goes d) e = sym (used_on k n m c d e)
    along (Ends o) e = together_none (used_within k n c) ∙ sym (used_ended k n m c o e)
    along Wrong e = together_none (used_within k n c) ∙ sym (used_wrong k n m c e)
stage_both k n m (done o) = refl
stage_both k n m lost = refl

one_end : (l : Option config.Limit) (k : Code) (x : Pairs) (b : Budget) (n : ℕ) (o : Outcome)
    → end_of (moved k n (begun l k x b)) ≡ Some o → RunFrom l k x b o
one_end a0 k x b n o e = search (arith, rules)

-- A run that has ended stays so.
stays : (k : Code) (n m : ℕ) (c : Config) (o : Outcome) → after k n c ≡ Ends o → after k (n + m) c ≡ Ends o
stays k zero m c o e = absurd cc
stays k (suc n) m c o e =
    let s : suc n + m ≡ suc (n + m) = omega arith in rw s (along (λ b r. stays k n m b o r) (next k c) e)
  where
    along : ((b : Config) → after k n b ≡ Ends o → after k (n + m) b ≡ Ends o)
        → (x : Next) → then_goes x (after k n) ≡ Ends o → then_goes x (after k (n + m)) ≡ Ends o
    along more (Goes b) e = more b e
    along more (Ends p) e = e
    along more Wrong e = absurd cc

one_outcome : (l : Option config.Limit) (k : Code) (x : Pairs) (b : Budget) (o p : Outcome) → RunFrom l k x b o
    → RunFrom l k x b p → o ≡ p
one_outcome (Some l) k x b o p e f = e ∙ sym f
one_outcome None k x b o p (n, e) (m, f) =
    let c = start k x b in
    let swap : m + n ≡ n + m = omega arith in
    let other : after k (n + m) c ≡ Ends p = rw swap at (stays k m n c p f) in
    cc (stays k n m c o e, other)

metered : (s t : Session) (u v : Used) → s ≡ t → u ≡ v
    → (λ (m : Metered). m) (record { session = s; used = u }) ≡ record { session = t; used = v }
metered s t u v e f = rw (e, f) refl

pub laws : SessionLaws → MeteringLaws
laws slices = record {
  both = λ n m run.
      let k = run.session.code in
      let t = run.session.stage in
      metered _ _ _ _ (slices.both n m run.session)
      (sym (together_both run.used (stage_use k n t) (stage_use k m (moved k n t)))
      ∙ ap (λ (u : Used). together run.used u) (stage_both k n m t));
  ends = λ k x b n o e. one_end _ k x b n o e;
  only = λ k x b o p e f. one_outcome _ k x b o p e f;
}

-- ---- steps of the fast path

-- The most calls that are open within one step.
pub level_one : (k : Code) (c d : Config) → next k c ≡ Goes d
    → (used_within k 1 c).depth ≡ max (length c.machine.callers) (length d.machine.callers)
level_one k c d e = rw e (omega arith)

-- One more step counts the calls that are open after it.
pub deeper : (k : Code) (n : ℕ) (c d e : Config) → after k n c ≡ Goes d → next k d ≡ Goes e
    → (used_within k (n + 1) c).depth ≡ max (used_within k n c).depth (length e.machine.callers)
deeper k n c d e r s =
    let more = ap (λ (u : Used). u.depth) (used_on k n 1 c d r) in
    let none = ap (λ (u : Used). u.depth) (used_on k n 0 c d r) in
    let same : n + 0 ≡ n = omega arith in
    let last : (used_within k n c).depth ≡ max (used_within k n c).depth (length d.machine.callers) = rw same at none in
    omega (arith, more, last, level_one k d e s)

-- If the open calls stay the same, so does the most that are open.
pub level_more : (k : Code) (n : ℕ) (c d e : Config) → after k n c ≡ Goes d → next k d ≡ Goes e
    → (used_within k n c).depth ≡ length c.machine.callers → length e.machine.callers ≡ length c.machine.callers
    → (used_within k (n + 1) c).depth ≡ length c.machine.callers
level_more k n c d e r s level same = omega (arith, deeper k n c d e r s, level, same)

pub level_both : (k : Code) (n m : ℕ) (c d : Config) → after k n c ≡ Goes d
    → (used_within k n c).depth ≡ length c.machine.callers → (used_within k m d).depth ≡ length d.machine.callers
    → length d.machine.callers ≡ length c.machine.callers
    → (used_within k (n + m) c).depth ≡ length c.machine.callers
level_both k n m c d r one other same =
    omega (arith, ap (λ (u : Used). u.depth) (used_on k n m c d r), one, other, same)

-- ---- slices of a machine

-- Steps of the fast path open no call, so the greatest depth of a slice stays the same.
pub slice_level : {k : Code} (m : ℕ) {left rest : ℕ} (c : Config) {s t : State} → left ≤ m
    → after k (m - left) c ≡ Goes (config_view s) → HasRunFast k left rest s t
    → (used_within k (m - rest) c).depth ≡ (used_within k (m - left) c).depth
slice_level {k} m {left} {rest} c {s} {t} le e g =
    let n : m - rest ≡ (m - left) + g.steps = omega (arith, le, g.count) in
    let split = ap (λ (u : Used). u.depth) (used_on k (m - left) g.steps c (config_view s) e) in
    rw n (omega (arith, split, g.level, last_counted k (m - left) c (config_view s) e))

-- No part of a run uses more than what is left at its first configuration.
pub within_left : (k : Code) (n : ℕ) (c : Config)
    → ((used_within k n c).fuel ≤ c.left.fuel) × ((used_within k n c).output ≤ c.left.output)
within_left k zero c = (omega arith, omega arith)
within_left k (suc n) c = along (λ b. within_left k n b) (next k c) refl
  where
    along : ((b : Config)
        → ((used_within k n b).fuel ≤ b.left.fuel) × ((used_within k n b).output ≤ b.left.output))
        → (x : Next) → next k c ≡ x
        → ((used_within k (suc n) c).fuel ≤ c.left.fuel) × ((used_within k (suc n) c).output ≤ c.left.output)
    along more (Goes b) s =
        let one = has_taken k c b s in
        let rest = more b in
        rw s (omega (arith, one.fuel, rest.0), omega (arith, one.output, rest.1))
    along more (Ends o) s =
        let one = last_cost k c o s in
        let cost : counted_cost (Ends o) (next_cost k c) ≡ end_cost o = rw s at one.0 in
        rw s (omega (arith, cost, one.1), omega arith)
    along more Wrong s = rw s (omega arith, omega arith)

-- One more step counts the calls that are open after it.
pub deeper_on : (k : Code) (m left : ℕ) (c d e : Config) (old new : ℕ) → 0 < left → left ≤ m
    → after k (m - left) c ≡ Goes d → next k d ≡ Goes e → old ≡ (used_within k (m - left) c).depth
    → new ≡ max old (length e.machine.callers) → new ≡ (used_within k (m - (left - 1)) c).depth
deeper_on k m left c d e old new lt le r s is more =
    let n : m - (left - 1) ≡ (m - left) + 1 = omega (arith, lt, le) in
    rw n (omega (arith, is, more, deeper k (m - left) c d e r s))
