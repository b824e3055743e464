-- The peak of a run grows by the values that each step pushes.
use Rattle.jt_machine.proofs.Vocabulary.{Budget, Code, Config, Goes, Pairs, State, after, config_view, greatest}
use Rattle.jt_machine.proofs.Vocabulary.{limit_of}
use Rattle.jt_machine.proofs.Vocabulary.{next, passed, values_at, nat_tests, nat_lt, Tree, slice_get}
use Rattle.std.proofs.Common.{◌≡◌, ◌∙◌, ℕ, ◌+◌, ◌-◌, ◌<◌, ◌≤◌, ◌^◌, max, drop, List, [], ◌∷◌, Option, Some, None, ap}
use Rattle.std.proofs.Common.{sym, refl}
use Rattle.std.proofs.Common.{arith, rules}
use Rattle.jt_image.specs.Code.{Name}
use Rattle.jt_image.specs.Config as config
use Rattle.jt_image.specs.Run.{first_of, limit_of_named}
use Rattle.jt_value.specs.Pairs.{look}
use Rattle.jt_value.specs.Tree as tree
use Rattle.jt_machine.specs.declared.metered_run.Used.{Used}
use Rattle.jt_machine.specs.declared.peaks.Peak.{Peak}
use Rattle.jt_machine.specs.MeterRoom.{HasRoom}
use Rattle.jt_machine.specs.Metering.{named_values, next_demand, nothing_used, start_use, used_within, with_found}
use Rattle.jt_machine.specs.internal.Peaks.{HasRunBelow, no_peak, pushed_there, risen}
use Rattle.jt_machine.specs.internal.Peaks.{has_result, has_result_at, pushed_at, pushed_of, result_in}
use Rattle.jt_machine.proofs.Vocabulary.{Instruction, Section, instruction_at, option_and_then}
use Rattle.std.specs.Prelude.{not, ◌==◌}
use Rattle.std.proofs.Common.{zero, suc}
use Rattle.jt_machine.proofs.LimitsRaised.{kept_within, step_within}
use Rattle.jt_machine.proofs.MeteredSlices.{IsPeak}
use Rattle.jt_machine.proofs.PushedMeasured.{step_measured}
use Rattle.jt_machine.proofs.StepLemmas.{drop_get, within}
use Rattle.jt_machine.proofs.UseAddsUp.{same_used, used_on}

abbrev peak_with : ℕ → ℕ → Peak
peak_with s n = record { size = s; nesting = n }

same_both : (s t n m : ℕ) → s ≡ t → n ≡ m → peak_with s n ≡ peak_with t m
same_both s t n m x y = rw (x, y) refl

pub same_peak : (a b : Peak) → a.size ≡ b.size → a.nesting ≡ b.nesting → a ≡ b
same_peak a b x y = same_both a.size b.size a.nesting b.nesting x y

-- ---- the peak of a slice

pub peak_first : (k : Code) (n : ℕ) (c : Config) (p : Peak) → n ≡ 0 → IsPeak p p (used_within k n c)
peak_first k n c p e = rw e (same_peak _ _ (omega arith) (omega arith))

-- What runs below the peak leaves the peak as it was.
pub peak_same : {k : Code} (m : ℕ) {left rest : ℕ} (c : Config) {s t : State} (p q : Peak) → left ≤ m
    → after k (m - left) c ≡ Goes (config_view s) → HasRunBelow k left rest q s t
    → IsPeak p q (used_within k (m - left) c)
    → IsPeak p q (used_within k (m - rest) c)
peak_same {k} m {left} {rest} c {s} {t} p q le e g i =
    let n : m - rest ≡ (m - left) + g.gone.steps = omega (arith, le, g.gone.count) in
    let on = used_on k (m - left) g.gone.steps c (config_view s) e in
    rw n (same_peak _ _
    (omega (arith, ap (λ (x : Peak). x.size) i, ap (λ (u : Used). u.size) on, g.size))
    (omega (arith, ap (λ (x : Peak). x.nesting) i, ap (λ (u : Used). u.nesting) on, g.nesting)))

one_size : (k : Code) (c d : Config) → next k c ≡ Goes d → (used_within k 1 c).size ≡ (next_demand k c).size
one_size k c d e = rw e (omega arith)

one_nesting : (k : Code) (c d : Config) → next k c ≡ Goes d → (used_within k 1 c).nesting ≡ (next_demand k c).nesting
one_nesting k c d e = rw e (omega arith)

-- One more step raises the peak to the values that it pushes.
pub peak_on : (k : Code) (m left : ℕ) (c d e : Config) (p q r : Peak) → 0 < left → left ≤ m
    → after k (m - left) c ≡ Goes d → next k d ≡ Goes e → IsPeak p q (used_within k (m - left) c)
    → r ≡ risen q (values_at (pushed_there k d.machine.unit d.machine.point) e.machine.state.entries)
    → IsPeak p r (used_within k (m - (left - 1)) c)
peak_on k m left c d e p q r lt le a s i is =
    let n : m - (left - 1) ≡ (m - left) + 1 = omega (arith, lt, le) in
    let on = used_on k (m - left) 1 c d a in
    let h = step_measured k d e s in
    rw n (same_peak _ _
    (omega (
      arith,
      ap (λ (x : Peak). x.size) i,
      ap (λ (x : Peak). x.size) is,
      ap (λ (u : Used). u.size) on,
      one_size k d e s,
      h.size,
    ))
    (omega (
      arith,
      ap (λ (x : Peak). x.nesting) i,
      ap (λ (x : Peak). x.nesting) is,
      ap (λ (u : Used). u.nesting) on,
      one_nesting k d e s,
      h.nesting,
    )))

-- ---- the peak and the limits

-- The limits are the same after the fast path.
pub same_limits : {k : Code} {m left : ℕ} {q : Peak} {s t : State} → HasRunBelow k m left q s t
    → (t.left.size ≡ s.left.size) × (t.left.nesting ≡ s.left.nesting)
same_limits {k} {m} {left} {q} {s} {t} g =
    let w = kept_within k g.gone.steps (config_view s) (config_view t) g.gone.goes in
    (w.same_size, w.same_nesting)

-- The values that a step pushes are within the limits after it.
pub pushed_within : (k : Code) (s t : State) → next k (config_view s) ≡ Goes (config_view t)
    → (greatest tree.size (values_at (pushed_there k s.unit s.point) t.stack.running) ≤ t.left.size)
    × (greatest tree.nesting (values_at (pushed_there k s.unit s.point) t.stack.running) ≤ t.left.nesting)
pushed_within k s t e =
    let w = step_within k (config_view s) (config_view t) e in
    let h = step_measured k (config_view s) (config_view t) e in (
      omega (arith, w.size, w.same_size, h.size),
      omega (arith, w.nesting, w.same_nesting, h.nesting),
    )

-- The peak is within the limits after a step.
pub peak_fits : (k : Code) (m left : ℕ) (s t u : State) (p q : Peak) → HasRunBelow k m left p s t
    → next k (config_view t) ≡ Goes (config_view u) → p.size ≤ s.left.size → p.nesting ≤ s.left.nesting
    → q ≡ risen p (values_at (pushed_there k t.unit t.point) u.stack.running)
    → (q.size ≤ u.left.size) × (q.nesting ≤ u.left.nesting)
peak_fits k m left s t u p q g e h i is =
    let same = same_limits g in
    let step = step_within k (config_view t) (config_view u) e in
    let new = pushed_within k t u e in (
      omega (arith, ap (λ (x : Peak). x.size) is, new.0, step.same_size, same.0, h),
      omega (arith, ap (λ (x : Peak). x.nesting) is, new.1, step.same_nesting, same.1, i),
    )

-- ---- the values of the context

-- A value that exceeds no limit is within both.
pub limits_kept : (b : Budget) (t : Tree) → limit_of b t ≡ None → (tree.size t ≤ b.size) × (tree.nesting t ≤ b.nesting)
limits_kept b t e = search (arith, rules, nat_tests)

risen_found : (p : Peak) (o : Option Tree) (ts : List Tree) → risen (risen p (with_found o [])) ts ≡ risen p
    (with_found o ts)
risen_found p None ts = same_peak _ _ (omega arith) (omega arith)
risen_found p (Some t) ts = same_peak _ _ (omega arith) (omega arith)

-- The next name raises the peak by its value.
pub named_next : (x : Pairs) (ns : List Name) (i : ℕ) (n : Name) (p q all : Peak) → Some n ≡ slice_get ns i
    → all ≡ risen p (named_values x (drop i ns)) → q ≡ risen p (with_found (look n.text x) [])
    → all ≡ risen q (named_values x (drop (i + 1) ns))
named_next x ns i n p q all is e f =
    let d = drop_get ns i n is in
    e ∙ rw (d, f) (sym (risen_found p (look n.text x) (named_values x (drop (i + 1) ns))))

first_none : (o p : Option config.Limit) → o ≡ None → p ≡ None → first_of o p ≡ None
first_none a0 p e f = search (arith, rules)

pub first_both : (o p : Option config.Limit) → first_of o p ≡ None → (o ≡ None) × (p ≡ None)
first_both a0 p e = search (arith, rules)

-- No value exceeds a limit if the greatest size and nesting are within the limits.
pub passed_none : (b : Budget) (x : Pairs) (ns : List Name) → greatest tree.size (named_values x ns) ≤ b.size
    → greatest tree.nesting (named_values x ns) ≤ b.nesting → passed b x ns ≡ None
passed_none b x [] h i = refl
passed_none b x (n ∷ ns) h i = along (λ h i. passed_none b x ns h i) (look n.text x) h i
  where
    along : (greatest tree.size (named_values x ns) ≤ b.size
        → greatest tree.nesting (named_values x ns) ≤ b.nesting → passed b x ns ≡ None)
        → (o : Option Tree) → greatest tree.size (with_found o (named_values x ns)) ≤ b.size
        → greatest tree.nesting (with_found o (named_values x ns)) ≤ b.nesting
        → first_of (limit_of_named b o) (passed b x ns) ≡ None
    along more None h i = more h i
    along more (Some t) h i =
        first_none _ _ (within b t (omega (arith, h)) (omega (arith, i)))
        (more (omega (arith, h)) (omega (arith, i)))

-- The greatest size and nesting are within the limits if no value exceeds a limit.
abbrev NamedWithin : Budget → List Tree → Type 0
NamedWithin b ts = (greatest tree.size ts ≤ b.size) × (greatest tree.nesting ts ≤ b.nesting)

pub passed_within : (b : Budget) (x : Pairs) (ns : List Name) → passed b x ns ≡ None
    → (greatest tree.size (named_values x ns) ≤ b.size) × (greatest tree.nesting (named_values x ns) ≤ b.nesting)
passed_within b x [] e = (omega arith, omega arith)
passed_within b x (n ∷ ns) e = along (λ e. passed_within b x ns e) (look n.text x) e
  where
    along : (passed b x ns ≡ None → NamedWithin b (named_values x ns)) → (o : Option Tree)
        → first_of (limit_of_named b o) (passed b x ns) ≡ None → NamedWithin b (with_found o (named_values x ns))
    along more None e = more e
    along more (Some t) e =
        let both = first_both _ _ e in
        let one = limits_kept b t both.0 in
        let rest = more both.1 in
        (omega (arith, one.0, rest.0), omega (arith, one.1, rest.1))

-- The room of a run at its start.
pub start_room : (b : Budget) (x : Pairs) (ns : List Name) (u : Used) (s : State) → passed b x ns ≡ None
    → (config_view s).left ≡ b → u ≡ start_use None (named_values x ns) → b.fuel < 2 ^ 64 → b.output < 2 ^ 64
    → HasRoom u s
start_room b x ns u s none e is f o =
    let w = passed_within b x ns none in
    record {
      fuel = omega (arith, ap (λ (v : Used). v.fuel) is, ap (λ (c : Budget). c.fuel) e, f);
      output = omega (arith, ap (λ (v : Used). v.output) is, ap (λ (c : Budget). c.output) e, o);
      size = omega (arith, ap (λ (v : Used). v.size) is, ap (λ (c : Budget). c.size) e, w.0);
      nesting = omega (arith, ap (λ (v : Used). v.nesting) is, ap (λ (c : Budget). c.nesting) e, w.1);
    }

-- The next name has passed the tests, and so have the names after it.
pub name_passed : (b : Budget) (x : Pairs) (ns : List Name) (i : ℕ) (n : Name) → Some n ≡ slice_get ns i
    → passed b x (drop i ns) ≡ None → (limit_of_named b (look n.text x) ≡ None) × (passed b x (drop (i + 1) ns) ≡ None)
name_passed b x ns i n is e =
    let d = drop_get ns i n is in
    let f : first_of (limit_of_named b (look n.text x)) (passed b x (drop (i + 1) ns)) ≡ None = rw d at e in
    first_both _ _ f

pub risen_none : (p : Peak) → p ≡ risen p []
risen_none p = same_peak _ _ (omega arith) (omega arith)

pub risen_by : (p q : Peak) (ts us : List Tree) → q.size ≡ max p.size (greatest tree.size ts)
    → q.nesting ≡ max p.nesting (greatest tree.nesting ts) → ts ≡ us → q ≡ risen p us
risen_by p q ts us h i e = rw (← e) (same_peak _ _ h i)

-- The use before the first step.
pub start_used : (l : Option config.Limit) (ts : List Tree) (p : Peak) → None ≡ l → p ≡ risen no_peak ts
    → record nothing_used { size = p.size; nesting = p.nesting } ≡ start_use l ts
start_used l ts p e is =
    rw (← e) (same_used _ _ refl refl refl (omega (arith, ap (λ (x : Peak). x.size) is))
    (omega (arith, ap (λ (x : Peak). x.nesting) is)))

-- ---- the number of values that an instruction pushes

pub kind_is : (n : ℕ) → has_result n ≡ not (n == 0)
kind_is zero = refl
kind_is (suc n) = grind (arith, nat_tests)

pub pushed_some : (k : Code) (n p : ℕ) (i : Instruction) → Some i ≡ instruction_at k n p
    → pushed_of (has_result_at k n) i ≡ pushed_there k n p
pushed_some k n p i e = along (slice_get k.units n) e
  where
    along : (o : Option Section) → Some i ≡ option_and_then (λ u. slice_get u.code p) o
        → pushed_of (result_in o) i
        ≡ pushed_at (option_and_then (λ u. option_and_then (λ i. Some (u, i)) (slice_get u.code p)) o)
    along None e = absurd cc
    along (Some u) e = rw (← e) refl

pub pushed_none : (k : Code) (n p : ℕ) → None ≡ instruction_at k n p → 0 ≡ pushed_there k n p
pushed_none k n p e = along (slice_get k.units n) e
  where
    along : (o : Option Section) → None ≡ option_and_then (λ u. slice_get u.code p) o
        → 0 ≡ pushed_at (option_and_then (λ u. option_and_then (λ i. Some (u, i)) (slice_get u.code p)) o)
    along None e = refl
    along (Some u) e = rw (← e) refl
