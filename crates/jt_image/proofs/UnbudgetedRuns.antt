-- Runs without a budget. A budget does not change a run that it does not end, and each run that
-- ends has a sufficient budget.
use Rattle.std.proofs.Common.{◌≡◌, ℕ, zero, suc, ◌+◌, ◌≤◌, Bool, true, false, List, [], ◌∷◌, Option, Some, None, refl}
use Rattle.std.proofs.Common.{sym, ap, subst, ◌∙◌, arith, rules}
use Rattle.std.specs.Prelude.{nat_lt}
use Rattle.std.proofs.lemmas.Bool.Decides.{nat_tests}
use Rattle.jt_value.specs.Tree as tree
use Rattle.jt_value.specs.Tree.{Tree}
use Rattle.jt_value.specs.Pairs.{Pairs, look}
use Rattle.jt_value.specs.declared.fault.Fault.{Fault}
use Rattle.jt_image.specs.declared.instruction.Instruction.{Instruction}
use Rattle.jt_image.specs.Code.{Name, Section, Code}
use Rattle.jt_value.specs.Place.{Place}
use Rattle.jt_image.specs.Places.{place_at}
use Rattle.jt_image.specs.Config as config
use Rattle.jt_image.specs.Config.{Budget, Outcome, Caller, MachineState, Config}
use Rattle.jt_image.specs.Step.{Demand, Action, goes_on, ends, faulty, wrong, action, strict, cost, fetch}
use Rattle.jt_image.specs.Run.{Next, Goes, Ends, spared, unless, spends, placed, next_at, limit_of, first_of}
use Rattle.jt_image.specs.Run.{limit_of_named, passed, start, then_goes, after, Ending, RunFrom, Run}
use Rattle.jt_image.specs.Enough.{AtLeast, Enough}
use Rattle.jt_image.specs.FreeRun.{Free, Finished, Failed, Stuck, Going, on_action, exec, start_machine}
use Rattle.jt_image.proofs.TypeSafety.{IsFit, IsFineAction, IsReady, ready}

abbrev pub strict_at : Code → Option (Section × Instruction) → MachineState → (MachineState → Free) → Free
strict_at k None m go = Stuck
strict_at k (Some (u, i)) m go = on_action (place_at k m.unit m.point) (strict k u i m) go

-- The run of at most `n` instructions, with the tests of the tables.
abbrev pub exec_strict : Code → ℕ → MachineState → Free
exec_strict k zero m = Going
exec_strict k (suc n) m = strict_at k (fetch k m.unit m.point) m (exec_strict k n)

-- A run that has ended with a text or a fault.
abbrev pub IsMeant : Free → Type 0
IsMeant (Finished t) = Unit {0}
IsMeant (Failed f z) = Unit {0}
IsMeant Stuck = ⊥
IsMeant Going = ⊥

-- The outcome of a run that has ended.
abbrev pub outcome_of : Free → Outcome
outcome_of (Finished t) = config.text t
outcome_of (Failed f z) = config.fault f z
outcome_of Stuck = config.text []
outcome_of Going = config.text []

abbrev pub on_machine : MachineState → Budget → Config
on_machine m b = record { machine = m; left = b }

-- ---- a text or a fault under a budget is that of the run without one

-- A test of the budget that passed has no effect.
passes : (b : Bool) (l : config.Limit) (n : Next) (o : Free) → IsMeant o → unless b l n ≡ Ends (outcome_of o)
    → n ≡ Ends (outcome_of o)
passes a0 l n a3 h e = search (arith, rules)

text_is : (t : List ℕ) (o : Free) → IsMeant o → Ends (config.text t) ≡ Ends (outcome_of o) → Finished t ≡ o
text_is t a1 h e = search (arith, rules)

fault_is : (f : Fault) (z : Option Place) (o : Free) → IsMeant o → Ends (config.fault f z) ≡ Ends (outcome_of o)
    → Failed f z ≡ o
fault_is f z a2 h e = search (arith, rules)

erased_step : (n : ℕ) (z : Option Place) (a : Action) (b : Budget) (go : Config → Next) (free : MachineState → Free)
    (o : Free)
    → IsMeant o → ((m : MachineState) (b : Budget) → go (on_machine m b) ≡ Ends (outcome_of o) → free m ≡ o)
    → then_goes (placed z (spends n a b)) go ≡ Ends (outcome_of o) → on_action z a free ≡ o
erased_step n z (goes_on m d) b go free o h rest e =
    through (nat_lt b.fuel n) (nat_lt b.depth d.calls) (nat_lt b.output d.bytes) (nat_lt b.size d.size)
    (nat_lt b.nesting d.nesting) e
  where
    spent_is : (l : config.Limit) → Ends (config.spent l) ≡ Ends (outcome_of o) → free m ≡ o
    spent_is l e' = absurd (no_spent o h e')
      where
        no_spent : (o : Free) → IsMeant o → Ends (config.spent l) ≡ Ends (outcome_of o) → ⊥
        no_spent (Finished t) h e' = cc
        no_spent (Failed f z) h e' = cc
        no_spent Stuck h e' = h
        no_spent Going h e' = h

    through : (p q r s t : Bool) → then_goes (placed z
        (unless p config.fuel (unless q config.depth
        (unless r config.output
        (unless s config.size (unless t config.nesting (Goes (on_machine m (spared n d b))))))))) go
        ≡ Ends (outcome_of o)
        → free m ≡ o
    through true q r s t e' = spent_is config.fuel e'
    through false true r s t e' = spent_is config.depth e'
    through false false true s t e' = spent_is config.output e'
    through false false false true t e' = spent_is config.size e'
    through false false false false true e' = spent_is config.nesting e'
    through false false false false false e' = rest m (spared n d b) e'
erased_step n z a2 b go free o h rest e = search (arith, rules, text_is, passes, fault_is)

erased_at : (k : Code) (q : Option (Section × Instruction)) (m : MachineState) (b : Budget) (go : Config → Next)
    (free : MachineState → Free) (o : Free)
    → IsMeant o → ((m : MachineState) (b : Budget) → go (on_machine m b) ≡ Ends (outcome_of o) → free m ≡ o)
    → then_goes (next_at k q (on_machine m b)) go ≡ Ends (outcome_of o) → strict_at k q m free ≡ o
erased_at k None m b go free o h rest e = absurd cc
erased_at k (Some (u, i)) m b go free o h rest e =
    erased_step (cost i m.state) (place_at k m.unit m.point) (strict k u i m) b go free o h rest e

pub erased : (k : Code) (n : ℕ) (m : MachineState) (b : Budget) (o : Free) → IsMeant o
    → after k n (on_machine m b) ≡ Ends (outcome_of o) → exec_strict k n m ≡ o
erased k zero m b o h e = absurd cc
erased k (suc n) m b o h e =
    erased_at k (fetch k m.unit m.point) m b (after k n) (exec_strict k n) o h (λ m' b' e'. erased k n m' b' o h e') e

-- ---- a run that ends has a budget

lets : (x y : ℕ) (l : config.Limit) (n : Next) → y ≤ x → unless (nat_lt x y) l n ≡ n
lets x y l n h = let t : nat_lt x y ≡ false = grind (arith, nat_tests) in ap (λ b. unless b l n) t

abbrev more_for : ℕ → Demand → Budget → Budget
more_for n d a = record {
  fuel = n + a.fuel;
  depth = d.calls + a.depth;
  output = d.bytes + a.output;
  size = d.size + a.size;
  nesting = d.nesting + a.nesting;
}

abbrev pub only_fuel : ℕ → Budget
only_fuel n = record { fuel = n; depth = 0; output = 0; size = 0; nesting = 0 }

-- Each sufficiently large budget leads to the outcome.
abbrev Suffices : (Config → Next) → MachineState → Free → Type 0
Suffices go m o = (a : Budget) × ((b : Budget) → AtLeast a b → go (on_machine m b) ≡ Ends (outcome_of o))

enough_step : (n : ℕ) (z : Option Place) (a : Action) (go : Config → Next) (free : MachineState → Free) (o : Free)
    → IsMeant o → ((m : MachineState) → free m ≡ o → Suffices go m o)
    → on_action z a free ≡ o
    → (l : Budget) × ((b : Budget) → AtLeast l b → then_goes (placed z (spends n a b)) go ≡ Ends (outcome_of o))
enough_step n z (goes_on m d) go free o h rest e =
    let r = rest m e in (
      more_for n d r.0,
      λ b at. ap (λ x. then_goes (placed z x) go)
          (lets b.fuel n config.fuel _ (omega (arith, at.fuel))
          ∙ lets b.depth d.calls config.depth _ (omega (arith, at.depth))
          ∙ lets b.output d.bytes config.output _ (omega (arith, at.output))
          ∙ lets b.size d.size config.size _ (omega (arith, at.size))
          ∙ lets b.nesting d.nesting config.nesting _ (omega (arith, at.nesting)))
          ∙ r.1 (spared n d b) (record {
            fuel = omega (arith, at.fuel);
            depth = omega (arith, at.depth);
            output = omega (arith, at.output);
            size = omega (arith, at.size);
            nesting = omega (arith, at.nesting);
          }),
    )
enough_step n z (ends t) go free o h rest e = (
  only_fuel n,
  λ b at. ap (λ x. then_goes (placed z x) go) (lets b.fuel n config.fuel (Ends (config.text t)) at.fuel)
      ∙ ap (λ f. Ends (outcome_of f)) e,
)
enough_step n z (faulty f) go free o h rest e = (
  only_fuel n,
  λ b at. ap (λ x. then_goes (placed z x) go) (lets b.fuel n config.fuel (Ends (config.fault f None)) at.fuel)
      ∙ ap (λ g. Ends (outcome_of g)) e,
)
enough_step n z wrong go free o h rest e = absurd (subst IsMeant (sym e) h)

enough_at : (k : Code) (q : Option (Section × Instruction)) (m : MachineState) (go : Config → Next)
    (free : MachineState → Free) (o : Free)
    → IsMeant o → ((m : MachineState) → free m ≡ o → Suffices go m o)
    → strict_at k q m free ≡ o
    → (l : Budget) × ((b : Budget) → AtLeast l b → then_goes (next_at k q (on_machine m b)) go ≡ Ends (outcome_of o))
enough_at k None m go free o h rest e = absurd (subst IsMeant (sym e) h)
enough_at k (Some (u, i)) m go free o h rest e =
    enough_step (cost i m.state) (place_at k m.unit m.point) (strict k u i m) go free o h rest e

pub enough : (k : Code) (n : ℕ) (m : MachineState) (o : Free) → IsMeant o → exec_strict k n m ≡ o
    → Suffices (after k n) m o
enough k zero m o h e = absurd (subst IsMeant (sym e) h)
enough k (suc n) m o h e =
    enough_at k (fetch k m.unit m.point) m (after k n) (exec_strict k n) o h (λ m' e'. enough k n m' o h e') e

-- ---- the test of the context passes under every sufficiently large budget

limit_passes : (b : Budget) (t : Tree) → tree.size t ≤ b.size → tree.nesting t ≤ b.nesting → limit_of b t ≡ None
limit_passes b t s n = search (arith, rules, nat_tests)

named_fits : (o : Option Tree) → (a : Budget) × ((b : Budget) → AtLeast a b → limit_of_named b o ≡ None)
named_fits None = (only_fuel 0, λ b at. refl)
named_fits (Some t) = (
  record { fuel = 0; depth = 0; output = 0; size = tree.size t; nesting = tree.nesting t },
  λ b at. limit_passes b t at.size at.nesting,
)

abbrev sum_of : Budget → Budget → Budget
sum_of a b = record {
  fuel = a.fuel + b.fuel;
  depth = a.depth + b.depth;
  output = a.output + b.output;
  size = a.size + b.size;
  nesting = a.nesting + b.nesting;
}

first_at_least : (a b c : Budget) → AtLeast (sum_of a b) c → AtLeast a c
first_at_least a b c at = search (arith, rules)

second_at_least : (a b c : Budget) → AtLeast (sum_of a b) c → AtLeast b c
second_at_least a b c at = search (arith, rules)

context_fits : (x : Pairs) (ns : List Name) → (a : Budget) × ((b : Budget) → AtLeast a b → passed b x ns ≡ None)
context_fits x [] = (only_fuel 0, λ b at. refl)
context_fits x (n ∷ ns) =
    let f = named_fits (look n.text x) in
    let r = context_fits x ns in (
      sum_of f.0 r.0,
      λ b at. ap (λ o. first_of o (passed b x ns)) (f.1 b (first_at_least f.0 r.0 b at))
          ∙ r.1 b (second_at_least f.0 r.0 b at),
    )

-- ---- whole runs

-- A run without a budget that ends has a sufficient budget.
pub enough_run : (k : Code) (x : Pairs) (n : ℕ) (o : Free) → IsMeant o → exec_strict k n (start_machine k x) ≡ o
    → Enough k x (outcome_of o)
enough_run k x n o h e =
    let a = enough k n (start_machine k x) o h e in
    let c = context_fits x k.names in (
      sum_of a.0 c.0,
      λ b at.
          let fits : passed b x k.names ≡ None = c.1 b (second_at_least a.0 c.0 b at) in
          let ending : Ending k (start k x b) (outcome_of o) = (n, a.1 b (first_at_least a.0 c.0 b at)) in
          subst (λ p. RunFrom p k x b (outcome_of o)) (sym fits) ending,
    )

run_from_erased : (k : Code) (x : Pairs) (b : Budget) (p : Option config.Limit) (o : Free) → IsMeant o
    → RunFrom p k x b (outcome_of o) → (n : ℕ) × (exec_strict k n (start_machine k x) ≡ o)
run_from_erased k x b a3 a4 h r = search (arith, rules, erased)

-- A text or a fault under a budget is also the result of the run without one.
pub run_erased : (k : Code) (x : Pairs) (b : Budget) (o : Free) → IsMeant o → Run k x b (outcome_of o)
    → (n : ℕ) × (exec_strict k n (start_machine k x) ≡ o)
run_erased k x b o h r = run_from_erased k x b (passed b x k.names) o h r

-- ---- the tests of the tables have no effect for a typed code

-- An action that is not wrong passed its test.
same_action : (k : Code) (u : Section) (i : Instruction) (m : MachineState) (es : List config.StackEntry)
    (above : List Caller)
    → IsFineAction k es above (strict k u i m) → strict k u i m ≡ action k u i m
same_action k u i m es above fine = search (arith, rules)

same_on : (k : Code) (z : Option Place) (es : List config.StackEntry) (above : List Caller) (a : Action)
    (go go' : MachineState → Free)
    → IsFineAction k es above a → ((m : MachineState) → IsFit k m → go m ≡ go' m) → on_action z a go ≡ on_action z a go'
same_on k z es above a4 go go' fine h = search (arith, rules)

same_at : (k : Code) (n : ℕ) (m : MachineState) (r : IsReady k m)
    → ((m : MachineState) → IsFit k m → exec_strict k n m ≡ exec k n m) → exec_strict k (suc n) m ≡ exec k (suc n) m
same_at k n m r h = search (arith, rules, same_on, same_action)

pub same_exec : (k : Code) (n : ℕ) (m : MachineState) → IsFit k m → exec_strict k n m ≡ exec k n m
same_exec k zero m g = refl
same_exec k (suc n) m g = same_at k n m (ready k m g) (λ m' g'. same_exec k n m' g')
