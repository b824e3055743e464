-- Each step takes fuel.
use Rattle.std.proofs.Common.{◌≡◌, ℕ, zero, suc, ◌+◌, ◌-◌, ◌<◌, ◌≤◌, Bool, false, Option, Some, None, ap, arith, refl}
use Rattle.std.proofs.Common.{rules}
use Rattle.std.specs.Prelude.{nat_lt}
use Rattle.std.proofs.lemmas.Bool.Decides.{nat_tests}
use Rattle.jt_image.specs.declared.instruction.Instruction.{Instruction}
use Rattle.jt_image.specs.Code.{Code, Section}
use Rattle.jt_image.specs.Config as config
use Rattle.jt_image.specs.Config.{Budget, Config, State}
use Rattle.jt_image.specs.Step.{Action, goes_on, ends, faulty, wrong, cost, fetch, strict}
use Rattle.jt_image.specs.Run.{Next, Goes, Ends, Wrong, after, next, next_at, spends, placed, then_goes, unless}
use Rattle.jt_value.specs.Place.{Place}
use Rattle.jt_image.specs.Places.{place_at}
use Rattle.jt_machine.specs.Session.{RunStage, going, led, moved, stage_progress}
use Rattle.jt_machine.specs.declared.outcome.Progress.TheVariants as progress
use Rattle.jt_turns.specs.SessionStates.{fuel_of}

-- Each instruction costs at least 1.
positive : (i : Instruction) (m : State) → 1 ≤ cost i m
positive a0 m = search (arith, rules)

-- A step that leads to another configuration passed its test.
passed_test : (b : Bool) (l : config.Limit) (n : Next) (c : Config) → unless b l n ≡ Goes c → (b ≡ false) × (n ≡ Goes c)
passed_test a0 l n c e = search (arith, rules)

fuel_of_next : Next → ℕ
fuel_of_next (Goes c) = c.left.fuel
fuel_of_next (Ends o) = 0
fuel_of_next Wrong = 0

fits : (a b : ℕ) → nat_lt a b ≡ false → b ≤ a
fits a b e = grind (arith, nat_tests)

spent_fuel : (n : ℕ) (a : Action) (b : Budget) (c : Config) → 1 ≤ n → spends n a b ≡ Goes c → c.left.fuel + 1 ≤ b.fuel
unfolding fuel_of_next
spent_fuel n (goes_on m d) b c some e =
    let f = passed_test (nat_lt b.fuel n) config.fuel _ c e in
    let g = passed_test (nat_lt b.depth d.calls) config.depth _ c f.1 in
    let h = passed_test (nat_lt b.output d.bytes) config.output _ c g.1 in
    let i = passed_test (nat_lt b.size d.size) config.size _ c h.1 in
    let j = passed_test (nat_lt b.nesting d.nesting) config.nesting _ c i.1 in
    let left : b.fuel - n ≡ c.left.fuel = ap fuel_of_next j.1 in
    let within = fits b.fuel n f.0 in
    omega (arith, left, within, some)
spent_fuel n (ends t) b c some e =
    let f = passed_test (nat_lt b.fuel n) config.fuel _ c e in let no = f.1 in absurd (cc)
spent_fuel n (faulty f) b c some e =
    let g = passed_test (nat_lt b.fuel n) config.fuel _ c e in let no = g.1 in absurd (cc)
spent_fuel n wrong b c some e = absurd (cc)

-- The place of a fault does not matter to a step that goes on.
goes_too : (q : Option Place) (n : Next) (d : Config) → placed q n ≡ Goes d → n ≡ Goes d
goes_too q a1 d e = search (arith, rules)

one_step : (k : Code) (o : Option (Section × Instruction)) (c d : Config) → next_at k o c ≡ Goes d
    → d.left.fuel + 1 ≤ c.left.fuel
one_step k None c d e = absurd (cc)
one_step k (Some p) c d e =
    let a = strict k p.0 p.1 c.machine in
    spent_fuel (cost p.1 c.machine.state) a c.left d (positive p.1 c.machine.state)
    (goes_too (place_at k c.machine.unit c.machine.point) (spends (cost p.1 c.machine.state) a c.left) d e)

-- `n` steps take at least `n` of the fuel.
pub steps_take : (k : Code) (n : ℕ) (c d : Config) → after k n c ≡ Goes d → d.left.fuel + n ≤ c.left.fuel
unfolding fuel_of_next
steps_take k zero c d e = let same : c.left.fuel ≡ d.left.fuel = ap fuel_of_next e in omega (arith, same)
steps_take k (suc n) c d e = go (next k c) refl e (λ m h. steps_take k n m d h)
  where
    go : (x : Next) → next k c ≡ x → then_goes x (after k n) ≡ Goes d
        → ((m : Config) → after k n m ≡ Goes d → d.left.fuel + n ≤ m.left.fuel)
        → d.left.fuel + suc n ≤ c.left.fuel
    go (Goes m) is h below =
        let first = one_step k (fetch k c.machine.unit c.machine.point) c m is in
        let rest = below m h in
        omega (arith, first, rest)
    go (Ends o) is h below = absurd (cc)
    go Wrong is h below = absurd (cc)

-- A session has no more fuel after a turn than before it, and less if it is still going.
pub no_more : (k : Code) (n : ℕ) (s : RunStage) → fuel_of (moved k n s) ≤ fuel_of s
no_more k n (going c) = go (after k n c) refl
  where
    go : (x : Next) → after k n c ≡ x → fuel_of (led x) ≤ c.left.fuel + 1
    go (Goes d) e = let less = steps_take k n c d e in omega (arith, less)
    go (Ends o) e = omega arith
    go Wrong e = omega arith
no_more k n a2 = omega arith

pub less : (k : Code) (n : ℕ) (s : RunStage) → 1 ≤ n → stage_progress (moved k n s) ≡ Some progress.Going
    → fuel_of (moved k n s) < fuel_of s
less k n (going c) some e = go (after k n c) refl e
  where
    go : (x : Next) → after k n c ≡ x → stage_progress (led x) ≡ Some progress.Going → fuel_of (led x) < c.left.fuel + 1
    go (Goes d) is h = let taken = steps_take k n c d is in omega (arith, taken, some)
    go (Ends o) is h = absurd (cc)
    go Wrong is h = absurd (cc)
less k n a2 some e = absurd (cc)
