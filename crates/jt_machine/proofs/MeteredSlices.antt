-- What the states of a machine have left is what a slice has not used.
use Rattle.jt_machine.proofs.Vocabulary.{CodeLaws, IsCode, IsSafe, IsTyped, Pairs}
use Rattle.jt_machine.proofs.Vocabulary.{Code, Config, Ends, Goes, Next, Outcome, State, Wrong, after, config_view}
use Rattle.jt_machine.proofs.Vocabulary.{next}
use Rattle.std.proofs.Common.{◌≡◌, ◌∙◌, ℕ, ◌+◌, ◌-◌, ◌<◌, ◌≤◌, ◌^◌, arith, ap, refl, subst, sym}
use Rattle.jt_budget.specs.declared.budget.Budget.{Budget}
use Rattle.jt_image.specs.Config.{Budget as Limits}
use Rattle.jt_machine.specs.declared.machine.Stage.{Stage}
use Rattle.jt_machine.specs.declared.machine.Stage.TheVariants as stage
use Rattle.jt_machine.specs.declared.metered_run.Used.{Used}
use Rattle.jt_machine.specs.Metering.{together, used_within}
use Rattle.jt_machine.specs.Session.{going, led}
use Rattle.jt_machine.specs.StageView.{stage_view}
use Rattle.jt_machine.specs.MeterRoom.{HasRoom, LeavesRoom}
use Rattle.jt_machine.specs.internal.Meters.{end_cost, used_up}
use Rattle.jt_machine.specs.internal.Peaks.{peak_of, with_peak}
use Rattle.jt_machine.specs.declared.peaks.Peak.{Peak}
use Rattle.jt_machine.proofs.LimitsRaised.{kept_within}
use Rattle.jt_machine.proofs.UseAddsUp.{have_taken, last_cost, same_used, used_to_end, within_left}

-- ---- the steps of one slice

-- What a state has left is no more than what an earlier state had left.
pub less_left : (k : Code) (n : ℕ) (s t : State) → after k n (config_view s) ≡ Goes (config_view t)
    → (t.left.fuel ≤ s.left.fuel) × (t.left.output ≤ s.left.output)
less_left k n s t e =
    let h = have_taken k n (config_view s) (config_view t) e in (omega (arith, h.fuel), omega (arith, h.output))

-- The peak is that of earlier values and of the values that some steps push.
abbrev pub IsPeak : Peak → Peak → Used → Type 0
IsPeak p q u = q ≡ peak_of (with_peak p u)

pub slice_used : (k : Code) (n : ℕ) (s t : State) (deepest : ℕ) (p q : Peak)
    → after k n (config_view s) ≡ Goes (config_view t) → deepest ≡ (used_within k n (config_view s)).depth
    → IsPeak p q (used_within k n (config_view s))
    → used_up s.left t.left deepest q ≡ with_peak p (used_within k n (config_view s))
slice_used k n s t deepest p q e d i =
    let h = have_taken k n (config_view s) (config_view t) e in
    same_used _ _ (omega (arith, h.fuel)) (omega (arith, h.output)) d (ap (λ (x : Peak). x.size) i)
    (ap (λ (x : Peak). x.nesting) i)

-- The budget of a state after the end of its run has taken its cost.
abbrev pub at_end : Outcome → State → Budget
at_end o t = record t.left { fuel = t.left.fuel - end_cost o }

pub slice_used_to_end : (k : Code) (n m : ℕ) (s t : State) (o : Outcome) (deepest : ℕ) (p q : Peak)
    → after k n (config_view s) ≡ Goes (config_view t) → next k (config_view t) ≡ Ends o → n < m
    → deepest ≡ (used_within k n (config_view s)).depth → IsPeak p q (used_within k n (config_view s))
    → used_up s.left (at_end o t) deepest q ≡ with_peak p (used_within k m (config_view s))
slice_used_to_end k n m s t o deepest p q e f lt d i =
    let h = have_taken k n (config_view s) (config_view t) e in
    let whole = used_to_end k n m (config_view s) (config_view t) o e f lt in
    let cost = (last_cost k (config_view t) o f).1 in
    same_used (used_up s.left (at_end o t) deepest q) (with_peak p (used_within k m (config_view s)))
    (omega (arith, h.fuel, cost, ap (λ (u : Used). u.fuel) whole))
    (omega (arith, h.output, ap (λ (u : Used). u.output) whole))
    (d ∙ sym (ap (λ (u : Used). u.depth) whole))
    (omega (arith, ap (λ (x : Peak). x.size) i, ap (λ (u : Used). u.size) whole))
    (omega (arith, ap (λ (x : Peak). x.nesting) i, ap (λ (u : Used). u.nesting) whole))

-- The cost of the end fits what is left.
pub end_fits : (k : Code) (t : State) (o : Outcome) → next k (config_view t) ≡ Ends o → end_cost o ≤ t.left.fuel
end_fits k t o e = (last_cost k (config_view t) o e).1

-- ---- the room of a run

led_goes : (x : Next) (c : Config) → going c ≡ led x → x ≡ Goes c
led_goes (Goes d) c e = cc e
led_goes (Ends o) c e = absurd cc
led_goes Wrong c e = absurd cc

-- If what was used and what is left fit together, they do so after a slice.
pub room_after : (k : Code) (n : ℕ) (u : Used) (s : State) (r : Stage) → HasRoom u s
    → stage_view r ≡ led (after k n (config_view s)) → LeavesRoom (together u (used_within k n (config_view s))) r
room_after k n u s (stage.Going t) room e =
    let h = have_taken k n (config_view s) (config_view t) (led_goes _ _ e) in
    let w = kept_within k n (config_view s) (config_view t) (led_goes _ _ e) in
    record {
      fuel = omega (arith, h.fuel, room.fuel);
      output = omega (arith, h.output, room.output);
      size = omega (arith, room.size, w.size, w.same_size);
      nesting = omega (arith, room.nesting, w.nesting, w.same_nesting);
    }
room_after k n u s (stage.Done o) room e = tt
room_after k n u s stage.Lost room e = tt

-- What a slice uses fits 64 bits together with what was used before it.
pub slice_fits : (k : Code) (n : ℕ) (u v : Used) (p : Peak) (s : State) → HasRoom u s
    → v ≡ with_peak p (used_within k n (config_view s))
    → (u.fuel + v.fuel < 2 ^ 64) × (u.output + v.output < 2 ^ 64)
slice_fits k n u v p s room e =
    let w = within_left k n (config_view s) in (
      omega (arith, room.fuel, w.0, ap (λ (x : Used). x.fuel) e),
      omega (arith, room.output, w.1, ap (λ (x : Used). x.output) e),
    )

-- The peak of the values before a slice counts once.
pub once : (u v : Used) → together u (with_peak (peak_of u) v) ≡ together u v
once u v = same_used _ _ refl refl refl (omega arith) (omega arith)

-- The room of a run that goes on.
pub room_of : (u : Used) (r : Stage) (s : State) → r ≡ stage.Going s → LeavesRoom u r → HasRoom u s
room_of u r s e room = subst (λ (t : Stage). LeavesRoom u t) e room

-- Every run of a typed code is safe.
pub all_safe : CodeLaws → (j k : Code) → j ≡ k → IsCode j → IsTyped j → (x : Pairs) (b : Limits) → IsSafe k x b
all_safe laws j k e whole typed x b = subst (λ (i : Code). IsSafe i x b) e ((laws.runs j whole typed).safe x b)
