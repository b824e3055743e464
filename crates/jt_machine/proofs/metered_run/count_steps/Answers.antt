use Rattle.jt_machine.proofs.Vocabulary.{Ends, Goes, after, next, ComesToGrow, config_view, outcome_view}
use Rattle.std.proofs.Common.{◌≡◌, ◌∙◌, ℕ, ◌-◌, ◌<◌, ◌≤◌, max, refl, ap, arith, sym}
use Rattle.jt_machine.specs.Metering.{used_within}
use Rattle.jt_machine.specs.internal.Peaks.{with_peak}
use Rattle.jt_machine.proofs.FastPathCorrect.{slice_gone, slice_on, underway_gone}
use Rattle.jt_machine.proofs.DrainedOutput.{on_err}
use Rattle.jt_machine.proofs.StepLemmas.{reached_sound}
use Rattle.jt_machine.proofs.SlicesAddUp.{reached_on, all_made, ended_within}
use Rattle.jt_machine.proofs.UseAddsUp.{deeper_on, slice_level}
use Rattle.jt_machine.proofs.MeteredSlices.{end_fits, less_left, slice_used, slice_used_to_end}
use Rattle.jt_machine.proofs.PeaksAddUp.{peak_first, peak_fits, peak_on, peak_same, pushed_within}
use Rattle.jt_machine.proofs.PushedMeasured.{step_measured}
use Rattle.jt_machine.proofs.metered_run.count_steps.Goals as goal

pub steps-init : goal.steps-init
steps-init g c =
    let none : c.args.k - c.from-left.result ≡ 0 = omega arith in
    record {
      within = omega arith;
      so_far = ap (λ (n : ℕ). after (g.C.Code.code c.args.code.now) n (config_view c.args.run.now.state)) none;
      deepest = c.open_calls-deepest.ensures
          ∙ ap (λ (n : ℕ). (used_within (g.C.Code.code c.args.code.now) n (config_view c.args.run.now.state)).depth)
          (sym none);
      peak = peak_first (g.C.Code.code c.args.code.now) _ (config_view c.args.run.now.state) c.args.run.now.peak none;
      size = c.requires.size;
      nesting = c.requires.nesting;
      reached = c.requires.reached;
      made = c.requires.made;
    }

pub open_calls-deepest-requires : goal.open_calls-deepest-requires
open_calls-deepest-requires g c = c.requires.reached.depth

pub step-requires-clause-sound : goal.step-requires-clause-sound
step-requires-clause-sound g c =
    let r = underway_gone c.steps.invariant.reached c.run_below-stopped.ensures.gone.gone in
    reached_sound c.code_laws.ensures (g.C.Code.code c.args.code.now) c.requires.whole c.requires.typed r.context
    r.budget (config_view c.run_below-stopped.new.state) (r.steps, r.reached)

pub step-requires-clause-depth : goal.step-requires-clause-depth
step-requires-clause-depth g c =
    (underway_gone c.steps.invariant.reached c.run_below-stopped.ensures.gone.gone).depth

pub steps-preserved : goal.steps-preserved
steps-preserved g c =
    let k = g.C.Code.code c.args.code.now in
    let gone = c.run_below-stopped.ensures.gone.gone in
    let e : next k (config_view c.run_below-stopped.new.state) ≡ Goes (config_view c.step.new.state) =
    c.in_ok-outcome.ensures.next ∙ rw c.in_default.is refl in
    let r = underway_gone c.steps.invariant.reached gone in
    let far = slice_gone c.args.k (config_view c.args.run.now.state) c.steps.invariant.within c.steps.invariant.so_far
    gone in
    let most : c.run_below-stopped.result.left ≤ c.args.k = omega (arith, c.steps.invariant.within, gone.count) in
    let level = slice_level c.args.k (config_view c.args.run.now.state) c.steps.invariant.within
    c.steps.invariant.so_far gone in
    let risen = c.peak_after-run.ensures ∙ rw c.pushed_here-pushed.ensures refl in
    let fits = peak_fits k _ _ c.steps.run.state c.run_below-stopped.new.state c.step.new.state c.steps.run.peak _
    c.run_below-stopped.ensures.gone e c.steps.invariant.size c.steps.invariant.nesting risen in
    record {
      within = omega (arith, most);
      so_far =
          slice_on k c.args.k c.run_below-stopped.result.left (config_view c.args.run.now.state)
          (config_view c.run_below-stopped.new.state) (config_view c.step.new.state) (omega arith) most far e;
      deepest = deeper_on k c.args.k c.run_below-stopped.result.left (config_view c.args.run.now.state)
          (config_view c.run_below-stopped.new.state) (config_view c.step.new.state) _ _ (omega arith) most far e
          (c.steps.invariant.deepest ∙ sym level)
          (c.max-deepest.ensures ∙ ap (λ (n : ℕ). max c.steps.deepest n) c.open_calls.ensures);
      peak = peak_on k c.args.k c.run_below-stopped.result.left (config_view c.args.run.now.state)
          (config_view c.run_below-stopped.new.state) (config_view c.step.new.state) _ _ _ (omega arith) most far e
          (peak_same c.args.k (config_view c.args.run.now.state) c.args.run.now.peak c.steps.run.peak
          c.steps.invariant.within c.steps.invariant.so_far
          c.run_below-stopped.ensures.gone c.steps.invariant.peak)
          risen;
      size = fits.0;
      nesting = fits.1;
      reached =
          reached_on c.code_laws.ensures k c.requires.whole c.requires.typed c.run_below-stopped.new.state
          c.step.new.state r e;
      made = c.in_ok-outcome.ensures.made;
    }

pub steps-smaller : goal.steps-smaller
steps-smaller g c = omega (arith, c.run_below-stopped.ensures.gone.gone.count)

pub use_between-requires : goal.use_between-requires
use_between-requires g c =
    let k = g.C.Code.code c.args.code.now in
    let far = slice_gone c.args.k (config_view c.args.run.now.state) c.steps.invariant.within c.steps.invariant.so_far
    c.run_below-stopped.ensures.gone.gone in
    let less = less_left k (c.args.k - c.run_below-stopped.result.left) c.args.run.now.state
    c.run_below-stopped.new.state far in
    record { fuel = less.0; output = less.1 }

pub returns-then-stopped-eq0-clause-steps : goal.returns-then-stopped-eq0-clause-steps
returns-then-stopped-eq0-clause-steps g c =
    let k = g.C.Code.code c.args.code.now in
    let far = slice_gone c.args.k (config_view c.args.run.now.state) c.steps.invariant.within c.steps.invariant.so_far
    c.run_below-stopped.ensures.gone.gone in
    all_made k (c.args.k - c.run_below-stopped.result.left) c.args.k (config_view c.args.run.now.state)
    (config_view c.run_below-stopped.new.state) far (omega arith) (omega arith)

pub returns-then-stopped-eq0-clause-used : goal.returns-then-stopped-eq0-clause-used
returns-then-stopped-eq0-clause-used g c =
    let k = g.C.Code.code c.args.code.now in
    let first = config_view c.args.run.now.state in
    let gone = c.run_below-stopped.ensures.gone.gone in
    let far = slice_gone c.args.k first c.steps.invariant.within c.steps.invariant.so_far gone in
    let level = slice_level c.args.k first c.steps.invariant.within c.steps.invariant.so_far gone in
    let all : c.args.k - c.run_below-stopped.result.left ≡ c.args.k = omega arith in
    c.use_between.ensures
    ∙ slice_used k (c.args.k - c.run_below-stopped.result.left) c.args.run.now.state c.run_below-stopped.new.state
    c.steps.deepest c.args.run.now.peak _ far (c.steps.invariant.deepest ∙ sym level)
    (peak_same c.args.k first c.args.run.now.peak c.steps.run.peak c.steps.invariant.within
    c.steps.invariant.so_far c.run_below-stopped.ensures.gone
    c.steps.invariant.peak)
    ∙ ap (λ (n : ℕ). with_peak c.args.run.now.peak (used_within k n first)) all

pub returns-then-stopped-eq0-clause-reached : goal.returns-then-stopped-eq0-clause-reached
returns-then-stopped-eq0-clause-reached g c =
    underway_gone c.steps.invariant.reached c.run_below-stopped.ensures.gone.gone

pub returns-in_err-outcome-clause-memory : goal.returns-in_err-outcome-clause-memory
returns-in_err-outcome-clause-memory g c =
    let k = g.C.Code.code c.args.code.now in
    let far = slice_gone c.args.k (config_view c.args.run.now.state) c.steps.invariant.within c.steps.invariant.so_far
    c.run_below-stopped.ensures.gone.gone in
    let comes : ComesToGrow k (config_view c.args.run.now.state) = record {
      steps = c.args.k - c.run_below-stopped.result.left;
      last = config_view c.run_below-stopped.new.state;
      reached = far;
      grows = c.in_err-outcome.ensures.memory;
    } in
    let less : c.args.k - c.run_below-stopped.result.left < c.args.k =
    omega (arith, c.steps.invariant.within, c.run_below-stopped.ensures.gone.gone.count) in
    on_err c.from_residual.result (comes, less)

pub overflow_sub-last : goal.overflow_sub-last
overflow_sub-last g c =
    let k = g.C.Code.code c.args.code.now in
    let o = outcome_view c.in-Some.outcome in
    let e : next k (config_view c.run_below-stopped.new.state) ≡ Ends o =
    c.in_ok-outcome.ensures.next ∙ rw c.in-Some.is refl in
    omega (arith, c.end_cost.ensures, end_fits k c.run_below-stopped.new.state o e)

pub use_between-requires-in-Some : goal.use_between-requires-in-Some
use_between-requires-in-Some g c =
    let k = g.C.Code.code c.args.code.now in
    let far = slice_gone c.args.k (config_view c.args.run.now.state) c.steps.invariant.within c.steps.invariant.so_far
    c.run_below-stopped.ensures.gone.gone in
    let less = less_left k (c.args.k - c.run_below-stopped.result.left) c.args.run.now.state
    c.run_below-stopped.new.state far in
    record { fuel = omega (arith, less.0); output = less.1 }

pub returns-in-Some-clause-steps : goal.returns-in-Some-clause-steps
returns-in-Some-clause-steps g c =
    let k = g.C.Code.code c.args.code.now in
    let o = outcome_view c.in-Some.outcome in
    let e : next k (config_view c.run_below-stopped.new.state) ≡ Ends o =
    c.in_ok-outcome.ensures.next ∙ rw c.in-Some.is refl in
    let far = slice_gone c.args.k (config_view c.args.run.now.state) c.steps.invariant.within c.steps.invariant.so_far
    c.run_below-stopped.ensures.gone.gone in
    ended_within k (c.args.k - c.run_below-stopped.result.left) c.args.k (config_view c.args.run.now.state)
    (config_view c.run_below-stopped.new.state) o far e
    (omega (arith, c.steps.invariant.within, c.run_below-stopped.ensures.gone.gone.count))

pub returns-in-Some-clause-used : goal.returns-in-Some-clause-used
returns-in-Some-clause-used g c =
    let k = g.C.Code.code c.args.code.now in
    let first = config_view c.args.run.now.state in
    let gone = c.run_below-stopped.ensures.gone.gone in
    let o = outcome_view c.in-Some.outcome in
    let e : next k (config_view c.run_below-stopped.new.state) ≡ Ends o =
    c.in_ok-outcome.ensures.next ∙ rw c.in-Some.is refl in
    let far = slice_gone c.args.k first c.steps.invariant.within c.steps.invariant.so_far gone in
    let level = slice_level c.args.k first c.steps.invariant.within c.steps.invariant.so_far gone in
    let used = slice_used_to_end k (c.args.k - c.run_below-stopped.result.left) c.args.k c.args.run.now.state
    c.run_below-stopped.new.state o c.steps.deepest c.args.run.now.peak _ far e
    (omega (arith, c.steps.invariant.within, gone.count)) (c.steps.invariant.deepest ∙ sym level)
    (peak_same c.args.k first c.args.run.now.peak c.steps.run.peak c.steps.invariant.within
    c.steps.invariant.so_far c.run_below-stopped.ensures.gone
    c.steps.invariant.peak) in
    rw c.end_cost.ensures at c.use_between-in-Some.ensures ∙ used

pub open_calls-requires : goal.open_calls-requires
open_calls-requires g c =
    let k = g.C.Code.code c.args.code.now in
    let e : next k (config_view c.run_below-stopped.new.state) ≡ Goes (config_view c.step.new.state) =
    c.in_ok-outcome.ensures.next ∙ rw c.in_default.is refl in
    let r = underway_gone c.steps.invariant.reached c.run_below-stopped.ensures.gone.gone in
    (reached_on c.code_laws.ensures k c.requires.whole c.requires.typed c.run_below-stopped.new.state c.step.new.state
    r e).depth

pub pushed_here-pushed-requires : goal.pushed_here-pushed-requires
pushed_here-pushed-requires g c = c.run_below-stopped.ensures.prefetched

pub peak_after-run-requires-clause-has : goal.peak_after-run-requires-clause-has
peak_after-run-requires-clause-has g c =
    let k = g.C.Code.code c.args.code.now in
    let e : next k (config_view c.run_below-stopped.new.state) ≡ Goes (config_view c.step.new.state) =
    c.in_ok-outcome.ensures.next ∙ rw c.in_default.is refl in
    rw c.pushed_here-pushed.ensures
    (step_measured k (config_view c.run_below-stopped.new.state) (config_view c.step.new.state) e).has

pub peak_after-run-requires-clause-size : goal.peak_after-run-requires-clause-size
peak_after-run-requires-clause-size g c =
    let k = g.C.Code.code c.args.code.now in
    let e : next k (config_view c.run_below-stopped.new.state) ≡ Goes (config_view c.step.new.state) =
    c.in_ok-outcome.ensures.next ∙ rw c.in_default.is refl in
    rw c.pushed_here-pushed.ensures (pushed_within k c.run_below-stopped.new.state c.step.new.state e).0

pub peak_after-run-requires-clause-nesting : goal.peak_after-run-requires-clause-nesting
peak_after-run-requires-clause-nesting g c =
    let k = g.C.Code.code c.args.code.now in
    let e : next k (config_view c.run_below-stopped.new.state) ≡ Goes (config_view c.step.new.state) =
    c.in_ok-outcome.ensures.next ∙ rw c.in_default.is refl in
    rw c.pushed_here-pushed.ensures (pushed_within k c.run_below-stopped.new.state c.step.new.state e).1
