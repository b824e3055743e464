use Rattle.jt_machine.proofs.Vocabulary.{Ends, Goes, after, next, ComesToGrow, config_view, outcome_view}
use Rattle.std.proofs.Common.{◌≡◌, ◌∙◌, ℕ, ◌-◌, ◌<◌, refl, ap, arith}
use Rattle.jt_machine.proofs.FastPathCorrect.{slice_gone, slice_on, underway_gone}
use Rattle.jt_machine.proofs.DrainedOutput.{on_err}
use Rattle.jt_machine.proofs.StepLemmas.{reached_sound}
use Rattle.jt_machine.proofs.SlicesAddUp.{reached_on, all_made, ended_within}
use Rattle.jt_machine.proofs.machine.take_steps.Goals as goal

pub steps-init : goal.steps-init
steps-init g c =
    let none : c.args.k - c.from-left.result ≡ 0 = omega arith in
    record {
      within = omega arith;
      so_far = ap (λ (n : ℕ). after (g.C.Code.code c.args.code.now) n (config_view c.args.state.now)) none;
      reached = c.requires.reached;
      made = c.requires.made;
    }

pub step-requires-clause-sound : goal.step-requires-clause-sound
step-requires-clause-sound g c =
    let r = underway_gone c.steps.invariant.reached c.run_fast-stopped.ensures.gone in
    reached_sound c.code_laws.ensures (g.C.Code.code c.args.code.now) c.requires.whole c.requires.typed r.context
    r.budget (config_view c.run_fast-stopped.new.state) (r.steps, r.reached)

pub step-requires-clause-depth : goal.step-requires-clause-depth
step-requires-clause-depth g c =
    (underway_gone c.steps.invariant.reached c.run_fast-stopped.ensures.gone).depth

pub steps-preserved : goal.steps-preserved
steps-preserved g c =
    let k = g.C.Code.code c.args.code.now in
    let e : next k (config_view c.run_fast-stopped.new.state) ≡ Goes (config_view c.step.new.state) =
    c.in_ok-outcome.ensures.next ∙ rw c.in_default.is refl in
    let r = underway_gone c.steps.invariant.reached c.run_fast-stopped.ensures.gone in
    let far = slice_gone c.args.k (config_view c.args.state.now) c.steps.invariant.within c.steps.invariant.so_far
    c.run_fast-stopped.ensures.gone in
    record {
      within = omega (
        arith,
        c.steps.invariant.within,
        c.run_fast-stopped.ensures.gone.count,
      );
      so_far =
          slice_on k c.args.k c.run_fast-stopped.result.left (config_view c.args.state.now)
          (config_view c.run_fast-stopped.new.state) (config_view c.step.new.state) (omega arith)
          (omega (
            arith,
            c.steps.invariant.within,
            c.run_fast-stopped.ensures.gone.count,
          )) far
          e;
      reached =
          reached_on c.code_laws.ensures k c.requires.whole c.requires.typed c.run_fast-stopped.new.state
          c.step.new.state
          r e;
      made = c.in_ok-outcome.ensures.made;
    }

pub steps-smaller : goal.steps-smaller
steps-smaller g c = omega (arith, c.run_fast-stopped.ensures.gone.count)

pub returns-in-Some-clause-steps : goal.returns-in-Some-clause-steps
returns-in-Some-clause-steps g c =
    let k = g.C.Code.code c.args.code.now in
    let o = outcome_view c.in-Some.outcome in
    let e : next k (config_view c.run_fast-stopped.new.state) ≡ Ends o =
    c.in_ok-outcome.ensures.next ∙ rw c.in-Some.is refl in
    let far = slice_gone c.args.k (config_view c.args.state.now) c.steps.invariant.within c.steps.invariant.so_far
    c.run_fast-stopped.ensures.gone in
    ended_within k (c.args.k - c.run_fast-stopped.result.left) c.args.k (config_view c.args.state.now)
    (config_view c.run_fast-stopped.new.state) o far e
    (omega (arith, c.steps.invariant.within, c.run_fast-stopped.ensures.gone.count))

pub returns-then-stopped-eq0-clause-steps : goal.returns-then-stopped-eq0-clause-steps
returns-then-stopped-eq0-clause-steps g c =
    let k = g.C.Code.code c.args.code.now in
    let far = slice_gone c.args.k (config_view c.args.state.now) c.steps.invariant.within c.steps.invariant.so_far
    c.run_fast-stopped.ensures.gone in
    all_made k (c.args.k - c.run_fast-stopped.result.left) c.args.k (config_view c.args.state.now)
    (config_view c.run_fast-stopped.new.state) far (omega arith) (omega arith)

pub returns-then-stopped-eq0-clause-reached : goal.returns-then-stopped-eq0-clause-reached
returns-then-stopped-eq0-clause-reached g c =
    underway_gone c.steps.invariant.reached c.run_fast-stopped.ensures.gone

pub returns-in_err-outcome-clause-memory : goal.returns-in_err-outcome-clause-memory
returns-in_err-outcome-clause-memory g c =
    let k = g.C.Code.code c.args.code.now in
    let far = slice_gone c.args.k (config_view c.args.state.now) c.steps.invariant.within c.steps.invariant.so_far
    c.run_fast-stopped.ensures.gone in
    let comes : ComesToGrow k (config_view c.args.state.now) = record {
      steps = c.args.k - c.run_fast-stopped.result.left;
      last = config_view c.run_fast-stopped.new.state;
      reached = far;
      grows = c.in_err-outcome.ensures.memory;
    } in
    let less : c.args.k - c.run_fast-stopped.result.left < c.args.k =
    omega (arith, c.steps.invariant.within, c.run_fast-stopped.ensures.gone.count) in
    on_err c.from_residual.result (comes, less)
