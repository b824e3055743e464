use Rattle.jt_machine.proofs.Vocabulary.{Caller, Ends, Goes, next, passed, start, AreCached, ComesToGrow, budget_view}
use Rattle.jt_machine.proofs.Vocabulary.{config_view, outcome_view, pairs_of, Value}
use Rattle.std.proofs.Common.{◌≡◌, ◌∙◌, sym, refl, ap, inl, inr, None, List, length, arith, ℕ, subst}
use Rattle.jt_machine.proofs.DrainedOutput.{ends_at, on_err}
use Rattle.jt_machine.proofs.FastPathCorrect.{gone_sound, reached_gone}
use Rattle.jt_machine.proofs.StepLemmas.{reached_next}
use Rattle.jt_machine.proofs.runs.run_code.Goals as goal

pub steps-init : goal.steps-init
steps-init g c = record {
  reached = (0, ap Goes (sym c.in_ok-state.ensures.state));
  depth = c.in_ok-state.ensures.depth;
  made =
      subst (λ (es : List (ℕ × Value)). AreCached (g.C.Code.code c.args.code.now) es) (sym c.new-made.ensures.items) tt;
}

pub step-requires-clause-sound : goal.step-requires-clause-sound
step-requires-clause-sound g c =
    gone_sound c.code_laws.ensures c.requires.whole c.requires.typed (pairs_of c.args.context.now)
    (budget_view c.args.budget) c.steps.invariant.reached c.run_fast-stopped.ensures.gone

pub step-requires-clause-depth : goal.step-requires-clause-depth
step-requires-clause-depth g c =
    omega (
      arith,
      c.steps.invariant.depth,
      c.run_fast-stopped.ensures.gone.depth,
      ap (λ (waiting : List Caller). length waiting) c.run_fast-stopped.ensures.gone.callers,
    )

pub steps-preserved : goal.steps-preserved
steps-preserved g c =
    let k = g.C.Code.code c.args.code.now in
    let x = pairs_of c.args.context.now in
    let b = budget_view c.args.budget in
    let gone = c.run_fast-stopped.ensures.gone in
    let e : next k (config_view c.run_fast-stopped.new.state) ≡ Goes (config_view c.step.new.state) =
    c.in_ok-outcome.ensures.next ∙ rw c.in_default-2.is refl in
    record {
      reached = reached_next k x b _ _ (reached_gone x b c.steps.invariant.reached gone) e;
      depth =
          omega (
            arith,
            c.steps.invariant.depth,
            gone.depth,
            ap (λ (waiting : List Caller). length waiting) gone.callers,
            (gone_sound c.code_laws.ensures c.requires.whole c.requires.typed x b c.steps.invariant.reached gone).depth
                _ e,
          );
      made = c.in_ok-outcome.ensures.made;
    }

pub steps-smaller : goal.steps-smaller
steps-smaller g c =
    let e : next (g.C.Code.code c.args.code.now) (config_view c.run_fast-stopped.new.state)
    ≡ Goes (config_view c.step.new.state) = c.in_ok-outcome.ensures.next ∙ rw c.in_default-2.is refl in
    let less = (gone_sound c.code_laws.ensures c.requires.whole c.requires.typed (pairs_of c.args.context.now)
    (budget_view c.args.budget) c.steps.invariant.reached c.run_fast-stopped.ensures.gone).takes _ e in
    omega (arith, less, c.run_fast-stopped.ensures.gone.fuel)

pub returns-in-Some-2-clause-outcome : goal.returns-in-Some-2-clause-outcome
returns-in-Some-2-clause-outcome g c =
    let k = g.C.Code.code c.args.code.now in
    let o = outcome_view c.in-Some-2.outcome in
    let x = pairs_of c.args.context.now in
    let b = budget_view c.args.budget in
    let e : next k (config_view c.run_fast-stopped.new.state) ≡ Ends o =
    c.in_ok-outcome.ensures.next ∙ rw c.in-Some-2.is refl in
    let r = reached_gone x b c.steps.invariant.reached c.run_fast-stopped.ensures.gone in
    let n : passed b x k.names ≡ None = sym c.in_default.ensures in
    rw n (ends_at k r.0 (start k x b) (config_view c.run_fast-stopped.new.state) o r.1 e)

pub returns-in_err-state-clause-memory : goal.returns-in_err-state-clause-memory
returns-in_err-state-clause-memory g c =
    on_err c.from_residual.result (sym c.in_default.ensures, inl c.in_err-state.ensures.memory)

pub returns-in_err-outcome-clause-memory : goal.returns-in_err-outcome-clause-memory
returns-in_err-outcome-clause-memory g c =
    let k = g.C.Code.code c.args.code.now in
    let x = pairs_of c.args.context.now in
    let b = budget_view c.args.budget in
    let r = reached_gone x b c.steps.invariant.reached c.run_fast-stopped.ensures.gone in
    let comes : ComesToGrow k (start k x b) = record {
      steps = r.0;
      last = config_view c.run_fast-stopped.new.state;
      reached = r.1;
      grows = c.in_err-outcome.ensures.memory;
    } in
    on_err c.from_residual-in_err-outcome.result (sym c.in_default.ensures, inr comes)
