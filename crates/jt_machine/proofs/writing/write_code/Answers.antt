use Rattle.jt_machine.proofs.Vocabulary.{Caller, Config, Ends, Goes, next, passed, start, AreCached, emitted_by}
use Rattle.jt_machine.proofs.Vocabulary.{budget_view, config_view, outcome_view, pairs_of, Value, Appends-nil}
use Rattle.std.proofs.Common.{◌≡◌, ◌∙◌, List, [], None, length, sym, refl, ap, inl, inr, arith, ℕ, subst}
use Rattle.jt_machine.proofs.FastPathCorrect.{found_same, gone_sent, so_far_gone}
use Rattle.jt_machine.proofs.DrainedOutput.{nothing_yet, went_on, whole_run, cut_short, text_is, on_err}
use Rattle.jt_machine.proofs.AllocationPoints.{if_err_given, so_far_grows}
use Rattle.jt_machine.proofs.writing.write_code.Goals as goal

pub steps-init : goal.steps-init
steps-init g c =
    let k = g.C.Code.code c.args.code.now in
    let x = pairs_of c.args.context.now in
    let b = budget_view c.args.budget in
    record {
      so_far =
          nothing_yet k x b (g.W.Sink.taken c.args.sink.now) (config_view c.in_ok-state.state)
          c.in_ok-state.ensures.state;
      works = c.requires.works;
      depth = c.in_ok-state.ensures.depth;
      made =
          subst (λ (es : List (ℕ × Value)). AreCached (g.C.Code.code c.args.code.now) es) (sym c.new-made.ensures.items)
          tt;
    }

pub step-requires-clause-prefetched : goal.step-requires-clause-prefetched
step-requires-clause-prefetched g c =
    found_same (g.C.Code.code c.args.code.now) c.run_fast-stopped.result.prefetched c.run_fast-stopped.new.state.unit
    c.run_fast-stopped.new.state.point c.send.new.state.unit c.send.new.state.point
    (ap (λ (y : Config). y.machine.unit) c.in_ok-send.ensures.emptied)
    (ap (λ (y : Config). y.machine.point) c.in_ok-send.ensures.emptied) c.run_fast-stopped.ensures.prefetched

pub step-requires-clause-sound : goal.step-requires-clause-sound
step-requires-clause-sound g c =
    (gone_sent c.code_laws.ensures c.requires.whole c.requires.typed (g.W.Sink.taken c.send.new.sink)
    (config_view c.send.new.state) tt c.steps.invariant.so_far c.run_fast-stopped.ensures.gone c.in_ok-send.ensures.put
    c.in_ok-send.ensures.emptied).sound

pub step-requires-clause-depth : goal.step-requires-clause-depth
step-requires-clause-depth g c =
    omega (
      arith,
      c.steps.invariant.depth,
      ap (λ (y : Config). y.left.depth) c.in_ok-send.ensures.emptied,
      ap (λ (y : Config). length y.machine.callers) c.in_ok-send.ensures.emptied,
      c.run_fast-stopped.ensures.gone.depth,
      ap (λ (waiting : List Caller). length waiting) c.run_fast-stopped.ensures.gone.callers,
    )

pub steps-preserved : goal.steps-preserved
steps-preserved g c =
    let k = g.C.Code.code c.args.code.now in
    let x = pairs_of c.args.context.now in
    let b = budget_view c.args.budget in
    let s = gone_sent c.code_laws.ensures c.requires.whole c.requires.typed (g.W.Sink.taken c.send.new.sink)
    (config_view c.send.new.state) tt c.steps.invariant.so_far c.run_fast-stopped.ensures.gone c.in_ok-send.ensures.put
    c.in_ok-send.ensures.emptied in
    let e : next k (config_view c.send.new.state) ≡ Goes (config_view c.step.new.state) =
    c.in_ok-outcome.ensures.next ∙ rw c.in_default-2.is refl in
    record {
      so_far =
          went_on k x b (g.W.Sink.taken c.args.sink.now) (g.W.Sink.taken c.send.new.sink)
          (config_view c.send.new.state) (config_view c.step.new.state) tt s.so_far e;
      works = c.in_ok-send.ensures.fails;
      depth =
          omega (
            arith,
            c.steps.invariant.depth,
            ap (λ (y : Config). y.left.depth) c.in_ok-send.ensures.emptied,
            ap (λ (y : Config). length y.machine.callers) c.in_ok-send.ensures.emptied,
            c.run_fast-stopped.ensures.gone.depth,
            ap (λ (waiting : List Caller). length waiting) c.run_fast-stopped.ensures.gone.callers,
            s.sound.depth (config_view c.step.new.state) e,
          );
      made = c.in_ok-outcome.ensures.made;
    }

pub steps-smaller : goal.steps-smaller
steps-smaller g c =
    let s = gone_sent c.code_laws.ensures c.requires.whole c.requires.typed (g.W.Sink.taken c.send.new.sink)
    (config_view c.send.new.state) tt c.steps.invariant.so_far c.run_fast-stopped.ensures.gone c.in_ok-send.ensures.put
    c.in_ok-send.ensures.emptied in
    let e : next (g.C.Code.code c.args.code.now) (config_view c.send.new.state) ≡ Goes (config_view c.step.new.state)
    = c.in_ok-outcome.ensures.next ∙ rw c.in_default-2.is refl in
    omega (
      arith,
      s.sound.takes (config_view c.step.new.state) e,
      ap (λ (y : Config). y.left.fuel) c.in_ok-send.ensures.emptied,
      c.run_fast-stopped.ensures.gone.fuel,
    )

pub returns-in_err-state-clause-begun : goal.returns-in_err-state-clause-begun
returns-in_err-state-clause-begun g c =
    let k = g.C.Code.code c.args.code.now in
    let x = pairs_of c.args.context.now in
    let b = budget_view c.args.budget in
    let old = g.W.Sink.taken c.args.sink.now in
    let n : passed b x k.names ≡ None = sym c.in_default.ensures in
    let safe = (c.code_laws.ensures.runs k c.requires.whole c.requires.typed).safe x b in
    on_err c.from_residual.result (cut_short k x b old old old (start k x b) [] [] n safe tt
    (nothing_yet k x b old (start k x b) refl) refl (Appends-nil old))

pub returns-in_err-send-clause-begun : goal.returns-in_err-send-clause-begun
returns-in_err-send-clause-begun g c =
    let k = g.C.Code.code c.args.code.now in
    let x = pairs_of c.args.context.now in
    let b = budget_view c.args.budget in
    let n : passed b x k.names ≡ None = sym c.in_default.ensures in
    let safe = (c.code_laws.ensures.runs k c.requires.whole c.requires.typed).safe x b in
    let t = c.in_err-send.ensures.put in
    on_err c.from_residual-in_err-send.result
    (cut_short k x b (g.W.Sink.taken c.args.sink.now) (g.W.Sink.taken c.steps.sink) (g.W.Sink.taken c.send.new.sink)
    (config_view c.run_fast-stopped.new.state) t.1.front t.0 n safe tt
    (so_far_gone c.steps.invariant.so_far c.run_fast-stopped.ensures.gone) t.1.parts t.1.taken)

pub returns-in_err-outcome-clause-begun : goal.returns-in_err-outcome-clause-begun
returns-in_err-outcome-clause-begun g c =
    let k = g.C.Code.code c.args.code.now in
    let x = pairs_of c.args.context.now in
    let b = budget_view c.args.budget in
    let n : passed b x k.names ≡ None = sym c.in_default.ensures in
    let safe = (c.code_laws.ensures.runs k c.requires.whole c.requires.typed).safe x b in
    let mid = g.W.Sink.taken c.send.new.sink in
    let d = config_view c.send.new.state in
    let s = gone_sent c.code_laws.ensures c.requires.whole c.requires.typed (g.W.Sink.taken c.send.new.sink)
    (config_view c.send.new.state) tt c.steps.invariant.so_far c.run_fast-stopped.ensures.gone c.in_ok-send.ensures.put
    c.in_ok-send.ensures.emptied in
    on_err c.from_residual-in_err-outcome.result
    (cut_short k x b (g.W.Sink.taken c.args.sink.now) mid mid d [] (emitted_by d) n safe tt s.so_far refl
    (Appends-nil mid))

pub returns-in_err-close-clause-begun : goal.returns-in_err-close-clause-begun
returns-in_err-close-clause-begun g c =
    let k = g.C.Code.code c.args.code.now in
    let x = pairs_of c.args.context.now in
    let b = budget_view c.args.budget in
    let n : passed b x k.names ≡ None = sym c.in_default.ensures in
    let safe = (c.code_laws.ensures.runs k c.requires.whole c.requires.typed).safe x b in
    let mid = g.W.Sink.taken c.send.new.sink in
    let d = config_view c.send.new.state in
    let o = outcome_view c.in-Some-2.outcome in
    let s = gone_sent c.code_laws.ensures c.requires.whole c.requires.typed (g.W.Sink.taken c.send.new.sink)
    (config_view c.send.new.state) tt c.steps.invariant.so_far c.run_fast-stopped.ensures.gone c.in_ok-send.ensures.put
    c.in_ok-send.ensures.emptied in
    let e : next k d ≡ Ends o = c.in_ok-outcome.ensures.next ∙ rw c.in-Some-2.is refl in
    let t = c.in_err-close.ensures.put in
    on_err c.from_residual-in_err-close.result
    (cut_short k x b (g.W.Sink.taken c.args.sink.now) mid (g.W.Sink.taken c.close.new.sink) d t.1.front t.0 n safe tt
    s.so_far (text_is k d o tt e s.empty ∙ t.1.parts) t.1.taken)

pub returns-in-Some-2-clause-ended : goal.returns-in-Some-2-clause-ended
returns-in-Some-2-clause-ended g c =
    let k = g.C.Code.code c.args.code.now in
    let x = pairs_of c.args.context.now in
    let b = budget_view c.args.budget in
    let n : passed b x k.names ≡ None = sym c.in_default.ensures in
    let mid = g.W.Sink.taken c.send.new.sink in
    let d = config_view c.send.new.state in
    let o = outcome_view c.in-Some-2.outcome in
    let s = gone_sent c.code_laws.ensures c.requires.whole c.requires.typed (g.W.Sink.taken c.send.new.sink)
    (config_view c.send.new.state) tt c.steps.invariant.so_far c.run_fast-stopped.ensures.gone c.in_ok-send.ensures.put
    c.in_ok-send.ensures.emptied in
    let e : next k d ≡ Ends o = c.in_ok-outcome.ensures.next ∙ rw c.in-Some-2.is refl in
    whole_run k x b (g.W.Sink.taken c.args.sink.now) mid (g.W.Sink.taken c.close.new.sink) d o c.in_ok-close.field-0 n
    tt s.so_far s.empty e c.in_ok-close.ensures.ended c.in_ok-close.ensures.put

pub returns-in_err-state-clause-wanted : goal.returns-in_err-state-clause-wanted
returns-in_err-state-clause-wanted g c =
    if_err_given c.from_residual.result _ _ (sym c.in_default.ensures, inl c.in_err-state.ensures.memory)

pub returns-in_err-outcome-clause-wanted : goal.returns-in_err-outcome-clause-wanted
returns-in_err-outcome-clause-wanted g c =
    let k = g.C.Code.code c.args.code.now in
    let x = pairs_of c.args.context.now in
    let b = budget_view c.args.budget in
    let s = gone_sent c.code_laws.ensures c.requires.whole c.requires.typed (g.W.Sink.taken c.send.new.sink)
    (config_view c.send.new.state) tt c.steps.invariant.so_far c.run_fast-stopped.ensures.gone c.in_ok-send.ensures.put
    c.in_ok-send.ensures.emptied in
    if_err_given c.from_residual-in_err-outcome.result _ _ (
      sym c.in_default.ensures,
      inr (so_far_grows k x b (g.W.Sink.taken c.args.sink.now) (g.W.Sink.taken c.send.new.sink)
          (config_view c.send.new.state) tt s.so_far c.in_err-outcome.ensures.memory),
    )
