use Rattle.std.proofs.Common.{◌≡◌, ◌∙◌, ◌+◌, ap}
use Rattle.std.proofs.lemmas.Result.{IfOk-weaker}
use Rattle.std.specs.Arc.{arc_value}
use Rattle.jt_value.specs.ContextView.{pairs_of}
use Rattle.jt_machine.specs.Metering.{metered_start}
use Rattle.jt_machine.specs.View.{budget_view}
use Rattle.jt_host.proofs.MeteredRuns.{at_start, if_ended, slice_more}
use Rattle.jt_host.proofs.metered_outcome.run_to_end.Goals as goal

pub loop-slice-init : goal.loop-slice-init
loop-slice-init c = (
  0,
  at_start (arc_value c.in-Ok.image) (pairs_of c.args.context.now) (budget_view c.args.budget)
      c.in_ok-run.run' c.in_ok-run.ensures.started,
)

pub loop-slice-preserved : goal.loop-slice-preserved
loop-slice-preserved c = (
  c.loop-slice.invariant.0 + 4294967295,
  slice_more c.metering_laws.ensures c.loop-slice.invariant.0 4294967295 c.in_ok-run.run' c.loop-slice.run
      c.advance.new.self c.loop-slice.invariant.1 c.in_ok-advance.ensures.steps,
)

pub returns-then-eq : goal.returns-then-eq
returns-then-eq c =
    let same : arc_value c.in-Ok.image ≡ c.args.verified = cc (c.in-Ok.ensures.ok) in
    if_ended c.metering_laws.ensures c.args.verified (arc_value c.in-Ok.image) same (pairs_of c.args.context.now)
    (budget_view c.args.budget) (c.loop-slice.invariant.0 + 4294967295) c.in_ok-run.run' c.advance.new.self
    (c.in_ok-run.ensures.least (pairs_of c.args.context.now) (budget_view c.args.budget)) c.in_ok-run.ensures.started
    (slice_more c.metering_laws.ensures c.loop-slice.invariant.0 4294967295 c.in_ok-run.run' c.loop-slice.run
    c.advance.new.self c.loop-slice.invariant.1 c.in_ok-advance.ensures.steps) c.ended.result c.ended.ensures.outcome
    c.ended.ensures.used
