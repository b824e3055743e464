use Rattle.std.proofs.Common.{◌∙◌, Err, Ok, sym}
use Rattle.jt_program.proofs.Endings.{job_ends, keeps_itself, unused_memory, unused_usage, usage_told}
use Rattle.jt_program.proofs.Uses.{failure_alone}
use Rattle.jt_program.proofs.SinkLines.{memory_reported, not_memory, not_usage}
use Rattle.jt_program.proofs.program.perform.Goals as goal

pub returns-in-Ok-clause-memory : goal.returns-in-Ok-clause-memory
returns-in-Ok-clause-memory g c six =
    absurd (not_memory (g.W.Sink.taken c.args.out.now) (g.W.Sink.taken c.print.new.out)
    (g.W.Sink.failed c.print.new.out) c.in-Ok.text c.print.result c.print.ensures.printed six)

pub returns-in-Err-clause-ends : goal.returns-in-Err-clause-ends
returns-in-Err-clause-ends g c u m = (
  Err c.in-Err.failure,
  c.perform_line.new.used,
  job_ends _ _ _ c.in-Err.failure c.perform_line.new.used (λ e. u (c.report_run.ensures.status ∙ e))
      (λ e. m (c.report_run.ensures.status ∙ e)) c.in-Err.ensures.ends,
  (c.report_run.ensures.status, keeps_itself _),
  c.report_run.ensures.reported,
)

pub returns-in-Ok-clause-ends : goal.returns-in-Ok-clause-ends
returns-in-Ok-clause-ends g c u m = (
  Ok c.in-Ok.text,
  c.perform_line.new.used,
  c.in-Ok.ensures.ends,
  c.print.ensures.printed,
  c.print.ensures.explained,
)

pub returns-in-Ok-clause-silent : goal.returns-in-Ok-clause-silent
returns-in-Ok-clause-silent g c done off = c.print.ensures.silent done (c.in-Ok.ensures.quiet off)

pub returns-in-Err-clause-memory : goal.returns-in-Err-clause-memory
returns-in-Err-clause-memory g c six =
    let is = sym c.report_run.ensures.status ∙ six in
    memory_reported c.in-Err.failure (g.E.Sink.taken c.args.errors.now) (g.E.Sink.taken c.report_run.new.errors)
    (g.E.Sink.failed c.report_run.new.errors) is
    (failure_alone c.in-Err.failure c.perform_line.new.used _ _ _
    (unused_memory _ _ _ c.in-Err.failure c.perform_line.new.used is c.in-Err.ensures.ends)
    c.report_run.ensures.reported)

pub returns-in-Ok-clause-told : goal.returns-in-Ok-clause-told
returns-in-Ok-clause-told g c two =
    absurd (not_usage (g.W.Sink.taken c.args.out.now) (g.W.Sink.taken c.print.new.out)
    (g.W.Sink.failed c.print.new.out) c.in-Ok.text c.print.result c.print.ensures.printed two)

pub returns-in-Err-clause-told : goal.returns-in-Err-clause-told
returns-in-Err-clause-told g c two =
    let is = sym c.report_run.ensures.status ∙ two in
    usage_told c.in-Err.failure (g.E.Sink.taken c.args.errors.now) (g.E.Sink.taken c.report_run.new.errors)
    (g.E.Sink.failed c.report_run.new.errors) is c.in-Err.ensures.told
    (failure_alone c.in-Err.failure c.perform_line.new.used _ _ _
    (unused_usage _ _ _ c.in-Err.failure c.perform_line.new.used is c.in-Err.ensures.told c.in-Err.ensures.ends)
    c.report_run.ensures.reported)
