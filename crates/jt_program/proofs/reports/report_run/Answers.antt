use Rattle.std.proofs.Common.{sym, ◌∙◌}
use Rattle.jt_program.specs.Reports.{failure_text, use_text}
use Rattle.jt_program.proofs.SinkLines.{took_begun, took_both}
use Rattle.jt_program.proofs.reports.report_run.Goals as goal

pub returns-then-has_failed-clause-reported : goal.returns-then-has_failed-clause-reported
returns-then-has_failed-clause-reported g c =
    took_begun (failure_text c.args.failure.now) (use_text c.args.used) (g.E.Sink.taken c.args.errors.now)
    (g.E.Sink.taken c.report-status.new.errors) (g.E.Sink.failed c.report-status.new.errors)
    (sym c.has_failed.ensures ∙ c.if-has_failed.true) c.report-status.ensures.reported

pub returns-clause-reported : goal.returns-clause-reported
returns-clause-reported g c =
    took_both (failure_text c.args.failure.now) (use_text c.args.used) (g.E.Sink.taken c.args.errors.now)
    (g.E.Sink.taken c.report-status.new.errors) (g.E.Sink.taken c.report_use.new.errors)
    (g.E.Sink.failed c.report-status.new.errors) (g.E.Sink.failed c.report_use.new.errors)
    (sym c.has_failed.ensures ∙ c.if-has_failed.false) c.report-status.ensures.reported c.report_use.ensures.reported
