use Rattle.jt_program.proofs.SinkLines.{took_nothing}
use Rattle.jt_program.proofs.reports.report_use.Goals as goal

pub returns-in-None-clause-reported : goal.returns-in-None-clause-reported
returns-in-None-clause-reported g c =
    rw c.in-None.is (took_nothing (g.E.Sink.taken c.args.errors.now) (g.E.Sink.failed c.args.errors.now))

pub returns-in-Some-clause-reported : goal.returns-in-Some-clause-reported
returns-in-Some-clause-reported g c = rw c.in-Some.is c.report_used.ensures
