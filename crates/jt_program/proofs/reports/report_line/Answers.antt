use Rattle.jt_turns.specs.Shown.{one_line}
use Rattle.jt_program.specs.Reports.{texts_of}
use Rattle.jt_program.proofs.SinkLines.{reported}
use Rattle.jt_program.proofs.reports.report_line.Goals as goal

pub returns : goal.returns
returns g c =
    reported (one_line (texts_of c.args.parts.now)) (g.E.Sink.taken c.args.errors.now)
    (g.E.Sink.taken c.put_line.new.errors) (g.E.Sink.failed c.put_line.new.errors) c.put_line.result
    c.put_line.ensures
