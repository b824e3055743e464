use Rattle.std.proofs.Common.{List, subst, sym, ℕ}
use Rattle.jt_program.specs.Reports.{TookUnlessFailed}
use Rattle.jt_program.proofs.SinkLines.{reported}
use Rattle.jt_program.proofs.reports.report_text.Goals as goal

pub returns : goal.returns
returns g c =
    let old = g.E.Sink.taken c.args.errors.now in
    let new = g.E.Sink.taken c.put.new.errors in
    let f = g.E.Sink.failed c.put.new.errors in
    subst (λ (l : List ℕ). TookUnlessFailed l old new f) c.as_bytes.ensures.value
    (reported c.as_bytes.result.now old new f c.put.result c.put.ensures)
