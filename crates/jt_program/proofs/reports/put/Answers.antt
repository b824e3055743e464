use Rattle.jt_program.proofs.SinkLines.{put_so}
use Rattle.jt_program.proofs.reports.put.Goals as goal

pub returns : goal.returns
returns g c =
    put_so c.args.bytes.now (g.E.Sink.taken c.args.errors.now) (g.E.Sink.taken c.put_all.new.sink)
    (g.E.Sink.failed c.put_all.new.sink) c.put_all.result c.put_all.ensures.all c.put_all.ensures.works
    c.put_all.ensures.front c.put_all.ensures.fails
