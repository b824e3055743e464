use Rattle.std.proofs.Common.{◌+◌, Err, List, subst, sym, ℕ}
use Rattle.std.proofs.lemmas.Result.{err_from_is_err_and}
use Rattle.jt_turns.specs.Shown.{shown}
use Rattle.jt_program.specs.Reports.{Puts}
use Rattle.jt_program.proofs.SinkLines.{line_from, no_part, one_part, puts_begun, puts_behind}
use Rattle.jt_program.proofs.reports.put_line.Goals as goal

pub loop-part-preserved : goal.loop-part-preserved
loop-part-preserved g c = λ new f r rest.
    let parts = c.args.parts.now in
    let i = c.loop-part.part-index in
    let old = g.E.Sink.taken c.loop-part.errors in
    let mid = g.E.Sink.taken c.put_escaped.new.errors in
    let part = c.as_bytes.result.now in
    c.loop-part.invariant new f r (subst (λ (l : List ℕ). Puts l old new f r)
    (sym (one_part parts i _ part c.loop-part-test.true c.as_bytes.ensures.value))
    (puts_behind (shown part) (line_from parts (i + 1)) old mid new f r c.in_ok-put_escaped.ensures.1 rest))

pub returns-in_err-put_escaped : goal.returns-in_err-put_escaped
returns-in_err-put_escaped g c =
    let p = err_from_is_err_and c.from_residual.result c.from_residual.ensures.1 in
    let parts = c.args.parts.now in
    let i = c.loop-part.part-index in
    let old = g.E.Sink.taken c.loop-part.errors in
    let new = g.E.Sink.taken c.put_escaped.new.errors in
    let f = g.E.Sink.failed c.put_escaped.new.errors in
    let part = c.as_bytes.result.now in
    rw p.1 (c.loop-part.invariant new f (Err p.0)
    (subst (λ (l : List ℕ). Puts l old new f (Err p.0))
    (sym (one_part parts i _ part c.loop-part-test.true c.as_bytes.ensures.value))
    (puts_begun (shown part) (line_from parts (i + 1)) old new f p.0 c.in_err-put_escaped.ensures)))

pub returns : goal.returns
returns g c =
    let old = g.E.Sink.taken c.loop-part.errors in
    let new = g.E.Sink.taken c.put.new.errors in
    let f = g.E.Sink.failed c.put.new.errors in
    c.loop-part.invariant new f c.put.result (subst (λ (l : List ℕ). Puts l old new f c.put.result)
    (sym (no_part c.args.parts.now c.loop-part.part-index c.loop-part-test.false)) c.put.ensures)
