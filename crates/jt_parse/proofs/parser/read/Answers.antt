use Rattle.std.proofs.lemmas.Result.{err_from_is_err_and}
use Rattle.jt_ast.specs.StatementView.{body_view}
use Rattle.jt_parse.specs.internal.SideView.{side_view}
use Rattle.jt_parse.specs.internal.Gives.{state_view, open_stmts_view}
use Rattle.jt_parse.proofs.SegmentLoop.{segment_read, segment_refused, closed_all, stays_open}
use Rattle.jt_parse.proofs.parser.read.Goals as goal

pub segments-preserved : goal.segments-preserved
segments-preserved c =
    segment_read 100 (state_view c.segments.parser) (side_view c.segments.left) (side_view c.side_ahead.result)
    c.args.segments.now c.segments.rest.now c.segment-item.result
    c.in-len1-up.len_at_least c.segment-item.is c.segments.invariant c.side_ahead.ensures _ _ c.side_behind-left.ensures
    c.in_ok-step.ensures

pub returns-in_err-step : goal.returns-in_err-step
returns-in_err-step c =
    let p = err_from_is_err_and c.from_residual.result c.from_residual.ensures.1 in
    rw (p.1, p.2)
    (segment_refused 100 (state_view c.segments.parser) (side_view c.segments.left) (side_view c.side_ahead.result)
    c.args.segments.now c.segments.rest.now c.segment-item.result
    c.in-len1-up.len_at_least c.segment-item.is c.segments.invariant c.side_ahead.ensures c.in_err-step.field-0.0
    c.in_err-step.ensures)

pub returns-in-Some : goal.returns-in-Some
returns-in-Some c =
    stays_open 100 (body_view c.segments.parser.body.items) (open_stmts_view c.segments.parser.open_stmts.items)
    (side_view c.segments.left) c.args.segments.now c.segments.rest.now
    c.in-Some.ensures.0 c.in-Some.ensures.1 c.in_default.len_below c.segments.invariant c.in-Some.ensures.2

pub returns-in-None : goal.returns-in-None
returns-in-None c =
    closed_all 100 (body_view c.segments.parser.body.items) (open_stmts_view c.segments.parser.open_stmts.items)
    (side_view c.segments.left) c.args.segments.now c.segments.rest.now
    c.in_default.len_below c.segments.invariant c.in-None.ensures
