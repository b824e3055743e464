use Rattle.std.proofs.Common.{rules, ap, Err, Global, Vec}
use Rattle.jt_scan.specs.declared.segment.Sign.TheVariants as s
use Rattle.jt_expr.specs.Cursor.{ahead}
use Rattle.jt_expr.specs.Promises.{Reads, OpensNone}
use Rattle.jt_ast.specs.declared.statement.FilterCall.{FilterCall}
use Rattle.jt_parse.specs.Tags.{Separated, IsFilterCall}
use Rattle.jt_parse.specs.internal.Readers.{NoToken, one_filter_call_levels, most}
use Rattle.jt_ast.specs.StatementView.{filter_call_view, filter_calls_view}
use Rattle.jt_parse.proofs.TokenPrefixes.{sign_taken, sign_left, no_sign}
use Rattle.jt_parse.proofs.SeparatedLists.{first_turn, turn_refused, next_turn, last_turn, no_turn, filter_call_row}
use Rattle.jt_parse.proofs.SeparatedLists.{pushed}
use Rattle.jt_parse.proofs.tags.filter_calls.Goals as goal

pub loop-turn-init : goal.loop-turn-init
loop-turn-init c =
    first_turn filter_call_view (λ (v : Vec FilterCall Global). filter_calls_view v.items) IsFilterCall s.Pipe OpensNone
    NoToken filter_call_row one_filter_call_levels c.args.levels (ahead c.args.cursor.now)
    _ _ c.left-turn-end.ensures (ap filter_calls_view c.new-found.ensures.items)

pub returns-in_err-one : goal.returns-in_err-one
returns-in_err-one c =
    let q : Reads (λ (v : Vec FilterCall Global). filter_calls_view v.items) (Separated IsFilterCall s.Pipe) NoToken
    (most one_filter_call_levels) c.args.levels (ahead c.args.cursor.now) (Err c.in_err-one.field-0.0)
    (ahead c.filter_call.new.cursor) =
    turn_refused filter_call_view (λ (v : Vec FilterCall Global). filter_calls_view v.items) IsFilterCall s.Pipe
    OpensNone NoToken filter_call_row one_filter_call_levels c.args.levels (ahead c.args.cursor.now)
    _ _ _ _ _ _ c.loop-turn.invariant _ c.in_err-one.ensures in
    search rules

pub returns-then-not-eat : goal.returns-then-not-eat
returns-then-not-eat c =
    rw (sign_left s.Pipe (ahead c.filter_call.new.cursor) (ahead c.eat.new.self) c.eat.result c.eat.ensures.found
    c.eat.ensures.rest c.if-not-eat.true)
    (last_turn filter_call_view (λ (v : Vec FilterCall Global). filter_calls_view v.items) IsFilterCall s.Pipe OpensNone
    NoToken filter_call_row one_filter_call_levels c.args.levels (ahead c.args.cursor.now)
    _ _ _ _ _ c.loop-turn.invariant c.in_ok-one.one c.in_ok-one.ensures c.push.new.self
    (pushed filter_call_view _ _ _ c.in_ok-push.ensures.items)
    (no_sign s.Pipe _ _ c.eat.result c.eat.ensures.found c.eat.ensures.rest c.if-not-eat.true))

pub loop-turn-preserved : goal.loop-turn-preserved
loop-turn-preserved c =
    next_turn filter_call_view (λ (v : Vec FilterCall Global). filter_calls_view v.items) IsFilterCall s.Pipe OpensNone
    NoToken filter_call_row one_filter_call_levels c.args.levels (ahead c.args.cursor.now)
    _ _ _ _ _ c.loop-turn.invariant c.in_ok-one.one c.in_ok-one.ensures _
    (sign_taken s.Pipe _ _ c.eat.result c.eat.ensures.found c.eat.ensures.rest c.if-not-eat.false) _
    (pushed filter_call_view _ _ _ c.in_ok-push.ensures.items)

pub returns : goal.returns
returns c =
    no_turn filter_call_view (λ (v : Vec FilterCall Global). filter_calls_view v.items) IsFilterCall s.Pipe OpensNone
    NoToken filter_call_row one_filter_call_levels c.args.levels (ahead c.args.cursor.now)
    _ _ _ _ (ahead c.loop-turn.cursor) c.loop-turn.invariant c.loop-turn-test.false
