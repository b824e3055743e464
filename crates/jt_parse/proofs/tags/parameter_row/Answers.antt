use Rattle.std.proofs.Common.{rules, ap, Ok, Err, Global, Vec}
use Rattle.jt_scan.specs.declared.segment.Sign.TheVariants as s
use Rattle.jt_expr.specs.Cursor.{ahead}
use Rattle.jt_expr.specs.declared.error.ExprError.TheVariants as e
use Rattle.jt_ast.specs.declared.statement.Parameter.{Parameter}
use Rattle.jt_parse.specs.Tags.{Separated, IsParameter}
use Rattle.jt_parse.specs.internal.Readers.{NoSign, NoParameter, ReadsFlat}
use Rattle.jt_ast.specs.StatementView.{parameter_view, parameters_view}
use Rattle.jt_parse.proofs.TokenPrefixes.{sign_taken, sign_left, no_sign}
use Rattle.jt_parse.proofs.SeparatedLists.{first_turn, turn_refused, next_turn, last_turn, no_turn, flat, parameter_row}
use Rattle.jt_parse.proofs.SeparatedLists.{pushed}
use Rattle.jt_parse.proofs.tags.parameter_row.Goals as goal

pub loop-turn-init : goal.loop-turn-init
loop-turn-init c =
    first_turn parameter_view (λ (v : Vec Parameter Global). parameters_view v.items) IsParameter s.Comma
    (NoSign s.Assign) NoParameter parameter_row (λ a. 0) 0 (ahead c.args.cursor.now)
    _ _ c.left-turn-end.ensures (ap parameters_view c.new-found.ensures.items)

pub returns-in_err-one : goal.returns-in_err-one
returns-in_err-one c =
    let q : ReadsFlat (λ (v : Vec Parameter Global). parameters_view v.items) (Separated IsParameter s.Comma)
    NoParameter (ahead c.args.cursor.now) (Err c.in_err-one.field-0.0) (ahead c.parameter.new.cursor) =
    flat (λ (v : Vec Parameter Global). parameters_view v.items) (Separated IsParameter s.Comma) NoParameter
    (ahead c.args.cursor.now) (Err c.in_err-one.field-0.0) (ahead c.parameter.new.cursor)
    (turn_refused parameter_view (λ (v : Vec Parameter Global). parameters_view v.items) IsParameter s.Comma
    (NoSign s.Assign) NoParameter parameter_row (λ a. 0) 0 (ahead c.args.cursor.now)
    _ _ _ _ _ _ c.loop-turn.invariant _ c.in_err-one.ensures) in
    search rules

pub returns-then-not-eat : goal.returns-then-not-eat
returns-then-not-eat c =
    rw (sign_left s.Comma (ahead c.parameter.new.cursor) (ahead c.eat.new.self) c.eat.result c.eat.ensures.found
    c.eat.ensures.rest c.if-not-eat.true)
    (flat (λ (v : Vec Parameter Global). parameters_view v.items) (Separated IsParameter s.Comma) NoParameter
    (ahead c.args.cursor.now) (Ok c.push.new.self) (ahead c.parameter.new.cursor)
    (last_turn parameter_view (λ (v : Vec Parameter Global). parameters_view v.items) IsParameter s.Comma
    (NoSign s.Assign) NoParameter parameter_row (λ a. 0) 0 (ahead c.args.cursor.now)
    _ _ _ _ _ c.loop-turn.invariant c.in_ok-one.one c.in_ok-one.ensures c.push.new.self
    (pushed parameter_view _ _ _ c.in_ok-push.ensures.items)
    (no_sign s.Comma _ _ c.eat.result c.eat.ensures.found c.eat.ensures.rest c.if-not-eat.true)))

pub loop-turn-preserved : goal.loop-turn-preserved
loop-turn-preserved c =
    next_turn parameter_view (λ (v : Vec Parameter Global). parameters_view v.items) IsParameter s.Comma
    (NoSign s.Assign) NoParameter parameter_row (λ a. 0) 0 (ahead c.args.cursor.now)
    _ _ _ _ _ c.loop-turn.invariant c.in_ok-one.one c.in_ok-one.ensures _
    (sign_taken s.Comma _ _ c.eat.result c.eat.ensures.found c.eat.ensures.rest c.if-not-eat.false) _
    (pushed parameter_view _ _ _ c.in_ok-push.ensures.items)

pub returns : goal.returns
returns c =
    flat (λ (v : Vec Parameter Global). parameters_view v.items) (Separated IsParameter s.Comma) NoParameter
    (ahead c.args.cursor.now) (Err e.Syntax) (ahead c.loop-turn.cursor)
    (no_turn parameter_view (λ (v : Vec Parameter Global). parameters_view v.items) IsParameter s.Comma
    (NoSign s.Assign) NoParameter parameter_row (λ a. 0) 0 (ahead c.args.cursor.now)
    _ _ _ _ (ahead c.loop-turn.cursor) c.loop-turn.invariant c.loop-turn-test.false)
