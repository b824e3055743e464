use Rattle.std.proofs.Common.{rules, ap, Err, String, Global, Vec}
use Rattle.jt_scan.specs.declared.segment.Sign.TheVariants as s
use Rattle.jt_expr.specs.Cursor.{ahead}
use Rattle.jt_ast.specs.declared.expression.Expr.{Expr}
use Rattle.jt_expr.specs.Grammar.{whole}
use Rattle.jt_expr.specs.Promises.{Reads, EndsAt}
use Rattle.jt_parse.specs.Tags.{Separated, IsValue}
use Rattle.jt_parse.specs.internal.Readers.{NoToken, value_levels, most}
use Rattle.jt_parse.specs.internal.HeadView.{value_view, values_view}
use Rattle.jt_parse.proofs.TokenPrefixes.{sign_taken, sign_left, no_sign}
use Rattle.jt_parse.proofs.SeparatedLists.{first_turn, turn_refused, next_turn, last_turn, no_turn, value_row, pushed}
use Rattle.jt_parse.proofs.tags.values.Goals as goal

pub loop-turn-init : goal.loop-turn-init
loop-turn-init c =
    first_turn value_view (λ (v : Vec (String Global × Expr) Global). values_view v.items) IsValue s.Comma
    (EndsAt whole) NoToken value_row value_levels c.args.levels (ahead c.args.cursor.now)
    _ _ c.left-turn-end.ensures (ap values_view c.new-found.ensures.items)

pub returns-in_err-one : goal.returns-in_err-one
returns-in_err-one c =
    let q : Reads (λ (v : Vec (String Global × Expr) Global). values_view v.items) (Separated IsValue s.Comma) NoToken
    (most value_levels) c.args.levels (ahead c.args.cursor.now) (Err c.in_err-one.field-0.0) (ahead c.value.new.cursor)
    =
    turn_refused value_view (λ (v : Vec (String Global × Expr) Global). values_view v.items) IsValue s.Comma
    (EndsAt whole) NoToken value_row value_levels c.args.levels (ahead c.args.cursor.now)
    _ _ _ _ _ _ c.loop-turn.invariant _ c.in_err-one.ensures in
    search rules

pub returns-then-not-eat : goal.returns-then-not-eat
returns-then-not-eat c =
    rw (sign_left s.Comma (ahead c.value.new.cursor) (ahead c.eat.new.self) c.eat.result c.eat.ensures.found
    c.eat.ensures.rest c.if-not-eat.true)
    (last_turn value_view (λ (v : Vec (String Global × Expr) Global). values_view v.items) IsValue s.Comma
    (EndsAt whole) NoToken value_row value_levels c.args.levels (ahead c.args.cursor.now)
    _ _ _ _ _ c.loop-turn.invariant c.in_ok-one.one c.in_ok-one.ensures c.push.new.self
    (pushed value_view _ _ _ c.in_ok-push.ensures.items)
    (no_sign s.Comma _ _ c.eat.result c.eat.ensures.found c.eat.ensures.rest c.if-not-eat.true))

pub loop-turn-preserved : goal.loop-turn-preserved
loop-turn-preserved c =
    next_turn value_view (λ (v : Vec (String Global × Expr) Global). values_view v.items) IsValue s.Comma (EndsAt whole)
    NoToken value_row value_levels c.args.levels (ahead c.args.cursor.now)
    _ _ _ _ _ c.loop-turn.invariant c.in_ok-one.one c.in_ok-one.ensures _
    (sign_taken s.Comma _ _ c.eat.result c.eat.ensures.found c.eat.ensures.rest c.if-not-eat.false) _
    (pushed value_view _ _ _ c.in_ok-push.ensures.items)

pub returns : goal.returns
returns c =
    no_turn value_view (λ (v : Vec (String Global × Expr) Global). values_view v.items) IsValue s.Comma (EndsAt whole)
    NoToken value_row value_levels c.args.levels (ahead c.args.cursor.now)
    _ _ _ _ (ahead c.loop-turn.cursor) c.loop-turn.invariant c.loop-turn-test.false
