use Rattle.std.proofs.Common.{rules, Err, ap, sym, ◌∙◌, ◌≡◌, true, false}
use Rattle.jt_scan.specs.declared.segment.Sign.TheVariants as s
use Rattle.jt_expr.specs.Cursor.{ahead}
use Rattle.jt_parse.specs.Tags.{defaults_last}
use Rattle.jt_ast.specs.StatementView.{parameters_view}
use Rattle.jt_parse.proofs.TokenPrefixes.{sign_taken, sign_left, no_sign}
use Rattle.jt_parse.proofs.ParameterLists.{ParametersRead, closed_at_once, row_refused, not_closed, defaults_first}
use Rattle.jt_parse.proofs.ParameterLists.{parameters_read}
use Rattle.jt_parse.proofs.tags.parameters.Goals as goal

pub returns-then-eat : goal.returns-then-eat
returns-then-eat c =
    closed_at_once (ahead c.args.cursor.now) (ahead c.eat.new.self) c.new.result
    (sign_taken s.RightParen _ _ c.eat.result c.eat.ensures.found c.eat.ensures.rest c.if-eat.true)
    (ap parameters_view c.new.ensures.items)

pub returns-in_err-found : goal.returns-in_err-found
returns-in_err-found c =
    let left = sign_left s.RightParen (ahead c.args.cursor.now) (ahead c.eat.new.self) c.eat.result c.eat.ensures.found
    c.eat.ensures.rest c.if-eat.false in
    let q : ParametersRead (ahead c.eat.new.self) (Err c.in_err-found.field-0.0) (ahead c.parameter_row.new.cursor) =
    row_refused (ahead c.eat.new.self) (λ w e.
    no_sign s.RightParen _ _ c.eat.result c.eat.ensures.found c.eat.ensures.rest c.if-eat.false w (sym left ∙ e)) _ _ _
    c.in_err-found.ensures in
    rw (sym left) (search rules)

pub returns-in_err-expect : goal.returns-in_err-expect
returns-in_err-expect c =
    let left = sign_left s.RightParen (ahead c.args.cursor.now) (ahead c.eat.new.self) c.eat.result c.eat.ensures.found
    c.eat.ensures.rest c.if-eat.false in
    let q : ParametersRead (ahead c.eat.new.self) (Err c.in_err-expect.field-0.0) (ahead c.expect.new.self) =
    not_closed (ahead c.eat.new.self) (λ w e.
    no_sign s.RightParen _ _ c.eat.result c.eat.ensures.found c.eat.ensures.rest c.if-eat.false w (sym left ∙ e))
    c.in_ok-found.found (ahead c.parameter_row.new.cursor) c.in_ok-found.ensures _ _ _ c.in_err-expect.ensures in
    rw (sym left) (search rules)

pub returns-then-not-defaults_are_last : goal.returns-then-not-defaults_are_last
returns-then-not-defaults_are_last c =
    let left = sign_left s.RightParen (ahead c.args.cursor.now) (ahead c.eat.new.self) c.eat.result c.eat.ensures.found
    c.eat.ensures.rest c.if-eat.false in
    let before : defaults_last (parameters_view c.in_ok-found.found.items) ≡ false = search rules in
    rw (sym left)
    (defaults_first (ahead c.eat.new.self) (λ w e.
    no_sign s.RightParen _ _ c.eat.result c.eat.ensures.found c.eat.ensures.rest c.if-eat.false w (sym left ∙ e))
    c.in_ok-found.found (ahead c.parameter_row.new.cursor) c.in_ok-found.ensures (ahead c.expect.new.self) before)

pub returns : goal.returns
returns c =
    let left = sign_left s.RightParen (ahead c.args.cursor.now) (ahead c.eat.new.self) c.eat.result c.eat.ensures.found
    c.eat.ensures.rest c.if-eat.false in
    let last : defaults_last (parameters_view c.in_ok-found.found.items) ≡ true = search rules in
    rw (sym left)
    (parameters_read (ahead c.eat.new.self) (λ w e.
    no_sign s.RightParen _ _ c.eat.result c.eat.ensures.found c.eat.ensures.rest c.if-eat.false w (sym left ∙ e))
    c.in_ok-found.found (ahead c.parameter_row.new.cursor) c.in_ok-found.ensures (ahead c.expect.new.self)
    c.in_ok-expect.ensures last)
