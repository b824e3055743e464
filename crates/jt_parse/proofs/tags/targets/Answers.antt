use Rattle.std.proofs.Common.{rules, ap, Ok, Err, String, Global, Vec, string_bytes}
use Rattle.jt_scan.specs.declared.segment.Sign.TheVariants as s
use Rattle.jt_expr.specs.Cursor.{ahead}
use Rattle.jt_expr.specs.declared.error.ExprError.TheVariants as e
use Rattle.jt_parse.specs.Tags.{Separated, IsName}
use Rattle.jt_parse.specs.internal.Readers.{Anything, NoSign, ReadsFlat}
use Rattle.jt_ast.specs.StatementView.{names_view}
use Rattle.jt_parse.proofs.TokenPrefixes.{sign_taken, sign_left, no_sign}
use Rattle.jt_parse.proofs.SeparatedLists.{first_turn, turn_refused, next_turn, last_turn, no_turn, flat, name_row}
use Rattle.jt_parse.proofs.SeparatedLists.{pushed}
use Rattle.jt_parse.proofs.tags.targets.Goals as goal

pub loop-turn-init : goal.loop-turn-init
loop-turn-init c =
    first_turn (λ (n : String Global). string_bytes n) (λ (v : Vec (String Global) Global). names_view v.items) IsName
    s.Comma Anything (NoSign s.Comma) name_row (λ a. 0) 0 (ahead c.args.cursor.now)
    _ _ c.left-turn-end.ensures (ap names_view c.new-found.ensures.items)

pub returns-in_err-name : goal.returns-in_err-name
returns-in_err-name c =
    let q : ReadsFlat (λ (v : Vec (String Global) Global). names_view v.items) (Separated IsName s.Comma)
    (NoSign s.Comma) (ahead c.args.cursor.now) (Err c.in_err-name.field-0.0) (ahead c.target.new.cursor) =
    flat (λ (v : Vec (String Global) Global). names_view v.items) (Separated IsName s.Comma) (NoSign s.Comma)
    (ahead c.args.cursor.now) (Err c.in_err-name.field-0.0) (ahead c.target.new.cursor)
    (turn_refused (λ (n : String Global). string_bytes n) (λ (v : Vec (String Global) Global). names_view v.items)
    IsName s.Comma Anything (NoSign s.Comma) name_row (λ a. 0) 0 (ahead c.args.cursor.now)
    _ _ _ _ _ _ c.loop-turn.invariant _ c.in_err-name.ensures) in
    search rules

pub returns-then-not-eat : goal.returns-then-not-eat
returns-then-not-eat c =
    rw (sign_left s.Comma (ahead c.target.new.cursor) (ahead c.eat.new.self) c.eat.result c.eat.ensures.found
    c.eat.ensures.rest c.if-not-eat.true)
    (flat (λ (v : Vec (String Global) Global). names_view v.items) (Separated IsName s.Comma) (NoSign s.Comma)
    (ahead c.args.cursor.now) (Ok c.push.new.self) (ahead c.target.new.cursor)
    (last_turn (λ (n : String Global). string_bytes n) (λ (v : Vec (String Global) Global). names_view v.items) IsName
    s.Comma Anything (NoSign s.Comma) name_row (λ a. 0) 0 (ahead c.args.cursor.now)
    _ _ _ _ _ c.loop-turn.invariant c.in_ok-name.name c.in_ok-name.ensures c.push.new.self
    (pushed string_bytes _ _ _ c.in_ok-push.ensures.items)
    (no_sign s.Comma _ _ c.eat.result c.eat.ensures.found c.eat.ensures.rest c.if-not-eat.true)))

pub loop-turn-preserved : goal.loop-turn-preserved
loop-turn-preserved c =
    next_turn (λ (n : String Global). string_bytes n) (λ (v : Vec (String Global) Global). names_view v.items) IsName
    s.Comma Anything (NoSign s.Comma) name_row (λ a. 0) 0 (ahead c.args.cursor.now)
    _ _ _ _ _ c.loop-turn.invariant c.in_ok-name.name c.in_ok-name.ensures _
    (sign_taken s.Comma _ _ c.eat.result c.eat.ensures.found c.eat.ensures.rest c.if-not-eat.false) _
    (pushed string_bytes _ _ _ c.in_ok-push.ensures.items)

pub returns : goal.returns
returns c =
    flat (λ (v : Vec (String Global) Global). names_view v.items) (Separated IsName s.Comma) (NoSign s.Comma)
    (ahead c.args.cursor.now) (Err e.Syntax) (ahead c.loop-turn.cursor)
    (no_turn (λ (n : String Global). string_bytes n) (λ (v : Vec (String Global) Global). names_view v.items) IsName
    s.Comma Anything (NoSign s.Comma) name_row (λ a. 0) 0 (ahead c.args.cursor.now)
    _ _ _ _ (ahead c.loop-turn.cursor) c.loop-turn.invariant c.loop-turn-test.false)
