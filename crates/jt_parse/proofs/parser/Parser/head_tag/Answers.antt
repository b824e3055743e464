use Rattle.std.proofs.Common.{suc, ◌+◌, length, map, ◌∷◌, Err, Ok}
use Rattle.std.proofs.lemmas.Result.{err_from_is_err_and}
use Rattle.jt_scan.specs.View.{token_view}
use Rattle.std.specs.Str.{chars}
use Rattle.jt_expr.specs.Grammar.{word}
use Rattle.jt_parse.specs.Tags.{Says, head_levels}
use Rattle.jt_parse.specs.internal.HeadView.{head_view}
use Rattle.jt_parse.specs.internal.Reading.{headed}
use Rattle.jt_parse.specs.internal.Gives.{state_view}
use Rattle.jt_parse.proofs.TagSteps.{enclosed, head_left, head_over, no_room, only_ok, only_refused, some_levels}
use Rattle.jt_parse.proofs.parser.Parser.head_tag.Goals as goal

pub returns-in_err-levels : goal.returns-in_err-levels
returns-in_err-levels c =
    let p = err_from_is_err_and c.from_residual.result c.from_residual.ensures.1 in
    let st = state_view c.args.self.now in
    rw (p.1, p.2)
    (no_room (λ h. Says c.args.line h (word (chars c.args.word.now) ∷ map token_view c.args.tokens.now))
    (λ h. length st.open_stmts + head_levels h) 100 (λ h. headed c.args.line h st) c.args.line _
    c.in_err-levels.ensures.refused.0
    (λ b d. head_over c.depth.result (length st.open_stmts) 100 (head_levels b) c.in_err-levels.ensures.refused.1
    c.depth.ensures (some_levels d)))

pub returns-in_err-head : goal.returns-in_err-head
returns-in_err-head c =
    let p = err_from_is_err_and c.from_residual-in_err-head.result c.from_residual-in_err-head.ensures.1 in
    let st = state_view c.args.self.now in
    rw (p.1, p.2)
    (only_refused head_view (λ h. Says c.args.line h (word (chars c.args.word.now) ∷ map token_view c.args.tokens.now))
    (λ h. length st.open_stmts + head_levels h) 100 (λ h. headed c.args.line h st) _
    (enclosed head_view (λ h. Says c.args.line h (word (chars c.args.word.now) ∷ map token_view c.args.tokens.now))
    head_levels (length st.open_stmts) (suc c.in_ok-levels.levels) 100
    (head_left c.depth.result (length st.open_stmts) 100 c.in_ok-levels.levels c.in_ok-levels.ensures.left.1
    c.depth.ensures c.in_ok-levels.ensures.left.0)
    (Err c.in_err-head.field-0.0) c.in_err-head.ensures))

pub returns : goal.returns
returns c =
    let st = state_view c.args.self.now in
    only_ok head_view (λ h. Says c.args.line h (word (chars c.args.word.now) ∷ map token_view c.args.tokens.now))
    (λ h. length st.open_stmts + head_levels h) 100 (λ h. headed c.args.line h st) c.in_ok-head.head _
    (enclosed head_view (λ h. Says c.args.line h (word (chars c.args.word.now) ∷ map token_view c.args.tokens.now))
    head_levels (length st.open_stmts) (suc c.in_ok-levels.levels) 100
    (head_left c.depth.result (length st.open_stmts) 100 c.in_ok-levels.levels c.in_ok-levels.ensures.left.1
    c.depth.ensures c.in_ok-levels.ensures.left.0)
    (Ok c.in_ok-head.head) c.in_ok-head.ensures)
    c.in_ok-headed.ensures
