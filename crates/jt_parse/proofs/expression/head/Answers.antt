use Rattle.std.proofs.Common.{map, subst, sym, suc, ◌∷◌, Err}
use Rattle.std.specs.Str.{chars}
use Rattle.jt_scan.specs.View.{token_view}
use Rattle.jt_expr.specs.Grammar.{word}
use Rattle.jt_parse.specs.Tags.{Says, head_levels}
use Rattle.jt_parse.specs.internal.HeadView.{head_view}
use Rattle.jt_parse.specs.internal.Gives.{GivesOnly}
use Rattle.jt_parse.proofs.TagSteps.{head_found, head_refused}
use Rattle.jt_parse.proofs.expression.head.Goals as goal

pub returns-in-Ok : goal.returns-in-Ok
returns-in-Ok c =
    head_found c.args.levels c.args.line (chars c.args.word.now) (map token_view c.args.tokens.now) _ c.in-Ok.ensures

pub returns-in-Err : goal.returns-in-Err
returns-in-Err c =
    subst (λ x. GivesOnly head_view
    (λ h. Says c.args.line h (word (chars c.args.word.now) ∷ map token_view c.args.tokens.now)) head_levels
    (suc c.args.levels) (Err x))
    (sym c.refused.ensures)
    (head_refused c.args.levels c.args.line (chars c.args.word.now) (map token_view c.args.tokens.now) c.in-Err.refusal
    c.in-Err.ensures)
