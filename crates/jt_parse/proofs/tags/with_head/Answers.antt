use Rattle.std.proofs.Common.{rules, ℕ, ap, sym, ◌∙◌, Ok, Err, arith}
use Rattle.jt_expr.specs.Cursor.{ahead}
use Rattle.jt_parse.specs.declared.opening_tags.Head.TheVariants as h
use Rattle.jt_parse.specs.declared.opening_tags.BlockStart.TheVariants as o
use Rattle.jt_parse.specs.Tags.{an_opening, values}
use Rattle.jt_ast.specs.ExpressionView.{pairs_view}
use Rattle.jt_parse.proofs.FirstTags.{with_none, with_last, values_pairs}
use Rattle.jt_parse.proofs.tags.with_head.Goals as goal

pub returns-then-left-eq0 : goal.returns-then-left-eq0
returns-then-left-eq0 c = λ line.
    with_none line c.args.levels (ahead c.args.cursor.now) (h.BlockStart (o.Values c.new.result))
    (ap (λ vs. an_opening (values (pairs_view vs))) c.new.ensures.items) (sym c.left.ensures ∙ c.if-left-eq0.true)

pub returns-in_err-found : goal.returns-in_err-found
returns-in_err-found c =
    let q = λ (line : ℕ). with_last line c.args.levels (ahead c.args.cursor.now) (omega arith)
    (Err c.in_err-found.field-0.0) _ c.in_err-found.ensures (ahead c.values.new.cursor) in
    search rules

pub returns : goal.returns
returns c = λ line.
    with_last line c.args.levels (ahead c.args.cursor.now) (omega arith)
    (Ok c.in_ok-found.found) (ahead c.values.new.cursor) c.in_ok-found.ensures
    (h.BlockStart (o.Values c.in_ok-found.found))
    (ap (λ ps. an_opening (values ps)) (sym (values_pairs c.in_ok-found.found.items)))
