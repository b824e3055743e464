use Rattle.std.proofs.Common.{rules, refl, ℕ, Ok, Err}
use Rattle.jt_expr.specs.Cursor.{ahead}
use Rattle.jt_parse.specs.declared.opening_tags.Head.TheVariants as h
use Rattle.jt_parse.specs.declared.opening_tags.BlockStart.TheVariants as o
use Rattle.jt_parse.proofs.FirstTags.{filter_last}
use Rattle.jt_parse.proofs.tags.filter_head.Goals as goal

pub returns-in_err-found : goal.returns-in_err-found
returns-in_err-found c =
    let q = λ (line : ℕ). filter_last line c.args.levels (ahead c.args.cursor.now) (Err c.in_err-found.field-0.0) _
    c.in_err-found.ensures (ahead c.filter_calls.new.cursor) in
    search rules

pub returns : goal.returns
returns c = λ line.
    filter_last line c.args.levels (ahead c.args.cursor.now)
    (Ok c.in_ok-found.found) (ahead c.filter_calls.new.cursor) c.in_ok-found.ensures
    (h.BlockStart (o.Filters c.in_ok-found.found)) refl
