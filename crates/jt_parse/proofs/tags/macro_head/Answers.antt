use Rattle.std.proofs.Common.{rules, refl, ℕ, Ok, Err}
use Rattle.jt_expr.specs.Cursor.{ahead}
use Rattle.jt_parse.specs.declared.opening_tags.Head.TheVariants as h
use Rattle.jt_parse.specs.declared.opening_tags.BlockStart.TheVariants as o
use Rattle.jt_parse.proofs.FirstTags.{macro_unnamed, macro_unopened, macro_last}
use Rattle.jt_parse.proofs.tags.macro_head.Goals as goal

pub returns-in_err-name : goal.returns-in_err-name
returns-in_err-name c =
    let q = λ (line limit : ℕ).
    macro_unnamed line limit (ahead c.args.cursor.now) _ _ (ahead c.target.new.cursor) c.in_err-name.ensures in
    search rules

pub returns-in_err-expect : goal.returns-in_err-expect
returns-in_err-expect c =
    let q = λ (line limit : ℕ). macro_unopened line limit (ahead c.args.cursor.now) c.in_ok-name.name
    (ahead c.target.new.cursor) c.in_ok-name.ensures _ _ (ahead c.expect.new.self) c.in_err-expect.ensures in
    search rules

pub returns-in_err-found : goal.returns-in_err-found
returns-in_err-found c =
    let q = λ (line limit : ℕ). macro_last line limit (ahead c.args.cursor.now) c.in_ok-name.name
    (ahead c.target.new.cursor) c.in_ok-name.ensures (ahead c.expect.new.self) c.in_ok-expect.ensures
    (Err c.in_err-found.field-0.0) _ c.in_err-found.ensures (ahead c.parameters.new.cursor) in
    search rules

pub returns : goal.returns
returns c = λ line limit.
    macro_last line limit (ahead c.args.cursor.now) c.in_ok-name.name (ahead c.target.new.cursor) c.in_ok-name.ensures
    (ahead c.expect.new.self) c.in_ok-expect.ensures
    (Ok c.in_ok-found.found) (ahead c.parameters.new.cursor) c.in_ok-found.ensures
    (h.BlockStart (o.Macro c.in_ok-name.name c.in_ok-found.found)) refl
