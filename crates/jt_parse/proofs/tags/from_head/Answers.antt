use Rattle.std.proofs.Common.{rules, ap, ℕ, Ok, Err}
use Rattle.jt_expr.specs.Cursor.{ahead}
use Rattle.jt_parse.specs.Tags.{a_statement}
use Rattle.jt_parse.specs.declared.opening_tags.Head.TheVariants as h
use Rattle.jt_ast.specs.declared.statement.Stmt.TheVariants as stmt
use Rattle.jt_parse.proofs.FirstTags.{from_unnamed, from_no_import, from_nothing, from_last}
use Rattle.jt_ast.proofs.StatementViews.{view_From}
use Rattle.jt_parse.proofs.tags.from_head.Goals as goal

pub returns-in_err-library : goal.returns-in_err-library
returns-in_err-library c =
    let q = λ (limit : ℕ).
    from_unnamed c.args.line limit (ahead c.args.cursor.now) _ _ (ahead c.text.new.cursor) c.in_err-library.ensures in
    search rules

pub returns-in_err-expect_word : goal.returns-in_err-expect_word
returns-in_err-expect_word c =
    let q = λ (limit : ℕ). from_no_import c.args.line limit (ahead c.args.cursor.now) c.in_ok-library.library
    (ahead c.text.new.cursor) c.in_ok-library.ensures _ _ (ahead c.expect_word.new.cursor)
    c.in_err-expect_word.ensures in
    search rules

pub returns-in_err-macros : goal.returns-in_err-macros
returns-in_err-macros c =
    let q = λ (limit : ℕ). from_nothing c.args.line limit (ahead c.args.cursor.now) c.in_ok-library.library
    (ahead c.text.new.cursor) c.in_ok-library.ensures (ahead c.expect_word.new.cursor) c.in_ok-expect_word.ensures _ _
    (ahead c.imported_row.new.cursor) c.in_err-macros.ensures in
    search rules

pub returns-in_err-_said : goal.returns-in_err-_said
returns-in_err-_said c =
    let q = λ (limit : ℕ). from_last c.args.line limit (ahead c.args.cursor.now) c.in_ok-library.library
    (ahead c.text.new.cursor) c.in_ok-library.ensures (ahead c.expect_word.new.cursor) c.in_ok-expect_word.ensures
    c.in_ok-macros.macros (ahead c.imported_row.new.cursor) c.in_ok-macros.ensures (Err c.in_err-_said.field-0.0) _
    c.in_err-_said.ensures (ahead c.without.new.cursor) in
    search rules

pub returns : goal.returns
returns c = λ limit.
    from_last c.args.line limit (ahead c.args.cursor.now) c.in_ok-library.library (ahead c.text.new.cursor)
    c.in_ok-library.ensures (ahead c.expect_word.new.cursor) c.in_ok-expect_word.ensures c.in_ok-macros.macros
    (ahead c.imported_row.new.cursor) c.in_ok-macros.ensures
    (Ok c.in_ok-_said._said) (ahead c.without.new.cursor) c.in_ok-_said.ensures
    (h.Statement (stmt.From c.args.line c.in_ok-library.library c.in_ok-macros.macros))
    (ap (λ z. a_statement z) (view_From c.args.line c.in_ok-library.library c.in_ok-macros.macros))
