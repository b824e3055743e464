use Rattle.std.proofs.Common.{rules, ap, sym, ◌∙◌, Some, Ok}
use Rattle.std.proofs.lemmas.Int.{to_z-of_z}
use mir.Syntax.{w64}
use Rattle.jt_scan.specs.View.{token_view}
use Rattle.jt_ast.specs.Expressions.{text}
use Rattle.jt_expr.specs.Cursor.{ahead}
use Rattle.jt_ast.specs.ExpressionView.{literal_view}
use Rattle.jt_ast.specs.declared.expression.Literal.TheVariants as l
use Rattle.jt_parse.specs.Tags.{literal_token}
use Rattle.jt_parse.specs.internal.Readers.{IsLiteral, Anything, ReadsFlat}
use Rattle.jt_parse.proofs.TagParts.{literal_read}
use Rattle.jt_parse.proofs.tags.literal.Goals as goal

pub returns-in-Some-Number : goal.returns-in-Some-Number
returns-in-Some-Number c =
    let q : ReadsFlat literal_view IsLiteral Anything (ahead c.args.cursor.now) (Ok (l.Number c.in-Some-Number.number))
    (ahead c.take.new.self) =
    literal_read (token_view c.in-Some-Number.field-0) (l.Number c.in-Some-Number.number) (ahead c.args.cursor.now)
    (ahead c.take.new.self) c.in-Some-Number.ensures
    (ap (λ t. literal_token (token_view t)) c.in-Some-Number.field-0-is) in
    rw (to_z-of_z w64 c.in-Some-Number.number (search rules)) q

pub returns-in_ok-text_value-in-Some-Text : goal.returns-in_ok-text_value-in-Some-Text
returns-in_ok-text_value-in-Some-Text c =
    literal_read (token_view c.in-Some-Text.field-0) (l.Text c.in_ok-text_value-in-Some-Text.field-0)
    (ahead c.args.cursor.now) (ahead c.take.new.self) c.in-Some-Text.ensures
    (ap (λ t. literal_token (token_view t)) c.in-Some-Text.field-0-is
    ∙ ap (λ x. Some (text x)) (sym c.in_ok-text_value-in-Some-Text.ensures))

pub returns-in-Some : goal.returns-in-Some
returns-in-Some c =
    literal_read (token_view c.in-Some-Name.field-0) c.in-Some.literal (ahead c.args.cursor.now) (ahead c.take.new.self)
    c.in-Some-Name.ensures
    (ap (λ t. literal_token (token_view t)) c.in-Some-Name.field-0-is ∙ sym c.in-Some.ensures)
