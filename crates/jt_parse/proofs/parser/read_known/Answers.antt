use Rattle.std.proofs.Common.{subst, Err}
use Rattle.std.proofs.lemmas.Result.{err_from_is_err_and}
use Rattle.jt_ast.specs.StatementView.{body_view}
use Rattle.jt_parse.specs.View.{reads_of}
use Rattle.jt_parse.specs.Kept.{pieces}
use Rattle.jt_parse.specs.internal.Reading.{Parsed}
use Rattle.jt_parse.proofs.ParserCorrect.{refused_read, found_misplaced, found_unknown, known_body}
use Rattle.jt_parse.specs.Names.{body_unknown}
use Rattle.jt_parse.specs.Positions.{is_placed}
use Rattle.jt_parse.specs.internal.Gives.{GivesNames, GivesPositions}
use Rattle.jt_parse.proofs.parser.read_known.Goals as goal

pub returns-in_err-body : goal.returns-in_err-body
returns-in_err-body c =
    let p = err_from_is_err_and c.from_residual.result c.from_residual.ensures.1 in
    rw (p.1, p.2)
    (refused_read (Parsed 100 (pieces (reads_of c.args.segments.now))) c.in_err-body.field-0.0 c.in_err-body.ensures)

pub returns-in_err-check_positions : goal.returns-in_err-check_positions
returns-in_err-check_positions c =
    let p = err_from_is_err_and c.from_residual-in_err-check_positions.result
    c.from_residual-in_err-check_positions.ensures.1 in
    rw (p.1, p.2) (found_misplaced (Parsed 100 (pieces (reads_of c.args.segments.now)))
    (body_view c.in_ok-body.body.items) c.in_err-check_positions.field-0.0 c.in_ok-body.ensures
    (subst (λ z. GivesPositions (is_placed (body_view z)) (Err c.in_err-check_positions.field-0.0))
    c.deref.ensures.value c.in_err-check_positions.ensures))

pub returns-in_err-check_body : goal.returns-in_err-check_body
returns-in_err-check_body c =
    let p = err_from_is_err_and c.from_residual-in_err-check_body.result c.from_residual-in_err-check_body.ensures.1 in
    rw (p.1, p.2) (found_unknown (Parsed 100 (pieces (reads_of c.args.segments.now)))
    (body_view c.in_ok-body.body.items) c.in_err-check_body.field-0.0 c.in_ok-body.ensures
    (rw c.deref.ensures.value at c.in_ok-check_positions.ensures)
    (subst (λ z. GivesNames (body_unknown (body_view z)) (Err c.in_err-check_body.field-0.0)) c.deref-2.ensures.value
    c.in_err-check_body.ensures))

pub returns : goal.returns
returns c =
    known_body (Parsed 100 (pieces (reads_of c.args.segments.now))) (body_view c.in_ok-body.body.items) c.new.result
    c.new.ensures c.in_ok-body.ensures (rw c.deref.ensures.value at c.in_ok-check_positions.ensures)
    (rw c.deref-2.ensures.value at c.in_ok-check_body.ensures)
