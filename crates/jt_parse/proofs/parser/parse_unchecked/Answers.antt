use Rattle.jt_ast.specs.StatementView.{body_view}
use Rattle.jt_parse.specs.View.{reads_of}
use Rattle.jt_parse.specs.Kept.{pieces}
use Rattle.jt_parse.proofs.ParserCorrect.{placed_spelled}
use Rattle.jt_parse.proofs.parser.parse_unchecked.Goals as goal

pub returns : goal.returns
returns c =
    placed_spelled (pieces (reads_of c.args.segments.now)) (body_view c.in_ok-statements.statements.items) c.new.result
    c.new.ensures c.in_ok-statements.ensures (rw c.deref.ensures.value at c.in_ok-check_positions.ensures)
