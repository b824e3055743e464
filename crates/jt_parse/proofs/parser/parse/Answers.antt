use Rattle.jt_parse.proofs.ParserCorrect.{answer_spelled, answer_known, answer_only, answer_refused, answer_weighs}
use Rattle.jt_parse.proofs.ParserCorrect.{answer_short}
use Rattle.jt_parse.specs.Kept.{pieces}
use Rattle.jt_parse.specs.View.{reads_of}
use Rattle.jt_parse.proofs.parser.parse.Goals as goal

pub returns-clause-spelled : goal.returns-clause-spelled
returns-clause-spelled c = answer_spelled (pieces (reads_of c.args.segments.now)) _ c.read_known.ensures

pub returns-clause-known : goal.returns-clause-known
returns-clause-known c = answer_known (pieces (reads_of c.args.segments.now)) _ c.read_known.ensures

pub returns-clause-only : goal.returns-clause-only
returns-clause-only c = answer_only (pieces (reads_of c.args.segments.now)) _ c.read_known.ensures

pub returns-clause-refused : goal.returns-clause-refused
returns-clause-refused c = answer_refused (pieces (reads_of c.args.segments.now)) _ c.read_known.ensures

pub returns-clause-weighs : goal.returns-clause-weighs
returns-clause-weighs c = answer_weighs c.expression_laws.ensures c.args.segments.now _ c.read_known.ensures

pub returns-clause-short : goal.returns-clause-short
returns-clause-short c = answer_short c.expression_laws.ensures c.args.segments.now _ c.read_known.ensures
