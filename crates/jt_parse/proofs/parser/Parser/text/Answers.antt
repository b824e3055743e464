use Rattle.std.proofs.Common.{arith}
use Rattle.std.proofs.lemmas.Bool.Decides.{nat_tests}
use Rattle.jt_parse.proofs.SegmentSteps.{text_none, text_some}
use Rattle.jt_ast.proofs.StatementViews.{view_Data}
use Rattle.jt_parse.proofs.parser.Parser.text.Goals as goal

pub returns-then-is_empty : goal.returns-then-is_empty
returns-then-is_empty c = grind (arith, nat_tests, text_none)

pub returns : goal.returns
returns c = grind (arith, nat_tests, text_some, view_Data)
