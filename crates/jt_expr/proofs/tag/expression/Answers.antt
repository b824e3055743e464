use Rattle.jt_expr.proofs.WholeTagExact.{answer_spelled, answers_only, answers_alone, answers_syntax, answers_deep}
use Rattle.jt_expr.proofs.tag.expression.Goals as goal

pub returns-clause-spelled : goal.returns-clause-spelled
returns-clause-spelled c = answer_spelled _ _ _ c.read_all.ensures

pub returns-clause-only : goal.returns-clause-only
returns-clause-only c = answers_only _ _ _ c.read_all.ensures

pub returns-clause-alone : goal.returns-clause-alone
returns-clause-alone c = answers_alone _ _ _ c.read_all.ensures

pub returns-clause-syntax : goal.returns-clause-syntax
returns-clause-syntax c = answers_syntax _ _ _ c.read_all.ensures

pub returns-clause-deep : goal.returns-clause-deep
returns-clause-deep c = answers_deep _ _ _ c.read_all.ensures
