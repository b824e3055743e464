use Rattle.jt_parse.proofs.tags.expression.Goals as goal

pub returns : goal.returns
returns c = rw c.into_inner.ensures c.in_ok-expr.ensures.promises
