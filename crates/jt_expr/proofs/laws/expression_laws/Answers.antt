use Rattle.jt_expr.proofs.TokenBounds.{spells_bound}
use Rattle.jt_expr.proofs.laws.expression_laws.Goals as goal

pub returns : goal.returns
returns c = record { weighs = λ k t x d. (spells_bound d).0; short = λ k t x d. (spells_bound d).1 }
