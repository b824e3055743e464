use Rattle.std.proofs.Common.{◌∙◌}
use Rattle.jt_value.specs.View.{view}
use Rattle.jt_value.proofs.CodePoints.{order-Spells}
use Rattle.jt_value.proofs.value.Value.compare.Goals as goal

pub returns-clause-code_points : goal.returns-clause-code_points
returns-clause-code_points c =
    λ cs ds p q. c.ordering_of.ensures ∙ order-Spells (view c.args.self.now) (view c.args.other.now) cs ds p q
