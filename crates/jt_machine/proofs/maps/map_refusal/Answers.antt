use Rattle.jt_machine.proofs.Vocabulary.{all_held, budget_view, limit_view}
use Rattle.std.proofs.Common.{sym}
use Rattle.jt_machine.proofs.MapSize.{fault_ends, spent_ends, texts_within}
use Rattle.jt_machine.proofs.maps.map_refusal.Goals as goal

pub returns-in-Some-clause-ends : goal.returns-in-Some-clause-ends
returns-in-Some-clause-ends c =
    λ d left. fault_ends (all_held c.args.pairs.now) c.in-Some.fault d (sym c.in-Some.ensures)

pub returns-in-Some-map_limit-clause-ends : goal.returns-in-Some-map_limit-clause-ends
returns-in-Some-map_limit-clause-ends c =
    λ d left. spent_ends (all_held c.args.pairs.now) d (budget_view c.args.budget.now)
    (limit_view c.in-Some-map_limit.spent) left (sym c.in_default.ensures) c.in-Some-map_limit.ensures

pub returns-in-None-clause-fits : goal.returns-in-None-clause-fits
returns-in-None-clause-fits c =
    texts_within (all_held c.args.pairs.now) (budget_view c.args.budget.now) (sym c.in_default.ensures)
    c.in-None.ensures
