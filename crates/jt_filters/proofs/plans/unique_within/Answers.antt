use Rattle.std.proofs.Common.{refl}
use Rattle.jt_filter_semantics.specs.Ordering.{distinct}
use Rattle.jt_filters.specs.internal.Operands.{items_in}
use Rattle.jt_filters.proofs.plans.unique_within.Goals as goal

pub returns-in-Err : goal.returns-in-Err
returns-in-Err c = c.refusal.ensures (distinct (items_in c.args.items)) c.unseen_list_measure.ensures refl
