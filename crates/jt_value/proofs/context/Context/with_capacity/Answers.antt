use Rattle.std.proofs.Common.{sym, subst}
use Rattle.jt_value.specs.Pairs.{pairs, HasDistinctNames}
use Rattle.jt_value.proofs.ContextLookup.{distinct-none}
use Rattle.jt_value.proofs.context.Context.with_capacity.Goals as goal

pub invariant_of-result : goal.invariant_of-result
invariant_of-result c =
    (subst (λ es. HasDistinctNames (pairs es)) (sym c.in_ok-with_capacity.ensures.items) distinct-none, tt)
