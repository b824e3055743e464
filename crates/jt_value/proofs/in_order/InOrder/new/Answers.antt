use Rattle.std.proofs.Common.{refl, sym, subst}
use Rattle.jt_value.specs.internal.InOrder.{IsInOrder, entries_at, rest_of}
use Rattle.jt_value.specs.KeySearch.{Finds}
use Rattle.jt_value.specs.View.{entries_view}
use Rattle.jt_value.proofs.KeyOrder.{kept_in_order}
use Rattle.jt_value.proofs.in_order.InOrder.new.Goals as goal
use Rattle.jt_value.proofs.in_order.InOrder.new.Goals.{in-Binary, in-Indexed}

pub returns-clause-in_order : goal.returns-clause-in_order
returns-clause-in_order c =
    let xs = c.args.entries.now in
    let es = entries_view xs in
    elim c.match-search.branch [
      | in-Binary w ↦ subst (λ p. IsInOrder (rest_of xs p) es) (sym w.rest-is)
          (subst (λ s. Finds s es) w.in-Binary.is c.requires, λ k. refl)
      | in-Indexed w ↦
          subst (λ p. IsInOrder (rest_of xs p) es) (sym w.rest-is)
          (subst (λ ps. IsInOrder (entries_at xs ps) es) (sym w.values.ensures.rest)
          (kept_in_order xs w.in-Indexed.indices w.values.ensures.ordered
          (subst (λ s. Finds s es) w.in-Indexed.is c.requires)))
    ]
