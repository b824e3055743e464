use Rattle.jt_bind.proofs.{drop_all, arith, rules, placed_next}
use Rattle.jt_bind.proofs.name_scope.NameScope.new.Goals as goal

pub invariant_of-result : goal.invariant_of-result
invariant_of-result c = record {
  indexed =
      λ x. rw (← c.deref-name-items.ensures.value)
      (rw (drop_all c.loop-name.name-index c.deref-name-items.result.now (omega arith)) at (c.loop-name.invariant x));
}

pub loop-name-preserved : goal.loop-name-preserved
loop-name-preserved c = search (arith, rules, placed_next)
