use Rattle.std.proofs.Common.{◌≡◌, List, Bor, ap}
use Rattle.jt_value.specs.declared.in_order.InOrder.{InOrder}
use Rattle.jt_value.proofs.Lists.{Pair}
use Rattle.jt_value.proofs.KeyOrder.{smaller}
use Rattle.jt_value.proofs.in_order.InOrder.next.Goals as goal
use Rattle.jt_value.proofs.in_order.InOrder.next.Goals.{in-From, in-At+in_ok-index-in-At}

pub returns-clause-smaller : goal.returns-clause-smaller
returns-clause-smaller c =
    let same : c.match-self.self.entries ≡ c.args.self.now.entries =
    elim c.match-self.branch [
      | in-From w ↦ ap (λ (o : InOrder). o.entries) w.self-is
      | in-At+in_ok-index-in-At w ↦ ap (λ (o : InOrder). o.entries) w.self-is
    ] in
    smaller c.args.self.now.entries.now c.match-self.self.entries.now c.match-self.index c.get.result
    (ap (λ (s : Bor (List Pair)). s.now) same) c.get.ensures.lookup
