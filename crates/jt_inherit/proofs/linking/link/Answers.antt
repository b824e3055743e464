use Rattle.jt_inherit.proofs.Vocabulary.{passed_on, all_weaker}
use Rattle.jt_inherit.proofs.NumberTables.{files_at}
use Rattle.jt_inherit.proofs.FindingsHold.{order_finds}
use Rattle.jt_inherit.proofs.RulesCarryOver.{no_chain}
use Rattle.jt_inherit.proofs.ChainComplete.{some_namespaces, begins_chain, in_order, all_whole, linked, weighs}
use Rattle.jt_inherit.proofs.ChainComplete.{few_namespaces, all}
use Rattle.jt_inherit.proofs.linking.link.Goals as goal

pub returns-in_err-order-clause-refused : goal.returns-in_err-order-clause-refused
returns-in_err-order-clause-refused g c =
    let d = c.in_ok-found.ensures.done in
    passed_on _ c.from_residual-in_err-order.result c.from_residual-in_err-order.ensures.1
    (order_finds d.found (all d) c.in_err-order.field-0.0 c.in_err-order.ensures.refused)

pub invariant_of-result : goal.invariant_of-result
invariant_of-result g c =
    let d = c.in_ok-found.ensures.done in
    let o = c.in_ok-order.ensures.ordered in
    let ks = c.in_ok-namespaces.namespaces.items in
    let made = c.in_ok-namespaces.ensures in
    record {
      once = d.found.known.read.once;
      some = some_namespaces d.found (all d) o ks made;
      begins = begins_chain d.found (all d) o ks made;
      order = in_order d.found (all d) o ks made;
      whole = all_whole d.found (all d) o ks made;
      indexed = files_at c.in_ok-found.found.store.files.items c.in_ok-found.found.store.indices
          c.in_ok-found.found.store.indexed;
    }

pub returns-clause-linked : goal.returns-clause-linked
returns-clause-linked g c =
    let d = c.in_ok-found.ensures.done in
    linked d.found (all d) c.in_ok-order.ensures.ordered _ c.in_ok-namespaces.ensures

pub returns-clause-weighs : goal.returns-clause-weighs
returns-clause-weighs g c =
    let d = c.in_ok-found.ensures.done in
    weighs d.found (all d) c.in_ok-order.ensures.ordered _ c.in_ok-namespaces.ensures

pub returns-clause-short : goal.returns-clause-short
returns-clause-short g c =
    all_weaker (λ t w. w.short) _ c.in_ok-found.ensures.done.found.known.within

pub returns-clause-few : goal.returns-clause-few
returns-clause-few g c =
    let d = c.in_ok-found.ensures.done in
    few_namespaces d.found (all d) c.in_ok-order.ensures.ordered _ c.in_ok-namespaces.ensures

-- ---- no chain if there is an error

pub returns-in_err-found-clause-only : goal.returns-in_err-found-clause-only
returns-in_err-found-clause-only g c =
    λ x i. passed_on _ c.from_residual.result c.from_residual.ensures.1
    (no_chain _ _ _ x i c.in_err-found.field-0.0.error c.in_err-found.ensures.refused.broken)

pub returns-in_err-order-clause-only : goal.returns-in_err-order-clause-only
returns-in_err-order-clause-only g c =
    let d = c.in_ok-found.ensures.done in
    let e = c.in_err-order.field-0.0 in
    λ x i. passed_on _ c.from_residual-in_err-order.result c.from_residual-in_err-order.ensures.1
    (no_chain _ _ _ x i e.error (order_finds d.found (all d) e c.in_err-order.ensures.refused).broken)
