use Rattle.jt_bind.proofs.{◌≡◌, expr_values, values, take_at, take-map, filters_push, named_is, filter_placed}
use Rattle.jt_bind.proofs.{required_placed}
use Rattle.jt_bind.proofs.resolver.Resolver.resolve_filter_call.Goals as goal

pub returns-in_default-clause-added : goal.returns-in_default-clause-added
returns-in_default-clause-added c = λ k p n h.
    let cut : values c.truncate.new.self ≡ p =
    rw (c.truncate.ensures.items, ← take-map, h.pooled) (take_at p (expr_values k) c.args.start n) in
    rw (
      ← c.as_str.ensures.value,
      ← c.as_slice-row.ensures.value,
      ← c.as_slice-pairs.ensures.value,
      named_is,
      ← c.filter_of.ensures,
      c.in_default.is,
      cut,
      c.clear.ensures.items,
    ) (c.absent.ensures p)

pub returns-clause-added : goal.returns-clause-added
returns-clause-added c = λ k p n h.
    let added = c.resolve_filter_row.new.done in
    let emitted = rw c.new-given.ensures.items at c.in_ok-resolve_filter_row.ensures in
    rw (
      ← c.as_str.ensures.value,
      ← c.as_slice-row.ensures.value,
      ← c.as_slice-pairs.ensures.value,
      named_is,
      ← c.filter_of.ensures,
      c.in-Some.is,
      c.in_ok-push.ensures.items,
      filters_push,
      ← c.requires_input.ensures,
    ) (filter_placed _ _ _ _ added.items p _ _ (required_placed c.requires_input.result k _ p _ h) emitted)
