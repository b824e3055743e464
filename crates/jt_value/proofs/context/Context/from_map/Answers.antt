use Rattle.std.proofs.Common.{◌≡◌, rules, sym, subst}
use Rattle.jt_value.specs.KeySearch.{Finds}
use Rattle.jt_value.specs.Pairs.{pairs, HasDistinctNames}
use Rattle.jt_value.specs.View.{entries_view, text_keyed}
use Rattle.jt_value.proofs.ContextLookup.{distinct-pairs}
use Rattle.jt_value.proofs.context.Context.from_map.Goals as goal

pub invariant_of-result : goal.invariant_of-result
invariant_of-result g c =
    let same : c.in_ok-entries.entries.items ≡ text_keyed c.args.values.entries = search rules in (
      subst (λ es. HasDistinctNames (pairs es)) (sym same)
          (distinct-pairs c.args.values.entries c.into_iter.ensures.into_iter_gives.4),
      subst (λ es. Finds c.in_ok-search.search (entries_view es)) c.deref.ensures.value c.in_ok-search.ensures,
    )
