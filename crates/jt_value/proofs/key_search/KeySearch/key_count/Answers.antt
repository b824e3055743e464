use Rattle.std.proofs.Common.{refl, sym, subst}
use Rattle.jt_value.specs.internal.InOrder.{HasKeyCount}
use Rattle.jt_value.specs.KeySearch.{Finds}
use Rattle.jt_value.specs.View.{entries_view}
use Rattle.jt_value.proofs.AscendingKeys.{as_many}
use Rattle.jt_value.proofs.KeyOrder.{kept_count}
use Rattle.jt_value.proofs.key_search.KeySearch.key_count.Goals as goal

pub returns-in-Binary : goal.returns-in-Binary
returns-in-Binary c =
    let es = entries_view c.args.entries.now in
    (es, (subst (λ s. Finds s es) c.in-Binary.is c.requires, λ k. refl), as_many c.args.entries.now)

pub returns-in-Indexed : goal.returns-in-Indexed
returns-in-Indexed c =
    let es = entries_view c.args.entries.now in
    subst (λ n. HasKeyCount n es) (sym c.len.ensures.len) (kept_count c.args.entries.now c.in-Indexed.indices
    c.len.ensures.ordered (subst (λ s. Finds s es) c.in-Indexed.is c.requires))
