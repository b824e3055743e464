use Rattle.std.proofs.Common.{ap, sym, ◌∙◌}
use Rattle.jt_value.specs.ListItems.{listed, items_count}
use Rattle.jt_value.proofs.Lists.{items_view_count}
use Rattle.jt_value.proofs.list_items.ListItems.len.Goals as goal

pub returns-in-Values : goal.returns-in-Values
returns-in-Values c =
    sym (items_view_count c.in-Values.values.now) ∙ ap (λ items. items_count (listed items)) (sym c.in-Values.is)
