use Rattle.std.proofs.Common.{ap, sym, ◌∙◌}
use Rattle.jt_value.specs.View.{items_view}
use Rattle.jt_value.proofs.Lists.{stored}
use Rattle.jt_value.proofs.NumberSteps.{none_stepped}
use Rattle.jt_value.proofs.payload.ValueList.items.Goals as goal

pub returns-then-is_empty : goal.returns-then-is_empty
returns-then-is_empty c =
    let range = c.self.inside.numbers in
    ap items_view c.as_slice.ensures.value
    ∙ sym (stored c.self.inside.values.items range
    (none_stepped range.count range.first range.step c.is_empty.result c.is_empty.ensures c.if-is_empty.true))
    ∙ c.self.view_is
