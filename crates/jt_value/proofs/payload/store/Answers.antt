use Rattle.std.proofs.Common.{sym, ap, ◌∙◌}
use Rattle.jt_value.specs.Payload.{joined_items}
use Rattle.jt_value.specs.View.{items_view}
use Rattle.jt_value.proofs.Lists.{joined_none}
use Rattle.jt_value.proofs.NumberSteps.{none_stepped}
use Rattle.jt_value.proofs.payload.store.Goals as goal

pub returns-else-not-is_empty-clause-ok : goal.returns-else-not-is_empty-clause-ok
returns-else-not-is_empty-clause-ok c =
    let none = none_stepped c.args.numbers.now.count c.args.numbers.now.first c.args.numbers.now.step c.is_empty.result
    c.is_empty.ensures c.if-not-is_empty.false in
    record {
      none = none;
      same =
          sym (joined_none (items_view c.args.values.now.items))
          ∙ ap (joined_items (items_view c.args.values.now.items)) (sym none);
    }
