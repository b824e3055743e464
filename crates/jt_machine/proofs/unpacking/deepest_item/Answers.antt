use Rattle.jt_machine.proofs.Vocabulary.{greatest, nesting, view, min}
use Rattle.std.proofs.Common.{◌≡◌, ◌-◌, ◌^◌, ap, ◌∙◌}
use Rattle.jt_value.specs.ListItems.{listed}
use Rattle.jt_machine.proofs.UnpackCorrect.{listed_trees}
use Rattle.jt_machine.proofs.unpacking.deepest_item.Goals as goal

pub returns-in-List : goal.returns-in-List
returns-in-List c =
    listed_trees (view c.args.value.now) _ (listed c.items.result)
    (λ us. c.greatest_item_nesting.result ≡ min (greatest nesting us) (2 ^ 32 - 1)) (ap view c.in-List.is)
    (c.items.ensures ∙ c.deref.ensures) c.greatest_item_nesting.ensures
