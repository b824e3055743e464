use Rattle.jt_machine.proofs.Vocabulary.{trees_of, greatest, Tree, nesting, view, min}
use Rattle.std.proofs.Common.{◌-◌, ◌^◌, List, map, ap, sym, ◌∙◌}
use Rattle.jt_value.specs.ListItems.{listed}
use Rattle.jt_machine.proofs.StepLemmas.{trees-items}
use Rattle.jt_machine.proofs.unpacking.greatest_item_nesting.Goals as goal

pub returns-in-Values : goal.returns-in-Values
returns-in-Values c =
    c.greatest_nesting.ensures
    ∙ ap (λ (us : List Tree). min (greatest nesting us) (2 ^ 32 - 1))
    (sym (trees-items (map view c.in-Values.values.now)) ∙ ap (λ items. trees_of (listed items)) (sym c.in-Values.is))
