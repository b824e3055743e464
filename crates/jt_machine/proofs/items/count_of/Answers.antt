use Rattle.jt_machine.proofs.Vocabulary.{view}
use Rattle.std.proofs.Common.{ap, ◌∙◌}
use Rattle.jt_value.specs.ListItems.{listed}
use Rattle.jt_machine.proofs.UnpackCorrect.{list_counted, map_counted, text_counted, markup_counted}
use Rattle.jt_machine.proofs.items.count_of.Goals as goal

pub returns-in-List : goal.returns-in-List
returns-in-List c =
    list_counted (view c.args.value.now) _ (listed c.items.result) c.len.result (ap view c.in-List.is)
    (c.items.ensures ∙ c.deref.ensures) c.len.ensures

pub returns-in-Map : goal.returns-in-Map
returns-in-Map c =
    map_counted (view c.args.value.now) _ c.entries.result.now (ap view c.in-Map.is)
    (c.entries.ensures ∙ c.deref-in-Map.ensures)

pub returns-in-Text : goal.returns-in-Text
returns-in-Text c =
    text_counted (view c.args.value.now) _ c.character_count.result (ap view c.in-Text.is)
    (rw c.as_str.ensures at c.character_count.ensures)

pub returns-in-Markup : goal.returns-in-Markup
returns-in-Markup c =
    markup_counted (view c.args.value.now) _ c.character_count-in-Markup.result (ap view c.in-Markup.is)
    (rw c.as_str-in-Markup.ensures at c.character_count-in-Markup.ensures)
