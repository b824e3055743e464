use Rattle.jt_machine.proofs.Vocabulary.{Tree, view}
use Rattle.std.proofs.Common.{◌≡◌, map, ap, rules, sym, ◌∙◌, Ok}
use Rattle.jt_value.specs.View.{entries_view}
use Rattle.jt_value.specs.Tree as tree
use Rattle.jt_machine.proofs.MapUnlessKeyFault.{mapped_is}
use Rattle.jt_machine.proofs.ReturnCorrect.{if_ok_map}
use Rattle.jt_machine.proofs.maps.map_of.Goals as goal

pub returns : goal.returns
returns c =
    let same : c.in_ok-collect.field-0.items ≡ c.in_ok-entries.entries.entries = search rules in
    if_ok_map c.from_entries.result _ _ c.from_entries.ensures
    (λ v e. mapped_is (map view c.args.values.items) (entries_view c.in_ok-entries.entries.entries) c.requires
    c.in_ok-entries.ensures
    ∙ ap (λ (t : Tree). Ok t) (sym (e ∙ ap (λ es. tree.map (entries_view es)) same)))
