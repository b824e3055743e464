use Rattle.jt_machine.proofs.Vocabulary.{piled, upward, Tree, view, reverse-reverse}
use Rattle.std.proofs.Common.{◌≡◌, ◌∙◌, List, map, reverse, refl, ap}
use Rattle.jt_machine.proofs.MapEntries.{map-reverse}
use Rattle.jt_machine.proofs.unpacking.push_all.Goals as goal

pub values-init : goal.values-init
values-init c =
    let turned : upward c.reverse.new.self.items ≡ map view c.args.values.items =
    ap upward c.reverse.ensures.items ∙ ap reverse (map-reverse view c.args.values.items)
    ∙ reverse-reverse (map view c.args.values.items) in
    record { piled = ap (λ (ts : List Tree). piled ts c.args.stack.now.running) turned; callers = refl }
