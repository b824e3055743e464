use Rattle.jt_machine.proofs.Vocabulary.{config_view, items_of_tree, view}
use Rattle.std.proofs.Common.{refl}
use Rattle.jt_machine.proofs.UnpackCorrect.{items_put}
use Rattle.jt_machine.proofs.unpacking.spread_items.Goals as goal

pub returns-in-Ok : goal.returns-in-Ok
returns-in-Ok c =
    rw (items_put c.args.count (items_of_tree (view c.args.value)) c.in-Ok.items.items (config_view c.args.state.now)
    c.in_default.ensures.fits c.in-Ok.ensures)
    c.push_values.ensures

pub returns-in-Some : goal.returns-in-Some
returns-in-Some c = c.in-Some.ensures.ends (config_view c.args.state.now) refl
