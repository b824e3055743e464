use Rattle.jt_image.proofs.PartsForAssembly.{each_fits}
use Rattle.jt_image.proofs.spelling.put_all.Goals as goal

pub put-requires : goal.put-requires
put-requires g c =
    each_fits g.T.Spell.view g.T.Spell.IsFit c.args.items.now c.items.item-index c.item-item.result c.requires
    c.items-test.true c.item-item.is
