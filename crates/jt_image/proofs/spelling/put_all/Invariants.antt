use Rattle.std.proofs.Common.{◌≡◌, ◌++◌, map, take}
use Rattle.std.specs.List.{flat_map}
use Rattle.jt_image.proofs.spelling.put_all.Given as goal

abbrev pub invariant-items : goal.invariant-items
invariant-items g l =
    l.out.items ≡ l.fn.out.items ++ flat_map g.T.Spell.spell (map g.T.Spell.view (take l.item-index l.items))
