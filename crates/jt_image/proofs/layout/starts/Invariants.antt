use Rattle.std.proofs.Common.{◌≡◌, ◌+◌, ◌≤◌, ◌++◌, length, map, take, drop}
use Rattle.std.specs.List.{flat_map, AllByRecursion}
use Rattle.jt_image.specs.IsCode.{max_bytes}
use Rattle.jt_image.specs.internal.Layout as layout
use Rattle.jt_image.proofs.layout.starts.Given as goal

abbrev pub invariant-entries : goal.invariant-entries
invariant-entries g l = record {
  starts : l.offsets.items
      ++ layout.starts g.T.Spell.spell l.at (map g.T.Spell.view (drop l.entry-index l.entries))
      ≡ layout.starts g.T.Spell.spell l.start (map g.T.Spell.view l.entries);
  end : l.at + length (flat_map g.T.Spell.spell (map g.T.Spell.view (drop l.entry-index l.entries)))
      ≡ l.start + length (flat_map g.T.Spell.spell (map g.T.Spell.view l.entries));
  within : l.at ≤ l.start + max_bytes;
  held : AllByRecursion g.T.Spell.IsHeld (map g.T.Spell.view (take l.entry-index l.entries));
}
