use Rattle.jt_inherit.proofs.Vocabulary.{◌≡◌, ◌-◌, ◌^◌, length, IsFound, root_of}
use Rattle.jt_inherit.proofs.discovery.discover.Given as goal

abbrev pub decreases-chains : goal.decreases-chains
decreases-chains g l = 2 ^ 63 - length l.found.extends_paths.items

abbrev pub invariant-chains : goal.invariant-chains
invariant-chains g l = record {
  found : IsFound (g.L.Library.sources l.library) l.options l.found;
  root : root_of l.found ≡ l.entry;
}
