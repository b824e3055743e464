use Rattle.jt_inherit.proofs.Vocabulary as words
use words.{take, true, AllByRecursion, HasRead, IsMet, keyed_needs, names, needed, its_files}
use Rattle.jt_inherit.proofs.including.read_needs.Given as goal

abbrev pub invariant-loop-need : goal.invariant-loop-need
invariant-loop-need g l = record {
  read : HasRead (g.L.Library.sources l.library) l.options (its_files l.initial.store)
      (its_files l.store) (needed true (keyed_needs (take l.need-index l.need-items)));
  met : AllByRecursion (IsMet (g.L.Library.sources l.library) (names (its_files l.store)))
      (keyed_needs (take l.need-index l.need-items));
}
