-- The laws of merged codes hold.
use Rattle.jt_constants.specs.Laws.{MergedLaws}
use Rattle.jt_constants.specs.Merged.{new_indices}
use Rattle.jt_constants.proofs.UniqueConstants.{fewer}
use Rattle.jt_constants.proofs.MergeKeepsRuns.{comes, came}
use Rattle.jt_constants.proofs.MergeKeepsTyping.{typed}
use Rattle.jt_constants.proofs.MergeIsNoLarger.{shorter, units_len, units_room}

pub laws_hold : MergedLaws
laws_hold = record {
  comes = comes;
  came = came;
  typed = typed;
  fewer = fewer;
  shorter = shorter;
  sized = λ k. units_len (new_indices k.constants) k.units;
  written = λ cs us le h. units_room cs le us h;
}
