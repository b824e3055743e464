use Rattle.std.proofs.Common.{◌≡◌, List, Some}
use Rattle.jt_image.specs.Code.{Section}
use Rattle.jt_image.specs.Parts.{each_of, section_of_unit}
use Rattle.jt_constants.specs.Merged.{moved_unit}
use Rattle.jt_constants.proofs.LoopPrefix.{changed}
use Rattle.jt_constants.proofs.moving.move_constants.Given as goal

abbrev pub invariant-loop-at : goal.invariant-loop-at
invariant-loop-at l =
    (us : List Section) → each_of section_of_unit l.initial.units ≡ Some us
    → each_of section_of_unit l.units ≡ Some (changed section_of_unit (moved_unit l.indices) l.at us)
