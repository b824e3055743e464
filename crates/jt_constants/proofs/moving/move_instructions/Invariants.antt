use Rattle.std.proofs.Common.{◌≡◌, List, Some}
use Rattle.jt_image.specs.declared.instruction.Instruction.{Instruction as SpecInstruction}
use Rattle.jt_image.specs.Reading.{instruction_of}
use Rattle.jt_image.specs.Parts.{each_of}
use Rattle.jt_constants.specs.Merged.{with_indices}
use Rattle.jt_constants.proofs.LoopPrefix.{changed}
use Rattle.jt_constants.proofs.moving.move_instructions.Given as goal

abbrev pub invariant-loop-at : goal.invariant-loop-at
invariant-loop-at l =
    (is : List SpecInstruction) → each_of instruction_of l.initial.code ≡ Some is
    → each_of instruction_of l.code ≡ Some (changed instruction_of (with_indices l.indices) l.at is)
