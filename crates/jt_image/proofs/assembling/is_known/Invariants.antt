use Rattle.std.proofs.Common.{map, take}
use Rattle.std.specs.List.{AllByRecursion}
use Rattle.std.specs.Option.{IsSome}
use Rattle.jt_image.specs.IsCode.{IsInstruction}
use Rattle.jt_image.specs.Reading.{instruction_of}
use Rattle.jt_image.specs.View.{instruction_view}
use Rattle.jt_image.proofs.assembling.is_known.Given as goal

abbrev pub invariant-code : goal.invariant-code
invariant-code l = record {
  known : AllByRecursion (λ w. IsSome (instruction_of w)) (take l.instr-index l.unit.code.items);
  fits : AllByRecursion IsInstruction (map instruction_view (take l.instr-index l.unit.code.items));
}
