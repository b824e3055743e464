use Rattle.std.proofs.Common.{◌≡◌, ◌-◌, [], List}
use Rattle.jt_image.specs.declared.instruction.Instruction.{Instruction}
use Rattle.jt_image.specs.Reading.{many_at, instruction_at}
use Rattle.jt_image.proofs.sections.after_instructions.Given as goal

abbrev pub invariant-code : goal.invariant-code
invariant-code l =
    (before : List Instruction) × (many_at (λ _. instruction_at) (l.count - l.counter) before l.rest
    ≡ many_at (λ _. instruction_at) l.count [] l.bytes)
