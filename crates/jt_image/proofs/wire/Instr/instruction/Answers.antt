use Rattle.jt_image.proofs.DecodeComplete.{instruction_exact}
use Rattle.jt_image.proofs.wire.Instr.instruction.Goals as goal

pub returns-clause-exact : goal.returns-clause-exact
returns-clause-exact c = instruction_exact c.args.self c.by_opcode.result c.by_opcode.ensures
