use Rattle.std.proofs.Common.{get_or, arith, rules}
use Rattle.std.proofs.lemmas.List.{take-append-drop, length-take}
use Rattle.jt_image.proofs.InstructionReadWhole.{c_of, eight_of, read_at_once}
use Rattle.jt_image.proofs.DecodeSound.{wire_at}
use Rattle.jt_image.proofs.units.instruction_at.Goals as goal

pub returns-in-Some : goal.returns-in-Some
returns-in-Some c = search (arith, rules, take-append-drop, length-take, eight_of, wire_at, get_or, c_of, read_at_once)
