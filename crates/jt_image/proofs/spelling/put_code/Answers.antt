use Rattle.std.proofs.Common.{rules}
use Rattle.jt_image.proofs.PartsForAssembly.{known_wires}
use Rattle.jt_image.proofs.spelling.put_code.Goals as goal

pub returns : goal.returns
returns c = rw (← known_wires c.args.code.now c.requires) (search rules)
