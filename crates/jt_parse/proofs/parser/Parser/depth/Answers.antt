use Rattle.std.proofs.Common.{arith}
use Rattle.std.proofs.lemmas.List.{length-reverse, length-map}
use Rattle.jt_parse.proofs.parser.Parser.depth.Goals as goal

pub returns : goal.returns
returns c = grind (arith, length-reverse, length-map)
