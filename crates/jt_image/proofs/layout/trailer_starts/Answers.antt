use Rattle.std.proofs.Common.{arith, rules}
use Rattle.std.proofs.lemmas.List.{length-map}
use Rattle.jt_image.proofs.AssembleCorrect.{places_len}
use Rattle.jt_image.proofs.layout.trailer_starts.Goals as goal

pub returns-in_ok-templates-in-Two-clause-end : goal.returns-in_ok-templates-in-Two-clause-end
returns-in_ok-templates-in-Two-clause-end c = search (arith, rules, places_len, length-map)
