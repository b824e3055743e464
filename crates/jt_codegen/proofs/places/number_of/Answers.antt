use Rattle.std.proofs.Common.{◌∙◌}
use Rattle.jt_codegen.proofs.BinarySearch.{searched}
use Rattle.jt_codegen.proofs.places.number_of.Goals as goal

pub returns : goal.returns
returns c =
    c.unwrap_or.ensures ∙ searched c.args.name.now c.args.named.now c.binary_search.result c.requires.ascend
    c.binary_search.ensures.bound c.binary_search.ensures.position
