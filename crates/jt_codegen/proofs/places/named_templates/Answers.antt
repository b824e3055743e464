use Rattle.std.proofs.Common.{arith, rules}
use Rattle.jt_codegen.proofs.PlaceTables.{named_more}
use Rattle.jt_codegen.proofs.places.named_templates.Goals as goal

pub loop-tag-preserved : goal.loop-tag-preserved
loop-tag-preserved c = search (arith, rules, named_more)
