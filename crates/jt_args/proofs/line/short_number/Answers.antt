use Rattle.std.proofs.Common.{arith, rules}
use Rattle.clap.proofs.WalkLemmas.{one_text-rows}
use Rattle.jt_args.proofs.Found.{given}
use Rattle.jt_args.proofs.line.short_number.Goals as goal

pub returns : goal.returns
returns c = search (arith, rules, one_text-rows, given)
