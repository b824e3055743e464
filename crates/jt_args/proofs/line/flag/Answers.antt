use Rattle.std.proofs.Common.{arith, rules}
use Rattle.clap.proofs.WalkLemmas.{one_text-rows}
use Rattle.jt_args.proofs.Found.{flagged}
use Rattle.jt_args.proofs.line.flag.Goals as goal

pub returns : goal.returns
returns c = search (arith, rules, one_text-rows, flagged)
