use Rattle.std.proofs.Common.{arith, rules}
use Rattle.clap.proofs.WalkLemmas.{first_value-rows}
use Rattle.jt_args.proofs.Found.{text_or_none}
use Rattle.jt_args.proofs.line.word.Goals as goal

pub returns : goal.returns
returns c = search (arith, rules, text_or_none, first_value-rows)
