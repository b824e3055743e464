use Rattle.std.proofs.Common.{arith, rules}
use Rattle.clap.proofs.WalkLemmas.{raw_values-rows}
use Rattle.jt_args.proofs.Pairing.{come_of, found_words, no_words}
use Rattle.jt_args.proofs.line.turns_job.Goals as goal
use Rattle.jt_args.proofs.line.turns_job.Goals.{then-is_empty-via-then-is_empty}
use Rattle.jt_args.proofs.line.turns_job.Goals.{then-is_empty-via-else-is_empty+then-words-ne0}

pub returns-then-is_empty-clause-err : goal.returns-then-is_empty-clause-err
returns-then-is_empty-clause-err c paired = search (arith, rules, found_words, raw_values-rows, come_of)

pub returns-clause-ok : goal.returns-clause-ok
returns-clause-ok c = search (arith, rules, found_words, raw_values-rows, no_words)
