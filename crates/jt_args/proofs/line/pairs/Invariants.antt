use Rattle.std.proofs.Common.{◌≡◌, ◌*◌, take}
use Rattle.clap.specs.Walk.{texts}
use Rattle.jt_args.specs.Line.{words_of_pairs}
use Rattle.jt_args.proofs.line.pairs.Given as goal

-- The pairs so far have the words so far.
abbrev pub invariant-loop-i : goal.invariant-loop-i
invariant-loop-i l = words_of_pairs l.pairs.items ≡ texts (take (2 * l.i) l.words)
