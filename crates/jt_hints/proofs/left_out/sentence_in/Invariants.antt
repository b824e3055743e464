use Rattle.std.proofs.Common.{◌≡◌, drop}
use Rattle.std.specs.Prelude.{map}
use Rattle.jt_hints.specs.LeftOut.{sentence_in}
use Rattle.jt_hints.proofs.left_out.sentence_in.Given as goal

abbrev pub invariant-loop-word : goal.invariant-loop-word
invariant-loop-word l =
    sentence_in (map (λ row. (row.0.now, row.1.now)) (drop l.word-index l.rows)) l.name
    ≡ sentence_in (map (λ row. (row.0.now, row.1.now)) l.rows) l.name
