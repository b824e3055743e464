use Rattle.std.proofs.Common.{◌≡◌, drop}
use Rattle.std.specs.Prelude.{map}
use Rattle.jt_hints.specs.Forms.{is_one_of}
use Rattle.jt_hints.proofs.statement_words.is_one_of.Given as goal

abbrev pub invariant-loop-each : goal.invariant-loop-each
invariant-loop-each l =
    is_one_of (map (λ x. x.now) (drop l.each-index l.words)) l.word ≡ is_one_of (map (λ x. x.now) l.words) l.word
