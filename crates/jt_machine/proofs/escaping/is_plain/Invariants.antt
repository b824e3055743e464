use Rattle.jt_machine.proofs.Vocabulary.{escaped}
use Rattle.std.proofs.Common.{◌≡◌, true, take}
use Rattle.jt_machine.proofs.escaping.is_plain.Given as goal

abbrev pub invariant-bytes : goal.invariant-bytes
invariant-bytes l = l.plain ≡ true → escaped (take l.byte-index l.text) ≡ take l.byte-index l.text
