use Rattle.jt_machine.proofs.Vocabulary.{escaped}
use Rattle.std.proofs.Common.{◌≡◌, ◌+◌, length, take}
use Rattle.jt_machine.proofs.escaping.emit_escaped.Given as goal

abbrev pub invariant-bytes : goal.invariant-bytes
invariant-bytes l = record {
  taken : l.rest.output + length (escaped (take l.byte-index l.text)) ≡ l.left.output;
  same : l.rest ≡ record l.left { output = l.rest.output };
}
