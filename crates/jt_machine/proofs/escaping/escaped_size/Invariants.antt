use Rattle.jt_machine.proofs.Vocabulary.{escaped}
use Rattle.std.proofs.Common.{◌≡◌, ◌*◌, ◌≤◌, length, take}
use Rattle.jt_machine.proofs.escaping.escaped_size.Given as goal

abbrev pub invariant-bytes : goal.invariant-bytes
invariant-bytes l = record {
  taken : l.size ≡ length (escaped (take l.byte-index l.text));
  few : l.size ≤ 5 * l.byte-index;
}
