use Rattle.jt_machine.proofs.Vocabulary.{view}
use Rattle.std.proofs.Common.{◌≡◌, map, take}
use Rattle.jt_machine.proofs.StepLemmas.{key_of}
use Rattle.jt_machine.proofs.items.keys.Given as goal

abbrev pub invariant-entries : goal.invariant-entries
invariant-entries l = map view l.keys.items ≡ map key_of (take l.entry-index l.fn.entries)
