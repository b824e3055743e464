use Rattle.jt_machine.proofs.Vocabulary.{view, chars}
use Rattle.std.proofs.Common.{◌≡◌, length, map, take}
use Rattle.jt_machine.proofs.StepLemmas.{character_of}
use Rattle.jt_machine.proofs.items.characters.Given as goal

abbrev pub invariant-characters : goal.invariant-characters
invariant-characters l = map view l.items.items ≡ map character_of (take (length l.yielded) (chars l.text))
