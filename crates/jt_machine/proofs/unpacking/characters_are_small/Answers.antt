use Rattle.jt_machine.proofs.Vocabulary.{chars}
use Rattle.std.proofs.Common.{length, ap, arith}
use Rattle.std.proofs.lemmas.Str.{encodes-chars}
use Rattle.jt_machine.proofs.UnpackCorrect.{characters_small}
use Rattle.jt_machine.proofs.unpacking.characters_are_small.Goals as goal

pub returns : goal.returns
returns c =
    let text = c.args.text.now in
    omega (arith, characters_small (chars text), ap length (encodes-chars text c.utf8.text))
