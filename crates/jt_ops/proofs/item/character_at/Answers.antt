use Rattle.std.proofs.Common.{◌∙◌}
use Rattle.std.proofs.lemmas.Iterator.{YieldsList-from_chars}
use Rattle.std.proofs.lemmas.Iterator.Consumers.{nth_from_yields_List}
use Rattle.jt_ops.proofs.Places.{same_option}
use Rattle.jt_ops.proofs.item.character_at.Goals as goal

pub returns : goal.returns
returns c =
    same_option c.nth.result
    ∙ nth_from_yields_List c.nth.result _ c.args.place c.nth.ensures.ran
    (YieldsList-from_chars c.args.text.now c.utf8.text cc)
