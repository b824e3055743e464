use Rattle.jt_machine.proofs.Vocabulary.{text, items_of, view, take_all, chars}
use Rattle.std.proofs.Common.{◌≡◌, ◌∙◌, ◌+◌, ◌++◌, ◌∷◌, [], length, map, ap, arith}
use Rattle.std.proofs.lemmas.Iterator.{YieldsList-from_chars}
use Rattle.std.proofs.lemmas.Iterator.Consumers.{YieldsList-turn, YieldsList-end}
use Rattle.std.proofs.lemmas.List.{length_push}
use Rattle.jt_machine.proofs.StepLemmas.{mapped-more, character_of, characters-are}
use Rattle.jt_machine.proofs.items.characters.Goals as goal

pub characters-preserved : goal.characters-preserved
characters-preserved c =
    let t = YieldsList-turn (YieldsList-from_chars c.args.text.now c.utf8.text cc) c.characters.yielded _
    c.characters.yielded_by _ _ c.in-Some.c c.in-Some.is c.next.ensures.steps in
    let n : length (c.characters.yielded ++ c.in-Some.c ∷ []) ≡ length c.characters.yielded + 1 =
    length_push c.characters.yielded c.in-Some.c in
    rw (c.in_ok-push.ensures.items, n) (mapped-more view character_of c.characters.items.items (chars c.args.text.now)
    (length c.characters.yielded) c.in_ok-from_text.field-0 c.in-Some.c t.0 c.characters.invariant
    (c.in_ok-from_text.ensures ∙ ap text c.in_ok-text_of.ensures ∙ ap character_of t.1))

pub returns : goal.returns
returns c =
    let t = YieldsList-end (YieldsList-from_chars c.args.text.now c.utf8.text cc) c.characters.yielded _
    c.characters.yielded_by _ _ c.in-None.is c.next.ensures.steps in
    ap items_of (c.characters.invariant
    ∙ ap (map character_of) (take_all (length c.characters.yielded) (chars c.args.text.now) (omega (arith, t.1))))
    ∙ characters-are (chars c.args.text.now)
