use Rattle.jt_machine.proofs.Vocabulary.{text, items_of, view, take_all}
use Rattle.std.proofs.Common.{◌∙◌, map, ap}
use Rattle.jt_machine.proofs.StepLemmas.{mapped-more, key_of, keys-are}
use Rattle.jt_machine.proofs.items.keys.Goals as goal

pub entries-preserved : goal.entries-preserved
entries-preserved c =
    let lt = c.entries-test.true in
    let is = c.entry-item.is in
    rw c.in_ok-push.ensures.items (mapped-more view key_of c.entries.keys.items c.args.entries.now c.entries.entry-index
    c.shared_text.result c.entry-item.result lt c.entries.invariant
    (c.shared_text.ensures ∙ ap text c.in_ok-clone.ensures.cases ∙ ap key_of is))

pub returns : goal.returns
returns c =
    let le = c.entries-test.false in
    ap items_of (c.entries.invariant ∙ ap (map key_of) (take_all c.entries.entry-index c.args.entries.now le))
    ∙ keys-are c.args.entries.now
