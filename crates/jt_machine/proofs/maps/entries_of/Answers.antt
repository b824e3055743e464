use Rattle.jt_machine.proofs.Vocabulary.{upward, view, reverse-reverse}
use Rattle.std.proofs.Common.{◌≡◌, ◌∙◌, map, reverse, sym, ap, refl}
use Rattle.jt_value.specs.View.{entries_view}
use Rattle.jt_machine.proofs.MapEntries.{map-reverse}
use Rattle.jt_machine.proofs.maps.entries_of.Goals as goal

pub pairs-init : goal.pairs-init
pairs-init c =
    let turned : upward c.reverse.new.self.items ≡ map view c.args.values.items =
    ap upward c.reverse.ensures.items ∙ ap reverse (map-reverse view c.args.values.items)
    ∙ reverse-reverse (map view c.args.values.items) in
    record {
      texts = rw turned c.requires;
      same = rw (turned, c.new-entries.ensures.empty) refl;
    }

pub pairs-preserved : goal.pairs-preserved
pairs-preserved c = record {
  texts = c.in-Some.ensures.texts;
  same =
      rw c.in_ok-put_pair.ensures
      (sym (c.in-Some.ensures.some (entries_view c.pairs.entries.entries)) ∙ c.pairs.invariant.same);
}
