use Rattle.std.proofs.Common.{true, refl, ap, ◌∙◌, to_z, of_z, rules}
use Rattle.std.proofs.lemmas.Int.{to_z-of_z}
use Rattle.std.specs.Int.{w64}
use Rattle.std.specs.Prelude.{FitsSigned}
use Rattle.jt_filters.specs.declared.seen_numbers.Entry.{Entry}
use Rattle.jt_filters.proofs.SeenEntries.{had_at, has_seen}
use Rattle.jt_filters.proofs.seen_numbers.see.Goals as goal

pub returns-clause-had : goal.returns-clause-had
returns-clause-had c =
    ap (λ (e : Entry). e.is_seen) c.index.ensures
    ∙ had_at c.args.entries.now.items c.args.index c.args.number c.index.result.now c.requires.distinct c.requires.there

pub returns-clause-has : goal.returns-clause-has
returns-clause-has c = λ y.
    let fits : FitsSigned w64 c.args.number = search rules in
    let e : Entry = record { number = to_z w64 (of_z w64 c.args.number); is_seen = true } in
    has_seen c.args.entries.now.items c.args.index c.args.number e c.requires.there (to_z-of_z w64 c.args.number fits)
    refl y
