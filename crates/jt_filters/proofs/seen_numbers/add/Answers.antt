use Rattle.std.proofs.Common.{ℤ, List, true, sym, subst, ap, ◌∙◌, to_z, of_z, rules}
use Rattle.std.proofs.lemmas.Int.{to_z-of_z}
use Rattle.std.specs.Int.{w64}
use Rattle.std.specs.Prelude.{FitsSigned}
use Rattle.jt_filters.specs.declared.seen_numbers.Entry.{Entry}
use Rattle.jt_filters.specs.internal.NumberEntries.{AreDistinct, occurs}
use Rattle.jt_filters.proofs.SeenEntries.{not_had, distinct_added}
use Rattle.jt_filters.proofs.seen_numbers.add.Goals as goal

pub returns-in_err-push-clause-had : goal.returns-in_err-push-clause-had
returns-in_err-push-clause-had c = not_had c.args.entries.now.items c.args.number c.requires.new

pub returns-clause-had : goal.returns-clause-had
returns-clause-had c = not_had c.args.entries.now.items c.args.number c.requires.new

pub returns-clause-distinct : goal.returns-clause-distinct
returns-clause-distinct c =
    let fits : FitsSigned w64 c.args.number = search rules in
    let e : Entry = record { number = to_z w64 (of_z w64 c.args.number); is_seen = true } in
    subst (λ (es : List Entry). AreDistinct es) (sym c.in_ok-push.ensures.items)
    (distinct_added c.args.entries.now.items e c.requires.distinct
    (ap (λ (z : ℤ). occurs z c.args.entries.now.items) (to_z-of_z w64 c.args.number fits) ∙ c.requires.new))
