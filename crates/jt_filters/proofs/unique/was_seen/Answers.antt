use Rattle.std.proofs.Common.{◌≡◌, sym, ◌∙◌, Some, to_z, of_z, rules}
use Rattle.std.proofs.lemmas.Int.{to_z-of_z}
use Rattle.std.specs.Int.{w64}
use Rattle.std.specs.Prelude.{FitsSigned}
use Rattle.jt_filters.specs.internal.Operands.{tree_of, items_in, front}
use Rattle.jt_filters.specs.internal.Seen.{number_like}
use Rattle.jt_filters.proofs.SeenNumbers.{like_seen, known_number, known_plain}
use Rattle.jt_filters.proofs.unique.was_seen.Goals as goal

pub returns-in-Some-clause-like : goal.returns-in-Some-clause-like
returns-in-Some-clause-like c =
    let z = c.in-Some.number in
    let fits : FitsSigned w64 z = search rules in
    let is : Some z ≡ number_like (tree_of c.args.item) = sym c.in-Some.is ∙ c.number_like.ensures in
    like_seen c.was_number_seen.result c.args.seen.now.numbers (front c.args.count (items_in c.args.all))
    (tree_of c.args.item) z (to_z w64 (of_z w64 z)) (to_z-of_z w64 z fits) c.requires.0 is c.was_number_seen.ensures.had

pub returns-in-Some-clause-known : goal.returns-in-Some-clause-known
returns-in-Some-clause-known c =
    let z = c.in-Some.number in
    let fits : FitsSigned w64 z = search rules in
    let is : Some z ≡ number_like (tree_of c.args.item) = sym c.in-Some.is ∙ c.number_like.ensures in
    known_number c.was_number_seen.result c.args.seen.now.numbers c.was_number_seen.new.numbers c.args.seen.now.codes
    (items_in c.args.all) c.args.count (tree_of c.args.item) z (to_z w64 (of_z w64 z)) (to_z-of_z w64 z fits)
    c.requires.0 c.requires.1 is c.was_number_seen.ensures.has

pub returns-in-None : goal.returns-in-None
returns-in-None c =
    let none = sym c.number_like.ensures ∙ c.in-None.is in
    record {
      like = c.was_code_seen.ensures.like;
      known =
          known_plain c.was_code_seen.result c.args.seen.now.numbers c.was_code_seen.new.codes (items_in c.args.all)
          c.args.count (tree_of c.args.item) c.requires.0 none c.was_code_seen.ensures.known;
    }
