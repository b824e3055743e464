use Rattle.std.proofs.Common.{◌∙◌, sym, arith, rules}
use Rattle.std.proofs.lemmas.Str.{chars-nil}
use Rattle.std.proofs.lemmas.List.{nil_from_length}
use Rattle.jt_filters.proofs.Characters.{cut_behind, first_behind}
use Rattle.jt_filters.proofs.item_list.split_character.Goals as goal

pub split_at-requires : goal.split_at-requires
split_at-requires c =
    cut_behind c.args.text.now _ c.in-Some.first c.len_utf8.result c.utf8.text
    (sym c.chars.ensures.rest ∙ c.in-Some.ensures.steps.0) c.len_utf8.ensures.len

pub returns-in-Some-clause-some : goal.returns-in-Some-clause-some
returns-in-Some-clause-some c =
    first_behind c.args.text.now _ _ _ c.in-Some.first c.len_utf8.result c.utf8.text
    (sym c.chars.ensures.rest ∙ c.in-Some.ensures.steps.0) c.len_utf8.ensures.len c.split_at.ensures.front
    c.split_at.ensures.back

pub returns-in-None-clause-none : goal.returns-in-None-clause-none
returns-in-None-clause-none c = search (arith, rules, nil_from_length, chars-nil)
