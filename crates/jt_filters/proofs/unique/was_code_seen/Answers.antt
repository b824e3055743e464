use Rattle.std.proofs.Common.{sym, ◌∙◌}
use Rattle.jt_filters.specs.internal.Operands.{tree_of, items_in, front}
use Rattle.jt_filters.proofs.SeenCodes.{new_item, old_item, knows_new}
use Rattle.jt_filters.proofs.unique.was_code_seen.Goals as goal

pub returns-in-Some-clause-like : goal.returns-in-Some-clause-like
returns-in-Some-clause-like c =
    c.is_like.ensures
    ∙ old_item c.args.codes.now (front c.args.count (items_in c.args.all)) (tree_of c.args.item)
    c.in_ok-code.code.items c.in-Some.other c.requires.known (sym c.in_ok-other.ensures.old ∙ c.in-Some.is)

pub returns-in-Some-clause-known : goal.returns-in-Some-clause-known
returns-in-Some-clause-known c = λ rest whole.
    knows_new c.args.codes.now c.insert.new.self (items_in c.args.all) c.args.count c.in_ok-code.code c.args.item rest
    c.requires.known c.in_ok-other.ensures.entries c.in_ok-code.ensures whole

pub returns-in-None-clause-like : goal.returns-in-None-clause-like
returns-in-None-clause-like c =
    sym (new_item c.args.codes.now (front c.args.count (items_in c.args.all)) (tree_of c.args.item)
    c.in_ok-code.code.items c.requires.known c.requires.plain c.in_ok-code.ensures
    (sym c.in_ok-other.ensures.old ∙ c.in-None.is))

pub returns-in-None-clause-known : goal.returns-in-None-clause-known
returns-in-None-clause-known c = λ rest whole.
    knows_new c.args.codes.now c.insert.new.self (items_in c.args.all) c.args.count c.in_ok-code.code c.args.item rest
    c.requires.known c.in_ok-other.ensures.entries c.in_ok-code.ensures whole
