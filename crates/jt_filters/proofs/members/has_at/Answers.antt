use Rattle.std.proofs.Common.{sym, ◌∙◌}
use Rattle.jt_filters.specs.internal.Operands.{tree_of}
use Rattle.jt_filters.proofs.ListMembers.{at_index}
use Rattle.jt_filters.proofs.members.has_at.Goals as goal

pub returns-in-Some : goal.returns-in-Some
returns-in-Some c = λ e.
    at_index c.args.items.now c.args.index c.in-Some.item.now (tree_of c.args.operand) c.in-Some.ensures.lookup.3.0
    (c.in-Some.ensures.lookup.3.1 c.in-Some.item.now) (sym c.are_equal.ensures ∙ e)
