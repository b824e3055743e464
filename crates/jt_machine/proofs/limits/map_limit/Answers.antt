use Rattle.jt_machine.proofs.Vocabulary.{put_entries, all_held, budget_view, no_entries}
use Rattle.std.proofs.Common.{arith}
use Rattle.jt_value.specs.Tree as tree
use Rattle.jt_machine.proofs.MapSize.{map_size, map_nesting, map_within}
use Rattle.jt_machine.proofs.limits.map_limit.Goals as goal

pub returns-in-None : goal.returns-in-None
returns-in-None c = map_within (budget_view c.args.budget.now) (all_held c.args.pairs.now) c.in-None.ensures

pub returns-in-Some : goal.returns-in-Some
returns-in-Some c =
    let ts = all_held c.args.pairs.now in
    c.limit_by.ensures (tree.map (put_entries no_entries ts)) (omega (arith, map_size ts))
    (omega (arith, map_nesting ts))
