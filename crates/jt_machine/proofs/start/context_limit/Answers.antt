use Rattle.jt_machine.proofs.Vocabulary.{budget_view, pairs_of}
use Rattle.std.proofs.Common.{sym}
use Rattle.jt_machine.proofs.StepLemmas.{passed_at}
use Rattle.jt_machine.proofs.start.context_limit.Goals as goal

pub returns-in-Some-named_limit : goal.returns-in-Some-named_limit
returns-in-Some-named_limit g c =
    sym (passed_at (budget_view c.args.budget.now) (pairs_of c.args.context.now) (g.C.Code.code c.args.code.now).names
    c.names.i _ _ _ c.in-Some.ensures c.in-Some-named_limit.ensures c.names.invariant)

pub names-preserved : goal.names-preserved
names-preserved g c =
    passed_at (budget_view c.args.budget.now) (pairs_of c.args.context.now) (g.C.Code.code c.args.code.now).names
    c.names.i _ _ _ c.in-Some.ensures c.in_default-named_limit.ensures c.names.invariant
