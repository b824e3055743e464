use Rattle.jt_machine.proofs.Vocabulary.{passed, budget_view, pairs_of}
use Rattle.std.proofs.Common.{◌≡◌, drop}
use Rattle.jt_machine.proofs.start.context_limit.Given as goal

abbrev pub invariant-names : goal.invariant-names
invariant-names g l =
    passed (budget_view l.budget) (pairs_of l.context) (g.C.Code.code l.code).names
    ≡ passed (budget_view l.budget) (pairs_of l.context) (drop l.i (g.C.Code.code l.code).names)
