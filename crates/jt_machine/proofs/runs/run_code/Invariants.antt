use Rattle.jt_machine.proofs.Vocabulary.{AreCached, budget_view, config_view, pairs_of}
use Rattle.std.proofs.Common.{◌+◌, ◌<◌, ◌^◌, length}
use Rattle.jt_machine.proofs.StepLemmas.{Reached}
use Rattle.jt_machine.proofs.runs.run_code.Given as goal

abbrev pub invariant-steps : goal.invariant-steps
invariant-steps g l = record {
  reached : Reached (g.C.Code.code l.code) (pairs_of l.fn.context) (budget_view l.fn.budget) (config_view l.state);
  depth : l.state.left.depth + length l.state.stack.callers < 2 ^ 32;
  made : AreCached (g.C.Code.code l.code) l.made.items;
}

abbrev pub decreases-steps : goal.decreases-steps
decreases-steps g l = l.state.left.fuel
