use Rattle.jt_machine.proofs.Vocabulary.{AreCached, budget_view, config_view, pairs_of}
use Rattle.std.proofs.Common.{◌≡◌, ◌+◌, ◌<◌, ◌^◌, false, length}
use Rattle.jt_machine.proofs.DrainedOutput.{SoFar}
use Rattle.jt_machine.proofs.writing.write_code.Given as goal

abbrev pub invariant-steps : goal.invariant-steps
invariant-steps g l = record {
  so_far : SoFar (g.C.Code.code l.code) (pairs_of l.fn.context) (budget_view l.fn.budget) (g.W.Sink.taken l.fn.sink)
      (g.W.Sink.taken l.sink) (config_view l.state);
  works : g.W.Sink.failed l.sink ≡ false;
  depth : l.state.left.depth + length l.state.stack.callers < 2 ^ 32;
  made : AreCached (g.C.Code.code l.code) l.made.items;
}

abbrev pub decreases-steps : goal.decreases-steps
decreases-steps g l = l.state.left.fuel
