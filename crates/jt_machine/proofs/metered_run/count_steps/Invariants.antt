use Rattle.jt_machine.proofs.Vocabulary.{Goes, after, AreCached, IsReached, config_view}
use Rattle.std.proofs.Common.{◌≡◌, ◌≤◌, ◌-◌}
use Rattle.jt_machine.specs.Metering.{used_within}
use Rattle.jt_machine.proofs.MeteredSlices.{IsPeak}
use Rattle.jt_machine.proofs.metered_run.count_steps.Given as goal

abbrev pub invariant-steps : goal.invariant-steps
invariant-steps g l = record {
  within : l.left ≤ l.k;
  so_far : after (g.C.Code.code l.code) (l.k - l.left) (config_view l.fn.run.state) ≡ Goes (config_view l.run.state);
  deepest : l.deepest ≡ (used_within (g.C.Code.code l.code) (l.k - l.left) (config_view l.fn.run.state)).depth;
  peak : IsPeak l.fn.run.peak l.run.peak
      (used_within (g.C.Code.code l.code) (l.k - l.left) (config_view l.fn.run.state));
  size : l.run.peak.size ≤ l.run.state.left.size;
  nesting : l.run.peak.nesting ≤ l.run.state.left.nesting;
  reached : IsReached (g.C.Code.code l.code) l.run.state;
  made : AreCached (g.C.Code.code l.code) l.made.items;
}

abbrev pub decreases-steps : goal.decreases-steps
decreases-steps g l = l.left
