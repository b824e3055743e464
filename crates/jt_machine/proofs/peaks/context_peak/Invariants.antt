use Rattle.jt_machine.proofs.Vocabulary.{budget_view, pairs_of, passed}
use Rattle.std.proofs.Common.{◌≡◌, drop, None}
use Rattle.jt_machine.specs.Metering.{named_values}
use Rattle.jt_machine.specs.internal.Peaks.{no_peak, risen}
use Rattle.jt_machine.proofs.peaks.context_peak.Given as goal

abbrev pub invariant-names : goal.invariant-names
invariant-names g l = record {
  passed : passed (budget_view l.budget) (pairs_of l.context) (drop l.i (g.C.Code.code l.code).names) ≡ None;
  peak : risen no_peak (named_values (pairs_of l.context) (g.C.Code.code l.code).names)
      ≡ risen l.peak (named_values (pairs_of l.context) (drop l.i (g.C.Code.code l.code).names));
}
