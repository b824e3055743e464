use Rattle.jt_machine.proofs.Vocabulary.{budget_view, pairs_of}
use Rattle.jt_machine.specs.internal.Peaks.{no_peak}
use Rattle.jt_machine.proofs.PeaksAddUp.{name_passed, named_next}
use Rattle.jt_machine.proofs.peaks.context_peak.Goals as goal

pub named_peak-peak-requires : goal.named_peak-peak-requires
named_peak-peak-requires g c =
    (name_passed (budget_view c.args.budget.now) (pairs_of c.args.context.now) (g.C.Code.code c.args.code.now).names
    c.names.i _ c.in-Some.ensures c.names.invariant.passed).0

pub names-preserved : goal.names-preserved
names-preserved g c = record {
  passed =
      (name_passed (budget_view c.args.budget.now) (pairs_of c.args.context.now) (g.C.Code.code c.args.code.now).names
      c.names.i _ c.in-Some.ensures c.names.invariant.passed).1;
  peak = named_next (pairs_of c.args.context.now) (g.C.Code.code c.args.code.now).names c.names.i _ c.names.peak _ _
      c.in-Some.ensures c.names.invariant.peak c.named_peak-peak.ensures;
}
