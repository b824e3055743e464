use Rattle.std.proofs.Common.{refl}
use Rattle.jt_image.specs.Run.{entry_locals}
use Rattle.jt_machine.proofs.StepLemmas.{no_locals}
use Rattle.jt_machine.proofs.start.start.Goals as goal

pub returns-clause-state : goal.returns-clause-state
returns-clause-state g c =
    rw (
      c.in_ok-locals.ensures.values,
      c.in_ok-globals.ensures.values,
      c.new.ensures.running,
      c.new.ensures.callers,
      c.new-2.ensures.bytes,
      c.new-3.ensures.items,
      c.entry_locals.ensures,
      no_locals (entry_locals (g.C.Code.code c.args.code.now).units),
    ) refl
