use Rattle.jt_machine.proofs.StepLemmas.{drop_get}
use Rattle.jt_machine.proofs.start.globals_of.Goals as goal

pub names-preserved : goal.names-preserved
names-preserved g c =
    let d = drop_get (g.C.Code.code c.args.code.now).names c.names.i
    (record { slot = c.in-Some.slot; text = c.in-Some.name.now }) c.in-Some.ensures in
    let e = rw d at c.names.invariant in
    rw c.in_ok-fill.ensures e
