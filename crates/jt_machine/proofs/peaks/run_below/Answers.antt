use Rattle.jt_machine.proofs.LimitsRaised.{ran_below}
use Rattle.jt_machine.proofs.peaks.run_below.Goals as goal

pub returns-clause-gone : goal.returns-clause-gone
returns-clause-gone g c =
    ran_below (g.C.Code.code c.args.code.now) c.args.most c.run_fast-stopped.result.left c.args.peak c.args.state.now
    c.run_fast-stopped.new.state c.requires.size c.requires.nesting c.run_fast-stopped.ensures.gone
