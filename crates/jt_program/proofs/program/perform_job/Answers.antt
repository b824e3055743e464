use Rattle.jt_program.proofs.program.perform_job.Goals as goal

pub returns-in-Omitted-clause-uses : goal.returns-in-Omitted-clause-uses
returns-in-Omitted-clause-uses g c = rw c.in-Omitted.is c.requires.fresh
