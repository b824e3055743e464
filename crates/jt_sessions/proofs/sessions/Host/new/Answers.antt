use Rattle.jt_sessions.proofs.SessionIsolation.{run_alone}
use Rattle.jt_sessions.proofs.sessions.Host.new.Goals as goal

pub returns-clause-alone : goal.returns-clause-alone
returns-clause-alone c = run_alone
