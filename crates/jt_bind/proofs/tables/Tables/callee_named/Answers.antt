use Rattle.jt_bind.proofs.{cenv_in, order_in}
use Rattle.jt_bind.proofs.tables.Tables.callee_named.Goals as goal

pub returns-in-None : goal.returns-in-None
returns-in-None c =
    rw (← c.given_named.ensures, c.in-None.is) (c.built_in.ensures (cenv_in c.args.self.now) (order_in c.args.self.now)
    (cenv_in c.args.self.now).sources)
