use Rattle.jt_bind.proofs.senv.StaticEnv.inside.Goals as goal

pub returns : goal.returns
returns c = λ names scope h. h scope c.deref.result c.deref.ensures.value
