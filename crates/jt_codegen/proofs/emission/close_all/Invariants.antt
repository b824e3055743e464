use Rattle.std.proofs.Common.{drop}
use Rattle.jt_codegen.specs.internal.Statements.{Closes}
use Rattle.jt_codegen.proofs.emission.close_all.Given as goal

abbrev pub invariant-loop-at : goal.invariant-loop-at
invariant-loop-at l = Closes l.initial.code (drop l.at l.ends) l.code
