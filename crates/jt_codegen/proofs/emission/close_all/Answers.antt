use Rattle.std.proofs.Common.{sym, subst}
use Rattle.jt_codegen.specs.internal.Statements.{Closes}
use Rattle.jt_codegen.proofs.StatementEmission.{drop_before}
use Rattle.jt_codegen.proofs.emission.close_all.Goals as goal

pub loop-at-preserved : goal.loop-at-preserved
loop-at-preserved c =
    let l = c.loop-at in
    let es = c.args.ends.now in
    subst (λ x. Closes c.args.code.now x c.close.new.self) (sym (drop_before es l.at 0 c.loop-at-test.true l.auto.at))
    (l.code, l.invariant, c.close.ensures)
