use Rattle.std.proofs.Common.{Option, subst, sym}
use Rattle.jt_ffi.specs.Slices.{ReportsRun, ReportsRunOf}
use Rattle.jt_ffi.specs.declared.local.Local.{Local}
use Rattle.jt_ffi.proofs.SlicesAgree.{reports_whole}
use Rattle.jt_ffi.proofs.run_exports.jt_run_outcome.Goals as goal

pub returns-in-Some-clause-whole : goal.returns-in-Some-clause-whole
returns-in-Some-clause-whole c image context b n ended =
    let old = c.args.out.now in
    let new = c.report_run-answer.new.out in
    let answer = c.report_run-answer.result in
    let of_value = subst (λ (held : Local). ReportsRunOf held old new answer) c.deref.ensures
    c.report_run-answer.ensures in
    let reports = subst (λ (held : Option Local). ReportsRun held old new answer) (sym c.in-Some.ensures.held)
    of_value in
    reports_whole c.metering_laws.ensures image context b n c.args.run.now.held old new answer ended reports
