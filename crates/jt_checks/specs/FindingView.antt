-- The view of findings in contracts, without the references to the tree.
use Rattle.jt_checks.specs.Findings as findings
use Rattle.jt_checks.specs.declared.finding.Finding.{Finding}
use Rattle.jt_checks.specs.declared.finding.Subject.{Subject}
use Rattle.jt_checks.specs.declared.finding.Subject.TheVariants as v

abbrev pub subject_view : Subject → findings.Subject
subject_view (v.Name x) = findings.a_name x.now
subject_view (v.LoopField k) = findings.a_loop_field k.now
subject_view (v.CalledName x) = findings.a_called_name x.now
subject_view (v.CalledField of k) = findings.a_called_field of.now k.now
subject_view v.CalledExpression = findings.a_called_expression
subject_view (v.Filter x) = findings.a_filter x.now
subject_view (v.Test x) = findings.a_test x.now
subject_view (v.Macro x) = findings.a_macro x.now
subject_view v.Bindings = findings.the_bindings
subject_view v.Names = findings.the_names

abbrev pub finding_view : Finding → findings.Finding
finding_view f =
    record { rule = f.rule; template = f.template.now; line = f.line; subject = subject_view f.subject }
