use Rattle.std.proofs.Common.{◌≡◌, ◌++◌, List, codes, rules, string_bytes, subst, ℕ}
use Rattle.jt_turns.specs.Shown.{one_line}
use Rattle.jt_program.specs.Reports.{TookUnlessFailed, refused_line}
use Rattle.jt_program.proofs.reports.report.Goals as goal
use Rattle.jt_program.proofs.reports.report.Goals.{in-Usage, in-Words, in-Call, in-Host, in-File, in-Output}

pub returns-clause-reported : goal.returns-clause-reported
returns-clause-reported g c =
    let old = g.E.Sink.taken c.args.errors.now in
    elim c.match-failure.branch [
      | in-Usage w ↦
          let new = g.E.Sink.taken w.report_text.new.errors in
          let f = g.E.Sink.failed w.report_text.new.errors in
          let same : w.as_str.result.now ≡ string_bytes w.in-Usage.text = search rules in
          rw (w.in-Usage.is, w.errors-is)
          (subst (λ (text : List ℕ). TookUnlessFailed text old new f) same w.report_text.ensures)
      | in-Words w ↦ rw (w.in-Words.is, w.errors-is) w.report_line.ensures
      | in-Call w ↦ rw (w.in-Call.is, w.errors-is) w.report_error.ensures
      | in-Host w ↦
          let new = g.E.Sink.taken w.report_refusal.new.errors in
          let f = g.E.Sink.failed w.report_refusal.new.errors in
          rw (w.in-Host.is, w.errors-is)
          (subst (λ (text : List ℕ). TookUnlessFailed (refused_line text) old new f) w.text_of_host.ensures
          w.report_refusal.ensures)
      | in-File w ↦
          let new = g.E.Sink.taken w.report_line-in-File.new.errors in
          let f = g.E.Sink.failed w.report_line-in-File.new.errors in
          let same : w.as_str-in-File.result.now ≡ string_bytes w.in-File.path = search rules in
          rw (w.in-File.is, w.errors-is)
          (subst (λ (text : List ℕ). TookUnlessFailed (one_line (codes "jt: file " ++ text)) old new f) same
          w.report_line-in-File.ensures)
      | in-Output w ↦ rw (w.in-Output.is, w.errors-is) w.report_line-in-Output.ensures
    ]
