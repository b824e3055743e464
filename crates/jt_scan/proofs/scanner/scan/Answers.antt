use Rattle.std.proofs.Common.{subst}
use Rattle.std.specs.Str.{chars}
use Rattle.jt_scan.specs.View.{cut_of}
use Rattle.jt_scan.proofs.ScanCorrect.{Answers, answers_cut, answers_only, answers_refused, answers_weigh}
use Rattle.jt_scan.proofs.scanner.scan.Goals as goal

pub returns-clause-cut : goal.returns-clause-cut
returns-clause-cut c =
    answers_cut (λ v. cut_of v.items) (chars c.args.source.now.text) c.read_segments.result
    (subst (λ t. Answers (λ v. cut_of v.items) (chars t) c.read_segments.result) c.text.ensures.value
    c.read_segments.ensures.cut)

pub returns-clause-only : goal.returns-clause-only
returns-clause-only c =
    answers_only (λ v. cut_of v.items) (chars c.args.source.now.text) c.read_segments.result
    (subst (λ t. Answers (λ v. cut_of v.items) (chars t) c.read_segments.result) c.text.ensures.value
    c.read_segments.ensures.cut)

pub returns-clause-refused : goal.returns-clause-refused
returns-clause-refused c =
    answers_refused (λ v. cut_of v.items) (chars c.args.source.now.text) c.read_segments.result
    (subst (λ t. Answers (λ v. cut_of v.items) (chars t) c.read_segments.result) c.text.ensures.value
    c.read_segments.ensures.cut)

pub returns-clause-weighs : goal.returns-clause-weighs
returns-clause-weighs c =
    answers_weigh (λ v. cut_of v.items) (chars c.args.source.now.text) c.read_segments.result
    (subst (λ t. Answers (λ v. cut_of v.items) (chars t) c.read_segments.result) c.text.ensures.value
    c.read_segments.ensures.cut)
