use Rattle.std.proofs.Common.{◌≡◌, ◌≤◌, length, subst}
use Rattle.std.specs.Prelude.{IfOk}
use Rattle.jt_scan.specs.SourceView.{max_source_len}
use Rattle.jt_inherit.proofs.SourceErrors.{limited}
use Rattle.jt_host.specs.SyntaxHints.{source_hint}
use Rattle.jt_host.proofs.HintsHold.{result_stands}
use Rattle.jt_host.proofs.syntax_hints.hint_at.Goals as goal

pub returns-in-Ok-scan : goal.returns-in-Ok-scan
returns-in-Ok-scan c =
    let short : length c.args.text.now ≤ max_source_len =
    limited c.args.text.now (λ long. let no = c.in-Ok.ensures.long long in absurd (cc)) in
    result_stands c.args.options c.args.text.now c.in-Ok.source (c.in-Ok.ensures.short short) c.args.line
    c.in-Ok-scan.segments.items c.in-Ok-scan.ensures.cut c.source_hint.result
    (subst (λ z. IfOk c.source_hint.result (λ o. o ≡ source_hint c.args.line z)) c.deref.ensures.value
    c.source_hint.ensures)
