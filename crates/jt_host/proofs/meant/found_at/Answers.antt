use Rattle.std.proofs.Common.{◌≡◌, ◌≤◌, length, subst, option_map, string_bytes}
use Rattle.std.specs.Prelude.{IfOk}
use Rattle.jt_scan.specs.SourceView.{max_source_len}
use Rattle.jt_inherit.proofs.SourceErrors.{limited}
use Rattle.jt_host.specs.Meant.{found_in, wanted}
use Rattle.jt_host.proofs.MeantHolds.{result_stands}
use Rattle.jt_host.proofs.meant.found_at.Goals as goal

pub returns-in-Ok-scan : goal.returns-in-Ok-scan
returns-in-Ok-scan c =
    let short : length c.args.text.now ≤ max_source_len =
    limited c.args.text.now (λ long. let no = c.in-Ok.ensures.long long in absurd (cc)) in
    result_stands c.args.options c.args.text.now c.in-Ok.source (c.in-Ok.ensures.short short) (wanted c.args.sought)
    c.in-Ok-scan.segments.items c.in-Ok-scan.ensures.cut c.found_in.result
    (subst (λ z. IfOk c.found_in.result (λ o. option_map string_bytes o ≡ found_in (wanted c.args.sought) z))
    c.deref.ensures.value c.found_in.ensures)
