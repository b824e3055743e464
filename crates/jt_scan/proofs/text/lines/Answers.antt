use Rattle.std.proofs.Common.{◌==◌, count_by, ap, ◌∙◌}
use Rattle.std.proofs.lemmas.List.{take_all}
use Rattle.jt_scan.proofs.Bytes.{count_lines}
use Rattle.jt_scan.proofs.text.lines.Goals as goal

pub returns : goal.returns
returns c =
    c.loop-b.invariant.1
    ∙ ap (count_by (λ b. b == 10)) (take_all _ _ c.loop-b-test.false ∙ c.as_bytes-b-items.ensures.value)
    ∙ count_lines c.args.text.now c.utf8.text
