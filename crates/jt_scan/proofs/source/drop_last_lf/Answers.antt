use Rattle.std.proofs.Common.{◌≡◌, ◌-◌, length, take, ap, sym, ◌∙◌, rules}
use Rattle.std.specs.String.{string_bytes, string_len}
use Rattle.jt_scan.specs.LineEnds.{ends_with_lf}
use Rattle.jt_scan.proofs.EndsLaws.{last_yes, last_no}
use Rattle.jt_scan.proofs.source.drop_last_lf.Goals as goal

pub returns-then-ends_with_lf : goal.returns-then-ends_with_lf
returns-then-ends_with_lf c =
    let n : string_len c.args.text.now ≡ length (string_bytes c.args.text.now) = search rules in
    c.truncate.ensures.bytes ∙ ap (λ m. take (m - 1) (string_bytes c.args.text.now)) (c.len.ensures ∙ n)
    ∙ sym (last_yes (string_bytes c.args.text.now)
    (ap ends_with_lf (sym c.as_str.ensures.value) ∙ sym c.if-ends_with_lf.ensures))

pub returns-else-ends_with_lf : goal.returns-else-ends_with_lf
returns-else-ends_with_lf c =
    sym (last_no (string_bytes c.args.text.now)
    (ap ends_with_lf (sym c.as_str.ensures.value) ∙ sym c.if-ends_with_lf.ensures))
