use Rattle.std.proofs.Common.{◌≡◌, ◌<◌, length, get_or, ap, sym, ◌∙◌, arith}
use Rattle.std.proofs.lemmas.Bool.Decides.{nat_tests}
use Rattle.std.proofs.lemmas.Str.{IsCharBoundary-after_ascii}
use Rattle.jt_scan.proofs.source.behind_lf.Goals as goal

pub range_from-requires : goal.range_from-requires
range_from-requires c =
    let some : 0 < length c.as_bytes-bytes.result.now = grind (arith, nat_tests) in
    let lf : get_or c.args.text.now 0 0 ≡ 10 =
    ap (λ z. get_or z 0 0) (sym c.as_bytes-bytes.ensures.value) ∙ c.if-bytes-eq10.true in
    λ _. IsCharBoundary-after_ascii c.args.text.now 0 c.utf8.text
    (omega (arith, some, ap length c.as_bytes-bytes.ensures.value)) (omega (arith, lf))
