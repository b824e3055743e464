use Rattle.std.proofs.Common.{◌≡◌, ◌<◌, get_or, length, ap, ℕ, List, arith}
use Rattle.std.proofs.lemmas.Bool.Decides.{nat_tests}
use Rattle.std.proofs.lemmas.Str.{IsCharBoundary-after_ascii}
use Rattle.jt_filters.proofs.texts.capitalized.Goals as goal

pub range_from-requires : goal.range_from-requires
range_from-requires c =
    let same : get_or c.as_bytes-bytes.result.now 0 0 ≡ get_or c.args.text.now 0 0 =
    ap (λ (s : List ℕ). get_or s 0 0) c.as_bytes-bytes.ensures.value in
    let some : 0 < length c.args.text.now = grind (arith, nat_tests) in
    let b = IsCharBoundary-after_ascii c.args.text.now 0 c.utf8.text some (omega (arith, same)) in
    λ _. b
