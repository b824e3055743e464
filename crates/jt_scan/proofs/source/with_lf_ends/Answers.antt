use Rattle.std.proofs.Common.{◌++◌, ◌∷◌, [], false, ap, ◌∙◌, rules, arith}
use Rattle.std.specs.String.{string_bytes}
use Rattle.std.proofs.lemmas.Str.{IsCharBoundary-after_ascii}
use lib.Utf8.{encode}
use Rattle.jt_scan.specs.LineEnds.{lf_ends, without_first_lf}
use Rattle.jt_scan.proofs.Bytes.{front_is}
use Rattle.jt_scan.proofs.EndsLaws.{ends_turn, ends_whole, cr_at, no_cr}
use Rattle.jt_scan.proofs.source.with_lf_ends.Goals as goal

pub range_from-requires : goal.range_from-requires
range_from-requires c =
    let p = cr_at c.as_bytes.result.now c.ends.rest.now c.in-Some.at c.as_bytes.ensures.value c.in-Some.ensures in
    λ _. IsCharBoundary-after_ascii c.ends.rest.now c.in-Some.at c.ends.invariant.0 p.0 (omega (arith, p.1))

pub ends-preserved : goal.ends-preserved
unfolding encode
ends-preserved c =
    let p = cr_at c.as_bytes.result.now c.ends.rest.now c.in-Some.at c.as_bytes.ensures.value c.in-Some.ensures in
    let t = ends_turn (string_bytes c.ends.held) c.ends.rest.now c.range.result.now c.behind_lf-rest.result.now
    (lf_ends false c.args.text.now) c.in-Some.at c.ends.invariant.1 p.2 p.0 p.1
    (c.range.ensures.value ∙ front_is c.ends.rest.now c.in-Some.at)
    (c.behind_lf-rest.ensures ∙ ap without_first_lf c.range_from.ensures.value) in (
      search rules,
      ap (λ z. z ++ lf_ends false c.behind_lf-rest.result.now)
          (c.in_ok-push.ensures.bytes ∙ ap (λ z. z ++ (10 ∷ [])) c.in_ok-push_str.ensures.bytes)
          ∙ t,
    )

pub returns : goal.returns
returns c = search (arith, rules, ends_whole, no_cr)
