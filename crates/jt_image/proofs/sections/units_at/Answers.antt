use Rattle.std.proofs.Common.{◌^◌, arith, rules}
use Rattle.std.specs.Int.{w16}
use Rattle.jt_image.specs.internal.HeaderView.{headers_view}
use Rattle.jt_image.proofs.DecodeSoundLemmas.{wide16}
use Rattle.jt_image.proofs.DecodeSound.{sections_total}
use Rattle.jt_image.proofs.TablesInPlace.{number_last, headers_last}
use Rattle.jt_image.proofs.sections.units_at.Goals as goal

pub offsets_at-requires-clause-last : goal.offsets_at-requires-clause-last
offsets_at-requires-clause-last c =
    let count = number_last w16 (2 ^ 16) wide16 c.args.bytes.now c.args.front.now c.in_ok-count.count
    c.in_ok-count.rest.now (λ i. omega (arith, c.type_inv.bytes i)) c.requires c.in_ok-count.ensures in
    headers_last c.in_ok-count.count c.args.bytes.now c.in_ok-count.rest.now
    (headers_view c.in_ok-headers.headers.items.items) c.in_ok-headers.rest.now (λ i. omega (arith, c.type_inv.bytes i))
    count c.in_ok-headers.ensures.gives

pub returns-clause-total : goal.returns-clause-total
returns-clause-total c = search (arith, rules, sections_total)
