use Rattle.std.proofs.Common.{◌≡◌, Some, sym, subst}
use Rattle.jt_image.specs.Code.{Code}
use Rattle.jt_image.specs.InPlace.{code_in}
use Rattle.jt_image.specs.IsCode.{IsCode}
use Rattle.jt_image.specs.Parts.{code_seen, code_of_parts}
use Rattle.jt_image.proofs.LayoutCorrect.{laid_spells, laid_code}
use Rattle.jt_image.proofs.assembling.image_of.Goals as goal

pub invariant_of-image : goal.invariant_of-image
invariant_of-image c =
    laid_spells (code_seen c.args.parts.now) c.in_ok-offsets.offsets c.in_ok-bytes.bytes.items
    c.in_ok-offsets.ensures.spelled c.in_ok-offsets.ensures.laid c.in_ok-bytes.ensures

pub returns-clause-is : goal.returns-clause-is
returns-clause-is c =
    let k : Code = code_seen c.args.parts.now in
    let e : code_in c.in_ok-bytes.bytes.items c.in_ok-offsets.offsets ≡ k = laid_code k c.in_ok-offsets.offsets
    c.in_ok-bytes.bytes.items c.in_ok-offsets.ensures.spelled c.in_ok-offsets.ensures.laid c.in_ok-bytes.ensures in
    subst (λ (i : Code). IsCode i × (code_of_parts c.args.parts.now ≡ Some i)) (sym e)
    (c.in_ok-offsets.ensures.spelled, c.in_ok-offsets.ensures.seen)
