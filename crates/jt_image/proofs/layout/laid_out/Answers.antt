use Rattle.std.proofs.Common.{arith}
use Rattle.std.proofs.lemmas.List.{length-map}
use Rattle.std.proofs.lemmas.Result.{err_from_is_err_and}
use Rattle.jt_image.specs.Code.{Code}
use Rattle.jt_image.specs.View.{unit_view}
use Rattle.jt_image.specs.Parts.{code_seen}
use Rattle.jt_image.proofs.LayoutCorrect.{len_laid, above_refused}
use Rattle.jt_image.proofs.layout.laid_out.Goals as goal

pub returns-in_err-trailer-clause-refused : goal.returns-in_err-trailer-clause-refused
returns-in_err-trailer-clause-refused c =
    let k : Code = code_seen c.args.parts.now in
    let len = len_laid k c.in_ok-names.at c.in_ok-constants.at c.len.result c.in_ok-units.instructions
    (rw c.deref.ensures.value at c.in_ok-names.ensures.end)
    (rw c.deref-2.ensures.value at c.in_ok-constants.ensures.end)
    (omega (arith, length-map c.args.parts.now.units.items unit_view))
    (rw c.deref-3.ensures.value at c.in_ok-units.ensures.total) in
    let p = err_from_is_err_and c.from_residual-in_err-trailer.result c.from_residual-in_err-trailer.ensures.1 in
    rw (p.1, p.2) (above_refused k c.in_err-trailer.field-0.0 _ c.in_err-trailer.ensures.refused (omega (arith, len)))

pub returns-then-len-gt-MAX_BYTES-clause-refused : goal.returns-then-len-gt-MAX_BYTES-clause-refused
returns-then-len-gt-MAX_BYTES-clause-refused c =
    let k : Code = code_seen c.args.parts.now in
    let len = len_laid k c.in_ok-names.at c.in_ok-constants.at c.len.result c.in_ok-units.instructions
    (rw c.deref.ensures.value at c.in_ok-names.ensures.end)
    (rw c.deref-2.ensures.value at c.in_ok-constants.ensures.end)
    (omega (arith, length-map c.args.parts.now.units.items unit_view))
    (rw c.deref-3.ensures.value at c.in_ok-units.ensures.total) in
    let end = c.in_ok-trailer.ensures.end in
    λ h. absurd (omega (arith, h.bytes, len, end))

pub returns-clause-len : goal.returns-clause-len
returns-clause-len c =
    let k : Code = code_seen c.args.parts.now in
    let len = len_laid k c.in_ok-names.at c.in_ok-constants.at c.len.result c.in_ok-units.instructions
    (rw c.deref.ensures.value at c.in_ok-names.ensures.end)
    (rw c.deref-2.ensures.value at c.in_ok-constants.ensures.end)
    (omega (arith, length-map c.args.parts.now.units.items unit_view))
    (rw c.deref-3.ensures.value at c.in_ok-units.ensures.total) in
    let end = c.in_ok-trailer.ensures.end in
    (omega (arith, len, end), omega arith)
