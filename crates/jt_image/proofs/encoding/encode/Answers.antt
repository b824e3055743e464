use Rattle.std.proofs.Common.{ap, ◌∙◌, subst}
use Rattle.jt_image.specs.IsCode.{IsCode}
use Rattle.jt_image.specs.Reading.{code_of}
use Rattle.jt_image.specs.Spelling.{spelling}
use Rattle.jt_image.proofs.DecodeComplete.{code_again}
use Rattle.jt_image.proofs.encoding.encode.Goals as goal

pub returns-clause-read : goal.returns-clause-read
returns-clause-read c =
    ap code_of
    (c.in_ok-from_slice.ensures.items ∙ c.deref.ensures.value ∙ c.image.invariant.spelled
    ∙ ap spelling c.image.view_is)
    ∙ code_again c.args.image.now (subst IsCode c.image.view_is c.image.invariant.code)
