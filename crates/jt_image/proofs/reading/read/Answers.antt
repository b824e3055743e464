use Rattle.std.proofs.Common.{◌∙◌, ap}
use Rattle.jt_image.specs.InPlace.{code_in}
use Rattle.jt_image.specs.Reading.{code_of}
use Rattle.jt_image.proofs.DecodeComplete.{is_only, code_again}
use Rattle.jt_image.proofs.reading.read.Goals as goal

pub returns-clause-only : goal.returns-clause-only
returns-clause-only c =
    λ k is e. is_only (code_in c.args.bytes.now) k c.read_through.result (code_of c.args.bytes.now)
    (ap code_of e ∙ code_again k is) c.read_through.ensures.gives
