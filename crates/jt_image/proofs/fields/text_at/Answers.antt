use Rattle.std.proofs.Common.{arith}
use Rattle.jt_image.proofs.ReaderParts.{text_ok, text_bad}
use Rattle.jt_image.proofs.fields.text_at.Goals as goal

pub returns-in-Ok : goal.returns-in-Ok
returns-in-Ok c = grind (arith, text_ok)

pub returns-in-Err : goal.returns-in-Err
returns-in-Err c =
    text_bad c.args.len c.args.bytes.now (omega arith) (rw c.split_at.ensures.front at c.in-Err.ensures.cases.0)
