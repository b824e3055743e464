use Rattle.jt_machine.proofs.Vocabulary.{err_from_is_err_and}
use Rattle.jt_machine.proofs.writing.close.Goals as goal

pub returns-in_err-put_all-in-Text-clause-put : goal.returns-in_err-put_all-in-Text-clause-put
returns-in_err-put_all-in-Text-clause-put g c =
    let p = err_from_is_err_and c.from_residual.result c.from_residual.ensures.1 in
    let front = rw c.as_bytes.ensures.value at c.in_err-put_all-in-Text.ensures.front in
    rw (p.1, c.in-Text.is) front

pub returns-in_err-put_all-in-Text-clause-fails : goal.returns-in_err-put_all-in-Text-clause-fails
returns-in_err-put_all-in-Text-clause-fails g c =
    let p = err_from_is_err_and c.from_residual.result c.from_residual.ensures.1 in
    rw p.1 c.in_err-put_all-in-Text.ensures.fails
