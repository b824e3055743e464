use Rattle.jt_machine.proofs.Vocabulary.{err_from_is_err_and}
use Rattle.jt_machine.proofs.writing.drain.Goals as goal

pub returns-in_err-put_all-clause-put : goal.returns-in_err-put_all-clause-put
returns-in_err-put_all-clause-put g c =
    let p = err_from_is_err_and c.from_residual.result c.from_residual.ensures.1 in
    let front = rw c.as_bytes.ensures.value at c.in_err-put_all.ensures.front in
    rw p.1 front

pub returns-in_err-put_all-clause-fails : goal.returns-in_err-put_all-clause-fails
returns-in_err-put_all-clause-fails g c =
    let p = err_from_is_err_and c.from_residual.result c.from_residual.ensures.1 in
    rw p.1 c.in_err-put_all.ensures.fails
