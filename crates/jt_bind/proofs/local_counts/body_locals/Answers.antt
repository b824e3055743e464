use Rattle.jt_bind.proofs.{end, arith, IfOk-weaker}
use Rattle.jt_bind.proofs.local_counts.body_locals.Goals as goal

pub returns : goal.returns
returns c =
    IfOk-weaker c.count_of.result _ _ (λ n h. λ ts. (let all = c.last_of_body.ensures ts end in omega arith))
    c.count_of.ensures
