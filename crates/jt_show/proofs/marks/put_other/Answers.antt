use Rattle.std.proofs.lemmas.Result.{on_ok_weaker}
use Rattle.jt_show.proofs.TextsPut.{two}
use Rattle.jt_show.proofs.marks.put_other.Goals as goal

pub returns : goal.returns
returns c =
    on_ok_weaker c.put_shape.result (λ e. two _ _ _ _ _ c.in_ok-push_str.ensures.bytes e) c.put_shape.ensures
