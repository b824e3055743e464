use Rattle.std.proofs.Common.{List, ℕ, ◌++◌, sym, ap, ◌∙◌}
use lib.Utf8.{encode}
use Rattle.jt_filters.proofs.TextTransforms.{encodes_more}
use Rattle.jt_filters.proofs.texts.turned.Goals as goal

pub loop-c-preserved : goal.loop-c-preserved
loop-c-preserved c =
    c.in_ok-push.ensures.bytes ∙ ap (λ (b : List ℕ). b ++ encode c.c-item.result) c.loop-c.invariant
    ∙ sym (encodes_more c.deref-c-items.result.now c.loop-c.c-index c.c-item.result c.loop-c-test.true c.c-item.is)
