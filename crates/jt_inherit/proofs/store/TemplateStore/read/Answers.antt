use Rattle.jt_inherit.proofs.PathsGrow.{one_read, nothing_read}
use Rattle.jt_inherit.proofs.store.TemplateStore.read.Goals as goal

pub returns-in-Some-clause-read : goal.returns-in-Some-clause-read
returns-in-Some-clause-read g c = nothing_read c.requires

pub add-requires : goal.add-requires
add-requires g c =
    rw c.in_ok-file.ensures.named c.in_default.ensures

pub returns-clause-read : goal.returns-clause-read
returns-clause-read g c =
    one_read c.requires (rw c.in_ok-file.ensures.named c.in_default.ensures) c.in_ok-file.ensures.read
    c.in_ok-file.ensures.only
    c.in_ok-file.ensures.within c.in_ok-add.ensures.added c.in_ok-file.ensures.named
