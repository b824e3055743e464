use Rattle.std.proofs.Common.{sym}
use Rattle.jt_value.proofs.Equalities.{other_length}
use Rattle.jt_value.proofs.entries.have_same_keys.Goals as goal

pub returns-then-entries-others : goal.returns-then-entries-others
returns-then-entries-others c = sym (other_length c.args.entries.now c.args.others.now c.if-entries-others.true)
