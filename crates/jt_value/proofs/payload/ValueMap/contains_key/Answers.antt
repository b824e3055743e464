use Rattle.std.proofs.Common.{sym, ap, ◌∙◌}
use Rattle.std.specs.Prelude.{is_some}
use Rattle.jt_value.proofs.KeyIndices.{has_key-index_of}
use Rattle.jt_value.proofs.payload.ValueMap.contains_key.Goals as goal

pub returns : goal.returns
returns c = c.is_some.ensures ∙ ap is_some c.index_of.ensures ∙ sym (has_key-index_of c.args.key.now c.args.self.now)
