use Rattle.std.proofs.Common.{sym, arith}
use Rattle.std.proofs.lemmas.Option.{slice_get_past}
use Rattle.jt_ids.specs.LoopTable.{loop_fields, field_of}
use Rattle.jt_ids.proofs.loop_field.LoopField.by_id.Goals as goal

pub returns-in_default : goal.returns-in_default
unfolding field_of
returns-in_default c = sym (slice_get_past loop_fields c.args.id (omega arith))
