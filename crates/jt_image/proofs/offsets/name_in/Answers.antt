use Rattle.std.proofs.Common.{arith, rules}
use Rattle.std.proofs.lemmas.List.{length-drop}
use Rattle.jt_image.proofs.TablesInPlace.{name_read, name_is}
use Rattle.jt_image.proofs.offsets.name_in.Goals as goal

pub split_at-requires : goal.split_at-requires
split_at-requires c = search (arith, rules, name_read, length-drop)

pub u16_in-slot-requires : goal.u16_in-slot-requires
u16_in-slot-requires c = search (arith, rules, name_read)

pub split_at-requires-2 : goal.split_at-requires-2
split_at-requires-2 c = search (arith, rules, name_read)

pub u16_in-len-requires : goal.u16_in-len-requires
u16_in-len-requires c = search (arith, rules, name_read, length-drop)

pub split_at-requires-3 : goal.split_at-requires-3
split_at-requires-3 c = search (arith, rules, name_read, length-drop)

pub text_in-requires : goal.text_in-requires
text_in-requires c = search (arith, rules, name_read)

pub returns : goal.returns
returns c = search (arith, rules, name_is)
