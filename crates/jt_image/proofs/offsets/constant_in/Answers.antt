use Rattle.std.proofs.Common.{get_or, arith, rules}
use Rattle.std.proofs.lemmas.List.{length-drop}
use Rattle.jt_image.proofs.TablesInPlace.{constant_read}
use Rattle.jt_image.proofs.offsets.constant_in.Goals as goal

pub split_at-requires : goal.split_at-requires
split_at-requires c = search (arith, rules, constant_read, length-drop)

pub split_at-requires-2 : goal.split_at-requires-2
split_at-requires-2 c = search (arith, rules, constant_read)

pub constant_with-requires : goal.constant_with-requires
constant_with-requires c = search (arith, rules, constant_read)

pub returns : goal.returns
returns c = search (arith, rules, constant_read, get_or)
