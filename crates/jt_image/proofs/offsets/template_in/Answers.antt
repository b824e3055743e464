use Rattle.std.proofs.Common.{drop, arith, rules}
use Rattle.std.proofs.lemmas.List.{length-drop}
use Rattle.jt_image.proofs.TablesInPlace.{template_read}
use Rattle.jt_image.proofs.offsets.template_in.Goals as goal

pub split_at-requires : goal.split_at-requires
split_at-requires c = search (arith, rules, template_read, length-drop)

pub u16_in-len-requires : goal.u16_in-len-requires
u16_in-len-requires c = rw c.split_at.ensures.back (template_read (drop c.args.at c.args.bytes.now) c.requires.1).long

pub split_at-requires-2 : goal.split_at-requires-2
split_at-requires-2 c = rw c.split_at.ensures.back (template_read (drop c.args.at c.args.bytes.now) c.requires.1).long

pub text_in-requires : goal.text_in-requires
text_in-requires c = search (arith, rules, template_read)

pub returns : goal.returns
returns c = search (arith, rules, template_read)
