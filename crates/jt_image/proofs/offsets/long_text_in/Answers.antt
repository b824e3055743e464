use Rattle.std.proofs.Common.{sym}
use Rattle.jt_image.proofs.TablesInPlace.{long_text_read}
use Rattle.jt_image.proofs.offsets.long_text_in.Goals as goal

pub u32_in-len-requires : goal.u32_in-len-requires
u32_in-len-requires c = (long_text_read c.args.bytes.now c.requires).long

pub split_at-requires : goal.split_at-requires
split_at-requires c = (long_text_read c.args.bytes.now c.requires).long

pub text_in-requires : goal.text_in-requires
text_in-requires c =
    rw (c.split_at.ensures.back, c.u32_in-len.ensures) (long_text_read c.args.bytes.now c.requires).text

pub returns : goal.returns
returns c =
    rw (c.text_in.ensures, c.split_at.ensures.back, c.u32_in-len.ensures)
    (sym (long_text_read c.args.bytes.now c.requires).is)
