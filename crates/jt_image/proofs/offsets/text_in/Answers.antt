use Rattle.jt_image.proofs.TablesInPlace.{text_read}
use Rattle.jt_image.proofs.offsets.text_in.Goals as goal

pub split_at-requires : goal.split_at-requires
split_at-requires c = (text_read c.args.len c.args.bytes.now c.requires).0

pub from_utf8_unchecked-requires : goal.from_utf8_unchecked-requires
from_utf8_unchecked-requires c = rw c.split_at.ensures.front (text_read c.args.len c.args.bytes.now c.requires).1
