use Rattle.std.proofs.Common.{chars}
use Rattle.jt_parse.proofs.TokenPrefixes.{name_read}
use Rattle.jt_parse.proofs.tags.target.Goals as goal

pub returns : goal.returns
returns c =
    name_read c.in_ok-copy_of.field-0 (chars c.in_ok-name.name.now) _ _ c.in_ok-name.ensures.0 c.in_ok-name.ensures.1
    c.in_ok-copy_of.ensures
