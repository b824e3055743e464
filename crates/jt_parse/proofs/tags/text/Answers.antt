use Rattle.std.proofs.Common.{chars, rules}
use Rattle.jt_scan.specs.Literals.{unescaped}
use Rattle.jt_parse.proofs.TagParts.{text_read}
use Rattle.jt_parse.proofs.tags.text.Goals as goal

pub returns-in_ok-text_value-in-Some-Text : goal.returns-in_ok-text_value-in-Some-Text
returns-in_ok-text_value-in-Some-Text c =
    text_read c.in_ok-text_value-in-Some-Text.field-0 (unescaped (chars c.in-Some-Text.raw.now)) _ _ (search rules)
    c.in_ok-text_value-in-Some-Text.ensures
