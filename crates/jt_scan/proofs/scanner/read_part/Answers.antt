use Rattle.std.specs.Str.{chars}
use Rattle.jt_scan.specs.declared.segment.TagKind.TheVariants.{Variable, Block}
use Rattle.jt_scan.proofs.TokenLoop.{segment_of_tag, segment_of_comment, segment_of_data}
use Rattle.jt_scan.proofs.scanner.read_part.Goals as goal

pub returns-in-Some : goal.returns-in-Some
returns-in-Some c =
    rw (segment_of_tag c.args.line Variable (chars c.args.text.now) (chars c.in-Some.inside.now) c.in-Some.ensures)
    c.read_tag.ensures

pub returns-in-Some-behind_pair : goal.returns-in-Some-behind_pair
returns-in-Some-behind_pair c =
    rw (segment_of_tag c.args.line Block (chars c.args.text.now) (chars c.in-Some-behind_pair.inside.now)
    c.in-Some-behind_pair.ensures)
    c.read_tag-in-Some-behind_pair.ensures

pub returns-in-Some-behind_pair-2 : goal.returns-in-Some-behind_pair-2
returns-in-Some-behind_pair-2 c =
    rw (segment_of_comment c.args.line (chars c.args.text.now) (chars c.in-Some-behind_pair-2.inside.now)
    c.in-Some-behind_pair-2.ensures)
    c.read_comment.ensures

pub returns : goal.returns
returns c =
    segment_of_data c.args.line (chars c.args.text.now) (chars c.split_data.result.0.now)
    (chars c.split_data.result.1.now)
    c.in_default.ensures c.in_default-behind_pair.ensures c.in_default-behind_pair-2.ensures c.split_data.ensures
