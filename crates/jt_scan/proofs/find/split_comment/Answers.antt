use Rattle.std.proofs.Common.{◌+◌, length, arith, ap}
use Rattle.jt_scan.specs.Cut.{ends_comment}
use Rattle.jt_scan.proofs.Bytes.{PairAt, ends_comment_tested, split_by, needle_first}
use Rattle.jt_scan.proofs.find.split_comment.Goals as goal

pub returns : goal.returns
returns c =
    split_by ends_comment (PairAt 35 125) ends_comment_tested c.args.text.now c.as_bytes.result.now c.range.result.now
    c.range_from.result.now c.find_end.result c.unwrap_or-end.result (length c.as_bytes.result.now + 1)
    c.as_bytes.ensures.value (needle_first c.as_bytes.result.now c.find_end.result c.find_end.ensures)
    (omega (arith, ap length c.as_bytes.ensures.value)) (omega (arith, ap length c.as_bytes.ensures.value))
    c.unwrap_or-end.ensures c.range.ensures.value c.range_from.ensures.value c.utf8.text c.range.utf8 c.range_from.utf8
