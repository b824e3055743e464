use Rattle.std.proofs.Common.{length, arith, ap}
use Rattle.jt_scan.specs.Cut.{opens}
use Rattle.jt_scan.specs.internal.Scanning.{OpensAt}
use Rattle.jt_scan.proofs.Bytes.{opens_tested, split_by}
use Rattle.jt_scan.proofs.find.split_data.Goals as goal

pub returns : goal.returns
returns c =
    split_by opens OpensAt opens_tested c.args.text.now c.as_bytes.result.now c.range.result.now c.range_from.result.now
    c.find_opener.result c.unwrap_or-end.result (length c.as_bytes.result.now)
    c.as_bytes.ensures.value c.find_opener.ensures (omega (arith, ap length c.as_bytes.ensures.value))
    (omega (arith, ap length c.as_bytes.ensures.value)) c.unwrap_or-end.ensures c.range.ensures.value
    c.range_from.ensures.value c.utf8.text c.range.utf8 c.range_from.utf8
