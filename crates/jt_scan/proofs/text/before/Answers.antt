use Rattle.std.proofs.Common.{◌-◌, length}
use Rattle.jt_scan.proofs.Bytes.{bytes_end, end_fits, end_at, drop_end, chars_before}
use Rattle.jt_scan.proofs.text.before.Goals as goal

pub overflow_sub-text : goal.overflow_sub-text
overflow_sub-text c =
    end_fits c.args.text.now c.args.end.now (bytes_end c.args.text.now c.args.end.now c.utf8.text c.utf8.end c.requires)

pub range-requires-clause-end_boundary : goal.range-requires-clause-end_boundary
range-requires-clause-end_boundary c =
    end_at c.args.text.now c.args.end.now (bytes_end c.args.text.now c.args.end.now c.utf8.text c.utf8.end c.requires)
    c.utf8.end

pub returns : goal.returns
returns c =
    let e = bytes_end c.args.text.now c.args.end.now c.utf8.text c.utf8.end c.requires in
    chars_before c.args.text.now c.args.end.now c.range.result.now (length c.args.text.now - length c.args.end.now)
    c.range.utf8 c.range.ensures.value (drop_end c.args.text.now c.args.end.now e)
