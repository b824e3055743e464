use Rattle.std.proofs.Common.{arith}
use Rattle.jt_show.specs.Listing.{name_line}
use Rattle.jt_show.proofs.NumberedLines.{lines_end, lines_next}
use Rattle.jt_show.proofs.tables.put_names.Goals as goal

pub names-preserved : goal.names-preserved
names-preserved g c =
    lines_next name_line (g.C.Code.code c.args.code.now).names c.names.index
    (record { slot = c.in-Some.slot; text = c.in-Some.name.now }) _ _ _ c.in-Some.ensures c.in_ok-put_name.ensures
    c.names.invariant

pub returns : goal.returns
returns g c =
    lines_end name_line (g.C.Code.code c.args.code.now).names c.names.index _ _ (omega arith) c.names.invariant
