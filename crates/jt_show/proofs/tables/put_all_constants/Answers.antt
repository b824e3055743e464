use Rattle.std.proofs.Common.{arith}
use Rattle.jt_image.specs.Readers.{constant_ref_view}
use Rattle.jt_show.specs.Listing.{constant_line}
use Rattle.jt_show.proofs.NumberedLines.{numbered_end, numbered_next}
use Rattle.jt_show.proofs.tables.put_all_constants.Goals as goal

pub constants-preserved : goal.constants-preserved
constants-preserved g c =
    numbered_next constant_line (g.C.Code.code c.args.code.now).constants c.constants.index
    (constant_ref_view c.in-Some.constant) _ _ _ c.in-Some.ensures c.in_ok-put_constant_line.ensures
    c.constants.invariant

pub returns : goal.returns
returns g c =
    numbered_end constant_line (g.C.Code.code c.args.code.now).constants c.constants.index _ _ (omega arith)
    c.constants.invariant
