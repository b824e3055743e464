use Rattle.std.proofs.Common.{◌-◌, sym, ◌∙◌, arith}
use Rattle.jt_value.proofs.AscendingKeys.{ascends_end}
use Rattle.jt_value.proofs.entries.ascend.Goals as goal

pub returns : goal.returns
returns c =
    let l = c.loop-next in
    sym (l.invariant.rest
    ∙ ascends_end c.args.entries.now (l.next - 1) (omega (arith, c.loop-next-test.false, l.invariant.some)))
