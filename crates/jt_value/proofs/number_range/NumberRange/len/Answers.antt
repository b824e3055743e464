use Rattle.std.proofs.Common.{sym}
use Rattle.jt_value.proofs.NumberSteps.{stepped_count}
use Rattle.jt_value.proofs.number_range.NumberRange.len.Goals as goal

pub returns : goal.returns
returns c = sym (stepped_count c.args.self.count c.args.self.first c.args.self.step)
