use Rattle.std.proofs.Common.{rules}
use Rattle.std.specs.Prelude.{FitsSigned}
use Rattle.std.specs.Int.{w64}
use Rattle.jt_value.proofs.NumberSteps.{room_behind, first_stepped}
use Rattle.jt_value.proofs.number_range.NumberRange.split_first.Goals as goal

pub invariant_of-rest : goal.invariant_of-rest
invariant_of-rest c =
    let first : FitsSigned w64 c.args.self.first = search rules in
    let step : FitsSigned w64 c.args.self.step = search rules in
    let next : FitsSigned w64 c.sum_in_range.result = record { sfits = c.sum_in_range.type_inv } in
    record {
      room =
          room_behind c.args.self.count c.args.self.first c.args.self.step c.sum_in_range.result first step next
          c.args.self.room c.sum_in_range.ensures;
    }

pub returns-clause-some : goal.returns-clause-some
returns-clause-some c =
    let first : FitsSigned w64 c.args.self.first = search rules in
    let step : FitsSigned w64 c.args.self.step = search rules in
    let next : FitsSigned w64 c.sum_in_range.result = record { sfits = c.sum_in_range.type_inv } in
    first_stepped c.args.self.count c.args.self.first c.args.self.step c.sum_in_range.result c.if-self-eq0.false first
    step next c.args.self.room c.sum_in_range.ensures
