use Rattle.jt_machine.proofs.Vocabulary.{made, make, values_at, budget_view, config_view, Answers, limited}
use Rattle.std.proofs.Common.{◌≡◌}
use Rattle.jt_machine.specs.internal.Operations.{count_of, result_of}
use Rattle.jt_machine.proofs.PoppedValues.{answers_fit, makes_of}
use Rattle.jt_machine.proofs.aggregates.perform.Goals as goal

pub charge_for_values-requires-clause-has : goal.charge_for_values-requires-clause-has
charge_for_values-requires-clause-has c =
    let o = c.args.operation in
    rw c.count_of.ensures
    (makes_of (count_of o) (result_of o) (config_view c.args.state.now) c.requires.ready.not_wrong)

pub returns-in-Some : goal.returns-in-Some
returns-in-Some c = rw c.count_of.ensures at (c.in-Some.ensures.rest (result_of c.args.operation))

pub result_of-answer-requires-clause-has : goal.result_of-answer-requires-clause-has
result_of-answer-requires-clause-has c = rw c.count_of.ensures at c.charge_for_values.ensures.has

pub push_answer-requires-clause-fits : goal.push_answer-requires-clause-fits
push_answer-requires-clause-fits c =
    answers_fit (budget_view c.charge_for_values.new.state.left) _ c.result_of-answer.result
    (rw c.limits_of-limits.ensures at c.result_of-answer.ensures.answers)

pub returns : goal.returns
returns c =
    let o = c.args.operation in
    let left = c.charge_for_values.new.state.left in
    let given = result_of o (values_at (count_of o) c.charge_for_values.new.state.stack.running) in
    let a : Answers c.result_of-answer.result (limited left.size left.nesting given) =
    rw c.limits_of-limits.ensures at c.result_of-answer.ensures.answers in
    let e : make (count_of o) (result_of o) (config_view c.args.state.now)
    ≡ made (count_of o) (result_of o) (config_view c.charge_for_values.new.state) =
    rw c.count_of.ensures at (c.in_default.ensures.rest (result_of o)) in
    let h = rw c.result_of-answer.ensures.taken at (c.push_answer.ensures given a) in
    rw e h
