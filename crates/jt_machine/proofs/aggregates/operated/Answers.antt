use Rattle.jt_machine.proofs.Vocabulary.{op_operands, HasValues}
use Rattle.std.proofs.Common.{◌≡◌, ℕ, subst, arith}
use Rattle.jt_machine.proofs.aggregates.operated.Goals as goal

pub pop_one-operand-requires : goal.pop_one-operand-requires
pop_one-operand-requires c =
    let one : op_operands c.args.operator ≡ 1 = omega arith in
    subst (λ (n : ℕ). HasValues n c.args.stack.now.running) one c.requires

pub unary-requires : goal.unary-requires
unary-requires c = omega arith

pub returns-then-count-eq1-clause-answers : goal.returns-then-count-eq1-clause-answers
returns-then-count-eq1-clause-answers c =
    let one : op_operands c.args.operator ≡ 1 = omega arith in
    rw (one, c.pop_one-operand.ensures.values) c.unary.ensures

pub returns-then-count-eq1-clause-taken : goal.returns-then-count-eq1-clause-taken
returns-then-count-eq1-clause-taken c =
    let one : op_operands c.args.operator ≡ 1 = omega arith in
    rw one c.pop_one-operand.ensures.taken
