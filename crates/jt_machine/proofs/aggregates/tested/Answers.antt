use Rattle.jt_machine.proofs.Vocabulary.{HasValues}
use Rattle.std.proofs.Common.{◌≡◌, ℕ, subst}
use Rattle.jt_machine.proofs.aggregates.tested.Goals as goal

pub pop_one-value-requires : goal.pop_one-value-requires
pop_one-value-requires c =
    let one : c.args.count ≡ 1 = c.if-count-eq1.true in
    subst (λ (n : ℕ). HasValues n c.args.stack.now.running) one c.requires.has

pub returns-then-count-eq1-clause-answer : goal.returns-then-count-eq1-clause-answer
returns-then-count-eq1-clause-answer c = cc

pub returns-then-count-eq1-clause-taken : goal.returns-then-count-eq1-clause-taken
returns-then-count-eq1-clause-taken c = cc
