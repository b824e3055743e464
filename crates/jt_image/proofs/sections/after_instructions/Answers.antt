use Rattle.std.proofs.Common.{◌++◌, ◌∷◌, []}
use Rattle.std.proofs.lemmas.Result.{err_from_is_err_and}
use Rattle.jt_image.specs.Reading.{many_at, instruction_at}
use Rattle.jt_image.proofs.TableLoops.{goes_on, ends, is_done}
use Rattle.jt_image.proofs.InstructionsInPlace.{is_answered}
use Rattle.jt_image.proofs.sections.after_instructions.Goals as goal

pub returns-in_err-after : goal.returns-in_err-after
returns-in_err-after c =
    let p = err_from_is_err_and c.from_residual.result c.from_residual.ensures.1 in
    rw (p.1, p.2) (ends (λ _. instruction_at) c.args.count c.code.counter c.code.invariant.0 c.code.rest.now
    (many_at (λ _. instruction_at) c.args.count [] c.args.bytes.now) c.in_err-after.field-0.0 c.code-test.true
    c.in_err-after.ensures c.code.invariant.1)

pub code-preserved : goal.code-preserved
code-preserved c =
    let x = c.in_ok-after.field-0-0 in (
      c.code.invariant.0 ++ x ∷ [],
      goes_on (λ _. instruction_at) c.args.count c.code.counter c.code.invariant.0 c.code.rest.now
          (many_at (λ _. instruction_at) c.args.count [] c.args.bytes.now) x c.in_ok-after.after.now c.code-test.true
          c.in_ok-after.ensures c.code.invariant.1,
    )

pub returns : goal.returns
returns c =
    is_answered (many_at (λ _. instruction_at) c.args.count [] c.args.bytes.now) c.code.invariant.0 c.code.rest.now
    (is_done (λ _. instruction_at) c.args.count c.code.counter c.code.invariant.0 c.code.rest.now
    (many_at (λ _. instruction_at) c.args.count [] c.args.bytes.now) c.code-test.false c.code.invariant.1)
