use Rattle.std.proofs.Common.{◌≡◌, length, arith, subst}
use Rattle.jt_image.specs.declared.instruction.Instruction.TheVariants as op
use Rattle.jt_lower.specs.Emission.{Patches}
use Rattle.jt_lower.proofs.emitter.Emitter.end_branch.Goals as goal

pub returns : goal.returns
returns c =
    let len : c.len.result ≡ length c.reserve.new.self.code.items =
    omega (arith, c.len.ensures, c.reserve.new.self.code.ok.0) in
    record {
      jumped = c.reserve.new.self;
      reserves = c.in_ok-last.ensures;
      patches =
          subst (λ n. Patches c.reserve.new.self c.args.choice (op.JumpIfFalse n) c.patch.new.self) len
          (c.patch.ensures (op.JumpIfFalse c.len.result) c.test_of-past.ensures);
    }
