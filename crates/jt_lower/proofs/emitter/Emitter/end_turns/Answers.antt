use Rattle.std.proofs.Common.{◌≡◌, length, arith, subst}
use Rattle.jt_image.specs.declared.instruction.Instruction.TheVariants as op
use Rattle.jt_lower.specs.Emission.{Patches}
use Rattle.jt_lower.proofs.emitter.Emitter.end_turns.Goals as goal

pub returns : goal.returns
returns c =
    let len : c.len.result ≡ length c.put.new.self.code.items =
    omega (arith, c.len.ensures, c.put.new.self.code.ok.0) in
    record {
      back = c.put.new.self;
      goes = λ ts. c.in_ok-put.ensures ts (op.Jump c.args.top) c.jump_of.ensures;
      patches =
          subst (λ n. Patches c.put.new.self c.args.top (op.LoopNext n) c.patch.new.self) len
          (c.patch.ensures (op.LoopNext c.len.result) c.turn_of-past.ensures);
    }
