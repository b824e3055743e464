use Rattle.std.proofs.Common.{[], get_or, arith}
use Rattle.jt_verify.proofs.ValuesOnTop.{length-pushes, pushes_both}
use Rattle.jt_verify.proofs.arena.Arena.push_values.Goals as goal

pub overflow_add-result : goal.overflow_add-result
overflow_add-result c =
    omega (arith, length-pushes c.args.shape.values (get_or c.args.self.now c.args.shape.node []), c.requires.small)

pub returns : goal.returns
returns c = record {
  shape = pushes_both c.args.shape.values c.args.count (get_or c.args.self.now c.args.shape.node []);
  within = c.requires.within;
}
