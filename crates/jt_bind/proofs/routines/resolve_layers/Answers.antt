use Rattle.jt_bind.proofs.{drop_all, arith, rules, lead_both, lead_of, emits_of, layers_turn, root_here}
use Rattle.jt_bind.proofs.routines.resolve_layers.Goals as goal

pub returns : goal.returns
returns c = λ left. rw (drop_all c.loop-index.index c.args.layers.now (omega arith)) at (c.loop-index.invariant left)

pub loop-index-preserved : goal.loop-index-preserved
loop-index-preserved c = search (arith, rules, lead_both, lead_of, layers_turn, root_here, emits_of)
