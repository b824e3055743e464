use Rattle.jt_layout.proofs.collected.gather.Goals as goal
use Rattle.jt_layout.proofs.{arith, rules, string_bytes, length-map, name_of_namespace, names_turn, names_kept}

pub loop-namespace-preserved-then-itself : goal.loop-namespace-preserved-then-itself
loop-namespace-preserved-then-itself c =
    search (arith, rules, length-map, string_bytes, name_of_namespace, names_kept)

pub loop-namespace-preserved : goal.loop-namespace-preserved
loop-namespace-preserved c = search (arith, rules, length-map, string_bytes, name_of_namespace, names_turn)
