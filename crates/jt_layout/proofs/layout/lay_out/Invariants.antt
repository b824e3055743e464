use Rattle.jt_semantics.specs.Layout as layout
use Rattle.jt_layout.proofs.layout.lay_out.Given as goal
use Rattle.jt_layout.proofs.{true, drop, length, ◌≡◌, a_chain, listed, Text, AreLaid, StandsAt, names_at, its_cenv}
use Rattle.jt_layout.proofs.{its_order}

abbrev pub invariant-loop-namespace : goal.invariant-loop-namespace
invariant-loop-namespace l = record {
  stands : StandsAt l.chain l.namespace l.front;
  left : (x : Text) → listed (a_chain x) (drop l.namespace (its_order l.chain)) ≡ true
      → names_at l.collected x ≡ layout.names (its_cenv l.chain) (its_order l.chain) (a_chain x);
  all : length l.namespaces.items ≡ l.namespace;
  each : AreLaid l.chain l.namespaces.items;
}
