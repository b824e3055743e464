use Rattle.jt_layout.proofs.collected.names_of_chain.Given as goal
use Rattle.jt_layout.proofs.{drop, ◌≡◌, flat_map, all_inserted, texts, names_at}

abbrev pub invariant-loop-chain : goal.invariant-loop-chain
invariant-loop-chain l =
    all_inserted (flat_map (names_at l.behind) (texts (drop l.chain-index l.chain-items))) (texts l.names.keys)
    ≡ all_inserted (flat_map (names_at l.behind) (texts l.chain-items)) (texts l.initial.names.keys)
