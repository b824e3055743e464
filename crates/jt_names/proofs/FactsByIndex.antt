-- The facts of a chain or library at an index.
use Rattle.jt_names.specs.declared.facts.ChainFacts.{ChainFacts}
use Rattle.jt_names.specs.declared.facts.NamespaceFacts.{NamespaceFacts}
use Rattle.jt_names.proofs.Vocabulary.{IsKnown, ℕ, ◌<◌, ◌≡◌, arith, get_or, length}

-- Facts of a chain have, at the index of a chain or library, what is known of it.
pub known_at : (facts : ChainFacts) (i : ℕ) (f : NamespaceFacts) → i < length facts.chain.now.namespaces.items
    → f ≡ get_or facts.namespaces.items i f → IsKnown facts.chain.now i f
known_at facts i f lt is = facts.known.each i f (omega (arith, lt, facts.known.all)) is
