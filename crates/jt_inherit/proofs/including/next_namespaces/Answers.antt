use Rattle.jt_inherit.proofs.Vocabulary as words
use words.{◌≡◌, List, sym, ◌∙◌, inr, ⊎_elim, Text, Namespace, IsNextFault, TooMany, names}
use words.{ChainError, its_files}
use Rattle.jt_inherit.proofs.DiscoveryInvariant.{many_turn, next_turn}
use words.error
use Rattle.jt_inherit.proofs.including.next_namespaces.Goals as goal

-- The chain that is one too many, of the two errors that a number has.
many_of : {old hs : List Namespace} {n : Text} {e : ChainError} → e ≡ error.ChainTooLong → IsNextFault old hs n e
    → TooMany old hs n
many_of is f =
    ⊎_elim (λ m. let no : error.NoMemory ≡ error.ChainTooLong = sym m ∙ is in absurd (cc)) (λ t. t.1) f

pub returns-in-Err-ChainTooLong-clause-refused : goal.returns-in-Err-ChainTooLong-clause-refused
returns-in-Err-ChainTooLong-clause-refused c =
    let l = c.loop-need in
    let ks = names (its_files c.args.store.now) in
    let ns = c.deref-need-items.result.now in
    let many = many_turn ns l.need-index c.need-item.result c.loop-need-test.true c.need-item.is _ _ ks
    l.numbers.items l.invariant _
    (many_of c.in-Err-ChainTooLong.field-0-is c.in-Err-ChainTooLong.ensures.refused) in
    inr (
      _,
      rw (← c.deref-need-items.ensures.value) many,
      c.in_ok-included_finding-in-Err-ChainTooLong.ensures,
    )

pub loop-need-preserved : goal.loop-need-preserved
loop-need-preserved c =
    let l = c.loop-need in
    let ks = names (its_files c.args.store.now) in
    next_turn c.deref-need-items.result.now l.need-index c.need-item.result c.loop-need-test.true c.need-item.is _ _ ks
    l.numbers.items l.invariant _ _ c.in-Ok.ensures.next
