use Rattle.jt_inherit.proofs.Vocabulary as words
use words.{◌≡◌, ℕ, ◌∷◌, [], List, Some, ap, sym, ◌∙◌, passed_on, Text, KeyedNeed, Template, keyed_view, names}
use words.{of_texts, indexed_among, key_view, slice_get, its_files}
use Rattle.jt_inherit.specs.internal.Found.{leads_to}
use Rattle.jt_inherit.proofs.DiscoveryInvariant.{one_known}
use Rattle.jt_inherit.proofs.including.add_number.Goals as goal

-- A known template leads to its own chain or library.
leads : (ts : List Template) (n : KeyedNeed) (i : ℕ) (x : Text) → slice_get (names ts) i ≡ Some x
    → x ≡ (keyed_view n).name → key_view n.namespace ∷ [] ≡ leads_to ts n
leads ts n i x at is =
    sym (one_known (names ts) (keyed_view n)
    (indexed_among of_texts (names ts) i _ (at ∙ ap (λ (y : Text). Some y) is)))

pub returns-in_err-number-clause-refused : goal.returns-in_err-number-clause-refused
returns-in_err-number-clause-refused c =
    let n = c.args.need.now in
    passed_on _ c.from_residual.result c.from_residual.ensures.1
    (rw (← (leads (its_files c.args.store.now) n c.in-Some._index _ c.in-Some.ensures c.deref.ensures))
    c.in_err-number.ensures.refused)

pub returns-clause-next : goal.returns-clause-next
returns-clause-next c = (
  c.in_ok-number.number ∷ [],
  c.in_ok-push.ensures.items,
  rw (← (leads (its_files c.args.store.now) c.args.need.now c.in-Some._index _ c.in-Some.ensures
      c.deref.ensures)) c.in_ok-number.ensures.next,
)
