use Rattle.jt_bind.proofs
use proofs.{◌≡◌, String, List, [], ◌∷◌, length, refl, names_view, Table, kept_slots, set_targets, several, Global}
use proofs.{arith, rules}
use Rattle.jt_bind.proofs.resolver.Resolver.set_targets.Goals.{else-names-lt1+else-names-lt2}
use Rattle.jt_bind.proofs.resolver.Resolver.set_targets.Goals as goal

-- If there is not exactly one name, each name takes an item.
several_take : (t : Table) (ks : List (String Global)) → (length ks ≡ 1 → ⊥)
    → several (kept_slots t (names_view ks)) ≡ set_targets t (names_view ks)
several_take t [] n = refl
several_take t (k ∷ []) n = absurd (n refl)
several_take t (k ∷ l ∷ ks) n = refl

pub returns : goal.returns
returns c = search (arith, rules, several_take)
