-- Lemmas on equality of numbers, and on lists of nodes by index.
use Rattle.std.proofs.Common.{◌≡◌, ◌≢◌, ℕ, zero, suc, ◌<◌, ◌⊎◌, List, [], ◌∷◌, ◌++◌, length, get_or, Some, refl, ap}
use Rattle.std.proofs.Common.{arith, inl, inr, rules}
use Rattle.std.specs.Prelude.{slice_get}
use Rattle.jt_verify.specs.declared.nodes.Node.{Node}

pub same_or : (a b : ℕ) → (a ≡ b) ⊎ (a ≢ b)
same_or (suc a) (suc b) =
    elim (same_or a b) [ inl e ↦ inl (ap suc e) | inr n ↦ inr (λ (e : suc a ≡ suc b). n (omega arith)) ]
same_or a0 a1 = search (arith, rules)

pub some_node : (ns : List Node) (i : ℕ) → i < length ns → (n : Node) × (slice_get ns i ≡ Some n)
some_node [] i lt = absurd (omega arith)
some_node (x ∷ ns) zero lt = (x, refl)
some_node (x ∷ ns) (suc i) lt = some_node ns i (omega arith)

pub node_left : (ns : List Node) (n : Node) (i : ℕ) (x : Node) → slice_get ns i ≡ Some x
    → slice_get (ns ++ n ∷ []) i ≡ Some x
node_left (y ∷ ns) n (suc i) x e = node_left ns n i x e
node_left a0 n a2 x e = search (arith, rules)

pub node_last : (ns : List Node) (n : Node) → slice_get (ns ++ n ∷ []) (length ns) ≡ Some n
node_last [] n = refl
node_last (y ∷ ns) n = node_last ns n

pub node_either : (ns : List Node) (n : Node) (i : ℕ) (x : Node) → slice_get (ns ++ n ∷ []) i ≡ Some x
    → (slice_get ns i ≡ Some x) ⊎ ((i ≡ length ns) × (n ≡ x))
node_either (y ∷ ns) n (suc i) x e = elim (node_either ns n i x e) [ inl a ↦ inl a | inr b ↦ inr (ap suc b.0, b.1) ]
node_either a0 n a2 x e = search (arith, rules)

-- If zeros are appended to a list, no value that is read changes, since 0 is read past its end.
pub padded : (ls : List ℕ) (p : ℕ) → get_or (ls ++ 0 ∷ 0 ∷ 0 ∷ []) p 0 ≡ get_or ls p 0
padded [] zero = refl
padded [] (suc zero) = refl
padded [] (suc (suc zero)) = refl
padded [] (suc (suc (suc p))) = refl
padded (x ∷ ls) zero = refl
padded (x ∷ ls) (suc p) = padded ls p
