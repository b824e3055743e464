-- Skip links lead to lower nodes, whose shapes lie below those of the nodes that have the links.
use Rattle.std.proofs.Common.{◌≡◌, ℕ, ◌-◌, ◌<◌, ◌≤◌, List, [], ◌++◌, get_or, Some, refl, sym, ap, ◌∙◌, append_assoc}
use Rattle.std.proofs.Common.{arith, rules}
use Rattle.std.specs.Prelude.{slice_get}
use Rattle.jt_image.specs.Effect.{Shape}
use Rattle.jt_verify.specs.declared.nodes.Node.{Node}
use Rattle.jt_verify.specs.Arena.{Lists, lists_of, IsUnder, IsAt, AreJumps}

pub under_same : (t : Lists) (k : ℕ) → IsUnder t k (get_or t k [])
under_same t k = ([], refl)

pub under_both : (t : Lists) (a c : ℕ) (s : Shape) → IsUnder t a s → IsUnder t c (get_or t a []) → IsUnder t c s
under_both t a c s f g =
    (f.0 ++ g.0, f.1 ∙ ap (λ (x : Shape). f.0 ++ x) g.1 ∙ sym (append_assoc f.0 g.0 (get_or t c [])))

module _ (ns : List Node) (a : AreJumps ns) where
  pub jump_is : (k : ℕ) (n : Node) → IsAt ns k n
      → (n.jump.to ≤ k) × IsUnder (lists_of ns) n.jump.to (get_or (lists_of ns) k [])
  jump_is a0 n e = search (arith, rules, get_or)

  pub further : (k : ℕ) (near far : Node) → IsAt ns k near → IsAt ns near.jump.to far
      → (far.jump.to ≤ k) × IsUnder (lists_of ns) far.jump.to (get_or (lists_of ns) k [])
  further k near far e f =
      let n = jump_is k near e in
      let m = jump_is near.jump.to far f in
      (omega (arith, n.0, m.0), under_both (lists_of ns) near.jump.to far.jump.to (get_or (lists_of ns) k []) n.1 m.1)

-- ---- the node of a number

module _ (ns : List Node) where
  pub at_some : (k : ℕ) (n : Node) → 0 < k → slice_get ns (k - 1) ≡ Some n → IsAt ns k n
  at_some a0 n l e = search (arith, rules)
