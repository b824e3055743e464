-- An arena stays an arena when a node is added.
use Rattle.std.proofs.Common.{◌≡◌, ◌≢◌, ℕ, suc, ◌+◌, ◌*◌, ◌<◌, ◌≤◌, List, [], ◌∷◌, ◌++◌, length, get_or, Some, refl}
use Rattle.std.proofs.Common.{sym, ap, subst, ◌∙◌, append_assoc, arith, inl, inr, rules}
use Rattle.std.specs.Prelude.{slice_get, slice_set}
use Rattle.std.proofs.lemmas.Option.{slice_get_within}
use Rattle.std.proofs.lemmas.List.{length-append, length-set, get_or_append_left, get_or_push, get_or-set_same}
use Rattle.std.proofs.lemmas.List.{get_or-set_other}
use Rattle.jt_image.specs.Effect.{Shape, pushes}
use Rattle.jt_verify.specs.declared.nodes.NonValue.{NonValue}
use Rattle.jt_verify.specs.declared.nodes.ShapeId.{ShapeId}
use Rattle.jt_verify.specs.declared.nodes.Node.{Node}
use Rattle.jt_verify.specs.declared.nodes.SkipLink.{SkipLink}
use Rattle.jt_verify.specs.declared.nodes.Link.TheVariants as link
use Rattle.jt_verify.specs.Arena.{Lists, shape_in, IsIn, IsKept, StandsFor, entered, lists_of, kind_of}
use Rattle.jt_verify.specs.Arena.{digit_of, IsUnder, AreJumps, IsNode, AreLinks, KeepsLinks, Finding, IsSound}
use Rattle.jt_verify.specs.Arena.{IsArena}
use Rattle.jt_verify.proofs.NodeNumbers.{same_or, node_left, node_last, node_either, padded}
use Rattle.jt_verify.proofs.ValuesOnTop.{pushes_end}
use Rattle.jt_verify.proofs.ShapesAreUnique.{finds_more, grow_push, is_new, found_is}

pub kept_same : (t : Lists) → IsKept t t
kept_same t = record { more = omega arith; same = λ i l. refl }

module _ (ns : List Node) (ls : List ℕ) (a : IsArena ns ls) (n : Node) (q : ℕ) (r : List ℕ)
    (lt : IsIn (lists_of ns) n.below) (height : n.height ≡ length (entered (lists_of ns) n))
    (way : (n.jump.to ≤ n.below.node) × IsUnder (lists_of ns) n.jump.to (get_or (lists_of ns) n.below.node []))
    (f : Finding ns ls n.mark n.below (3 * n.below.node) (2 * n.below.values + digit_of n.mark) (link.Vacant q))
    (set_here : get_or r q 0 ≡ suc (length ns)) (set_there : (p : ℕ) → p ≢ q → get_or r p 0 ≡ get_or ls p 0)
    (room : 3 * (suc (length ns) + 1) ≤ length r) where
  abbrev more : List Node
  more = ns ++ n ∷ []

  one_more : length more ≡ suc (length ns)
  one_more = omega (arith, length-append ns (n ∷ []))

  pub lists_more : lists_of more ≡ lists_of ns ++ entered (lists_of ns) n ∷ []
  lists_more = grow_push ([] ∷ []) ns n

  at_old : (i : ℕ) → i < length (lists_of ns) → get_or (lists_of more) i [] ≡ get_or (lists_of ns) i []
  at_old i l =
      ap (λ (t : Lists). get_or t i []) lists_more
      ∙ get_or_append_left (lists_of ns) (entered (lists_of ns) n ∷ []) [] i l

  at_new : get_or (lists_of more) (suc (length ns)) [] ≡ entered (lists_of ns) n
  at_new =
      ap (λ (t : Lists). get_or t (suc (length ns)) []) lists_more
      ∙ get_or_push (lists_of ns) (entered (lists_of ns) n) [] (suc (length ns)) a.len

  length-lists : length (lists_of more) ≡ suc (suc (length ns))
  length-lists =
      omega (
        arith,
        ap (λ (t : Lists). length t) lists_more,
        length-append (lists_of ns) (entered (lists_of ns) n ∷ []),
        a.len,
      )

  pub kept : IsKept (lists_of ns) (lists_of more)
  kept = record { more = omega (arith, length-lists, a.len); same = at_old }

  pub entered_kept : (x : Node) → x.below.node < length (lists_of ns)
      → entered (lists_of more) x ≡ entered (lists_of ns) x
  entered_kept x l = ap (λ (s : Shape). kind_of x.mark ∷ pushes x.below.values s) (at_old x.below.node l)

  keeps : KeepsLinks ls r
  keeps p k e =
      set_there p (λ same.
      let z : get_or ls p 0 ≡ 0 = subst (λ (x : ℕ). get_or ls x 0 ≡ 0) (sym same) f.0 in absurd (omega (arith, z, e)))
      ∙ e

  nodes_left : (m : NonValue) (b : ShapeId) (i : ℕ) → IsNode ns m b i → IsNode more m b i
  nodes_left m b i h = record { node = h.node; is = node_left ns n i h.node h.is; mark = h.mark; below = h.below }

  links_more : AreLinks (length more) r
  links_more = record {
    indices = omega (arith, room, one_more);
    upward = λ p k e. elim (same_or p q) [
      | inl s ↦ let at : get_or r p 0 ≡ suc (length ns) =
          subst (λ (x : ℕ). get_or r x 0 ≡ suc (length ns)) (sym s) set_here in
          (omega (arith, at, e, s, f.1), omega (arith, at, e, one_more))
      | inr d ↦ let o = a.links.upward p k (sym (set_there p d) ∙ e) in (o.0, omega (arith, o.1, one_more))
    ];
  }

  sound_new : IsSound more r (lists_of more) (length ns) n
  sound_new = search (arith, rules, at_new, entered_kept, keeps, node_last)

  sound_old : (i : ℕ) (x : Node) → slice_get ns i ≡ Some x → IsSound more r (lists_of more) i x
  sound_old i x e =
      let s = a.sound i x e in
      let l = slice_get_within ns i x e in
      let same = entered_kept x (omega (arith, s.older, l, a.len)) in
      record {
        older = s.older;
        shape = at_old (suc i) (omega (arith, l, a.len)) ∙ s.shape ∙ sym same;
        height = s.height ∙ ap (λ (s : Shape). length s) (sym same);
        found =
            finds_more ns more ls r x.mark x.below keeps (nodes_left x.mark x.below) (3 * x.below.node)
            (2 * x.below.values + digit_of x.mark) i s.found;
      }

  jump_new : (n.jump.to ≤ length ns) × IsUnder (lists_of more) n.jump.to (get_or (lists_of more) (suc (length ns)) [])
  jump_new =
      let v = n.below.values in
      let u = way.1 in
      let low : n.jump.to < length (lists_of ns) = omega (arith, way.0, lt) in (
        omega (arith, way.0, lt, a.len),
        (
          kind_of n.mark ∷ (pushes v [] ++ u.0),
          at_new
              ∙ ap (λ (s : Shape). kind_of n.mark ∷ s) (pushes_end v (get_or (lists_of ns) n.below.node [])
              ∙ ap (λ (s : Shape). pushes v [] ++ s) u.1
              ∙ sym (append_assoc (pushes v []) u.0 (get_or (lists_of ns) n.jump.to [])))
              ∙ ap (λ (s : Shape). kind_of n.mark ∷ (pushes v [] ++ u.0 ++ s)) (sym (at_old n.jump.to low)),
        ),
      )

  jump_old : (i : ℕ) (x : Node) → slice_get ns i ≡ Some x
      → (x.jump.to ≤ i) × IsUnder (lists_of more) x.jump.to (get_or (lists_of more) (suc i) [])
  jump_old i x e = search (arith, rules, slice_get_within, at_old)

  jumps_more : AreJumps more
  jumps_more i x e = search (arith, rules, node_either, jump_old, get_or, jump_new)

  new_differs : (j : ℕ) → j < suc (length ns)
      → get_or (lists_of more) j [] ≡ get_or (lists_of more) (suc (length ns)) [] → ⊥
  new_differs j l e =
      is_new a n.mark n.below lt f.2 j (omega (arith, l, a.len)) (sym (at_old j (omega (arith, l, a.len))) ∙ e ∙ at_new)

  distinct_more : (i j : ℕ) → i < length (lists_of more) → j < length (lists_of more)
      → get_or (lists_of more) i [] ≡ get_or (lists_of more) j [] → i ≡ j
  distinct_more i j li lj e = search (arith, rules, same_or, new_differs, length-lists, get_or, at_old)

  pub arena_more : IsArena more r
  arena_more = record {
    len = length-lists ∙ ap suc (sym one_more);
    links = links_more;
    jumps = jumps_more;
    sound = λ i x e. elim (node_either ns n i x e) [
      | inl o ↦ sound_old i x o
      | inr w ↦ subst (λ (y : Node). IsSound more r (lists_of more) i y) w.1
          (subst (λ (j : ℕ). IsSound more r (lists_of more) j n) (sym w.0) sound_new)
    ];
    distinct = distinct_more;
  }

-- The vacant link leads to the new node, and the links of the new node are vacant.
module _ (ns : List Node) (ls : List ℕ) (a : IsArena ns ls) (q k : ℕ) (z : get_or ls q 0 ≡ 0)
    (l : q < 3 * (length ns + 1)) where
  abbrev linked : List ℕ
  linked = slice_set (ls ++ 0 ∷ 0 ∷ 0 ∷ []) q k

  pub linked_here : get_or linked q 0 ≡ k
  linked_here =
      get_or-set_same (ls ++ 0 ∷ 0 ∷ 0 ∷ []) q k 0 (omega (
        arith,
        l,
        a.links.indices,
        length-append ls
            (0 ∷ 0 ∷ 0 ∷ []),
      ))

  pub linked_there : (p : ℕ) → p ≢ q → get_or linked p 0 ≡ get_or ls p 0
  linked_there p d = get_or-set_other (ls ++ 0 ∷ 0 ∷ 0 ∷ []) q p k 0 d ∙ padded ls p

  pub linked_room : 3 * (suc (length ns) + 1) ≤ length linked
  linked_room = omega (arith, a.links.indices, length-set (ls ++ 0 ∷ 0 ∷ 0 ∷ []) q k, length-append ls (0 ∷ 0 ∷ 0 ∷ []))

  -- An arena stays one when an entry that was not found is pushed.
  pub pushed : (m : NonValue) (b : ShapeId) (h : ℕ) (j : SkipLink) → k ≡ suc (length ns) → IsIn (lists_of ns) b
      → h ≡ length (shape_in (lists_of ns) b) + 1
      → (j.to ≤ b.node) × IsUnder (lists_of ns) j.to (get_or (lists_of ns) b.node [])
      → Finding ns ls m b (3 * b.node) (2 * b.values + digit_of m) (link.Vacant q)
      → IsArena (ns ++ record { mark = m; below = b; height = h; jump = j } ∷ []) linked
  pushed m b h j e i height way f =
      arena_more ns ls a (record { mark = m; below = b; height = h; jump = j }) q linked i (omega (arith, height)) way f
      (linked_here ∙ e) linked_there linked_room

-- The shapes of the nodes after a push.
module _ (ns : List Node) (n : Node) (len : length (lists_of ns) ≡ suc (length ns)) where
  pub shapes_pushed : lists_of (ns ++ n ∷ []) ≡ lists_of ns ++ entered (lists_of ns) n ∷ []
  shapes_pushed = grow_push ([] ∷ []) ns n

  pub kept_pushed : IsKept (lists_of ns) (lists_of (ns ++ n ∷ []))
  kept_pushed = search (arith, rules, shapes_pushed, length-append, get_or, get_or_append_left)

  pub shape_pushed : (k : ℕ) → k ≡ suc (length ns)
      → (get_or (lists_of (ns ++ n ∷ [])) k [] ≡ entered (lists_of ns) n) × (k < length (lists_of (ns ++ n ∷ [])))
  shape_pushed k e = search (arith, rules, get_or, shapes_pushed, get_or_push, length-append)

-- The node that a lookup finds has the shape that was looked up, in equal lists of nodes.
pub found_pushed : (ns xs : List Node) (ls ys : List ℕ) → IsArena ns ls → (m : NonValue) (b : ShapeId) (d k : ℕ)
    → xs ≡ ns → Finding xs ys m b (3 * b.node) d (link.To k)
    → StandsFor (lists_of ns) k (kind_of m ∷ shape_in (lists_of ns) b)
found_pushed ns xs ls ys a m b d k e f =
    found_is a m b (3 * b.node) d k (f.0, f.1, subst (λ (zs : List Node). IsNode zs m b f.0) e f.2)

pub vacant_pushed : (ns xs : List Node) (ls ys : List ℕ) (m : NonValue) (b : ShapeId) (d q : ℕ) → xs ≡ ns → ys ≡ ls
    → d ≡ 2 * b.values + digit_of m → Finding xs ys m b (3 * b.node) d (link.Vacant q)
    → Finding ns ls m b (3 * b.node) (2 * b.values + digit_of m) (link.Vacant q)
vacant_pushed ns xs ls ys m b d q e f g h =
    subst (λ (c : ℕ). Finding ns ls m b (3 * b.node) c (link.Vacant q)) g
    (subst (λ (zs : List ℕ). Finding ns zs m b (3 * b.node) d (link.Vacant q)) f
    (subst (λ (zs : List Node). Finding zs ys m b (3 * b.node) d (link.Vacant q)) e h))
