-- Two shape ids of an arena never have the same shape.
use Rattle.std.proofs.Common.{◌≡◌, ◌≢◌, ℕ, zero, suc, ◌+◌, ◌-◌, ◌*◌, ◌/◌, ◌%◌, ◌<◌, ◌≤◌, Bool, List, [], ◌∷◌, ◌++◌}
use Rattle.std.proofs.Common.{length, get_or, Some, None, Result, Err, MatchBool, refl, sym, ap, subst, ◌∙◌, arith}
use Rattle.std.proofs.Common.{rules}
use Rattle.std.specs.Prelude.{slice_get}
use Rattle.std.proofs.lemmas.Option.{slice_get_within}
use Rattle.std.proofs.lemmas.List.{length-append, get_or_append_left}
use Rattle.jt_image.specs.declared.kind.Flaw.{Flaw}
use Rattle.jt_image.specs.declared.kind.Flaw.TheVariants as flaw
use Rattle.jt_image.specs.Effect.{Shape, Successors, pops, pops_many, pushes}
use Rattle.jt_verify.specs.declared.nodes.NonValue.{NonValue}
use Rattle.jt_verify.specs.declared.nodes.ShapeId.{ShapeId}
use Rattle.jt_verify.specs.declared.nodes.Node.{Node}
use Rattle.jt_verify.specs.declared.nodes.Link.{Link}
use Rattle.jt_verify.specs.declared.nodes.Link.TheVariants as link
use Rattle.jt_verify.specs.Arena.{Lists, shape_in, IsIn, entered, grow, lists_of, kind_of, digit_of, IsNode}
use Rattle.jt_verify.specs.Arena.{Finds, here, along, KeepsLinks, AreLinks, Finding, IsAt, IsArena}
use Rattle.jt_verify.proofs.NodeNumbers.{some_node}
use Rattle.jt_verify.proofs.ValuesOnTop.{HasNoValue, pushes_same, length-pushes, pops_too_many, below_values, at_end}
use Rattle.jt_verify.proofs.ValuesOnTop.{values_counted, values_left_out}
use Rattle.jt_verify.specs.Entries.{values_on, without_values}

-- ---- lookup of an entry

module _ (ns : List Node) (ls : List ℕ) (m : NonValue) (b : ShapeId) where
  none_there : (p d i : ℕ) → Finds ns ls m b p d i → get_or ls p 0 ≡ 0 → ⊥
  none_there _ _ _ a3 z = search (arith, rules)

  goes_along : (k p d i : ℕ) → Finds ns ls m b p d i → get_or ls p 0 ≡ suc k → (IsNode ns m b k → ⊥)
      → Finds ns ls m b (3 * suc k + 1 + d % 2) (d / 2) i
  goes_along k _ _ _ a4 link_is other = search (arith, rules)

  pub vacant_here : (p d : ℕ) → get_or ls p 0 ≡ 0 → p < 3 * (length ns + 1) → Finding ns ls m b p d (link.Vacant p)
  vacant_here p d z lt = (z, lt, λ i f. none_there p d i f z, λ r s i keeps link_is node_is. here p d i link_is node_is)

  pub found_along : (p d k : ℕ) (r : Link) → get_or ls p 0 ≡ suc k → (IsNode ns m b k → ⊥)
      → Finding ns ls m b (3 * suc k + 1 + d % 2) (d / 2) r → Finding ns ls m b p d r
  found_along p d k (link.To n) link_is other h = h
  found_along p d k (link.Vacant q) link_is other h = (
    h.0,
    h.1,
    λ i f. h.2 i (goes_along k p d i f link_is other),
    λ r s i keeps new_is node_is. along p d i k (keeps p k link_is) (h.3 r s i keeps new_is node_is),
  )

  -- If a lookup passes a node that is another entry, it continues at the link of the next digit.
  pub goes_on_from : (p d k : ℕ) (n : Node) (r : Link) → get_or ls p 0 ≡ k → 0 < k → slice_get ns (k - 1) ≡ Some n
      → (n.mark ≡ m → n.below ≢ b) → Finding ns ls m b (3 * k + 1 + d % 2) (d / 2) r → Finding ns ls m b p d r
  goes_on_from p d zero n r e l is other h = absurd (omega arith)
  goes_on_from p d (suc k) n r e l is other h = found_along p d k r e (λ x. differs x) h
    where
      same : suc k - 1 ≡ k
      same = omega arith

      differs : IsNode ns m b k → ⊥
      differs x =
          let found : Some n ≡ Some x.node = sym is ∙ subst (λ (j : ℕ). slice_get ns j ≡ Some x.node) (sym same) x.is in
          let nodes : n ≡ x.node = cc in
          other (ap (λ (y : Node). y.mark) nodes ∙ x.mark) (ap (λ (y : Node). y.below) nodes ∙ x.below)

  pub found_here : (p d k : ℕ) (n : Node) → 0 < k → slice_get ns (k - 1) ≡ Some n → n.mark ≡ m → n.below ≡ b
      → Finding ns ls m b p d (link.To k)
  found_here p d a2 n l is e f = search (arith, rules)

-- A link leads to an existing node, which is newer.
pub link_up : (n : ℕ) (ls : List ℕ) → AreLinks n ls → (p k : ℕ) → k ≡ get_or ls p 0 → 0 < k → (p < 3 * k) × (k ≤ n)
link_up n ls a p zero e l = absurd (omega arith)
link_up n ls a p (suc k) e l = let u = a.upward p k (sym e) in (u.0, omega (arith, u.1))

-- Links that find a node still find it after links and nodes were added.
pub finds_more : (ns rs : List Node) (ls r : List ℕ) (m : NonValue) (b : ShapeId) → KeepsLinks ls r
    → ((i : ℕ) → IsNode ns m b i → IsNode rs m b i) → (p d i : ℕ) → Finds ns ls m b p d i → Finds rs r m b p d i
finds_more ns rs ls r m b keeps nodes _ _ _ (here p d i e h) = here p d i (keeps p i e) (nodes i h)
finds_more ns rs ls r m b keeps nodes _ _ _ (along p d i k e f) =
    along p d i k (keeps p k e) (finds_more ns rs ls r m b keeps nodes _ _ _ f)

-- ---- the shapes of nodes

pub grow_push : (t : Lists) (ns : List Node) (n : Node)
    → grow t (ns ++ n ∷ []) ≡ grow t ns ++ entered (grow t ns) n ∷ []
grow_push t [] n = refl
grow_push t (x ∷ ns) n = grow_push (t ++ entered t x ∷ []) ns n

grow_front : (t : Lists) (ns : List Node) (i : ℕ) → i < length t → get_or (grow t ns) i [] ≡ get_or t i []
grow_front t [] i lt = refl
grow_front t (n ∷ ns) i lt =
    grow_front (t ++ entered t n ∷ []) ns i (omega (arith, length-append t (entered t n ∷ [])))
    ∙ get_or_append_left t (entered t n ∷ []) [] i lt

pub bottom : (ns : List Node) → get_or (lists_of ns) 0 [] ≡ []
bottom ns = grow_front ([] ∷ []) ns 0 (omega arith)

marked : (m : NonValue) (s : Shape) → HasNoValue (kind_of m ∷ s)
marked a0 s = search (arith, rules)

kind_same : (m n : NonValue) → kind_of m ≡ kind_of n → m ≡ n
kind_same a0 a1 e = search (arith, rules)

handle_same : (h g : ShapeId) → h.values ≡ g.values → h.node ≡ g.node → h ≡ g
handle_same h g e f =
    subst (λ (n : ℕ). h ≡ record { values = g.values; node = n }) f
    (subst (λ (v : ℕ). h ≡ record { values = v; node = h.node }) e refl)

module _ {ns : List Node} {ls : List ℕ} (a : IsArena ns ls) where
  -- The node of a number has its shape, lies on an older node, and its height is the length of its
  -- shape.
  pub node_is : (k : ℕ) (n : Node) → 0 < k → slice_get ns (k - 1) ≡ Some n
      → (get_or (lists_of ns) k [] ≡ entered (lists_of ns) n) × (n.below.node < k)
      × (n.height ≡ length (entered (lists_of ns) n))
  node_is zero n l e = absurd (omega arith)
  node_is (suc i) n l e =
      let same : suc i - 1 ≡ i = omega arith in
      let s = a.sound i n (subst (λ (j : ℕ). slice_get ns j ≡ Some n) same e) in
      (s.shape, omega (arith, s.older), s.height)

  no_value : (i : ℕ) → i < length (lists_of ns) → HasNoValue (get_or (lists_of ns) i [])
  no_value zero lt = subst (λ (s : Shape). HasNoValue s) (sym (bottom ns)) tt
  no_value (suc i) lt =
      let n = some_node ns i (omega (arith, a.len)) in
      let s = a.sound i n.0 n.1 in
      subst (λ (s : Shape). HasNoValue s) (sym s.shape) (marked n.0.mark (shape_in (lists_of ns) n.0.below))

  -- Different shape ids have different shapes.
  pub handles_same : (h g : ShapeId) → IsIn (lists_of ns) h → IsIn (lists_of ns) g
      → shape_in (lists_of ns) h ≡ shape_in (lists_of ns) g → h ≡ g
  handles_same h g l m e = search (arith, rules, pushes_same, get_or, no_value, handle_same)

  -- An entry that links do not find is on no node.
  pub is_new : (m : NonValue) (b : ShapeId) → IsIn (lists_of ns) b
      → ((i : ℕ) → Finds ns ls m b (3 * b.node) (2 * b.values + digit_of m) i → ⊥) → (j : ℕ) → j < length (lists_of ns)
      → get_or (lists_of ns) j [] ≡ kind_of m ∷ shape_in (lists_of ns) b → ⊥
  is_new m b lt none zero l e =
      let f : ◌≡◌ {A = Shape} [] (kind_of m ∷ shape_in (lists_of ns) b) = sym (bottom ns) ∙ e in absurd cc
  is_new m b lt none (suc j) l e =
      let n = some_node ns j (omega (arith, a.len)) in
      let s = a.sound j n.0 n.1 in
      let same : kind_of n.0.mark ∷ shape_in (lists_of ns) n.0.below ≡ kind_of m ∷ shape_in (lists_of ns) b =
      sym s.shape ∙ e in
      let marks = kind_same n.0.mark m cc in
      let shapes : shape_in (lists_of ns) n.0.below ≡ shape_in (lists_of ns) b = cc in
      let below = handles_same n.0.below b (omega (arith, s.older, a.len, l)) lt shapes in
      none j (subst (λ (x : ShapeId). Finds ns ls m x (3 * x.node) (2 * x.values + digit_of m) j) below
      (subst (λ (y : NonValue). Finds ns ls y n.0.below (3 * n.0.below.node) (2 * n.0.below.values + digit_of y) j)
      marks s.found))

  -- ---- reading a shape by its id

  pub values_are : (h : ShapeId) → IsIn (lists_of ns) h → h.values ≡ values_on (shape_in (lists_of ns) h)
  values_are h l = values_counted h.values (get_or (lists_of ns) h.node []) (no_value h.node l)

  pub rest_is : (h : ShapeId) → IsIn (lists_of ns) h
      → get_or (lists_of ns) h.node [] ≡ without_values (shape_in (lists_of ns) h)
  rest_is h l = values_left_out h.values (get_or (lists_of ns) h.node []) (no_value h.node l)

  at_bottom : (h : ShapeId) → h.node ≡ 0 → get_or (lists_of ns) h.node [] ≡ []
  at_bottom h z = subst (λ (k : ℕ). get_or (lists_of ns) k [] ≡ []) (sym z) (bottom ns)

  pub empty_is : (h : ShapeId) → h.values ≡ 0 → h.node ≡ 0 → shape_in (lists_of ns) h ≡ []
  empty_is h e z = ap (λ (v : ℕ). pushes v (get_or (lists_of ns) h.node [])) e ∙ at_bottom h z

  pub top_is : (h : ShapeId) (n : Node) → h.values ≡ 0 → 0 < h.node → IsIn (lists_of ns) h
      → slice_get ns (h.node - 1) ≡ Some n → (shape_in (lists_of ns) h
      ≡ kind_of n.mark ∷ shape_in (lists_of ns) n.below)
      × (n.below.node < length (lists_of ns))
  top_is h n e l i is =
      let k = node_is h.node n l is in
      (ap (λ (v : ℕ). pushes v (get_or (lists_of ns) h.node [])) e ∙ k.0, omega (arith, k.1, i))

  pub equal_is : (r : Bool) (h g : ShapeId) → IsIn (lists_of ns) h → IsIn (lists_of ns) g → MatchBool r (h ≡ g) (h ≢ g)
      → MatchBool r (shape_in (lists_of ns) h ≡ shape_in (lists_of ns) g)
      (shape_in (lists_of ns) h ≢ shape_in (lists_of ns) g)
  equal_is a0 h g l m e = search (arith, rules, handles_same)

  pub pops_nothing : (h : ShapeId) (n : ℕ) → h.values < n → h.node ≡ 0 → (go : Shape → Result Successors Flaw)
      → pops_many n (shape_in (lists_of ns) h) go ≡ Err flaw.MissingOperand
  pops_nothing h n l z =
      pops_too_many n h.values (get_or (lists_of ns) h.node []) flaw.MissingOperand l
      (λ go. ap (λ (s : Shape). pops s go) (at_bottom h z))

  pub pops_a_mark : (h : ShapeId) (n : ℕ) → h.values < n → 0 < h.node → IsIn (lists_of ns) h
      → (go : Shape → Result Successors Flaw) → pops_many n (shape_in (lists_of ns) h) go ≡ Err flaw.WrongKind
  pops_a_mark h n l some within =
      let found = some_node ns (h.node - 1) (omega (arith, a.len)) in
      let x = found.0 in
      let k = node_is h.node x some found.1 in
      pops_too_many n h.values (get_or (lists_of ns) h.node []) flaw.WrongKind l
      (λ go. ap (λ (s : Shape). pops s go) k.0 ∙ wrong x.mark (shape_in (lists_of ns) x.below) go)
    where
      wrong : (m : NonValue) (s : Shape) (go : Shape → Result Successors Flaw)
          → pops (kind_of m ∷ s) go ≡ Err flaw.WrongKind
      wrong a0 s go = search (arith, rules)

  pub kind_at_bottom : (h : ShapeId) (i : ℕ) → h.node ≡ 0 → h.values ≤ i → slice_get (shape_in (lists_of ns) h) i ≡ None
  kind_at_bottom h i z l =
      below_values h.values (get_or (lists_of ns) h.node []) i l
      ∙ ap (λ (s : Shape). slice_get s (i - h.values)) (at_bottom h z)

  pub kind_at_mark : (h : ShapeId) (n : Node) (i : ℕ) → 0 < h.node → slice_get ns (h.node - 1) ≡ Some n → i ≡ h.values
      → slice_get (shape_in (lists_of ns) h) i ≡ Some (kind_of n.mark)
  kind_at_mark h n i l is e = search (arith, rules, node_is, below_values, get_or)

  pub kind_under_mark : (h : ShapeId) (n : Node) (i j : ℕ) → 0 < h.node → slice_get ns (h.node - 1) ≡ Some n
      → i ≡ h.values + suc j → slice_get (shape_in (lists_of ns) h) i ≡ slice_get (shape_in (lists_of ns) n.below) j
  kind_under_mark h n i j l is e =
      let k = node_is h.node n l is in
      let left : i - h.values ≡ suc j = omega (arith, e) in
      below_values h.values (get_or (lists_of ns) h.node []) i (omega (arith, e))
      ∙ ap (λ (s : Shape). slice_get s (i - h.values)) k.0 ∙ ap (λ (x : ℕ). slice_get (entered (lists_of ns) n) x) left

  pub height_is : (k : ℕ) (n : Node) → IsAt ns k n → n.height ≡ length (get_or (lists_of ns) k [])
  height_is zero n e = omega (arith, e.0, ap (λ (s : Shape). length s) (bottom ns))
  height_is (suc i) n e = let s = a.sound i n e in omega (arith, s.height, ap (λ (x : Shape). length x) s.shape)

  pub height_in : (h : ShapeId) (n : Node) → IsAt ns h.node n → h.values + n.height ≡ length (shape_in (lists_of ns) h)
  height_in h n e = omega (arith, length-pushes h.values (get_or (lists_of ns) h.node []), height_is h.node n e)

  -- The skip link of a node leads to an older node, whose shape is the rest of the node's shape.
  pub way_is : (k : ℕ) (n m : Node) → 0 < k → slice_get ns (k - 1) ≡ Some n → IsAt ns n.jump.to m
      → (n.jump.to < k) × (m.height ≤ n.height)
      × ((i : ℕ) → n.height - m.height ≤ i → slice_get (get_or (lists_of ns) k []) i
      ≡ slice_get (get_or (lists_of ns) n.jump.to []) (i - (n.height - m.height)))
  way_is zero n m l is e = absurd (omega arith)
  way_is (suc j) n m l is e =
      let same : suc j - 1 ≡ j = omega arith in
      let at = subst (λ (x : ℕ). slice_get ns x ≡ Some n) same is in
      let s = a.sound j n at in
      let w = a.jumps j n at in
      let tall : n.height ≡ length w.1.0 + m.height = omega (
        arith,
        s.height,
        ap (λ (x : Shape). length x) s.shape,
        ap (λ (x : Shape). length x) w.1.1,
        length-append w.1.0 (get_or (lists_of ns) n.jump.to []),
        height_is n.jump.to m e,
      ) in
      let over : length w.1.0 ≡ n.height - m.height = omega (arith, tall) in (
        omega (arith, w.0),
        omega (arith, tall),
        λ i low. ap (λ (x : Shape). slice_get x i) w.1.1
            ∙ at_end w.1.0 (get_or (lists_of ns) n.jump.to []) i (omega (arith, low, over))
            ∙ ap (λ (d : ℕ). slice_get (get_or (lists_of ns) n.jump.to []) (i - d)) over,
      )

  pub kind_far_under : (h : ShapeId) (n m : Node) (i j : ℕ) → 0 < h.node → slice_get ns (h.node - 1) ≡ Some n
      → IsAt ns n.jump.to m → i ≡ h.values + (n.height - m.height) + j
      → slice_get (shape_in (lists_of ns) h) i ≡ slice_get (get_or (lists_of ns) n.jump.to []) j
  kind_far_under h n m i j l is e f = search (arith, rules, way_is, below_values, get_or)

  -- A node that a lookup finds is this entry on this shape id.
  pub found_is : (m : NonValue) (b : ShapeId) (p d k : ℕ) → Finding ns ls m b p d (link.To k)
      → (get_or (lists_of ns) k [] ≡ kind_of m ∷ shape_in (lists_of ns) b) × (k < length (lists_of ns))
  found_is m b p d k f =
      let x = f.2 in
      let s = a.sound f.0 x.node x.is in
      let here_is : get_or (lists_of ns) (suc f.0) [] ≡ kind_of m ∷ shape_in (lists_of ns) b = s.shape
      ∙ ap (λ (y : NonValue). kind_of y ∷ shape_in (lists_of ns) x.node.below) x.mark
      ∙ ap (λ (y : ShapeId). kind_of m ∷ shape_in (lists_of ns) y) x.below in (
        ap (λ (j : ℕ). get_or (lists_of ns) j []) f.1 ∙ here_is,
        omega (arith, f.1, slice_get_within ns f.0 x.node x.is, a.len),
      )
