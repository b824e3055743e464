-- The contents of an arena of shapes: the lists of kinds of its nodes, each once.
use Rattle.std.specs.Prelude.{◌≡◌, ◌≢◌, Bool, MatchBool, ℕ, zero, suc, ◌+◌, ◌*◌, ◌/◌, ◌%◌, ◌<◌, ◌≤◌, List, [], ◌∷◌}
use Rattle.std.specs.Prelude.{◌++◌}
use Rattle.std.specs.Prelude.{length, get_or, slice_set, Option, Some, None, Result, Ok, Err, slice_get}
use Rattle.jt_image.specs.declared.kind.Kind.{Kind}
use Rattle.jt_image.specs.declared.kind.Kind.TheVariants as kind
use Rattle.jt_image.specs.declared.kind.Flaw.{Flaw}
use Rattle.jt_image.specs.Effect.{Shape, Successors, pushes, pops_many}
use Rattle.jt_verify.specs.declared.nodes.NonValue.{NonValue}
use Rattle.jt_verify.specs.declared.nodes.NonValue.TheVariants as mark
use Rattle.jt_verify.specs.declared.nodes.ShapeId.{ShapeId}
use Rattle.jt_verify.specs.declared.nodes.Node.{Node}
use Rattle.jt_verify.specs.declared.nodes.Link.{Link}
use Rattle.jt_verify.specs.declared.nodes.Link.TheVariants as link

abbrev pub kind_of : NonValue → Kind
kind_of mark.Frame = kind.Frame
kind_of mark.Capture = kind.Capture

-- The shapes of the nodes, by their numbers; number 0 is no node, and has no entries.
abbrev pub Lists : Type 0
Lists = List Shape

-- The shape of a shape id: `values` values on top of a node.
abbrev pub shape_in : Lists → ShapeId → Shape
shape_in t h = pushes h.values (get_or t h.node [])

-- The result of a test is whether two values are equal.
abbrev pub TellsEqual : {A : Type 0} → A → A → Bool → Type 0
TellsEqual a b test = MatchBool test (a ≡ b) (a ≢ b)

-- The shape id belongs to the arena.
abbrev pub IsIn : Lists → ShapeId → Type 0
IsIn t h = h.node < length t

-- The shape id belongs to the arena, and has the shape.
pub record Holds (t : Lists) (h : ShapeId) (s : Shape) : Type 0 where
  pub shape : shape_in t h ≡ s
  pub within : IsIn t h

-- All earlier nodes exist, with their shapes.
pub record IsKept (t r : Lists) : Type 0 where
  pub more : length t ≤ length r
  pub same : (i : ℕ) → i < length t → get_or r i [] ≡ get_or t i []

-- The node has the shape.
abbrev pub StandsFor : Lists → ℕ → Shape → Type 0
StandsFor t k s = (get_or t k [] ≡ s) × (k < length t)

-- The top entry, and the shape below it.
abbrev pub Pops : Lists → Shape → Option (Kind × ShapeId) → Type 0
Pops t s None = s ≡ []
Pops t s (Some p) = (s ≡ p.0 ∷ shape_in t p.1) × IsIn t p.1

-- The shape below `n` values, or the flaw.
abbrev pub PopsMany : Lists → ℕ → Shape → Result ShapeId Flaw → Type 0
PopsMany t n s (Ok h) =
    ((go : Shape → Result Successors Flaw) → pops_many n s go ≡ go (shape_in t h))
    × IsIn t h
    × (length (shape_in t h) + n ≡ length s)
PopsMany t n s (Err f) = (go : Shape → Result Successors Flaw) → pops_many n s go ≡ Err f

-- ---- the nodes and links of an arena

-- The shape of a node.
abbrev pub entered : Lists → Node → Shape
entered t n = kind_of n.mark ∷ shape_in t n.below

-- Adds the shapes of further nodes, each of which lies on an earlier one.
abbrev pub grow : Lists → List Node → Lists
grow t [] = t
grow t (n ∷ ns) = grow (t ++ entered t n ∷ []) ns

-- The shapes of all nodes, from the first one on.
abbrev pub lists_of : List Node → Lists
lists_of ns = grow ([] ∷ []) ns

-- The shape of a node is a suffix of this shape.
abbrev pub IsUnder : Lists → ℕ → Shape → Type 0
IsUnder t k s = (r : Shape) × (s ≡ r ++ get_or t k [])

-- The node of a number; number 0 has a placeholder with height 0 and no skip link down.
abbrev pub IsAt : List Node → ℕ → Node → Type 0
IsAt ns zero n = (n.height ≡ 0) × (n.jump.to ≡ 0)
IsAt ns (suc i) n = slice_get ns i ≡ Some n

-- Skip links lead to older nodes, whose shapes lie below the shapes of the nodes that have the
-- links.
abbrev pub AreJumps : List Node → Type 0
AreJumps ns = (i : ℕ) (n : Node) → slice_get ns i ≡ Some n
    → (n.jump.to ≤ i) × IsUnder (lists_of ns) n.jump.to (get_or (lists_of ns) (suc i) [])

abbrev pub digit_of : NonValue → ℕ
digit_of mark.Frame = 0
digit_of mark.Capture = 1

-- Node `i` is this mark on this shape id.
pub record IsNode (ns : List Node) (m : NonValue) (b : ShapeId) (i : ℕ) : Type 0 where
  pub node : Node
  pub is : slice_get ns i ≡ Some node
  pub mark : node.mark ≡ m
  pub below : node.below ≡ b

-- Links lead from the index to the node of the mark on the shape id, which is node `i`.
pub data Finds (ns : List Node) (ls : List ℕ) (m : NonValue) (b : ShapeId) : ℕ → ℕ → ℕ → Type 0 where
  here : (p d i : ℕ) → get_or ls p 0 ≡ suc i → IsNode ns m b i → Finds ns ls m b p d i
  along : (p d i k : ℕ) → get_or ls p 0 ≡ suc k
      → Finds ns ls m b (3 * suc k + 1 + d % 2) (d / 2) i → Finds ns ls m b p d i

-- Each link leads to a node that is newer than the node of the link.
pub record AreLinks (n : ℕ) (ls : List ℕ) : Type 0 where
  pub indices : 3 * (n + 1) ≤ length ls
  pub upward : (p k : ℕ) → get_or ls p 0 ≡ suc k → (p < 3 * suc k) × (k < n)

-- Each link that leads to a node still leads to that node.
abbrev pub KeepsLinks : List ℕ → List ℕ → Type 0
KeepsLinks ls r = (p k : ℕ) → get_or ls p 0 ≡ suc k → get_or r p 0 ≡ suc k

-- A link at `q` to the node of the mark on the shape id is reached from `p`.
abbrev pub LeadsTo : List ℕ → NonValue → ShapeId → ℕ → ℕ → ℕ → Type 0
LeadsTo ls m b p d q = (ns : List Node) (r : List ℕ) (i : ℕ)
    → KeepsLinks ls r → get_or r q 0 ≡ suc i → IsNode ns m b i → Finds ns r m b p d i

-- The node that is looked up, or the index at which its link would be.
abbrev pub Finding : List Node → List ℕ → NonValue → ShapeId → ℕ → ℕ → Link → Type 0
Finding ns ls m b p d (link.To n) = (i : ℕ) × (n ≡ suc i) × IsNode ns m b i
Finding ns ls m b p d (link.Vacant q) =
    (get_or ls q 0 ≡ 0)
    × (q < 3 * (length ns + 1))
    × ((i : ℕ) → Finds ns ls m b p d i → ⊥)
    × LeadsTo ls m b p d q

-- Node `i` lies on an older node and is found from there; its height is the length of its shape.
pub record IsSound (ns : List Node) (ls : List ℕ) (t : Lists) (i : ℕ) (n : Node) : Type 0 where
  pub older : n.below.node ≤ i
  pub shape : get_or t (suc i) [] ≡ entered t n
  pub height : n.height ≡ length (entered t n)
  pub found : Finds ns ls n.mark n.below (3 * n.below.node) (2 * n.below.values + digit_of n.mark) i

-- An arena: no two nodes have the same shape.
pub record IsArena (ns : List Node) (ls : List ℕ) : Type 0 where
  pub len : length (lists_of ns) ≡ suc (length ns)
  pub links : AreLinks (length ns) ls
  pub jumps : AreJumps ns
  pub sound : (i : ℕ) (n : Node) → slice_get ns i ≡ Some n → IsSound ns ls (lists_of ns) i n
  pub distinct : (i j : ℕ) → i < length (lists_of ns) → j < length (lists_of ns)
      → get_or (lists_of ns) i [] ≡ get_or (lists_of ns) j [] → i ≡ j

-- One more node was added, whose number is `k`, and the link at the index leads to it.
pub record IsAdded (ns ms : List Node) (ls rs : List ℕ) (n : Node) (index k : ℕ) : Type 0 where
  pub node : k ≡ length ns + 1
  pub nodes : ms ≡ ns ++ n ∷ []
  pub links : rs ≡ slice_set (ls ++ 0 ∷ 0 ∷ 0 ∷ []) index k
