-- Graphs: the nodes are the numbers from 0 on, and the list at each index holds its successors.
use Rattle.std.specs.Prelude.{ℕ, ◌<◌, ◌==◌, ◌||◌, not, Bool, false, IsTrue, List, [], ◌∷◌, length, slice_get, unwrap_or}
use Rattle.std.specs.List.{AllByRecursion}

abbrev pub Graph : Type 0
Graph = List (List ℕ)

-- The number is in the list.
abbrev pub among : ℕ → List ℕ → Bool
among i [] = false
among i (j ∷ js) = (j == i) || among i js

abbrev pub AllAmong : List ℕ → List ℕ → Type 0
AllAmong is js = (i : ℕ) → IsTrue (among i is) → IsTrue (among i js)

module _ (g : Graph) where
  -- The successors of a node.
  abbrev pub next_of : ℕ → List ℕ
  next_of i = unwrap_or (slice_get g i) []

  -- Each successor is a node of the graph.
  abbrev pub IsClosed : Type 0
  IsClosed = AllByRecursion (λ js. AllByRecursion (λ j. j < length g) js) g

  -- A node reaches another one, or itself, by one step or more.
  pub data Reaches : ℕ → ℕ → Type 0 where
    step : {i j : ℕ} → IsTrue (among j (next_of i)) → Reaches i j
    further : {i j k : ℕ} → IsTrue (among j (next_of i)) → Reaches j k → Reaches i k

  -- A node reaches itself.
  abbrev pub HasCycle : Type 0
  HasCycle = (i : ℕ) × Reaches i i

  -- Each number leads to the next one, and the last one to the target.
  abbrev pub Leads : ℕ → List ℕ → ℕ → Type 0
  Leads i [] target = IsTrue (among target (next_of i))
  Leads i (k ∷ ks) target = IsTrue (among k (next_of i)) × Leads k ks target

  -- A number and further ones are a ring: the last one leads to the first.
  abbrev pub IsRing : ℕ → List ℕ → Type 0
  IsRing first others = Leads first others first

  -- Each node occurs once, and before its successors.
  abbrev pub AreOrdered : List ℕ → Type 0
  AreOrdered [] = Unit {0}
  AreOrdered (i ∷ is) = IsTrue (not (among i is)) × (AllAmong (next_of i) is × AreOrdered is)

  -- An order has all nodes of the graph, and no other numbers.
  pub record IsOrder (is : List ℕ) : Type 0 where
    pub all : (i : ℕ) → i < length g → IsTrue (among i is)
    pub within : AllByRecursion (λ i. i < length g) is
    pub ordered : AreOrdered is
