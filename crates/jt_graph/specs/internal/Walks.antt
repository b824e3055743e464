-- The invariants of a depth-first search. Only private clauses cite this module.
use Rattle.std.specs.Prelude.{◌≡◌, ℕ, ◌<◌, ◌≤◌, Bool, true, false, List, [], ◌∷◌, length, reverse, slice_get}
use Rattle.std.specs.Prelude.{unwrap_or}
use Rattle.std.specs.List.{AllByRecursion, count_by}
use Rattle.jt_graph.specs.Graph.{Graph, among, AreOrdered, IsRing, Leads}
use Rattle.jt_graph.specs.declared.error.Ring.{Ring}
use Rattle.jt_graph.specs.declared.stop.Stop.{Stop}
use Rattle.jt_graph.specs.declared.stop.Stop.TheVariants as stop
use Rattle.jt_graph.specs.declared.walk.VisitState.{VisitState}
use Rattle.jt_graph.specs.declared.walk.VisitState.TheVariants.{New, Open, Done}
use Rattle.jt_graph.specs.declared.walk.Walk.{Walk}

abbrev pub is_new : VisitState → Bool
is_new New = true
is_new Open = false
is_new Done = false

abbrev pub is_open : VisitState → Bool
is_open New = false
is_open Open = true
is_open Done = false

abbrev pub is_done : VisitState → Bool
is_done New = false
is_done Open = false
is_done Done = true

abbrev pub visit_of : List VisitState → ℕ → VisitState
visit_of ms i = unwrap_or (slice_get ms i) New

-- The number of nodes that were not visited yet.
abbrev pub news : Walk → ℕ
news w = count_by is_new w.visits.items

-- The finished nodes; the one that finished last comes first.
abbrev pub done_of : Walk → List ℕ
done_of w = reverse w.done.items

-- The finished nodes are ordered, each before its successors.
pub record IsWalk (g : Graph) (w : Walk) : Type 0 where
  pub each : length w.visits.items ≡ length g
  pub told : (j : ℕ) → is_done (visit_of w.visits.items j) ≡ among j (done_of w)
  pub within : AllByRecursion (λ j. j < length g) (done_of w)
  pub ordered : AreOrdered g (done_of w)

-- The numbers begin with the node, and lead to the target. There are none if the node is the target.
abbrev pub IsPath : Graph → ℕ → List ℕ → ℕ → Type 0
IsPath g i [] target = i ≡ target
IsPath g i (k ∷ ks) target = (k ≡ i) × Leads g k ks target

-- The search from a node stops at a path back to an open node, at a ring, or for lack of memory.
abbrev pub IsStop : Graph → Walk → Ring → ℕ → Stop → Type 0
IsStop g w r i stop.Back =
    (is_open (visit_of w.visits.items r.first) ≡ true) × IsPath g i (reverse r.others.items) r.first
IsStop g w r i stop.Ring = IsRing g r.first r.others.items
IsStop g w r i stop.NoMemory = Unit {0}

-- The open nodes are unchanged, finished nodes stay finished, and no node becomes new.
pub record GoesOn (v w : Walk) : Type 0 where
  pub opens : (j : ℕ) → is_open (visit_of w.visits.items j) ≡ is_open (visit_of v.visits.items j)
  pub dones : (j : ℕ) → is_done (visit_of v.visits.items j) ≡ true
      → is_done (visit_of w.visits.items j) ≡ true
  pub fewer : news w ≤ news v
