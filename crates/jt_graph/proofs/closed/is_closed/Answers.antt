use Rattle.std.proofs.Common.{◌≡◌, ℕ, zero, suc, ◌+◌, ◌<◌, false, IsTrue, List, [], ◌∷◌, length, take, get_or, sym}
use Rattle.std.proofs.Common.{subst, arith, Vec, Global, rules}
use Rattle.std.proofs.lemmas.List.{take_all}
use Rattle.std.specs.List.{AllByRecursion}
use Rattle.jt_graph.specs.Graph.{IsClosed}
use Rattle.jt_graph.specs.View.{graph_of}
use Rattle.jt_graph.proofs.DepthFirstSearch.{graph_len}
use Rattle.jt_graph.proofs.closed.is_closed.Goals as goal

-- A property of each list of successors holds of the list at an index.
row_at : (P : List ℕ → Type 0) (vs : List (Vec ℕ Global)) (i : ℕ) (v : Vec ℕ Global) → i < length vs → v ≡ get_or vs i v
    → AllByRecursion P (graph_of vs) → P v.items
row_at P [] i v lt is a = absurd (omega arith)
row_at P (u ∷ vs) zero v lt is a = subst (λ (z : Vec ℕ Global). P z.items) (sym is) a.0
row_at P (u ∷ vs) (suc i) v lt is a = row_at P vs i v (omega arith) is a.1

-- A property of the first lists and of the next list holds of one list more.
row_more : (P : List ℕ → Type 0) (vs : List (Vec ℕ Global)) (i m : ℕ) (v : Vec ℕ Global) → m ≡ i + 1 → i < length vs
    → v ≡ get_or vs i v → AllByRecursion P (graph_of (take i vs)) → P v.items → AllByRecursion P (graph_of (take m vs))
row_more P [] i m v e lt is a p = absurd (omega arith)
row_more P (u ∷ vs) i zero v e lt is a p = absurd (omega arith)
row_more P (u ∷ vs) zero (suc m) v e lt is a p =
    let z : 0 ≡ m = omega arith in
    subst (λ k. AllByRecursion P (graph_of (take (suc k) (u ∷ vs)))) z
    (subst (λ (z : Vec ℕ Global). P z.items) is p, tt)
row_more P (u ∷ vs) (suc i) (suc m) v e lt is a p = (a.0, row_more P vs i m v (omega arith) (omega arith) is a.1 p)

-- A graph has one list of successors for each node.
closed_by : (vs : List (Vec ℕ Global)) → AllByRecursion (AllByRecursion (λ j. j < length vs)) (graph_of vs)
    → IsClosed (graph_of vs)
closed_by vs = subst (λ n. AllByRecursion (AllByRecursion (λ j. j < n)) (graph_of vs)) (sym (graph_len vs))

rows_of : (vs : List (Vec ℕ Global)) → IsClosed (graph_of vs)
    → AllByRecursion (AllByRecursion (λ j. j < length vs)) (graph_of vs)
rows_of vs = subst (λ n. AllByRecursion (AllByRecursion (λ j. j < n)) (graph_of vs)) (graph_len vs)

pub returns-then-not-are_below : goal.returns-then-not-are_below
returns-then-not-are_below c =
    let next = c.args.next.now in
    let out : IsTrue false → ⊥ = λ t. cc in (
      λ t. absurd (out t),
      λ closed. subst IsTrue c.if-not-are_below.true
          (c.are_below.ensures.1
          (subst (AllByRecursion (λ j. j < length next)) (sym c.deref.ensures.value)
          (row_at (AllByRecursion (λ j. j < length next)) next c.loop-others.others-index c.others-item.result
          c.loop-others-test.true c.others-item.is (rows_of next closed)))),
    )

pub loop-others-preserved : goal.loop-others-preserved
loop-others-preserved c =
    let next = c.args.next.now in
    row_more (AllByRecursion (λ j. j < length next)) next c.loop-others.others-index (c.loop-others.others-index + 1)
    c.others-item.result (omega arith) c.loop-others-test.true c.others-item.is c.loop-others.invariant
    (subst (AllByRecursion (λ j. j < length next)) c.deref.ensures.value
    (c.are_below.ensures.0 c.if-not-are_below.false))

pub returns : goal.returns
returns c = search (arith, rules, closed_by, take_all)
