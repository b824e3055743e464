-- An order of numbers determines an order of namespaces, each before those that it leads to.
use Rattle.jt_inherit.proofs.Vocabulary as words
use words.{◌≡◌, ℕ, zero, suc, ◌<◌, ◌==◌, Bool, true, false, not, List, [], ◌∷◌, length, map, refl, ap}
use words.{arith, Some, rules, AreOrdered, slice_get, AllByRecursion, nat_tests, Graph, next_of, Sources, Namespace}
use words.{same_namespace, listed, included, AllIn, InOrder, namespace_at, Reaches, here, through, twice, both_ways}
use words.{not-true, or_from, or_parts, or_right, indexed_among, of_namespaces, slice_get-get_or, a_chain}
use Rattle.jt_inherit.proofs.NamespaceMembership.{reflexive, same}
use words.graph

equal : (i j : ℕ) → (i == j) ≡ true → i ≡ j
equal i j e = grind (arith, nat_tests)

itself : (i : ℕ) → (i == i) ≡ true
itself i = grind (arith, nat_tests)

-- ---- namespaces by their numbers

pub namespace_among : (hs : List Namespace) (i : ℕ) → i < length hs → listed (namespace_at hs i) hs ≡ true
namespace_among hs i lt =
    let at = slice_get-get_or hs i (a_chain []) lt in
    rw at (indexed_among of_namespaces hs i _ at)

pub number_of : (hs : List Namespace) (x : Namespace) → listed x hs ≡ true
    → (i : ℕ) × (i < length hs) × (namespace_at hs i ≡ x)
number_of [] x a = absurd (cc)
number_of (h ∷ hs) x a = by (same_namespace h x) refl (number_of hs x)
  where
    by : (b : Bool) → same_namespace h x ≡ b
        → (listed x hs ≡ true → (i : ℕ) × (i < length hs) × (namespace_at hs i ≡ x))
        → (i : ℕ) × (i < suc (length hs)) × (namespace_at (h ∷ hs) i ≡ x)
    by true e r = (0, omega arith, same h x e)
    by false e r =
        let k = r (rw e at a) in
        let lt = k.1 in
        (suc k.0, omega arith, k.2)

-- Different numbers have different namespaces.
one_number : (hs : List Namespace) (i j : ℕ) → twice hs ≡ false → i < length hs → j < length hs
    → namespace_at hs i ≡ namespace_at hs j → i ≡ j
one_number [] i j once p q e = absurd (omega arith)
one_number (h ∷ hs) zero zero once p q e = refl
one_number (h ∷ hs) zero (suc j) once p q e = search (arith, rules, namespace_among, or_parts)
one_number (h ∷ hs) (suc i) zero once p q e = search (arith, rules, namespace_among, or_parts)
one_number (h ∷ hs) (suc i) (suc j) once p q e = search (arith, rules, one_number hs i j, or_parts)

pub named_among : (hs : List Namespace) (j : ℕ) (is : List ℕ) → graph.among j is ≡ true
    → listed (namespace_at hs j) (map (namespace_at hs) is) ≡ true
named_among hs j [] a = absurd (cc)
named_among hs j (i ∷ is) a = search (arith, rules, named_among hs j is, equal, reflexive, or_right)

named_apart : (hs : List Namespace) (j : ℕ) (is : List ℕ) → twice hs ≡ false → j < length hs
    → AllByRecursion (λ i. i < length hs) is → graph.among j is ≡ false
    → listed (namespace_at hs j) (map (namespace_at hs) is) ≡ false
named_apart hs j [] once lt w a = refl
named_apart hs j (i ∷ is) once lt w a =
    search (arith, rules, or_parts, or_from, named_apart hs j is once lt w.1, one_number, same, itself)

-- ---- an order of numbers is one of chains

all_in : (hs : List Namespace) (is js : List ℕ) (ns : List Namespace) → map (slice_get hs) js ≡ map Some ns
    → ((j : ℕ) → graph.among j js ≡ true → graph.among j is ≡ true) → AllIn ns (map (namespace_at hs) is)
all_in hs is [] [] e f = tt
all_in hs is (j ∷ js) (n ∷ ns) e f =
    let h : slice_get hs j ≡ Some n = cc in
    let r : map (slice_get hs) js ≡ map Some ns = cc in
    let name : namespace_at hs j ≡ n = rw h in
    let there : graph.among j is ≡ true = f j (rw (itself j)) in (
      rw (← name) (named_among hs j is there),
      all_in hs is js ns r (λ k a. f k (or_right _ _ a)),
    )
all_in hs is js ns e f = absurd (cc)

pub names_in_order : (s : Sources) (hs : List Namespace) (g : Graph) (is : List ℕ) → twice hs ≡ false
    → AllByRecursion (λ i. i < length hs) is
    → ((i : ℕ) → i < length hs → map (slice_get hs) (next_of g i) ≡ map Some (included s (namespace_at hs i)))
    → AreOrdered g is → InOrder s (map (namespace_at hs) is)
names_in_order s hs g [] once w n o = tt
names_in_order s hs g (i ∷ is) once w n o = (
  ap not (named_apart hs i is once w.0 w.1 (not-true _ o.0)),
  (
    all_in hs is _ _ (n i w.0) o.1.0,
    names_in_order s hs g is once w.1 n o.1.1,
  ),
)

-- ---- the members of an order

all_in_among : (ms os : List Namespace) (m : Namespace) → AllIn ms os → listed m ms ≡ true → listed m os ≡ true
all_in_among [] os m a h = absurd (cc)
all_in_among (x ∷ ms) os m a h = search (arith, rules, all_in_among ms os m a.1, same)

pub next_in_order : (s : Sources) (os : List Namespace) (k m : Namespace) → InOrder s os → listed k os ≡ true
    → listed m (included s k) ≡ true → listed m os ≡ true
next_in_order s [] k m o a i = absurd (cc)
next_in_order s (x ∷ os) k m o a i = by (same_namespace x k) refl (λ h. next_in_order s os k m o.1.1 h i)
  where
    by : (b : Bool) → same_namespace x k ≡ b → (listed k os ≡ true → listed m os ≡ true) → listed m (x ∷ os) ≡ true
    by true e r =
        or_right (same_namespace x m) (listed m os)
        (all_in_among _ os m o.1.0 (rw (same x k e) i))
    by false e r = or_right _ _ (r (rw e at a))

-- A namespace that a member reaches is a member.
pub reached_in_order : (s : Sources) (e : Bool) (os : List Namespace) → InOrder s os → {k m : Namespace}
    → Reaches s e k m → listed k os ≡ true → listed m os ≡ true
reached_in_order s e os o here a = a
reached_in_order s e os o (through {namespace = h} {next = m} i r) a =
    reached_in_order s e os o r (next_in_order s os h m o a i)

-- No member leads to itself.
pub no_cycle : (s : Sources) (e : Bool) (os : List Namespace) → InOrder s os → (h m : Namespace) → listed h os ≡ true
    → listed m (included s h) ≡ true → Reaches s e m h → ⊥
no_cycle s e [] o h m a i r = absurd (cc)
no_cycle s e (x ∷ os) o h m a i r =
    search (arith, rules, no_cycle s e os o.1.1 h m, all_in_among, same, reached_in_order, not-true, both_ways)

-- The namespace that reaches all members comes first.
pub first_in_order : (s : Sources) (e : Bool) (x : Namespace) (os : List Namespace) (entry : Namespace)
    → InOrder s (x ∷ os) → listed entry (x ∷ os) ≡ true → Reaches s e entry x → x ≡ entry
first_in_order s e x os entry o a r = search (arith, rules, same, not-true, both_ways, reached_in_order)
