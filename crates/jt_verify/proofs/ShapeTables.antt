-- Lemmas on tables of shapes, and on paths that wait in the worklist.
use Rattle.std.proofs.Common.{◌≡◌, ◌≢◌, ℕ, suc, ◌+◌, ◌<◌, ◌⊎◌, List, [], ◌∷◌, ◌++◌, length, map, Option, Some, None}
use Rattle.std.proofs.Common.{refl, sym, ap, subst, ◌∙◌, arith, inl, inr, rules}
use Rattle.std.specs.Prelude.{slice_set, replicate, option_map, unwrap_or}
use Rattle.std.specs.List.{AllByRecursion}
use Rattle.jt_image.specs.declared.code.UnitHeader.{UnitHeader}
use Rattle.jt_image.specs.Code.{Section}
use Rattle.jt_image.specs.Readers.{header_of}
use Rattle.jt_image.specs.Effect.{Shape}
use Rattle.jt_image.specs.Typed.{Among}
use Rattle.jt_verify.specs.Search.{WorkItem, Table, shape_at}
use Rattle.jt_verify.specs.Working.{unknown, Waits}
use Rattle.jt_verify.proofs.NodeNumbers.{same_or}

-- ---- setting a shape in a table

pub set_here : (t : Table) (p : ℕ) (s : Shape) → p < length t → shape_at (slice_set t p (Some s)) p ≡ Some s
set_here (x ∷ t) (suc p) s lt = set_here t p s (omega arith)
set_here a0 a1 s lt = search (arith, rules)

pub set_there : (t : Table) (p q : ℕ) (s : Shape) → q ≢ p → shape_at (slice_set t p (Some s)) q ≡ shape_at t q
set_there (x ∷ t) (suc p) (suc q) s ne = set_there t p q s (λ e. ne (ap suc e))
set_there a0 a1 a2 s ne = search (arith, rules)

pub unknown-set : (t : Table) (p : ℕ) (s : Shape) → p < length t → shape_at t p ≡ None
    → unknown (slice_set t p (Some s)) + 1 ≡ unknown t
unknown-set (None ∷ t) (suc p) s lt e = omega (arith, unknown-set t p s (omega arith) e)
unknown-set (Some r ∷ t) (suc p) s lt e = unknown-set t p s (omega arith) e
unknown-set a0 a1 s lt e = search (arith, rules)

-- A shape that is known stays known when another one is set.
pub set_keeps : (t : Table) (p : ℕ) (s : Shape) → shape_at t p ≡ None → (q : ℕ) (r : Shape) → shape_at t q ≡ Some r
    → shape_at (slice_set t p (Some s)) q ≡ Some r
set_keeps t p s none q r e = search (arith, rules, same_or, set_there)

-- The shape at the new index is the new shape.
pub set_gives : (t : Table) (p : ℕ) (s : Shape) → p < length t → (q : ℕ) (r : Shape) → q ≡ p
    → shape_at (slice_set t p (Some s)) q ≡ Some r → s ≡ r
set_gives t p s lt q r same e =
    let f : Some s ≡ Some r =
    sym (set_here t p s lt) ∙ subst (λ (n : ℕ). shape_at (slice_set t p (Some s)) n ≡ Some r) same e in
    cc

-- A table of unknown shapes has no shape at any point.
pub none_at : (n q : ℕ) → shape_at (replicate n None) q ≡ None
none_at (suc n) (suc q) = none_at n q
none_at a0 a1 = refl

-- ---- lists of points

pub among_left : (q : ℕ) (xs ys : List ℕ) → Among q xs → Among q (xs ++ ys)
among_left q [] ys h = absurd h
among_left q (x ∷ xs) ys (inl e) = inl e
among_left q (x ∷ xs) ys (inr h) = inr (among_left q xs ys h)

pub among_right : (q : ℕ) (xs ys : List ℕ) → Among q ys → Among q (xs ++ ys)
among_right q [] ys h = h
among_right q (x ∷ xs) ys h = inr (among_right q xs ys h)

pub among_swapped : (q : ℕ) (xs ys : List ℕ) → Among q (xs ++ ys) → Among q (ys ++ xs)
among_swapped q [] ys h = among_left q ys [] h
among_swapped q (x ∷ xs) ys (inl e) = among_right q ys (x ∷ xs) (inl e)
among_swapped q (x ∷ xs) ys (inr h) = longer q ys xs (among_swapped q xs ys h)
  where
    longer : (q : ℕ) (ys xs : List ℕ) → Among q (ys ++ xs) → Among q (ys ++ x ∷ xs)
    longer q [] xs h = inr h
    longer q (y ∷ ys) xs (inl e) = inl e
    longer q (y ∷ ys) xs (inr h) = inr (longer q ys xs h)

pub all_among : (P : ℕ → Type 0) (xs : List ℕ) (q : ℕ) → AllByRecursion P xs → Among q xs → P q
all_among P [] q a h = absurd h
all_among P (x ∷ xs) q a (inl e) = subst P (sym e) a.0
all_among P (x ∷ xs) q a (inr h) = all_among P xs q a.1 h

pub all_of : (P : ℕ → Type 0) (xs : List ℕ) → ((q : ℕ) → Among q xs → P q) → AllByRecursion P xs
all_of P [] h = tt
all_of P (x ∷ xs) h = (h x (inl refl), all_of P xs (λ q a. h q (inr a)))

-- ---- paths that wait

pub waits_left : (w v : List WorkItem) (s : Shape) (q : ℕ) → Waits w s q → Waits (w ++ v) s q
waits_left [] v s q h = absurd h
waits_left (x ∷ w) v s q (inl e) = inl e
waits_left (x ∷ w) v s q (inr h) = inr (waits_left w v s q h)

pub waits_right : (w v : List WorkItem) (s : Shape) (q : ℕ) → Waits v s q → Waits (w ++ v) s q
waits_right [] v s q h = h
waits_right (x ∷ w) v s q h = inr (waits_right w v s q h)

pub waits_either : (w v : List WorkItem) (s : Shape) (q : ℕ) → Waits (w ++ v) s q → Waits w s q ⊎ Waits v s q
waits_either [] v s q h = inr h
waits_either (x ∷ w) v s q (inl e) = inl (inl e)
waits_either (x ∷ w) v s q (inr h) = elim (waits_either w v s q h) [ inl a ↦ inl (inr a) | inr b ↦ inr b ]

-- The work items of a shape for each of the points.
abbrev pub all_to : Shape → List ℕ → List WorkItem
all_to s ps = map (λ p. record { point = p; shape = s }) ps

pub waits_sent : (s : Shape) (ps : List ℕ) (q : ℕ) → Among q ps → Waits (all_to s ps) s q
waits_sent s [] q h = absurd h
waits_sent s (p ∷ ps) q (inl e) = inl (sym e, refl)
waits_sent s (p ∷ ps) q (inr h) = inr (waits_sent s ps q h)

pub paths_last : {A : Type 0} (P : A → Type 0) (w : List A) (x : A) → AllByRecursion P (w ++ x ∷ [])
    → P x × AllByRecursion P w
paths_last P [] x a = (a.0, tt)
paths_last P (y ∷ w) x a = let r = paths_last P w x a.1 in (r.0, (a.0, r.1))

pub paths_append : {A : Type 0} (P : A → Type 0) (w v : List A) → AllByRecursion P w → AllByRecursion P v
    → AllByRecursion P (w ++ v)
paths_append P [] v a b = b
paths_append P (x ∷ w) v a b = (a.0, paths_append P w v a.1 b)

pub paths_sent : (P : WorkItem → Type 0) (s : Shape) (ps : List ℕ)
    → ((q : ℕ) → Among q ps → P (record { point = q; shape = s })) → AllByRecursion P (all_to s ps)
paths_sent P s [] h = tt
paths_sent P s (p ∷ ps) h = (h p (inl refl), paths_sent P s ps (λ q a. h q (inr a)))

-- ---- units

pub some_section : (o : Option Section) (d : Section) (h : UnitHeader) → option_map header_of o ≡ Some h
    → o ≡ Some (unwrap_or o d)
some_section a0 d h e = search (arith, rules)
