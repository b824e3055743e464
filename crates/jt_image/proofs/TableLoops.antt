-- Loops that read a sequence.
use Rattle.std.proofs.Common.{◌≡◌, ℕ, suc, ◌-◌, ◌+◌, ◌≤◌, ◌<◌, List, [], ◌∷◌, ◌++◌, length, get_or, drop, map, Result}
use Rattle.std.proofs.Common.{Ok, Err, refl, sym, ap, ◌∙◌, arith, drop-cons, add-one, rules}
use Rattle.std.proofs.lemmas.List.{drop_all}
use Rattle.jt_image.specs.declared.error.ImageError.{ImageError}
use Rattle.jt_image.specs.Reading.{Fails, many_at, each_at}

-- If the whole reader stops at the fault of a part, that fault is the result.
pub Fails-along : {X Y : Type 0} (e : ImageError) (r : Result X ImageError) (t : Result Y ImageError) → Fails e r
    → (r ≡ Err e → t ≡ Err e) → Fails e t
Fails-along a0 r t f h = search (arith, rules)

module _ {A : Type 0} (step : List A → List ℕ → Result (A × List ℕ) ImageError) (count i : ℕ) (before : List A)
    (bytes : List ℕ) (total : Result (List A × List ℕ) ImageError) where
  pub goes_on : (x : A) (after : List ℕ) → i < count → step before bytes ≡ Ok (x, after)
      → many_at step (count - i) before bytes ≡ total
      → many_at step (count - (i + 1)) (before ++ x ∷ []) after ≡ total
  unfolding many_at
  goes_on x after lt h so_far =
      let k : count - i ≡ suc (count - (i + 1)) = omega arith in
      let one : many_at step (count - i) before bytes ≡ many_at step (count - (i + 1)) (before ++ x ∷ []) after =
      rw (k, h) refl in
      sym one ∙ so_far

  pub ends : (e : ImageError) → i < count → Fails e (step before bytes) → many_at step (count - i) before bytes ≡ total
      → Fails e total
  unfolding many_at
  ends e lt h so_far = search (arith, rules)

  pub is_done : count ≤ i → many_at step (count - i) before bytes ≡ total → total ≡ Ok (before, bytes)
  unfolding many_at
  is_done le so_far = search (arith, rules)

module _ {R H A : Type 0} (step : H → List ℕ → Result (A × List ℕ) ImageError) (view : R → H) (hs : List R) (i : ℕ)
    (before : List A) (bytes : List ℕ) (total : Result (List A × List ℕ) ImageError) where
  rest_of : (d : R) → i < length hs → map view (drop i hs) ≡ view (get_or hs i d) ∷ map view (drop (i + 1) hs)
  rest_of d lt = ap (map view) (drop-cons hs i d lt) ∙ rw add-one refl

  pub each_goes_on : (d : R) (x : A) (after : List ℕ) → i < length hs
      → step (view (get_or hs i d)) bytes ≡ Ok (x, after) → each_at step (map view (drop i hs)) before bytes ≡ total
      → each_at step (map view (drop (i + 1) hs)) (before ++ x ∷ []) after ≡ total
  unfolding each_at
  each_goes_on d x after lt e so_far = search (arith, rules, rest_of)

  pub each_ends : (d : R) (e : ImageError) → i < length hs → Fails e (step (view (get_or hs i d)) bytes)
      → each_at step (map view (drop i hs)) before bytes ≡ total → Fails e total
  unfolding each_at
  each_ends d e lt h so_far = search (arith, rules, get_or, rest_of)

  pub each_is_done : length hs ≤ i → each_at step (map view (drop i hs)) before bytes ≡ total
      → total ≡ Ok (before, bytes)
  unfolding each_at
  each_is_done le so_far = search (arith, rules, drop_all)
