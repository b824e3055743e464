-- The numbers of a range: how many there are, and that each has 64 bits.
use Rattle.std.proofs.Common.{◌≡◌, ℕ, zero, suc, ◌+◌, ◌*◌, ◌/◌, ◌%◌, ◌<◌, ◌≤◌, true, false, ℤ, pos, negsuc, ◌+ℤ◌, ◌*ℤ◌}
use Rattle.std.proofs.Common.{refl, sym, ap, ◌∙◌, subst, arith, to_z, of_z, ⊎_elim}
use Rattle.std.specs.Int.{div_ceil, w64}
use Rattle.std.specs.Int.Signed.{lt_z}
use Rattle.std.specs.Prelude.{◌≢◌, ◌≤ℤ◌, ◌-ℤ◌, FitsSigned, unsigned_abs}
use Rattle.std.proofs.Math.Nat.{mul-le-mul_right}
use Rattle.std.proofs.lemmas.Bool.{cases_eq, false≢true}
use Rattle.std.proofs.lemmas.Bool.Decides.{nat_tests}
use Rattle.std.proofs.lemmas.Int.{ints, to_z-of_z}
use Rattle.jt_value.specs.Numbers.{stepped, range_count, distance, natural}
use Rattle.jt_value.specs.Tree.{Items}

pub below_ceil : (k n d : ℕ) → 0 < d → k < div_ceil n d → k * d < n
below_ceil k n d h lt =
    ⊎_elim
    (λ e. let m : (k + 1) * d ≤ n / d * d = mul-le-mul_right d (omega arith) in omega arith)
    (λ e. let m : k * d ≤ n / d * d = mul-le-mul_right d (omega arith) in omega arith)
    (cases_eq (n % d) 0)

-- A number between two numbers of 64 bits has 64 bits.
between : (x y z : ℤ) → x ≤ℤ y → y ≤ℤ z → FitsSigned w64 x → FitsSigned w64 z → FitsSigned w64 y
between x (pos n) (pos m) l h f g = record { sfits = omega (arith, ints, g.sfits) }
between x (pos n) (negsuc m) l h f g = absurd (omega (arith, ints))
between (pos m) (negsuc n) z l h f g = absurd (omega (arith, ints))
between (negsuc m) (negsuc n) z l h f g = record { sfits = omega (arith, ints, f.sfits) }

below_natural : (n : ℕ) (z : ℤ) → n < natural z → pos n ≤ℤ z
below_natural n (pos m) h = omega (arith, ints)
below_natural n (negsuc m) h = absurd (omega arith)

-- Each number of a range has 64 bits.
pub inside : (start stop step : ℤ) → pos 0 ≢ step → FitsSigned w64 start → FitsSigned w64 stop → (k : ℕ)
    → k < range_count start stop step → FitsSigned w64 (start +ℤ pos k *ℤ step)
inside start stop (pos zero) n f g k lt = absurd (n refl)
inside start stop (pos (suc d)) n f g k lt =
    let b = below_natural (k * suc d) (stop -ℤ start) (below_ceil k (distance start stop) (suc d) (omega arith) lt) in
    between start _ stop (omega (arith, ints)) (omega (arith, ints, b)) f g
inside start stop (negsuc d) n f g k lt =
    let b = below_natural (k * suc d) (start -ℤ stop) (below_ceil k (distance stop start) (suc d) (omega arith) lt) in
    between stop _ start (omega (arith, ints, b)) (omega (arith, ints)) g f

-- The number of a range's items, for arguments of 64 bits that a call reads by their bits.
pub count_is : (start stop step : ℤ) (n : ℕ) → FitsSigned w64 start → FitsSigned w64 stop → FitsSigned w64 step
    → n ≡ range_count (to_z w64 (of_z w64 start)) (to_z w64 (of_z w64 stop)) (to_z w64 (of_z w64 step))
    → n ≡ range_count start stop step
count_is start stop step n f g h e =
    e
    ∙ ap (λ (x : ℤ). range_count x (to_z w64 (of_z w64 stop)) (to_z w64 (of_z w64 step))) (to_z-of_z w64 start f)
    ∙ ap (λ (x : ℤ). range_count start x (to_z w64 (of_z w64 step))) (to_z-of_z w64 stop g)
    ∙ ap (range_count start stop) (to_z-of_z w64 step h)

pub listed_is : (start step : ℤ) (n : ℕ) (ts : Items) → FitsSigned w64 start → FitsSigned w64 step
    → ts ≡ stepped n (to_z w64 (of_z w64 start)) (to_z w64 (of_z w64 step)) → ts ≡ stepped n start step
listed_is start step n ts f g e =
    e ∙ ap (λ (x : ℤ). stepped n x (to_z w64 (of_z w64 step))) (to_z-of_z w64 start f)
    ∙ ap (stepped n start) (to_z-of_z w64 step g)

-- Each counted number of a range has 64 bits, for arguments that a call reads by their bits.
pub inside_counted : (start stop step : ℤ) (n : ℕ) → pos 0 ≢ step → FitsSigned w64 start → FitsSigned w64 stop
    → FitsSigned w64 step → n ≡ range_count start stop step
    → (k : ℕ) → k < n → FitsSigned w64 (to_z w64 (of_z w64 start) +ℤ pos k *ℤ to_z w64 (of_z w64 step))
inside_counted start stop step n nonzero f g h is k lt =
    rw (to_z-of_z w64 start f, to_z-of_z w64 step h) (inside start stop step nonzero f g k (subst (λ m. k < m) is lt))

-- The absolute value of a step of 64 bits that a call reads by its bits.
step_size : (step : ℤ) (s : ℕ) → FitsSigned w64 step → s ≡ unsigned_abs (to_z w64 (of_z w64 step))
    → s ≡ unsigned_abs step
step_size step s f e = e ∙ ap unsigned_abs (to_z-of_z w64 step f)

pub step_positive : (step : ℤ) (s : ℕ) → FitsSigned w64 step → pos 0 ≢ step
    → s ≡ unsigned_abs (to_z w64 (of_z w64 step)) → 0 < s
step_positive (pos zero) s f nonzero e = absurd (nonzero refl)
step_positive (pos (suc n)) s f nonzero e = omega (arith, step_size (pos (suc n)) s f e)
step_positive (negsuc n) s f nonzero e = omega (arith, step_size (negsuc n) s f e)

far : (x y : ℤ) (d : ℕ) → FitsSigned w64 x → FitsSigned w64 y
    → d ≡ distance (to_z w64 (of_z w64 x)) (to_z w64 (of_z w64 y)) → d ≡ distance x y
far x y d f g e =
    e ∙ ap (λ z. distance z (to_z w64 (of_z w64 y))) (to_z-of_z w64 x f) ∙ ap (distance x) (to_z-of_z w64 y g)

-- The number of items of a range, downwards and upwards.
pub count_down : (start stop step : ℤ) (d s n : ℕ) → FitsSigned w64 start → FitsSigned w64 stop → FitsSigned w64 step
    → lt_z (to_z w64 (of_z w64 step)) (pos 0) ≡ true
    → d ≡ distance (to_z w64 (of_z w64 stop)) (to_z w64 (of_z w64 start)) → s ≡ unsigned_abs (to_z w64 (of_z w64 step))
    → n ≡ div_ceil d s → n ≡ range_count start stop step
count_down start stop (pos k) d s n f g h lt ed es en =
    let l : lt_z (pos k) (pos 0) ≡ true = subst (λ z. lt_z z (pos 0) ≡ true) (to_z-of_z w64 (pos k) h) lt in
    absurd (grind (arith, nat_tests))
count_down start stop (negsuc k) d s n f g h lt ed es en =
    en ∙ ap (λ x. div_ceil x s) (far stop start d g f ed)
    ∙ ap (div_ceil (distance stop start)) (step_size (negsuc k) s h es)

pub count_up : (start stop step : ℤ) (d s n : ℕ) → FitsSigned w64 start → FitsSigned w64 stop → FitsSigned w64 step
    → lt_z (to_z w64 (of_z w64 step)) (pos 0) ≡ false
    → d ≡ distance (to_z w64 (of_z w64 start)) (to_z w64 (of_z w64 stop)) → s ≡ unsigned_abs (to_z w64 (of_z w64 step))
    → n ≡ div_ceil d s → n ≡ range_count start stop step
count_up start stop (pos k) d s n f g h lt ed es en =
    en ∙ ap (λ x. div_ceil x s) (far start stop d f g ed)
    ∙ ap (div_ceil (distance start stop)) (step_size (pos k) s h es)
count_up start stop (negsuc k) d s n f g h lt ed es en =
    let l : lt_z (negsuc k) (pos 0) ≡ false = subst (λ z. lt_z z (pos 0) ≡ false) (to_z-of_z w64 (negsuc k) h) lt in
    absurd (false≢true (sym l))
