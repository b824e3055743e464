-- Lemmas on values on top of a shape.
use Rattle.std.proofs.Common.{◌≡◌, ℕ, zero, suc, ◌+◌, ◌-◌, ◌<◌, ◌≤◌, [], ◌∷◌, ◌++◌, length, Some, Result, Err, refl}
use Rattle.std.proofs.Common.{sym, ap, subst, ◌∙◌, arith, rules}
use Rattle.std.specs.Prelude.{slice_get}
use Rattle.jt_image.specs.declared.kind.Kind.TheVariants as kind
use Rattle.jt_image.specs.declared.kind.Flaw.{Flaw}
use Rattle.jt_image.specs.Effect.{Shape, Successors, pops, pops_many, pushes}
use Rattle.jt_verify.specs.Entries.{values_on, without_values}

pub length-pushes : (n : ℕ) (s : Shape) → length (pushes n s) ≡ n + length s
length-pushes zero s = omega arith
length-pushes (suc n) s = omega (arith, length-pushes n s)

pub pushes_both : (n m : ℕ) (s : Shape) → pushes (n + m) s ≡ pushes m (pushes n s)
pushes_both n zero s = let same : n + 0 ≡ n = omega arith in ap (λ (k : ℕ). pushes k s) same
pushes_both n (suc m) s =
    let same : n + suc m ≡ suc (n + m) = omega arith in
    ap (λ (k : ℕ). pushes k s) same ∙ ap (λ (r : Shape). kind.Value ∷ r) (pushes_both n m s)

-- If at most `v` values are popped from `v` values, the remaining values are left.
pub pops_values : (n v : ℕ) (s : Shape) (go : Shape → Result Successors Flaw) → n ≤ v
    → pops_many n (pushes v s) go ≡ go (pushes (v - n) s)
pops_values (suc n) (suc v) s go l =
    let same : v - n ≡ suc v - suc n = omega arith in
    pops_values n v s go (omega arith) ∙ ap (λ (k : ℕ). go (pushes k s)) same
pops_values a0 a1 s go l = search (arith, rules)

-- If more than `v` values are popped, the flaw is that of the entry below them.
pub pops_too_many : (n v : ℕ) (s : Shape) (f : Flaw) → v < n
    → ((go : Shape → Result Successors Flaw) → pops s go ≡ Err f) → (go : Shape → Result Successors Flaw)
    → pops_many n (pushes v s) go ≡ Err f
pops_too_many (suc n) (suc v) s f l h go = pops_too_many n v s f (omega arith) h go
pops_too_many a0 a1 s f l h go = search (arith, rules)

pub value_at : (v : ℕ) (s : Shape) (a : ℕ) → a < v → slice_get (pushes v s) a ≡ Some kind.Value
value_at (suc v) s (suc a) l = value_at v s a (omega arith)
value_at a0 s a2 l = search (arith, rules)

pub below_values : (v : ℕ) (s : Shape) (a : ℕ) → v ≤ a → slice_get (pushes v s) a ≡ slice_get s (a - v)
below_values (suc v) s (suc a) l =
    let same : a - v ≡ suc a - suc v = omega arith in
    below_values v s a (omega arith) ∙ ap (λ (k : ℕ). slice_get s k) same
below_values a0 s a2 l = search (arith, rules)

-- A shape with values on top is the values, followed by the shape.
pub pushes_end : (v : ℕ) (s : Shape) → pushes v s ≡ pushes v [] ++ s
pushes_end zero s = refl
pushes_end (suc v) s = ap (λ (r : Shape). kind.Value ∷ r) (pushes_end v s)

pub at_end : (r s : Shape) (i : ℕ) → length r ≤ i → slice_get (r ++ s) i ≡ slice_get s (i - length r)
at_end (x ∷ r) s (suc i) l =
    let same : i - length r ≡ suc i - suc (length r) = omega arith in
    at_end r s i (omega arith) ∙ ap (λ (k : ℕ). slice_get s k) same
at_end a0 s a2 l = search (arith, rules)

-- ---- a shape without a value at the top

abbrev pub HasNoValue : Shape → Type 0
HasNoValue [] = Unit {0}
HasNoValue (kind.Value ∷ s) = ⊥
HasNoValue (kind.Frame ∷ s) = Unit {0}
HasNoValue (kind.Capture ∷ s) = Unit {0}

pub pushes_same : (v w : ℕ) (x y : Shape) → HasNoValue x → HasNoValue y → pushes v x ≡ pushes w y → (v ≡ w) × (x ≡ y)
pushes_same zero zero x y a b e = (refl, e)
pushes_same zero (suc w) x y a b e = absurd (subst (λ (s : Shape). HasNoValue s) e a)
pushes_same (suc v) zero x y a b e = absurd (subst (λ (s : Shape). HasNoValue s) (sym e) b)
pushes_same (suc v) (suc w) x y a b e =
    let f : pushes v x ≡ pushes w y = cc in let r = pushes_same v w x y a b f in (ap suc r.0, r.1)

pub values_counted : (v : ℕ) (s : Shape) → HasNoValue s → v ≡ values_on (pushes v s)
values_counted (suc v) s h = omega (arith, values_counted v s h)
values_counted zero [] h = refl
values_counted zero (kind.Value ∷ s) h = absurd h
values_counted zero (kind.Frame ∷ s) h = refl
values_counted zero (kind.Capture ∷ s) h = refl

pub values_left_out : (v : ℕ) (s : Shape) → HasNoValue s → s ≡ without_values (pushes v s)
values_left_out (suc v) s h = values_left_out v s h
values_left_out zero [] h = refl
values_left_out zero (kind.Value ∷ s) h = absurd h
values_left_out zero (kind.Frame ∷ s) h = refl
values_left_out zero (kind.Capture ∷ s) h = refl
