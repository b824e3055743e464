-- Limits on levels, and runs that continue after another one.
use Rattle.std.proofs.Common.{◌≡◌, ℕ, ◌<◌, ◌≤◌, max, refl, sym, ap, subst, ◌∙◌, arith, List, ◌∷◌, Result, Ok, Err}
use Rattle.jt_parse.specs.Kept.{SourcePiece}
use Rattle.jt_parse.specs.internal.Reading.{Fault, syntax, deep, State, After, Steps, Runs, refused, went_on}

-- If l levels are allowed, the result satisfies `Next`; otherwise it is `deep`.
pub data Within (l n : ℕ) (Next : Result State Fault → Type 0) (o : Result State Fault) : Type 0 where
  fits : l ≤ n → Next o → Within l n Next o
  beyond : n < l → o ≡ Err deep → Within l n Next o

-- Two limits in sequence are one limit on the greater number of levels.
pub chained : {P Q : Result State Fault → Type 0} {o : Result State Fault} (l k m n : ℕ) → m ≡ max l k → Within l n P o
    → (l ≤ n → P o → Within k n Q o) → Within m n Q o
chained {Q = Q} {o} l k m n e (beyond gt d) f = beyond (omega (arith, gt, e)) d
chained {Q = Q} {o} l k m n e (fits le p) f = by (f le p)
  where
    by : Within k n Q o → Within m n Q o
    by (fits less q) = fits (omega (arith, le, less, e)) q
    by (beyond gt d) = beyond (omega (arith, gt, e)) d

-- A limit on an equal number of levels, with a consequence of the property.
pub mapped : {P Q : Result State Fault → Type 0} {o : Result State Fault} (l m n : ℕ) → l ≡ m → Within l n P o
    → (P o → Q o) → Within m n Q o
mapped l m n e (fits le p) f = fits (omega (arith, le, e)) (f p)
mapped l m n e (beyond gt d) f = beyond (omega (arith, gt, e)) d

-- A piece that leads to only one state.
pub only_step : {n : ℕ} {st next : State} {p : SourcePiece} {ps : List SourcePiece} {o : Result State Fault}
    → ((s : Result State Fault) → Steps n st p s → s ≡ Ok next) → Runs n st (p ∷ ps) o → Runs n next ps o
only_step {n} {st} {next} {p} {ps} {o} same (went_on {next = got} s r) =
    let e : got ≡ next = cc (same (Ok got) s) in subst (λ z. Runs n z ps o) e r
only_step same (refused {f = f} s) = let e = same (Err f) s in absurd (cc)

-- A piece that spells a known value of the form.
pub reads_on : {B : Type 0} {NestedForm : B → Type 0} {height : B → ℕ} {next : B → State} {n : ℕ} {st : State}
    {p : SourcePiece} {ps : List SourcePiece} {o : Result State Fault} (b : B)
    → NestedForm b
    → ((s : Result State Fault) → Steps n st p s → After NestedForm height n next s) → Runs n st (p ∷ ps) o
    → Within (height b) n (Runs n (next b) ps) o
reads_on {height = height} {next = next} {n} {ps = ps} {o} b d steps (went_on {next = got} s r) =
    let q = steps (Ok got) s in
    let same = q.3 b d in
    fits (subst (λ z. height z ≤ n) (sym same) q.2) (subst (λ z. Runs n z ps o) (q.4 ∙ ap next (sym same)) r)
reads_on b d steps (refused {f = syntax} s) = absurd (steps (Err syntax) s b d)
reads_on b d steps (refused {f = deep} s) = beyond (steps (Err deep) s b d) refl
