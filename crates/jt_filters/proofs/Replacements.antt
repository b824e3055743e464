-- Texts in which another text is replaced.
use Rattle.std.proofs.Common.{◌≡◌, ℕ, zero, suc, ◌+◌, ◌-◌, ◌<◌, ◌≤◌, Bool, true, false, cond, List, [], ◌∷◌, ◌++◌}
use Rattle.std.proofs.Common.{length, take, drop, refl, sym, ap, subst, ◌∙◌, arith, length-append, rules}
use Rattle.std.specs.Str.Pattern.{LacksTextAt, HasTextAt}
use Rattle.std.specs.Str.{IsUtf8}
use Rattle.std.proofs.lemmas.Str.{IsUtf8-drop}
use Rattle.std.proofs.lemmas.List.{drop_at}
use Rattle.jt_op_semantics.specs.Membership.{begins_with}
use Rattle.jt_op_semantics.proofs.SubstringSearch.{begins_append, begins_split}
use Rattle.jt_filter_semantics.specs.Texts.{replaced_behind}

skipped : (k : ℕ) (old new s : List ℕ) → replaced_behind k old new s ≡ replaced_behind 0 old new (drop k s)
skipped zero old new s = refl
skipped (suc k) old new [] = refl
skipped (suc k) old new (b ∷ s) = skipped k old new s

-- At an occurrence the new text takes its index.
replaced_here : (old new rest : List ℕ) → 0 < length old
    → replaced_behind 0 old new (old ++ rest) ≡ new ++ replaced_behind 0 old new rest
replaced_here [] new rest some = absurd (omega arith)
replaced_here (b ∷ old) new rest some =
    let n : length (b ∷ old) - 1 ≡ length old = omega arith in
    ap (λ (x : Bool). cond x (new ++ replaced_behind (length (b ∷ old) - 1) (b ∷ old) new (old ++ rest))
    (b ∷ replaced_behind 0 (b ∷ old) new (old ++ rest)))
    (begins_append (b ∷ old) rest)
    ∙ ap (λ (ts : List ℕ). new ++ ts)
    (skipped (length (b ∷ old) - 1) (b ∷ old) new (old ++ rest)
    ∙ ap (replaced_behind 0 (b ∷ old) new) (drop_at old rest (length (b ∷ old) - 1) (sym n)))

-- A byte at which the old text does not begin stays.
replaced_later : (begins : Bool) (old new s : List ℕ) (b : ℕ) → begins_with (b ∷ s) old ≡ begins
    → LacksTextAt old (b ∷ s) 0 → replaced_behind 0 old new (b ∷ s) ≡ b ∷ replaced_behind 0 old new s
replaced_later true old new s b e lacks = let split = begins_split (b ∷ s) old e in absurd (lacks split.0 split.1)
replaced_later false old new s b e lacks = rw e refl

-- If the old text does not occur, the text stays.
pub replaced_nowhere : (old new s : List ℕ) → ((i : ℕ) → i ≤ length s → LacksTextAt old s i)
    → replaced_behind 0 old new s ≡ s
replaced_nowhere old new [] lacks = refl
replaced_nowhere old new (b ∷ s) lacks =
    replaced_later (begins_with (b ∷ s) old) old new s b refl (lacks 0 (omega arith))
    ∙ ap (λ (ts : List ℕ). b ∷ ts) (replaced_nowhere old new s (λ i within. lacks (suc i) (omega arith)))

-- The replacement up to the first occurrence, and after it.
pub replaced_at : (old new : List ℕ) → 0 < length old → (i : ℕ) (s rest : List ℕ)
    → ((k : ℕ) → k < i → LacksTextAt old s k) → drop i s ≡ old ++ rest
    → replaced_behind 0 old new s ≡ take i s ++ (new ++ replaced_behind 0 old new rest)
replaced_at old new some zero s rest lacks is = ap (replaced_behind 0 old new) is ∙ replaced_here old new rest some
replaced_at old new some (suc i) [] rest lacks is = absurd (omega (arith, ap length is, length-append old rest))
replaced_at old new some (suc i) (b ∷ s) rest lacks is =
    replaced_later (begins_with (b ∷ s) old) old new s b refl (lacks 0 (omega arith))
    ∙ ap (λ (ts : List ℕ). b ∷ ts) (replaced_at old new some i s rest (λ k before. lacks (suc k) (omega arith)) is)

-- A step of a loop over the occurrences.
pub replaced_step : (old new s front behind : List ℕ) (i j : ℕ) → 0 < length old
    → ((k : ℕ) → k < i → LacksTextAt old s k) → HasTextAt old s i j → front ≡ take i s → behind ≡ drop j s
    → replaced_behind 0 old new s ≡ front ++ (new ++ replaced_behind 0 old new behind)
replaced_step old new s front behind i j some lacks has front_is behind_is = search (arith, rules, replaced_at)

pub behind_utf8 : (old s behind : List ℕ) (i j : ℕ) → IsUtf8 s → HasTextAt old s i j → behind ≡ drop j s → IsUtf8 behind
behind_utf8 old s behind i j valid has behind_is =
    let P : List ℕ → Type 0 = λ ts. IsUtf8 ts in
    subst P (ap (λ (k : ℕ). drop k s) (sym has.ends) ∙ sym behind_is) (IsUtf8-drop s (i + length old) valid has.after)
