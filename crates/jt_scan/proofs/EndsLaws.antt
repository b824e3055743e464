-- Line ends are normalized piece by piece.
use Rattle.std.proofs.Common.{◌≡◌, ℕ, suc, ◌+◌, ◌-◌, ◌<◌, ◌≤◌, ◌==◌, ◌&&◌, Bool, true, false, List, [], ◌∷◌, ◌++◌}
use Rattle.std.proofs.Common.{length, take, drop, get_or, refl, sym, ap, ap₂, subst, ◌∙◌, append_assoc, arith}
use Rattle.std.proofs.Common.{length-take, get_or-take, drop-cons, nat_lt, if◌then◌else◌}
use Rattle.std.proofs.lemmas.List.{take-append-drop, length-take-le}
use Rattle.std.proofs.lemmas.Bool.Decides.{nat_tests}
use Rattle.memchr.specs.Find.{IsFirstByte, is_byte}
use Rattle.std.proofs.Common.{Some, None}
use Rattle.std.proofs.lemmas.Bool.{false_from_ne_true, and_parts}
use Rattle.jt_scan.specs.LineEnds.{lf_ends, without_first_lf, without_last_lf, ends_with_lf, normalized}

-- A text without CR stays unchanged.
ends_piece : (x r : List ℕ) → ((k : ℕ) → k < length x → get_or x k 0 ≡ 13 → ⊥)
    → lf_ends false (x ++ r) ≡ x ++ lf_ends false r
unfolding lf_ends
ends_piece [] r h = refl
ends_piece (c ∷ x) r h =
    let other : (c == 13) ≡ false =
    false_from_ne_true (c == 13) (λ e. h 0 (omega arith) (let i : c ≡ 13 = grind (arith, nat_tests) in i)) in
    rw (other, ends_piece x r (λ k below. h (suc k) (omega arith)))

pub ends_whole : (x : List ℕ) → ((k : ℕ) → k < length x → get_or x k 0 ≡ 13 → ⊥) → lf_ends false x ≡ x
unfolding lf_ends
ends_whole [] h = refl
ends_whole (c ∷ x) h =
    let other : (c == 13) ≡ false =
    false_from_ne_true (c == 13) (λ e. h 0 (omega arith) (let i : c ≡ 13 = grind (arith, nat_tests) in i)) in
    rw (other, ends_whole x (λ k below. h (suc k) (omega arith)))

ends_cr : (r : List ℕ) → lf_ends false (13 ∷ r) ≡ 10 ∷ lf_ends false (without_first_lf r)
unfolding lf_ends
ends_cr [] = refl
ends_cr (c ∷ cs) = stepped (c == 10) (c == 13) refl refl
  where
    stepped : (a b : Bool) → (c == 10) ≡ a → (c == 13) ≡ b
        → lf_ends false (13 ∷ c ∷ cs) ≡ 10 ∷ lf_ends false (without_first_lf (c ∷ cs))
    stepped true true h g =
        let i : c ≡ 10 = grind (arith, nat_tests) in let j : c ≡ 13 = grind (arith, nat_tests) in absurd (omega arith)
    stepped true false h g = rw (g, h) refl
    stepped false true h g = rw h (rw g refl)
    stepped false false h g = rw h (rw g refl)

pub no_longer : (b : Bool) (x : List ℕ) → length (lf_ends b x) ≤ length x
unfolding lf_ends
no_longer b [] = omega arith
no_longer b (c ∷ cs) = stepped (c == 13) (b && c == 10) refl refl (no_longer true cs) (no_longer false cs)
  where
    stepped : (d e : Bool) → (c == 13) ≡ d → (b && c == 10) ≡ e → length (lf_ends true cs) ≤ length cs
        → length (lf_ends false cs) ≤ length cs → length (lf_ends b (c ∷ cs)) ≤ length (c ∷ cs)
    stepped true e h g r s = rw h (omega (arith, r))
    stepped false true h g r s = rw (h, g) (omega (arith, s))
    stepped false false h g r s = rw (h, g) (omega (arith, s))

last_from : (x : List ℕ) (c : ℕ)
    → without_last_lf (c ∷ x) ≡ (if get_or (c ∷ x) (length x) 0 == 10 then take (length x) (c ∷ x) else c ∷ x)
unfolding without_last_lf
last_from [] c = refl
last_from (d ∷ x) c =
    ap (λ z. c ∷ z) (last_from x d) ∙ chosen (get_or (d ∷ x) (length x) 0 == 10) (take (length x) (d ∷ x)) (d ∷ x)
  where
    chosen : (b : Bool) (y z : List ℕ) → c ∷ (if b then y else z) ≡ (if b then (c ∷ y) else (c ∷ z))
    chosen true y z = refl
    chosen false y z = refl

pub last_yes : (x : List ℕ) → ends_with_lf x ≡ true → without_last_lf x ≡ take (length x - 1) x
last_yes [] h = cc
last_yes (c ∷ x) h = grind (arith, get_or, and_parts, nat_lt, last_from)

pub last_no : (x : List ℕ) → ends_with_lf x ≡ false → without_last_lf x ≡ x
unfolding without_last_lf
last_no [] h = refl
last_no (c ∷ x) h =
    let n : suc (length x) - 1 ≡ length x = omega arith in
    let is : (get_or (c ∷ x) (length x) 0 == 10) ≡ false = subst (λ m. (get_or (c ∷ x) m 0 == 10) ≡ false) n
    (other (nat_lt 0 (suc (length x))) _ (grind (arith, nat_tests)) h) in
    last_from x c ∙ (rw is refl)
  where
    other : (a b : Bool) → a ≡ true → (a && b) ≡ false → b ≡ false
    other true b e h = h
    other false b e h = cc

pub never_longer : (keep : Bool) (x : List ℕ) → length (normalized keep x) ≤ length x
never_longer true x = no_longer false x
never_longer false x = omega (arith, no_longer false x, shorter (lf_ends false x))
  where
    shorter : (y : List ℕ) → length (without_last_lf y) ≤ length y
    shorter y = by (ends_with_lf y) refl
      where
        by : (b : Bool) → ends_with_lf y ≡ b → length (without_last_lf y) ≤ length y
        by true h = rw (last_yes y h) (omega (arith, length-take (length y - 1) y))
        by false h = rw (last_no y h) (omega arith)

-- One iteration of the loop: it appends the piece before a CR, and an LF.
pub ends_turn : (held rest piece more whole : List ℕ) (at : ℕ) → held ++ lf_ends false rest ≡ whole
    → ((k : ℕ) → k < at → get_or rest k 0 ≡ 13 → ⊥) → at < length rest → get_or rest at 0 ≡ 13 → piece ≡ take at rest
    → more ≡ without_first_lf (drop (at + 1) rest) → ((held ++ piece) ++ (10 ∷ [])) ++ lf_ends false more ≡ whole
ends_turn held rest piece more whole at e none le here p m =
    let long : length (take at rest) ≡ at = length-take-le at rest (omega arith) in
    let parts : rest ≡ take at rest ++ (13 ∷ drop (at + 1) rest) = sym (take-append-drop at rest)
    ∙ ap (λ z. take at rest ++ z)
    (drop-cons rest at 0 le ∙ ap₂ (λ c m. c ∷ drop m rest) here (let e : suc at ≡ at + 1 = omega arith in e)) in
    let clean : (k : ℕ) → k < length (take at rest) → get_or (take at rest) k 0 ≡ 13 → ⊥ =
    λ k below is. none k (omega (arith, long)) (sym (get_or-take at rest k 0 (omega (arith, long))) ∙ is) in
    let lf : lf_ends false rest ≡ take at rest ++ (10 ∷ lf_ends false (without_first_lf (drop (at + 1) rest))) =
    ap (lf_ends false) parts ∙ ends_piece (take at rest) (13 ∷ drop (at + 1) rest) clean
    ∙ ap (λ z. take at rest ++ z) (ends_cr (drop (at + 1) rest)) in
    rw (p, m) (append_assoc (held ++ take at rest) (10 ∷ []) _ ∙ append_assoc held (take at rest) _
    ∙ ap (λ z. held ++ z) (sym lf) ∙ e)

-- The search finds the first CR of the remaining text, or none.
pub cr_at : (b rest : List ℕ) (at : ℕ) → b ≡ rest → IsFirstByte (is_byte 13) b (Some at)
    → (at < length rest) × (get_or rest at 0 ≡ 13) × ((k : ℕ) → k < at → get_or rest k 0 ≡ 13 → ⊥)
cr_at b rest at same f =
    let g : IsFirstByte (is_byte 13) rest (Some at) = subst (λ z. IsFirstByte (is_byte 13) z (Some at)) same f in (
      g.0.high,
      is_cr (get_or rest at 0) g.1,
      λ k below is. g.0.before k (omega arith) below (cr_is (get_or rest k 0) is),
    )
  where
    is_cr : (n : ℕ) → (n == 13) ≡ true → n ≡ 13
    is_cr n h = grind (arith, nat_tests)

    cr_is : (n : ℕ) → n ≡ 13 → (n == 13) ≡ true
    cr_is n h = grind (arith, nat_tests)

pub no_cr : (b rest : List ℕ) → b ≡ rest → IsFirstByte (is_byte 13) b None → (k : ℕ) → k < length rest
    → get_or rest k 0 ≡ 13 → ⊥
no_cr b rest same f k below is =
    let g : IsFirstByte (is_byte 13) rest None = subst (λ z. IsFirstByte (is_byte 13) z None) same f in
    g k (omega arith) below (cr_is (get_or rest k 0) is)
  where
    cr_is : (n : ℕ) → n ≡ 13 → (n == 13) ≡ true
    cr_is n h = grind (arith, nat_tests)
