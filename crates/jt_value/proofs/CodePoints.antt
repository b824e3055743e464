-- The order of UTF-8 bytes is the order of the code points that they spell.
use Rattle.std.proofs.Common.{◌≡◌, ℕ, zero, suc, ◌+◌, ◌/◌, ◌<◌, ◌≤◌, Bool, true, false, cond, List, [], ◌∷◌, ◌++◌, refl}
use Rattle.std.proofs.Common.{sym, ap, ◌∙◌, subst, arith}
use mathlib.Core.Logic.{◌⊎◌, inl, inr, ⊎_elim}
use Rattle.std.specs.Prelude.{nat_lt, Ok}
use Rattle.std.specs.declared.cmp.Ordering.TheVariants.{Less, Equal, Greater}
use Rattle.std.specs.Ordering.{nat_cmp, ordering_then, ordering_reverse}
use Rattle.std.specs.Cmp.Lexicographic.{slice_cmp, nat_list_cmp_total}
use Rattle.std.proofs.lemmas.Bool.Decides.{nat_tests}
use lib.Utf8.{encode, encodes, next}
use Rattle.jt_value.specs.Tree.{Tree, text, markup}
use Rattle.jt_value.specs.Order.{order, Spells}

less : (x y : ℕ) → x < y → nat_cmp x y ≡ Less
less x y h = grind (arith, nat_tests)

same : (x : ℕ) → nat_cmp x x ≡ Equal
same x = grind (arith, nat_tests)

tri : (x y : ℕ) → (x < y) ⊎ ((x ≡ y) ⊎ (y < x))
tri zero zero = inr (inl refl)
tri zero (suc y) = inl (omega arith)
tri (suc x) zero = inr (inr (omega arith))
tri (suc x) (suc y) =
    ⊎_elim (λ h. inl (omega arith)) (⊎_elim (λ e. inr (inl (ap suc e))) (λ h. inr (inr (omega arith)))) (tri x y)

first_less : (x y : ℕ) (xs ys : List ℕ) → x < y → slice_cmp nat_cmp (x ∷ xs) (y ∷ ys) ≡ Less
first_less x y xs ys h = ap (λ o. ordering_then o (slice_cmp nat_cmp xs ys)) (less x y h)

first_same : (x : ℕ) (xs ys : List ℕ) → slice_cmp nat_cmp (x ∷ xs) (x ∷ ys) ≡ slice_cmp nat_cmp xs ys
first_same x xs ys = ap (λ o. ordering_then o (slice_cmp nat_cmp xs ys)) (same x)

-- If the first bytes ascend, and the rest precedes if they are equal, the whole precedes.
lex : (x y : ℕ) (xs ys : List ℕ) → x ≤ y → (x ≡ y → slice_cmp nat_cmp xs ys ≡ Less)
    → slice_cmp nat_cmp (x ∷ xs) (y ∷ ys) ≡ Less
lex x y xs ys le rest =
    ⊎_elim (λ h. first_less x y xs ys h) (⊎_elim
    (λ e. subst (λ z. slice_cmp nat_cmp (x ∷ xs) (z ∷ ys) ≡ Less) e (first_same x xs ys ∙ rest e))
    (λ h. absurd (omega arith))) (tri x y)

-- The number of bytes that spell a character, by its range.
data Spelling (c : ℕ) (bs : List ℕ) : Type 0 where
  one : c < 128 → bs ≡ c ∷ [] → Spelling c bs
  two : 128 ≤ c → c < 2048 → bs ≡ (192 + c / 64) ∷ next c ∷ [] → Spelling c bs
  three : 2048 ≤ c → c < 65536 → bs ≡ (224 + c / 4096) ∷ next (c / 64) ∷ next c ∷ [] → Spelling c bs
  four : 65536 ≤ c → bs ≡ (240 + c / 262144) ∷ next (c / 4096) ∷ next (c / 64) ∷ next c ∷ [] → Spelling c bs

below : (x y : ℕ) (b : Bool) → nat_lt x y ≡ b → cond b (x < y) (y ≤ x)
below x y true e = grind (arith, nat_tests)
below x y false e = grind (arith, nat_tests)

spelling : (c : ℕ) → Spelling c (encode c)
unfolding encode
spelling c = by1 (nat_lt c 128) refl
  where
    by3 : (b : Bool) → nat_lt c 65536 ≡ b → 2048 ≤ c
        → Spelling c (cond b ((224 + c / 4096) ∷ next (c / 64) ∷ next c ∷ [])
        ((240 + c / 262144) ∷ next (c / 4096) ∷ next (c / 64) ∷ next c ∷ []))
    by3 true e low = three low (below c 65536 true e) refl
    by3 false e low = four (below c 65536 false e) refl

    by2 : (b : Bool) → nat_lt c 2048 ≡ b → 128 ≤ c
        → Spelling c (cond b ((192 + c / 64) ∷ next c ∷ [])
        (cond (nat_lt c 65536) ((224 + c / 4096) ∷ next (c / 64) ∷ next c ∷ [])
        ((240 + c / 262144) ∷ next (c / 4096) ∷ next (c / 64) ∷ next c ∷ [])))
    by2 true e low = two low (below c 2048 true e) refl
    by2 false e low = by3 (nat_lt c 65536) refl (below c 2048 false e)

    by1 : (b : Bool) → nat_lt c 128 ≡ b → Spelling c
        (cond b (c ∷ []) (cond (nat_lt c 2048) ((192 + c / 64) ∷ next c ∷ [])
        (cond (nat_lt c 65536) ((224 + c / 4096) ∷ next (c / 64) ∷ next c ∷ [])
        ((240 + c / 262144) ∷ next (c / 4096) ∷ next (c / 64) ∷ next c ∷ []))))
    by1 true e = one (below c 128 true e) refl
    by1 false e = by2 (nat_lt c 2048) refl (below c 128 false e)

two_less : (c d : ℕ) (xs ys : List ℕ) → c < d
    → slice_cmp nat_cmp ((192 + c / 64) ∷ next c ∷ xs) ((192 + d / 64) ∷ next d ∷ ys) ≡ Less
two_less c d xs ys h =
    lex (192 + c / 64) (192 + d / 64) (next c ∷ xs) (next d ∷ ys) (omega arith)
    (λ e. first_less (next c) (next d) xs ys (omega arith))

three_less : (c d : ℕ) (xs ys : List ℕ) → c < d
    → slice_cmp nat_cmp ((224 + c / 4096) ∷ next (c / 64) ∷ next c ∷ xs)
    ((224 + d / 4096) ∷ next (d / 64) ∷ next d ∷ ys)
    ≡ Less
three_less c d xs ys h =
    lex (224 + c / 4096) (224 + d / 4096) (next (c / 64) ∷ next c ∷ xs) (next (d / 64) ∷ next d ∷ ys) (omega arith)
    (λ e. lex (next (c / 64)) (next (d / 64)) (next c ∷ xs) (next d ∷ ys) (omega arith)
    (λ e2. first_less (next c) (next d) xs ys (omega arith)))

four_less : (c d : ℕ) (xs ys : List ℕ) → c < d
    → slice_cmp nat_cmp ((240 + c / 262144) ∷ next (c / 4096) ∷ next (c / 64) ∷ next c ∷ xs)
    ((240 + d / 262144) ∷ next (d / 4096) ∷ next (d / 64) ∷ next d ∷ ys)
    ≡ Less
four_less c d xs ys h =
    lex (240 + c / 262144) (240 + d / 262144) (next (c / 4096) ∷ next (c / 64) ∷ next c ∷ xs)
    (next (d / 4096) ∷ next (d / 64) ∷ next d ∷ ys) (omega arith)
    (λ e.
    lex (next (c / 4096)) (next (d / 4096)) (next (c / 64) ∷ next c ∷ xs) (next (d / 64) ∷ next d ∷ ys) (omega arith)
    (λ e2. lex (next (c / 64)) (next (d / 64)) (next c ∷ xs) (next d ∷ ys) (omega arith)
    (λ e3. first_less (next c) (next d) xs ys (omega arith))))

spelled_less : (c d : ℕ) (bs cs xs ys : List ℕ) → Spelling c bs → Spelling d cs → c < d
    → slice_cmp nat_cmp (bs ++ xs) (cs ++ ys) ≡ Less
spelled_less c d bs cs xs ys (one l e) (one m f) h = rw (e, f) (first_less c d xs ys h)
spelled_less c d bs cs xs ys (one l e) (two m n f) h =
    rw (e, f) (first_less c (192 + d / 64) xs (next d ∷ ys) (omega arith))
spelled_less c d bs cs xs ys (one l e) (three m n f) h =
    rw (e, f) (first_less c (224 + d / 4096) xs (next (d / 64) ∷ next d ∷ ys) (omega arith))
spelled_less c d bs cs xs ys (one l e) (four m f) h =
    rw (e, f) (first_less c (240 + d / 262144) xs (next (d / 4096) ∷ next (d / 64) ∷ next d ∷ ys) (omega arith))
spelled_less c d bs cs xs ys (two k l e) (one m f) h = absurd (omega arith)
spelled_less c d bs cs xs ys (two k l e) (two m n f) h = rw (e, f) (two_less c d xs ys h)
spelled_less c d bs cs xs ys (two k l e) (three m n f) h =
    rw (e, f) (first_less (192 + c / 64) (224 + d / 4096) (next c ∷ xs) (next (d / 64) ∷ next d ∷ ys) (omega arith))
spelled_less c d bs cs xs ys (two k l e) (four m f) h =
    rw (e, f) (first_less (192 + c / 64) (240 + d / 262144) (next c ∷ xs)
    (next (d / 4096) ∷ next (d / 64) ∷ next d ∷ ys) (omega arith))
spelled_less c d bs cs xs ys (three k l e) (one m f) h = absurd (omega arith)
spelled_less c d bs cs xs ys (three k l e) (two m n f) h = absurd (omega arith)
spelled_less c d bs cs xs ys (three k l e) (three m n f) h = rw (e, f) (three_less c d xs ys h)
spelled_less c d bs cs xs ys (three k l e) (four m f) h =
    rw (e, f) (first_less (224 + c / 4096) (240 + d / 262144) (next (c / 64) ∷ next c ∷ xs)
    (next (d / 4096) ∷ next (d / 64) ∷ next d ∷ ys) (omega arith))
spelled_less c d bs cs xs ys (four k e) (one m f) h = absurd (omega arith)
spelled_less c d bs cs xs ys (four k e) (two m n f) h = absurd (omega arith)
spelled_less c d bs cs xs ys (four k e) (three m n f) h = absurd (omega arith)
spelled_less c d bs cs xs ys (four k e) (four m f) h = rw (e, f) (four_less c d xs ys h)

nothing_less : (d : ℕ) (cs ys : List ℕ) → Spelling d cs → slice_cmp nat_cmp [] (cs ++ ys) ≡ Less
nothing_less d cs ys (one m f) = rw f refl
nothing_less d cs ys (two m n f) = rw f refl
nothing_less d cs ys (three m n f) = rw f refl
nothing_less d cs ys (four m f) = rw f refl

common : (bs xs ys : List ℕ) → slice_cmp nat_cmp (bs ++ xs) (bs ++ ys) ≡ slice_cmp nat_cmp xs ys
common [] xs ys = refl
common (b ∷ bs) xs ys = first_same b (bs ++ xs) (bs ++ ys) ∙ common bs xs ys

turned : (xs ys : List ℕ) → slice_cmp nat_cmp ys xs ≡ Less → slice_cmp nat_cmp xs ys ≡ Greater
turned xs ys h = nat_list_cmp_total.antisymm xs ys ∙ ap ordering_reverse h

pub order_of_encodes : (cs ds : List ℕ) → slice_cmp nat_cmp (encodes cs) (encodes ds) ≡ slice_cmp nat_cmp cs ds
order_of_encodes [] [] = refl
order_of_encodes [] (d ∷ ds) = nothing_less d (encode d) (encodes ds) (spelling d)
order_of_encodes (c ∷ cs) [] = turned (encode c ++ encodes cs) [] (nothing_less c (encode c) (encodes cs) (spelling c))
order_of_encodes (c ∷ cs) (d ∷ ds) = by (tri c d) (order_of_encodes cs ds)
  where
    by : (c < d) ⊎ ((c ≡ d) ⊎ (d < c)) → slice_cmp nat_cmp (encodes cs) (encodes ds) ≡ slice_cmp nat_cmp cs ds
        → slice_cmp nat_cmp (encode c ++ encodes cs) (encode d ++ encodes ds) ≡ slice_cmp nat_cmp (c ∷ cs) (d ∷ ds)
    by (inl h) rest =
        spelled_less c d (encode c) (encode d) (encodes cs) (encodes ds) (spelling c) (spelling d) h
        ∙ sym (first_less c d cs ds h)
    by (inr (inl e)) rest =
        subst
        (λ z. slice_cmp nat_cmp (encode c ++ encodes cs) (encode z ++ encodes ds) ≡ slice_cmp nat_cmp (c ∷ cs) (z ∷ ds))
        e
        (common (encode c) (encodes cs) (encodes ds) ∙ rest ∙ sym (first_same c cs ds))
    by (inr (inr h)) rest =
        turned (encode c ++ encodes cs) (encode d ++ encodes ds)
        (spelled_less d c (encode d) (encode c) (encodes ds) (encodes cs) (spelling d) (spelling c) h)
        ∙ sym (turned (c ∷ cs) (d ∷ ds) (first_less d c ds cs h))

-- Texts are ordered by their code points.
bytes_order : (xs ys cs ds : List ℕ) → xs ≡ encodes cs → ys ≡ encodes ds
    → slice_cmp nat_cmp xs ys ≡ slice_cmp nat_cmp cs ds
bytes_order xs ys cs ds p q =
    ap (λ z. slice_cmp nat_cmp z ys) p ∙ ap (λ z. slice_cmp nat_cmp (encodes cs) z) q ∙ order_of_encodes cs ds

text_order : (x : List ℕ) (u : Tree) (cs ds : List ℕ) → x ≡ encodes cs → Spells ds u
    → order (text x) u ≡ Ok (slice_cmp nat_cmp cs ds)
text_order x (text y) cs ds p q = ap Ok (bytes_order x y cs ds p q)
text_order x (markup y) cs ds p q = ap Ok (bytes_order x y cs ds p q)
text_order x u cs ds p q = absurd q

markup_order : (x : List ℕ) (u : Tree) (cs ds : List ℕ) → x ≡ encodes cs → Spells ds u
    → order (markup x) u ≡ Ok (slice_cmp nat_cmp cs ds)
markup_order x (text y) cs ds p q = ap Ok (bytes_order x y cs ds p q)
markup_order x (markup y) cs ds p q = ap Ok (bytes_order x y cs ds p q)
markup_order x u cs ds p q = absurd q

pub order-Spells : (t u : Tree) (cs ds : List ℕ) → Spells cs t → Spells ds u → order t u ≡ Ok (slice_cmp nat_cmp cs ds)
order-Spells (text x) u cs ds p q = text_order x u cs ds p q
order-Spells (markup x) u cs ds p q = markup_order x u cs ds p q
order-Spells t u cs ds p q = absurd p
