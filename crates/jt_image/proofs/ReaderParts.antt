-- Names, texts and headers in the reader, and their views.
use Rattle.std.proofs.Common.{◌≡◌, ℕ, ◌+◌, ◌-◌, ◌++◌, false, true, ◌<◌, ◌≤◌, Bool, take, drop, ◌≢◌, Ok, Err, List}
use Rattle.std.proofs.Common.{[], ◌∷◌, length, get_or, set, refl, map, arith, Some, None, rules, zero, suc}
use Rattle.std.specs.Prelude.{◌==◌, ◌||◌, replicate}
use Rattle.std.specs.Str.{IsUtf8, is_utf8}
use Rattle.std.proofs.lemmas.Str.{is_utf8-from_IsUtf8, IsUtf8-from_is_utf8}
use Rattle.std.proofs.lemmas.Bool.{le-ltb, cases_eq}
use Rattle.std.proofs.lemmas.Bool.Decides.{nat_tests}
use Rattle.std.proofs.lemmas.List.{length-set, get_or-set_same, get_or-set_other, length-replicate}
use Rattle.jt_image.specs.declared.error.ImageError.TheVariants.{BadText}
use Rattle.std.specs.List.{last_or}
use Rattle.jt_image.specs.Code as code
use Rattle.jt_image.specs.Reading.{Header, IsTable, is_used, text_at, header_total, is_first}

last_from : {A B : Type 0} (view : A → B) (x : A) (xs : List A) (d : A)
    → last_or (Some (view x)) (map view xs) ≡ Some (view (get_or (x ∷ xs) (length xs) d))
last_from view x [] d = refl
last_from view x (y ∷ ys) d = last_from view y ys d

-- The last view is the view of the last element.
pub last_seen : {A B : Type 0} (view : A → B) (xs : List A) (d : A) → 0 < length xs
    → last_or None (map view xs) ≡ Some (view (get_or xs (length xs - 1) d))
last_seen view [] d lt = absurd (omega arith)
last_seen view (x ∷ xs) d lt = let e : length (x ∷ xs) - 1 ≡ length xs = omega arith in rw e (last_from view x xs d)

pub header_total-push : (hs : List Header) (h : Header) → header_total (hs ++ h ∷ []) ≡ header_total hs + h.len
header_total-push [] h = omega arith
header_total-push (g ∷ hs) h = omega (arith, header_total-push hs h)

pub is_first-push : (hs : List Header) (h : Header) → is_first (hs ++ h ∷ []) ≡ false
is_first-push [] h = refl
is_first-push (g ∷ hs) h = refl

pub text_ok : (n : ℕ) (bytes : List ℕ) → n ≤ length bytes → IsUtf8 (take n bytes)
    → text_at n bytes ≡ Ok (take n bytes, drop n bytes)
unfolding text_at
text_ok n bytes le u = search (arith, rules, le-ltb, is_utf8-from_IsUtf8)

not_utf8 : (bs : List ℕ) (b : Bool) → is_utf8 bs ≡ b → ¬ (IsUtf8 bs) → b ≡ false
not_utf8 bs true e h = absurd (h (IsUtf8-from_is_utf8 bs e))
not_utf8 bs false e h = refl

pub text_bad : (n : ℕ) (bytes : List ℕ) → n ≤ length bytes → ¬ (IsUtf8 (take n bytes)) → text_at n bytes ≡ Err BadText
unfolding text_at
text_bad n bytes le u = search (arith, rules, le-ltb, not_utf8)

-- ---- the table of used slots

pub is_used-push : (s : ℕ) (ns : List code.Name) (n : code.Name)
    → is_used s (ns ++ n ∷ []) ≡ (is_used s ns || (n.slot == s))
is_used-push s [] n = grind (arith, nat_tests)
is_used-push s (m ∷ ns) n = search (arith, rules, is_used-push s ns n)

same_slot : (n s : ℕ) → n ≡ s → (b : Bool) → (b || (n == s)) ≡ true
same_slot n s e true = refl
same_slot n s e false = grind (arith, nat_tests)

other_slot : (n s : ℕ) → s ≢ n → (b : Bool) → (b || (n == s)) ≡ b
other_slot n s ne true = refl
other_slot n s ne false = grind (arith, nat_tests)

pub IsTable-push : (used : List Bool) (globals : ℕ) (ns : List code.Name) (n : code.Name) → n.slot < globals
    → IsTable used globals ns → IsTable (set used n.slot true) globals (ns ++ n ∷ [])
IsTable-push used globals ns n lt t =
    search
    (arith, rules, length-set, cases_eq, get_or, get_or-set_same, is_used-push, same_slot, get_or-set_other, other_slot)

none_used : (n s : ℕ) → get_or (replicate n false) s false ≡ false
none_used zero s = refl
none_used (suc n) zero = refl
none_used (suc n) (suc s) = none_used n s

pub IsTable-start : (used : List Bool) (globals : ℕ) → used ≡ replicate globals false → IsTable used globals []
IsTable-start used globals e = search (arith, rules, length-replicate, none_used)
