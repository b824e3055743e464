-- Lemmas on the prefix of a list that a loop has passed.
use Rattle.std.proofs.Common.{◌≡◌, ℕ, zero, suc, ◌+◌, ◌<◌, List, [], ◌∷◌, ◌++◌, length, map, take, get_or, sym}
use Rattle.std.proofs.Common.{ap, subst, ◌∙◌, arith, append_assoc}
use Rattle.std.specs.List.{AllByRecursion}
use Rattle.std.proofs.lemmas.List.{take_more, map_push, append-nil}
use Rattle.jt_image.proofs.DecodeSoundLemmas.{AllGood}

pub all_push : {A : Type 0} (P : A → Type 0) (xs : List A) (x : A) → AllByRecursion P xs → P x
    → AllByRecursion P (xs ++ x ∷ [])
all_push P [] x h p = (p, tt)
all_push P (y ∷ ys) x h p = (h.0, all_push P ys x h.1 p)

pub all_weaker : {A : Type 0} (P Q : A → Type 0) (xs : List A) → ((x : A) → P x → Q x) → AllByRecursion P xs
    → AllByRecursion Q xs
all_weaker P Q [] f h = tt
all_weaker P Q (x ∷ xs) f h = (f x h.0, all_weaker P Q xs f h.1)

pub all_both : {A : Type 0} (P Q R : A → Type 0) (xs : List A) → ((x : A) → P x → Q x → R x) → AllByRecursion P xs
    → AllByRecursion Q xs → AllByRecursion R xs
all_both P Q R [] f h g = tt
all_both P Q R (x ∷ xs) f h g = (f x h.0 g.0, all_both P Q R xs f h.1 g.1)

-- ---- views of items

module _ {A B : Type 0} (view : A → B) (xs : List A) (i : ℕ) (x : A) (lt : i < length xs) (is : x ≡ get_or xs i x) where
  pub seen_more : map view (take (i + 1) xs) ≡ map view (take i xs) ++ view x ∷ []
  seen_more =
      ap (map view) (take_more xs i x lt) ∙ map_push view (take i xs) (get_or xs i x)
      ∙ ap (λ (y : A). map view (take i xs) ++ view y ∷ []) (sym is)

  pub all_more : (P : B → Type 0) → AllByRecursion P (map view (take i xs)) → P (view x)
      → AllByRecursion P (map view (take (i + 1) xs))
  all_more P h p = rw seen_more (all_push P (map view (take i xs)) (view x) h p)

-- ---- elements that are good after those before them

pub good_push : {A : Type 0} (good : List A → A → Type 0) (before xs : List A) (x : A) → good (before ++ xs) x
    → AllGood good before xs → AllGood good before (xs ++ x ∷ [])
good_push good before [] x g h = (subst (λ (ys : List _). good ys x) (append-nil before) g, tt)
good_push good before (y ∷ xs) x g h = (
  h.0,
  good_push good (before ++ y ∷ []) xs x
      (subst (λ (ys : List _). good ys x) (sym (append_assoc before (y ∷ []) xs)) g) h.1,
)

pub good_at : {A B : Type 0} (good : List B → B → Type 0) (view : A → B) (before : List B) (xs : List A) (i : ℕ) (d : A)
    → i < length xs → AllGood good before (map view xs) → good (before ++ map view (take i xs)) (view (get_or xs i d))
good_at good view before [] i d lt h = absurd (omega arith)
good_at good view before (x ∷ xs) zero d lt h = subst (λ (ys : List _). good ys (view x)) (sym (append-nil before)) h.0
good_at good view before (x ∷ xs) (suc i) d lt h =
    subst (λ (ys : List _). good ys (view (get_or xs i d))) (append_assoc before (view x ∷ []) (map view (take i xs)))
    (good_at good view (before ++ view x ∷ []) xs i d (omega (arith, lt)) h.1)
