-- The result of `all`, if its test decides a property of each item.
use Rattle.std.proofs.Common.{◌≡◌, ℕ, ◌<◌, Bool, true, false, IsTrue, ◌↔◌, MatchBool, List, [], ◌∷◌, length, map}
use Rattle.std.proofs.Common.{Option, refl, arith}
use denote.Param.Members.{Mut}
use Rattle.std.specs.Fn.{Called}
use Rattle.std.specs.Iterator.{YieldsThen}
use Rattle.std.specs.List.{AllByRecursion, AllWithin, HoldsAt, FoldsTo}
use Rattle.std.specs.Option.{MatchOption}
use Rattle.std.proofs.lemmas.Bool.{false≢true}
use Rattle.std.proofs.lemmas.Iterator.{YieldsList, cases_from_all}
use Rattle.std.proofs.lemmas.List.Elements.{All-from_recursion, recursion_from_All, All-from_all_within}

-- `P` holds of an item, and `Q` of its view.
abbrev Both : {A B : Type 0} → (A → B) → (A → Type 0) → (B → Type 0) → A → Type 0
Both view P Q x = P x × Q (view x)

parted : {A B : Type 0} (view : A → B) (P : A → Type 0) (Q : B → Type 0) (xs : List A)
    → AllByRecursion (Both view P Q) xs → AllByRecursion P xs × AllByRecursion Q (map view xs)
parted view P Q [] h = (tt, tt)
parted view P Q (x ∷ xs) h = let more = parted view P Q xs h.1 in ((h.0.0, more.0), (h.0.1, more.1))

unseen : {A B : Type 0} (view : A → B) (P : B → Type 0) (xs : List A) → AllByRecursion P (map view xs)
    → AllByRecursion (λ x. P (view x)) xs
unseen view P [] h = tt
unseen view P (x ∷ xs) h = (h.0, unseen view P xs h.1)

fails_at : {A : Type 0} (P : A → Type 0) (xs : List A) (k : ℕ) → k < length xs → HoldsAt (λ x. ¬ (P x)) xs k
    → ¬ (AllByRecursion P xs)
fails_at P [] k lt h = λ a. absurd (omega arith)
fails_at P (x ∷ xs) k lt h = λ a. h x (All-from_recursion P (x ∷ xs) a k x lt)

told : {A B : Type 0} (view : A → B) (P : A → Type 0) (Q : B → Type 0) (xs : List A) (r : Bool)
    → MatchBool r (AllWithin (Both view P Q) xs 0 (length xs)) ((k : ℕ) × (k < length xs) × HoldsAt (λ x. ¬ (P x)) xs k)
    → (IsTrue r ↔ AllByRecursion P xs) × (IsTrue r → AllByRecursion Q (map view xs))
told view P Q xs true h =
    let both = parted view P Q xs (recursion_from_All (Both view P Q) xs (All-from_all_within (Both view P Q) xs h)) in
    ((λ _. both.0, λ _. refl), λ _. both.1)
told view P Q xs false h =
    ((λ t. absurd (false≢true t), λ a. absurd (fails_at P xs h.0 h.1 h.2 a)), λ t. absurd (false≢true t))

module _ {S A B C F : Type 0} {steps : S → Option A → S → Type 0} {v : A → B} {g : Mut F (A × Unit {0}) Bool} {s : S}
    {all : List B} (u : S) (f : F) (r : Bool) where
  -- The test decides `P`, and if `P` holds, then `Q` holds of the view.
  pub all_tell : (view : B → C) (P : B → Type 0) (Q : C → Type 0)
      → (xs : List A) × (o : Option A) × (j : F) × YieldsThen steps s xs o u
      × FoldsTo (λ p x q. Called g p (x, tt) true q) f xs j
      × MatchOption o (r ≡ true) (λ x. (r ≡ false) × ((h : F) × Called g j (x, tt) false h))
      → YieldsList steps v s all → ((x : A) (b : Bool) (q : F) → Called g f (x, tt) b q
      → (q ≡ f) × (IsTrue b ↔ P (v x)) × (IsTrue b → Q (view (v x))))
      → (IsTrue r ↔ AllByRecursion P all) × (IsTrue r → AllByRecursion Q (map view all))
  all_tell view P Q ran list k =
      told view P Q all r
      (cases_from_all u f r (Both view P Q) (λ y. ¬ (P y)) ran list
      (λ x q c. let w = k x true q c in (w.0, (w.1.0 refl, w.2 refl))) (λ x q c p. false≢true ((k x false q c).1.1 p)))

  -- The test decides whether `P` holds of the view.
  pub all_seen : (view : B → C) (P : C → Type 0)
      → (xs : List A) × (o : Option A) × (j : F) × YieldsThen steps s xs o u
      × FoldsTo (λ p x q. Called g p (x, tt) true q) f xs j
      × MatchOption o (r ≡ true) (λ x. (r ≡ false) × ((h : F) × Called g j (x, tt) false h))
      → YieldsList steps v s all
      → ((x : A) (b : Bool) (q : F) → Called g f (x, tt) b q → (q ≡ f) × (IsTrue b ↔ P (view (v x))))
      → IsTrue r ↔ AllByRecursion P (map view all)
  all_seen view P ran list k =
      let t = all_tell view (λ y. P (view y)) P ran list (λ x b q c. let w = k x b q c in (w.0, w.1, w.1.0)) in
      (t.1, λ a. t.0.1 (unseen view P all a))
