-- Membership by a test for equality: names, and chains and libraries.
use Rattle.std.proofs.Common.{◌≡◌, ℕ, zero, suc, ◌+◌, ◌≤◌, Bool, true, false, cond, ◌||◌, List, [], ◌∷◌, ◌++◌, length}
use Rattle.std.proofs.Common.{refl, sym, ap, ◌∙◌, arith, ◌⊎◌, inr, Some, rules}
use Rattle.std.specs.Prelude.{slice_get}
use Rattle.std.proofs.lemmas.Bool.{or_from, or_parts, or_right}
use Rattle.std.proofs.lemmas.Cmp.{nat_list_eq_equiv}
use Rattle.std.proofs.lemmas.Slice.Eq.{bytes_eq-Decides}
use Rattle.std.specs.List.{AllByRecursion}
use Rattle.std.specs.Str.{bytes_eq}
use Rattle.jt_ast.specs.Texts.{among, repeated}
use Rattle.jt_ast.specs.Expressions.{Text}

-- The test, membership and repetition, with their laws.
pub record Members (A : Type 0) : Type 0 where
  pub same : A → A → Bool
  pub among : A → List A → Bool
  pub again : List A → Bool
  pub equal : (x y : A) → same x y ≡ true → x ≡ y
  pub reflexive : (x : A) → same x x ≡ true
  pub symmetric : (x y : A) → same x y ≡ same y x
  pub among_none : (x : A) → among x [] ≡ false
  pub among_more : (x y : A) (ys : List A) → among x (y ∷ ys) ≡ (same y x || among x ys)
  pub again_none : again [] ≡ false
  pub again_more : (x : A) (xs : List A) → again (x ∷ xs) ≡ (among x xs || again xs)

-- The sum of the weights of items.
abbrev pub total : {A : Type 0} → (A → ℕ) → List A → ℕ
total w [] = 0
total w (x ∷ xs) = w x + total w xs

module _ {A : Type 0} (m : Members A) where
  -- A member of a part is a member of the concatenation.
  pub among_front : (x : A) (xs ys : List A) → m.among x xs ≡ true → m.among x (xs ++ ys) ≡ true
  among_front x [] ys h = let e = m.among_none x in absurd (cc)
  among_front x (y ∷ xs) ys h = search (arith, rules, m.among_more, among_front x xs ys, or_right)

  pub among_behind : (x : A) (xs ys : List A) → m.among x ys ≡ true → m.among x (xs ++ ys) ≡ true
  among_behind x [] ys h = h
  among_behind x (y ∷ xs) ys h = search (arith, rules, or_right, among_behind x xs ys h)

  pub among_next : (x : A) (xs ys : List A) → m.among x (xs ++ x ∷ ys) ≡ true
  among_next x xs ys = among_behind x xs (x ∷ ys) (m.among_more x x ys ∙ ap (λ b. b || m.among x ys) (m.reflexive x))

  pub among_cases : (x : A) (xs ys : List A) → m.among x (xs ++ ys) ≡ true
      → (m.among x xs ≡ true) ⊎ (m.among x ys ≡ true)
  among_cases x [] ys h = inr h
  among_cases x (y ∷ xs) ys h = search (arith, rules, m.among_more, among_cases x xs ys, or_right)

  pub only_among : (x y : A) → m.among y (x ∷ []) ≡ true → x ≡ y
  only_among x y a = search (arith, rules, m.among_more, m.among_none, m.equal)

  -- The item at an index is a member.
  pub indexed_among : (xs : List A) (i : ℕ) (x : A) → slice_get xs i ≡ Some x → m.among x xs ≡ true
  indexed_among [] i x e = absurd (cc)
  indexed_among (y ∷ xs) zero x e = search (arith, rules, m.among_more, m.reflexive)
  indexed_among (y ∷ xs) (suc i) x e = search (arith, rules, or_right, indexed_among xs i x e)

  not_next : (x y : A) (xs : List A) → m.among x xs ≡ false → m.same y x ≡ false → m.among x (xs ++ y ∷ []) ≡ false
  not_next x y [] h e = search (arith, rules, m.among_more, m.among_none, or_from)
  not_next x y (z ∷ xs) h e = search (arith, rules, m.among_more, not_next x y xs, or_parts, or_from)

  -- An appended item repeats one exactly if it was a member.
  pub once_more : (x : A) (xs : List A) → m.again xs ≡ false → m.among x xs ≡ false → m.again (xs ++ x ∷ []) ≡ false
  once_more x [] o h = search (arith, rules, m.again_more, m.again_none, m.among_none)
  once_more x (y ∷ xs) o h =
      let k = or_parts (m.among y xs) (m.again xs) (sym (m.again_more y xs) ∙ o) in
      let n = or_parts (m.same y x) (m.among x xs) (sym (m.among_more x y xs) ∙ h) in
      m.again_more y (xs ++ x ∷ []) ∙ or_from (m.among y (xs ++ x ∷ [])) (m.again (xs ++ x ∷ []))
      (not_next y x xs k.0 (m.symmetric x y ∙ n.0)) (once_more x xs k.1 n.1)

  pub comes_again : (x : A) (xs ys : List A) → m.among x xs ≡ true → m.again (xs ++ x ∷ ys) ≡ true
  comes_again x [] ys h = let e = m.among_none x in absurd (cc)
  comes_again x (y ∷ xs) ys h = search (arith, rules, comes_again x xs ys, m.equal, among_next, or_right)

  -- ---- different members of a list are together no heavier than its items

  abbrev without : A → List A → List A
  without x [] = []
  without x (y ∷ ys) = cond (m.same y x) ys (y ∷ without x ys)

  one_less : (f : A → ℕ) (x : A) (ys : List A) → m.among x ys ≡ true → total f ys ≡ f x + total f (without x ys)
  one_less f x [] a = let e = m.among_none x in absurd (cc)
  one_less f x (y ∷ ys) a = search (arith, rules, m.among_more, one_less f x ys, m.equal)

  still_among : (x z : A) (ys : List A) → m.same x z ≡ false → m.among z ys ≡ true → m.among z (without x ys) ≡ true
  still_among x z [] n a = let e = m.among_none z in absurd (cc)
  still_among x z (y ∷ ys) n a = search (arith, rules, m.among_more, still_among x z ys n, m.equal, or_right)

  pub lighter : (w : A → ℕ) (xs ys : List A) → m.again xs ≡ false
      → ((x : A) → m.among x xs ≡ true → m.among x ys ≡ true) → total w xs ≤ total w ys
  lighter w [] ys once f = omega arith
  lighter w (x ∷ xs) ys once f =
      let k = or_parts (m.among x xs) (m.again xs) (sym (m.again_more x xs) ∙ once) in
      let len = one_less w x ys (f x (m.among_more x x xs ∙ ap (λ b. b || m.among x xs) (m.reflexive x))) in
      let rest = lighter w xs (without x ys) k.1 (λ z a. still_among x z ys (apart z (m.same x z) refl k.0 a)
      (f z (m.among_more z x xs ∙ or_right (m.same x z) (m.among z xs) a))) in
      omega (arith, len, rest)
    where
      apart : (z : A) (b : Bool) → m.same x z ≡ b → m.among x xs ≡ false → m.among z xs ≡ true → m.same x z ≡ false
      apart z a1 e n a = search (arith, rules, m.equal)

  pub no_more : (xs ys : List A) → m.again xs ≡ false → ((x : A) → m.among x xs ≡ true → m.among x ys ≡ true)
      → length xs ≤ length ys
  no_more xs ys once f = omega (arith, lighter (λ x. 1) xs ys once f, counted xs, counted ys)
    where
      counted : (zs : List A) → total (λ x. 1) zs ≡ length zs
      counted [] = refl
      counted (z ∷ zs) = omega (arith, counted zs)

-- ---- membership of names

pub same : (x y : Text) → bytes_eq x y ≡ true → x ≡ y
same x y = (bytes_eq-Decides x y).0

pub reflexive : (x : Text) → bytes_eq x x ≡ true
reflexive x = nat_list_eq_equiv.refl x

pub symmetric : (x y : Text) → bytes_eq x y ≡ bytes_eq y x
symmetric x y = nat_list_eq_equiv.symm x y

abbrev pub of_texts : Members Text
of_texts =
    record {
      same = bytes_eq;
      among = among;
      again = repeated;
      equal = same;
      reflexive = reflexive;
      symmetric = symmetric;
      among_none = λ x. refl;
      among_more = λ x y ys. refl;
      again_none = refl;
      again_more = λ x xs. refl;
    }

pub all_weaker : {X : Type 0} {P Q : X → Type 0} → ((x : X) → P x → Q x) → (xs : List X) → AllByRecursion P xs
    → AllByRecursion Q xs
all_weaker f [] a = tt
all_weaker f (x ∷ xs) a = (f x a.0, all_weaker f xs a.1)

pub all_more : {X : Type 0} (P : X → Type 0) (xs : List X) (x : X) → AllByRecursion P xs → P x
    → AllByRecursion P (xs ++ x ∷ [])
all_more P [] x a p = (p, tt)
all_more P (y ∷ xs) x a p = (a.0, all_more P xs x a.1 p)
