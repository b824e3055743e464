-- The laws of names that are among other names.
use Rattle.std.proofs.Common.{◌≡◌, true, List, [], ◌∷◌, ◌++◌, refl, ap, subst, ◌⊎◌, inl, inr, arith, rules}
use Rattle.std.specs.Prelude.{◌||◌}
use Rattle.std.specs.Str.{bytes_eq}
use Rattle.std.proofs.lemmas.Slice.Eq.{bytes_eq-Decides}
use Rattle.jt_ast.specs.Expressions.{Text}
use Rattle.jt_ast.specs.Texts.{among, inserted, all_inserted, ascending}

-- Holds if the first value is one of the list.
abbrev pub Among : {A : Type 0} → A → List A → Type 0
Among x [] = ⊥
Among x (y ∷ ys) = (y ≡ x) ⊎ Among x ys

-- Holds if each of the first names is among the second ones.
abbrev pub AllAmong : List Text → List Text → Type 0
AllAmong [] ns = Unit {0}
AllAmong (x ∷ xs) ns = Among x ns × AllAmong xs ns

pub among_front : (xs ys ns : List Text) → AllAmong (xs ++ ys) ns → AllAmong xs ns
among_front [] ys ns h = tt
among_front (x ∷ xs) ys ns h = (h.0, among_front xs ys ns h.1)

pub among_back : (xs ys ns : List Text) → AllAmong (xs ++ ys) ns → AllAmong ys ns
among_back [] ys ns h = h
among_back (x ∷ xs) ys ns h = among_back xs ys ns h.1

pub among_both : (xs ys ns : List Text) → AllAmong xs ns → AllAmong ys ns → AllAmong (xs ++ ys) ns
among_both [] ys ns a b = b
among_both (x ∷ xs) ys ns a b = (a.0, among_both xs ys ns a.1 b)

pub among_left : {A : Type 0} (x : A) (xs ys : List A) → Among x xs → Among x (xs ++ ys)
among_left x [] ys i = absurd i
among_left x (z ∷ zs) ys (inl e) = inl e
among_left x (z ∷ zs) ys (inr i) = inr (among_left x zs ys i)

pub among_right : {A : Type 0} (x : A) (xs ys : List A) → Among x ys → Among x (xs ++ ys)
among_right x [] ys i = i
among_right x (z ∷ zs) ys i = inr (among_right x zs ys i)

pub each_among : (xs ns : List Text) → AllAmong xs ns → (x : Text) → Among x xs → Among x ns
each_among [] ns h x i = absurd i
each_among (y ∷ ys) ns h x (inl e) = subst (λ z. Among z ns) e h.0
each_among (y ∷ ys) ns h x (inr i) = each_among ys ns h.1 x i

pub all_among : (ys zs : List Text) → ((y : Text) → Among y ys → Among y zs) → AllAmong ys zs
all_among [] zs f = tt
all_among (y ∷ ys) zs f = (f y (inl refl), all_among ys zs (λ z i. f z (inr i)))

pub all_of : (xs : List Text) → AllAmong xs xs
all_of xs = all_among xs xs (λ y i. i)

pub same_text : (x y : Text) → bytes_eq x y ≡ true → x ≡ y
same_text x y e = (bytes_eq-Decides x y).0 e

pub among_is : (x : Text) (xs : List Text) → among x xs ≡ true → Among x xs
among_is x [] e = absurd (cc)
among_is x (y ∷ ys) e = search (arith, rules, among_is x ys, same_text)

pub among_has : (x : Text) (xs : List Text) → Among x xs → among x xs ≡ true
among_has x [] i = absurd i
among_has x (y ∷ ys) (inl e) = ap (λ b. b || among x ys) ((bytes_eq-Decides y x).1 e)
among_has x (y ∷ ys) (inr i) = search (arith, rules, among_has x ys i)

-- A text is among the names into which it is inserted.
inserted_there : (x : Text) (ns : List Text) → Among x (inserted x ns)
inserted_there x [] = inl refl
inserted_there x (y ∷ ys) = search (arith, rules, inserted_there x ys, same_text)

inserted_keeps : (x z : Text) (ns : List Text) → Among z ns → Among z (inserted x ns)
inserted_keeps x z [] h = absurd h
inserted_keeps x z (y ∷ ys) h = search (arith, rules, inserted_keeps x z ys)

-- A text stays among the names into which other texts are inserted.
all_keep : (xs : List Text) (z : Text) (ns : List Text) → Among z ns → Among z (all_inserted xs ns)
all_keep [] z ns h = h
all_keep (x ∷ xs) z ns h = all_keep xs z (inserted x ns) (inserted_keeps x z ns h)

all_there : (xs ns : List Text) → AllAmong xs (all_inserted xs ns)
all_there [] ns = tt
all_there (x ∷ xs) ns = (all_keep xs x (inserted x ns) (inserted_there x ns), all_there xs (inserted x ns))

-- Each text is among the texts in ascending order.
pub all_ascending : (xs : List Text) → AllAmong xs (ascending xs)
all_ascending xs = all_there xs []
