-- The rules on bodies of blocks, as they are checked one body at a time.
use Rattle.jt_inherit.proofs.Vocabulary as words
use words.{◌≡◌, ℕ, suc, ◌+◌, ◌<◌, Bool, true, false, not, ◌&&◌, ◌||◌, List, [], ◌∷◌, ◌++◌, length, map, take}
use words.{drop, get_or, refl, sym, ap, ◌∙◌, arith, rules, Some, body_at, BlockBody, from_given, named}
use words.{drop_more, map-append, slice_get-get_or, list_any, bytes_eq, among, repeated, Text, end}
use words.{templates_at, any_double, Template, blocks_in, lacks_body, lacks_next, block_view, blocks_view, calls_super}
use words.{of_texts, reflexive, same, once_more, or_from, or_parts, or_right, take_more}
use words.{take-append-drop, length-map, true_from_ne_false, and_right, both_ways, map_at, Option, None, if◌then◌else◌}
use words.{comes_again, ◌≤◌, subst, times}
use Rattle.jt_inherit.proofs.RulesHaveTags.{twice_there}
use Rattle.jt_chains.specs.declared.parts.Block.{Block}
use Rattle.std.proofs.lemmas.List.{length-take-le}
use Rattle.std.proofs.lemmas.Option.{get_or_from_slice_get}
use Rattle.jt_chains.specs.Parts.{name_at}
use Rattle.jt_chains.specs.Rules.{is_required, lacks_super, is_empty}
use Rattle.jt_names.specs.Names.{first_of}
use Rattle.std.specs.Option.{option_eq, is_some}
use Rattle.std.proofs.Math.Dec.{eqb}
use Rattle.std.proofs.lemmas.Bool.{eq-eqb, eqb-true}

-- ---- the first position of a text

-- The position of an item is the first one of its text exactly if the text does not come before.
first_new : (n : ℕ) (x : Text) (xs ys : List Text) → first_of x n (xs ++ ys) ≡ Some (n + length xs)
    → among x xs ≡ false
first_new n x [] ys e = refl
first_new n x (y ∷ xs) ys e = search (arith, rules, first_new (suc n) x xs ys)

first_here : (n : ℕ) (x : Text) (xs ys : List Text) → among x xs ≡ false
    → first_of x n (xs ++ x ∷ ys) ≡ Some (n + length xs)
first_here n x [] ys h = search (arith, rules, reflexive)
first_here n x (y ∷ xs) ys h = search (arith, rules, or_parts, first_here (suc n) x xs ys)

-- The result of a comparison with an index.
pub index_is : (o : Option ℕ) (i : ℕ) → option_eq eqb o (Some i) ≡ true → o ≡ Some i
index_is None i e = absurd (cc)
index_is (Some j) i e = ap (λ k. Some k) (eqb-true j i e)

pub index_not : (o : Option ℕ) (i : ℕ) → option_eq eqb o (Some i) ≡ false → o ≡ Some i → ⊥
index_not o i e is = both_ways _ (rw is at e) (eq-eqb i i refl)

-- ---- the nearest body

abbrev pub names_of : List BlockBody → List Text
names_of bs = map (λ b. b.name) bs

-- No nearest body of these is a required one.
abbrev pub AreGiven : List BlockBody → Type 0
AreGiven bs = (x : Text) → is_required (named x bs) ≡ false

-- A body after others is the nearest one if its name is new.
named_new : (x : Text) (bs cs : List BlockBody) → among x (names_of bs) ≡ false → named x (bs ++ cs) ≡ named x cs
named_new x [] cs h = refl
named_new x (b ∷ bs) cs h = search (arith, rules, or_parts, bytes_eq, among, named_new x bs cs)

-- A body after others is not the nearest one if its name is not new.
named_old : (x : Text) (bs cs : List BlockBody) → among x (names_of bs) ≡ true
    → is_required (named x (bs ++ cs)) ≡ is_required (named x bs)
named_old x [] cs h = absurd (cc)
named_old x (b ∷ bs) cs h = search (arith, rules, named_old x bs cs)

-- One body more.
pub given_more : (bs : List BlockBody) (b : BlockBody) → AreGiven bs
    → (not (among b.name (names_of bs)) && b.required) ≡ false → AreGiven (bs ++ b ∷ [])
given_more bs b g h x = search (arith, rules, same, named_old, named_new)

any_none : {X : Type 0} (p : X → Bool) → ((x : X) → p x ≡ false) → (xs : List X) → list_any p xs ≡ false
any_none p h [] = refl
any_none p h (x ∷ xs) = or_from _ _ (h x) (any_none p h xs)

any_here : {X : Type 0} (p : X → Bool) (xs : List X) (x : X) (ys : List X) → p x ≡ true
    → list_any p (xs ++ x ∷ ys) ≡ true
any_here p [] x ys h = rw h
any_here p (y ∷ xs) x ys h = or_right _ _ (any_here p xs x ys h)

pub all_given : (bs : List BlockBody) → AreGiven bs → lacks_body bs ≡ false
all_given bs g = any_none _ (λ b. g b.name) bs

pub none_given : (bs : List BlockBody) (b : BlockBody) (cs : List BlockBody) → among b.name (names_of bs) ≡ false
    → b.required ≡ true → lacks_body (bs ++ b ∷ cs) ≡ true
none_given bs b cs n r = search (arith, rules, any_here, named_new, reflexive)

pub none_required : (bs : List BlockBody) (b : BlockBody) (cs : List BlockBody) → among b.name (names_of bs) ≡ false
    → b.required ≡ true → is_required (named b.name (bs ++ b ∷ cs)) ≡ true
none_required bs b cs n r = rw (named_new b.name bs (b ∷ cs) n, reflexive b.name) r

-- ---- bodies that `super()` can call

-- A body of the name that is not required is in the list.
abbrev pub has_given : Text → List BlockBody → Bool
has_given x [] = false
has_given x (b ∷ bs) = (bytes_eq b.name x && not b.required) || has_given x bs

none_behind : (x : Text) (bs : List BlockBody) → is_empty (from_given (named x bs)) ≡ not (has_given x bs)
none_behind x [] = refl
none_behind x (b ∷ bs) = search (arith, rules, none_behind x bs)

-- No call of `super()` in these bodies lacks a next body.
abbrev pub HaveNext : List BlockBody → Type 0
HaveNext bs = (x : Text) → lacks_super (named x bs) ≡ false

pub next_more : (b : BlockBody) (bs : List BlockBody) → HaveNext bs
    → (not (has_given b.name bs) && calls_super b.body) ≡ false → HaveNext (b ∷ bs)
next_more b bs n h x = search (arith, rules, same, none_behind, or_from)

pub all_next : (bs : List BlockBody) → HaveNext bs → lacks_next bs ≡ false
all_next bs n = any_none _ (λ b. n b.name) bs

lacks_front : (x : Text) (bs cs : List BlockBody) → lacks_super (named x cs) ≡ true
    → lacks_super (named x (bs ++ cs)) ≡ true
lacks_front x [] cs h = h
lacks_front x (b ∷ bs) cs h = search (arith, rules, lacks_front x bs cs h, or_right)

pub none_next : (bs : List BlockBody) (b : BlockBody) (cs : List BlockBody) → has_given b.name cs ≡ false
    → calls_super b.body ≡ true → lacks_next (bs ++ b ∷ cs) ≡ true
none_next bs b cs n h = search (arith, rules, none_behind, reflexive, any_here, lacks_front)

pub next_lacking : (bs : List BlockBody) (b : BlockBody) (cs : List BlockBody) → has_given b.name cs ≡ false
    → calls_super b.body ≡ true → lacks_super (named b.name (bs ++ b ∷ cs)) ≡ true
next_lacking bs b cs n h =
    lacks_front b.name bs (b ∷ cs) (rw (reflexive b.name, h, none_behind b.name cs, n) refl)

-- ---- one element more

module _ {X : Type 0} (xs : List X) (i : ℕ) (x : X) (lt : i < length xs) (is : x ≡ get_or xs i x) where
  pub from_here : drop i xs ≡ x ∷ drop (i + 1) xs
  from_here = rw (drop_more xs i x lt, ← is)

  pub parted : xs ≡ take i xs ++ x ∷ drop (i + 1) xs
  parted = sym (take-append-drop i xs) ∙ ap (λ l. take i xs ++ l) from_here

  pub take_next : take (i + 1) xs ≡ take i xs ++ x ∷ []
  take_next = rw (take_more xs i x lt, ← is)

  -- Its name comes before exactly if its position is not the first one of the name.
  module _ (f : X → Text) where
    abbrev before : List Text
    before = map f (take i xs)

    first_after : (n : ℕ) → first_of (f x) n (map f xs) ≡ first_of (f x) n (before ++ f x ∷ map f (drop (i + 1) xs))
    first_after n = ap (first_of (f x) n) (ap (map f) parted ∙ map-append f (take i xs) _)

    count : 0 + length before ≡ i
    count = omega (arith, length-map (take i xs) f, length-take-le i xs (omega (arith, lt)))

    is_new : first_of (f x) 0 (map f xs) ≡ Some i → among (f x) before ≡ false
    is_new e = first_new 0 (f x) before _ (sym (first_after 0) ∙ e ∙ ap (λ k. Some k) (sym count))

    is_known : (first_of (f x) 0 (map f xs) ≡ Some i → ⊥) → among (f x) before ≡ true
    is_known n = search (arith, rules, true_from_ne_false, first_after, first_here, count)

    pub repeat_found : (first_of (f x) 0 (map f xs) ≡ Some i → ⊥) → repeated (map f xs) ≡ true
    repeat_found n =
        ap repeated (ap (map f) parted ∙ map-append f (take i xs) _)
        ∙ comes_again of_texts (f x) before _ (is_known n)

    pub repeat_counted : (first_of (f x) 0 (map f xs) ≡ Some i → ⊥) → 2 ≤ times (f x) (map f xs)
    repeat_counted n =
        subst (λ l. 2 ≤ times (f x) l) (sym (ap (map f) parted ∙ map-append f (take i xs) _))
        (twice_there (f x) before _ (is_known n))

    pub repeat_goes : first_of (f x) 0 (map f xs) ≡ Some i → repeated before ≡ false
        → repeated (map f (take (i + 1) xs)) ≡ false
    repeat_goes e o =
        ap repeated (ap (map f) take_next ∙ map-append f (take i xs) (x ∷ []))
        ∙ once_more of_texts (f x) before o (is_new e)

-- ---- lists of bodies

module _ (ts : List Template) (xs : List Block) (i : ℕ) (x : Block) (lt : i < length xs) (is : x ≡ get_or xs i x) where
  abbrev bs : List BlockBody
  bs = blocks_view ts xs

  within : i < length bs
  within = omega (arith, lt, length-map xs (block_view ts))

  at : block_view ts x ≡ get_or bs i (block_view ts x)
  at = sym (get_or_from_slice_get bs i _ _ (map_at (block_view ts) xs i x lt is))

  pub body_lacking : x.required ≡ true → first_of x.name.now 0 (names_of bs) ≡ Some i → lacks_body bs ≡ true
  body_lacking r e =
      ap lacks_body (parted bs i (block_view ts x) within at)
      ∙ none_given (take i bs) (block_view ts x) _ (is_new bs i (block_view ts x) within at (λ b. b.name) e) r

  pub body_required : x.required ≡ true → first_of x.name.now 0 (names_of bs) ≡ Some i
      → is_required (named x.name.now bs) ≡ true
  body_required r e =
      ap (λ l. is_required (named x.name.now l)) (parted bs i (block_view ts x) within at)
      ∙ none_required (take i bs) (block_view ts x) _ (is_new bs i (block_view ts x) within at (λ b. b.name) e) r

  pub body_goes : (first_of x.name.now 0 (names_of bs) ≡ Some i → x.required ≡ false) → AreGiven (take i bs)
      → AreGiven (take (i + 1) bs)
  body_goes off g = rw (take_next bs i (block_view ts x) within at) (given_more (take i bs) (block_view ts x) g
      (by x.required refl))
    where
      by : (r : Bool) → x.required ≡ r → (not (among x.name.now (names_of (take i bs))) && r) ≡ false
      by false h = and_right _ _ refl
      by true h =
          ap (λ b. not b && true)
          (is_known bs i (block_view ts x) within at (λ b. b.name) (λ e. both_ways _ (off e) h))

-- ---- templates at indices, one more

nothing : Template
nothing = record { name = []; body = end }

module _ (e : Bool) (ts : List Template) (is : List ℕ) (k : ℕ) (lt : k < length is) (within : get_or is k 0 < length ts)
    (xs : List Block) (b : Bool)
    (seen : blocks_view ts xs ≡ blocks_in (name_at ts (get_or is k 0)) (body_at ts (get_or is k 0)) e)
    (told : b ≡ repeated (names_of (blocks_view ts xs))) where
  pub double_left : any_double e (templates_at ts (drop k is)) ≡ (b || any_double e (templates_at ts (drop (k + 1) is)))
  double_left = rw (told, seen, drop_more is k 0 lt, slice_get-get_or ts (get_or is k 0) nothing within) refl

-- ---- lists of bodies, visited from the last to the first

module _ (ts : List Template) (xs : List Block) (k i : ℕ) (x : Block) (lt : i < length xs) (is : x ≡ get_or xs i x)
    (next : k ≡ i + 1) where
  after_here : blocks_view ts (drop i xs) ≡ block_view ts x ∷ blocks_view ts (drop k xs)
  after_here = rw next (ap (blocks_view ts) (from_here xs i x lt is))

  pub next_found : has_given x.name.now (blocks_view ts (drop k xs)) ≡ false → calls_super (block_view ts x).body ≡ true
      → lacks_next (blocks_view ts xs) ≡ true
  next_found n h =
      ap (λ (l : List Block). lacks_next (blocks_view ts l)) (sym (take-append-drop i xs))
      ∙ ap lacks_next (map-append (block_view ts) (take i xs) (drop i xs)
      ∙ ap (λ l. blocks_view ts (take i xs) ++ l) after_here)
      ∙ none_next (blocks_view ts (take i xs)) (block_view ts x) (blocks_view ts (drop k xs)) n h

  pub next_lacks : has_given x.name.now (blocks_view ts (drop k xs)) ≡ false
      → calls_super (block_view ts x).body ≡ true → lacks_super (named x.name.now (blocks_view ts xs)) ≡ true
  next_lacks n h =
      ap (λ (l : List Block). lacks_super (named x.name.now (blocks_view ts l))) (sym (take-append-drop i xs))
      ∙ ap (λ l. lacks_super (named x.name.now l)) (map-append (block_view ts) (take i xs) (drop i xs)
      ∙ ap (λ l. blocks_view ts (take i xs) ++ l) after_here)
      ∙ next_lacking (blocks_view ts (take i xs)) (block_view ts x) (blocks_view ts (drop k xs)) n h

  pub next_goes : (has_given x.name.now (blocks_view ts (drop k xs)) ≡ false
      → calls_super (block_view ts x).body ≡ false) → HaveNext (blocks_view ts (drop k xs))
      → HaveNext (blocks_view ts (drop i xs))
  next_goes off n = rw after_here (next_more (block_view ts x) (blocks_view ts (drop k xs)) n (by _ refl))
    where
      by : (b : Bool) → has_given x.name.now (blocks_view ts (drop k xs)) ≡ b
          → (not (has_given x.name.now (blocks_view ts (drop k xs))) && calls_super (block_view ts x).body) ≡ false
      by true h = rw h
      by false h = and_right _ _ (off h)

  pub given_goes : (old new : Bool) (y : Text) → old ≡ has_given y (blocks_view ts (drop k xs))
      → new ≡ ((bytes_eq x.name.now y && not x.required) || old) → new ≡ has_given y (blocks_view ts (drop i xs))
  given_goes old new y h m = rw after_here (m ∙ ap (λ b. (bytes_eq x.name.now y && not x.required) || b) h)

-- The bodies that are given after the name of one that is not required was put into a map.
pub given_put : (old new : Option ℕ) (b r : Bool) (i : ℕ) → new ≡ (if b then Some i else old) → r ≡ false
    → is_some new ≡ ((b && not r) || is_some old)
given_put old new true r i e h = rw e (rw h refl)
given_put old new false r i e h = rw e refl

pub given_kept : (old b r : Bool) → r ≡ true → old ≡ ((b && not r) || old)
given_kept old true r h = rw h refl
given_kept old false r h = refl
