-- The first occurrences of names in lists, and bodies of blocks by their indices.
pub mod Vocabulary
pub use Vocabulary.*

-- Names in slots.
pub in_slots : (x : Text) (n : ℕ) (xs : List Text) → option_map global (first_of x n xs) ≡ slot_in x (globals_from n xs)
in_slots x n [] = refl
in_slots x n (y ∷ ys) = search (arith, rules, in_slots x (suc n) ys)

-- Bodies of a block.
pub first_bodies : (x : Text) (n : ℕ) (bs : List BlockBody)
    → first_of x n (map (λ b. b.name) bs) ≡ first_body (filter (λ b. bytes_eq b.1.name x) (counted_from n bs))
first_bodies x n [] = refl
first_bodies x n (b ∷ bs) = search (arith, rules, first_bodies x (suc n) bs)

-- Chains and libraries. The number of a later one is one more than among the later ones.
later_namespace : (h : Namespace) (n : ℕ) (hs : List Namespace)
    → first_namespace h (suc n) hs ≡ option_map suc (first_namespace h n hs)
later_namespace h n [] = refl
later_namespace h n (k ∷ hs) = search (arith, rules, later_namespace h (suc n) hs)

from : (h : Namespace) (hs : List Namespace) → IsNamespaceAt hs h (first_namespace h 0 hs)
from h [] = refl
from h (k ∷ hs) = rw (later_namespace h 0 hs) (by (same_namespace k h) refl (first_namespace h 0 hs) (from h hs))
  where
    by : (b : Bool) → same_namespace k h ≡ b → (o : Option ℕ) → IsNamespaceAt hs h o
        → IsNamespaceAt (k ∷ hs) h (if b then Some 0 else option_map suc o)
    by true e o r = (omega arith, namespace_same k h e)
    by false e None r = ap (λ b. b || listed h hs) e ∙ r
    by false e (Some i) r = (omega (arith, r.0), r.1)

pub is_namespace : (h : Namespace) (order : List Namespace) (o : Option ℕ) → o ≡ first_namespace h 0 order
    → IsNamespaceAt order h o
is_namespace h order o e = rw e (from h order)

-- ---- chains and libraries by their indices

pub namespaces_left : (hs : List Namespace) (i : ℕ) → i < length hs → drop i hs ≡ namespace_at hs i ∷ drop (i + 1) hs
namespaces_left hs i lt = search (arith, rules, drop_more, unwrap_or-slice_get)

-- ---- the first macro of a name

later_name : (x : Text) (n : ℕ) (xs : List Text) → first_of x (suc n) xs ≡ option_map suc (first_of x n xs)
later_name x n [] = refl
later_name x n (y ∷ ys) = search (arith, rules, later_name x (suc n) ys)

module _ (ts : List Template) (x : Text) where
  -- The first macro of the name, at its index.
  pub record AtFirst (ms : List Macro) (j : ℕ) : Type 0 where
    pub code : Macro
    pub found : slice_get ms j ≡ Some code
    pub named : code.name.now ≡ x
    pub meant : macro_of x (map (macro_view ts) ms) ≡ Some (macro_view ts code)
    pub default : (d : ℕ)
        → slice_get (defaults_from d (map (macro_view ts) ms)) j ≡ Some (d + first_default x (map (macro_view ts) ms))
    pub unit : (h : Namespace) (rest : List Key)
        → index_of (of_macro h x) (map (λ m. of_macro h m.name) (map (macro_view ts) ms) ++ rest) ≡ j

  pub first_macro : (ms : List Macro) (k : ℕ) → Some k ≡ first_of x 0 (map (λ m. m.name.now) ms) → AtFirst ms k
  first_macro [] k e = absurd (cc)
  first_macro (m ∷ ms) k e =
      by (bytes_eq m.name.now x) refl (first_of x 0 names) (first_macro ms) (rw (later_name x 0 names) at e)
    where
      names : List Text
      names = map (λ (n : Macro). n.name.now) ms

      size : ℕ
      size = length (parameters_view m.parameters.now)

      by : (b : Bool) → bytes_eq m.name.now x ≡ b → (o : Option ℕ) → ((j : ℕ) → Some j ≡ o → AtFirst ms j)
          → Some k ≡ (if b then Some 0 else option_map suc o) → AtFirst (m ∷ ms) k
      by true q o g f =
          let is : 0 ≡ k = cc in
          subst (AtFirst (m ∷ ms)) is (record {
            code = m;
            found = refl;
            named = same_text m.name.now x q;
            meant = search (arith, rules);
            default = λ d. search (arith, rules);
            unit = λ h ks. search (arith, rules, namespace_is);
          })
      by false q None g f = absurd (cc)
      by false q (Some j) g f =
          let a = g j refl in
          let is : suc j ≡ k = cc in
          subst (AtFirst (m ∷ ms)) is (record {
            code = a.code;
            found = a.found;
            named = a.named;
            meant = search (arith, rules, a.meant);
            default = λ d. search (arith, rules, a.default (d + size));
            unit = λ h ks. search (arith, rules, namespace_is, a.unit h ks);
          })

  pub no_macro : (ms : List Macro) (n : ℕ) → None ≡ first_of x n (map (λ m. m.name.now) ms)
      → macro_of x (map (macro_view ts) ms) ≡ None
  no_macro [] n e = refl
  no_macro (m ∷ ms) n e = search (arith, rules, no_macro ms (suc n))

-- ---- bodies of blocks

pub length-counted : {A : Type 0} (n : ℕ) (xs : List A) → length (counted_from n xs) ≡ length xs
length-counted n [] = refl
length-counted n (x ∷ xs) = ap suc (length-counted (suc n) xs)

pub length-nexts : (bs : List (ℕ × BlockBody)) → length (nexts bs) ≡ length bs
length-nexts [] = refl
length-nexts (b ∷ bs) = ap suc (length-nexts bs)

-- The next body at each index.
pub next_at : (all : List (ℕ × BlockBody)) (i : ℕ) (n : Option ℕ) → slice_get (nexts all) i ≡ Some n
    → (c : ℕ × BlockBody) (bs : List (ℕ × BlockBody)) → drop i all ≡ c ∷ bs
    → n ≡ next_given (filter (λ d. bytes_eq d.1.name c.1.name) bs)
next_at [] i n e c bs d = absurd (cc)
next_at (a ∷ all) zero n e c bs d = search (arith, rules)
next_at (a ∷ all) (suc i) n e c bs d = next_at all i n e c bs d

-- ---- one body more, from the last one to the first

module _ (ts : List Template) (bs : List Block) (i m : ℕ) (b : Block) (lt : i < length bs) (is : b ≡ get_or bs i b)
    (e : m ≡ i + 1) where
  abbrev pub behind : List (ℕ × BlockBody)
  behind = counted_from m (map (block_view ts) (drop m bs))

  pub numbered_left : counted_from i (map (block_view ts) (drop i bs)) ≡ (i, block_view ts b) ∷ behind
  numbered_left = search (arith, rules, drop_more, add-one)

  abbrev given : Text → List (ℕ × BlockBody) → Option ℕ
  given x l = next_given (filter (λ c. bytes_eq c.1.name x) l)

  -- A body that is not required, and one that is.
  pub given_turn : (x : Text) (p q : Option ℕ) → b.required ≡ false → q ≡ (if bytes_eq b.name.now x then Some i else p)
      → p ≡ given x behind → q ≡ given x (counted_from i (map (block_view ts) (drop i bs)))
  given_turn x p q r s t = search (arith, rules, numbered_left)

  pub required_turn : (x : Text) (p : Option ℕ) → b.required ≡ true → p ≡ given x behind
      → p ≡ given x (counted_from i (map (block_view ts) (drop i bs)))
  required_turn x p r t = search (arith, rules, numbered_left)

  pub nexts_turn : (p : Option ℕ) (old : List (Option ℕ)) → i < length old → p ≡ given b.name.now behind
      → drop m old ≡ nexts behind
      → drop i (set old i p) ≡ nexts (counted_from i (map (block_view ts) (drop i bs)))
  nexts_turn p old le s t = search (arith, rules, drop-set, numbered_left)
