-- Tables of the numbers of templates and of namespaces: lookup, and the effect of an insertion.
use Rattle.jt_inherit.proofs.Vocabulary as words
use words.{◌≡◌, ℕ, suc, ◌+◌, Bool, true, false, cond, if◌then◌else◌, List, [], ◌∷◌, ◌++◌, length, refl, sym, ap, ◌∙◌}
use words.{arith, Some, None, rules, Option, string_bytes, MatchOption, not, length-append, AreAt, index_of}
use words.{TemplateFile, files_view, names, is_named, unwrap_or, length-map, slice_get, get_by_text, list_any}
use words.{position_from, bytes_eq, Text, Table, AreNumbers, same, slice_get-map, among, append-nil}
use words.{Namespace, a_chain, a_library, same_namespace, listed, chains_of, key_view, keys_view, NamespaceKey, is_kind}
use words.{keyed, chains_both}
use Rattle.std.specs.Result.{is_ok, IsOk}
use Rattle.std.specs.declared.result.Result.{Result}
use Rattle.jt_inherit.proofs.NamespaceMembership as namespaces

-- A push that succeeds appends the item.
pub pushed : {A T E : Type 0} (r : Result T E) (now xs new : List A) (x : A)
    → new ≡ (if is_ok r then now ++ x ∷ [] else now) → IsOk r → now ≡ xs → new ≡ xs ++ x ∷ []
pushed r now xs new x e ok is = e ∙ ap (λ b. if b then now ++ x ∷ [] else now) ok ∙ ap (λ l. l ++ x ∷ []) is

-- ---- the first item that passes a test

module _ {A : Type 0} (p : A → Bool) where
  pub first_none : (i : ℕ) (xs : List A) → position_from p i xs ≡ None → list_any p xs ≡ false
  first_none i [] e = refl
  first_none i (x ∷ xs) e = search (arith, rules, first_none (i + 1) xs)

  abbrev IsFirst : ℕ → List A → ℕ → Type 0
  IsFirst i xs j = (d : ℕ) × (y : A) × (j ≡ i + d) × (slice_get xs d ≡ Some y) × (p y ≡ true)

  pub first_found : (i : ℕ) (xs : List A) (j : ℕ) → position_from p i xs ≡ Some j → IsFirst i xs j
  first_found i [] j e = absurd (cc)
  first_found i (x ∷ xs) j e = by (p x) refl (first_found (i + 1) xs j)
    where
      by : (b : Bool) → p x ≡ b → (position_from p (i + 1) xs ≡ Some j → IsFirst (i + 1) xs j) → IsFirst i (x ∷ xs) j
      by true h r =
          let k = (rw h at e) in
          let at : i ≡ j = cc in
          (0, x, omega (arith, at), refl, h)
      by false h r =
          let q = r (rw h at e) in
          (suc q.0, q.1, omega (arith, q.2), q.3, q.4)

  pub first_more : (i : ℕ) (xs : List A) (y : A) → list_any p xs ≡ false
      → position_from p i (xs ++ y ∷ []) ≡ cond (p y) (Some (i + length xs)) None
  first_more i [] y n = search (arith, rules)
  first_more i (x ∷ xs) y n = search (arith, rules, first_more (i + 1) xs y)

  pub first_same : (i : ℕ) (xs : List A) (y : A) → p y ≡ false → position_from p i (xs ++ y ∷ []) ≡ position_from p i xs
  first_same i [] y h = rw h
  first_same i (x ∷ xs) y h = rw (first_same (i + 1) xs y h)

-- ---- one item more

module _ {A : Type 0} (is : Text → A → Bool) (xs : List A) where
  -- The table gets the number of the appended item.
  numbers_more : (m n : Table) (x : Text) (i : ℕ) (y : A) → AreNumbers is xs m → ((z : Text) → is z y ≡ bytes_eq x z)
      → list_any (is x) xs ≡ false → i ≡ length xs
      → ((z : Text) → get_by_text n z ≡ cond (bytes_eq x z) (Some i) (get_by_text m z)) → AreNumbers is (xs ++ y ∷ []) n
  numbers_more m n x i y k one new at more z = search (arith, rules, same, first_more, first_same)

  -- The table stays as it is if none of its names is that of the appended item.
  numbers_same : (m : Table) (y : A) → AreNumbers is xs m → ((z : Text) → is z y ≡ false)
      → AreNumbers is (xs ++ y ∷ []) m
  numbers_same m y k none z = k z ∙ sym (first_same (is z) 0 xs y (none z))

any_file : (x : Text) (ps : List TemplateFile) → list_any (is_named x) ps ≡ among x (names (files_view ps))
any_file x [] = refl
any_file x (p ∷ ps) = rw (any_file x ps)

pub file_found : (x : Text) (ps : List TemplateFile) (m : Table) (r : Option ℕ) → AreNumbers is_named ps m
    → r ≡ get_by_text m x
    → MatchOption r (among x (names (files_view ps)) ≡ false) (λ i. slice_get (names (files_view ps)) i ≡ Some x)
file_found x ps m a3 k e = search (arith, rules, any_file, first_none, first_found, slice_get-map, string_bytes, same)

pub file_put : (ps qs : List TemplateFile) (p : TemplateFile) (m n : Table) (x : Text) (i : ℕ)
    → AreNumbers is_named ps m → among (string_bytes p.name) (names (files_view ps)) ≡ false → qs ≡ ps ++ p ∷ []
    → x ≡ string_bytes p.name → i ≡ length ps
    → ((z : Text) → get_by_text n z ≡ cond (bytes_eq x z) (Some i) (get_by_text m z)) → AreNumbers is_named qs n
file_put ps qs p m n x i told new all name at more =
    rw all (numbers_more is_named ps m n x i p told (λ z. ap (λ b. bytes_eq b z) (sym name))
    (rw name (any_file _ ps ∙ new)) at more)

file_at : (x : Text) (i : ℕ) (ps : List TemplateFile)
    → unwrap_or (position_from (is_named x) i ps) (i + length ps) ≡ i + index_of (files_view ps) x
file_at x i [] = refl
file_at x i (p ∷ ps) = search (arith, rules, file_at x (i + 1) ps)

-- The table has the index of the first template of each name.
pub files_at : (ps : List TemplateFile) (m : Table) → AreNumbers is_named ps m → AreAt (files_view ps) m
files_at ps m told x = search (arith, rules, file_at x 0 ps, length-map)

pub any_namespace : (h : Namespace) (ks : List NamespaceKey)
    → list_any (λ k. same_namespace h (key_view k)) ks ≡ listed h (keys_view ks)
any_namespace h [] = refl
any_namespace h (k ∷ ks) = search (arith, rules, list_any, same_namespace, key_view, any_namespace h ks)

pub namespace_found : (h : Namespace) (ks : List NamespaceKey) (r : Option ℕ)
    → r ≡ position_from (λ k. same_namespace h (key_view k)) 0 ks
    → MatchOption r (listed h (keys_view ks) ≡ false) (λ i. slice_get (keys_view ks) i ≡ Some h)
namespace_found h ks a2 e = search (arith, rules, any_namespace, first_none, first_found, slice_get-map)

-- ---- chains and libraries

pub is_chain : (k : NamespaceKey) → k.is_library ≡ false → key_view k ≡ a_chain (string_bytes k.name)
is_chain k e = rw e

pub is_library : (k : NamespaceKey) → k.is_library ≡ true → key_view k ≡ a_library (string_bytes k.name)
is_library k e = rw e

-- ---- the numbers after an insertion

kind_same : (b : Bool) (x y : Text) → same_namespace (keyed b x) (keyed b y) ≡ bytes_eq y x
kind_same true x y = namespaces.symmetric (a_library x) (a_library y)
kind_same false x y = namespaces.symmetric (a_chain x) (a_chain y)

kind_apart : (b : Bool) (x y : Text) → same_namespace (keyed (not b) x) (keyed b y) ≡ false
kind_apart true x y = refl
kind_apart false x y = refl

-- A library gets its number among the libraries, and a chain among the chains.
pub namespace_put : (b : Bool) (ks qs : List NamespaceKey) (k : NamespaceKey) (m n o : Table) (x : Text) (i : ℕ)
    → AreNumbers (is_kind b) ks m → AreNumbers (is_kind (not b)) ks o → k.is_library ≡ b
    → listed (key_view k) (keys_view ks) ≡ false → qs ≡ ks ++ k ∷ [] → x ≡ string_bytes k.name → i ≡ length ks
    → ((z : Text) → get_by_text n z ≡ cond (bytes_eq x z) (Some i) (get_by_text m z))
    → AreNumbers (is_kind b) qs n × AreNumbers (is_kind (not b)) qs o
namespace_put b ks qs k m n o x i told others is new all name at more =
    let same_key : keyed b x ≡ key_view k =
    ap (keyed b) name ∙ ap (λ d. keyed d (string_bytes k.name)) (sym is) in
    rw all (
      numbers_more (is_kind b) ks m n x i k told (λ z. ap (same_namespace (keyed b z)) (sym same_key) ∙ kind_same b z _)
          (any_namespace _ ks ∙ ap (λ h. listed h (keys_view ks)) same_key ∙ new) at more,
      numbers_same (is_kind (not b)) ks o k others (λ z.
          ap (λ d. same_namespace (keyed (not b) z) (keyed d (string_bytes k.name))) is ∙ kind_apart b z _),
    )

-- The number of chains after the insertion of a library or a chain.
pub library_more : (old new : List Namespace) (k : NamespaceKey) (h : Namespace) → new ≡ old ++ h ∷ [] → h ≡ key_view k
    → k.is_library ≡ true → length (chains_of new) ≡ length (chains_of old)
library_more old new k h e same_key is =
    search (arith, rules, chains_of, is_library, chains_both, a_library, string_bytes, append-nil)

pub chain_more : (old new : List Namespace) (k : NamespaceKey) (h : Namespace) → new ≡ old ++ h ∷ [] → h ≡ key_view k
    → k.is_library ≡ false → length (chains_of new) ≡ length (chains_of old) + 1
chain_more old new k h e same_key is =
    search (arith, rules, chains_of, is_chain, chains_both, a_chain, string_bytes, length-append)
