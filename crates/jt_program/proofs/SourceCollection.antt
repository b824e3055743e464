-- One more file among the sources of a directory.
use Rattle.std.proofs.Common.{◌≡◌, ◌≢◌, ⊎_elim, ℕ, List, [], ◌∷◌, ◌++◌, Bool, true, false, Option, Some, None, bytes_eq}
use Rattle.std.proofs.Common.{◌∙◌, length, refl, sym, subst, arith, map, String, Global, string_bytes}
use Rattle.std.specs.Prelude.{Contains, IsPermutation}
use Rattle.std.specs.Str.{IsUtf8}
use Rattle.std.proofs.lemmas.List.Elements.{Contains-append_left, Contains-append_right, Contains-push}
use Rattle.std.proofs.lemmas.List.Elements.{Contains-push_cases}
use Rattle.std.proofs.lemmas.List.Sorted.{Contains-permutation, IsPermutation-sym}
use Rattle.std.proofs.lemmas.List.{map-append}
use Rattle.std.proofs.lemmas.Bool.{false≢true}
use Rattle.std.proofs.lemmas.Slice.Eq.{bytes_eq-Decides}
use Rattle.jt_inherit.specs.Chains.{SourceTexts}
use Rattle.jt_ast.specs.Expressions.{Text}
use Rattle.jt_program.specs.Files.{AreSources, IsSource, Known, path_in}

module _ (files : Known) (dir : Text) where
  -- Every other name keeps its source.
  other_name : (names : List Text) (name n : Text) → n ≢ name → (o : Option Text) → IsSource files dir names n o
      → IsSource files dir (names ++ name ∷ []) n o
  other_name names name n d (Some source) h = (Contains-append_left names (name ∷ []) n h.0, h.1, h.2)
  other_name names name n d None h = λ c. ⊎_elim h (λ e. absurd (d (sym e))) (Contains-push_cases names name n c)

  -- After a file that is not a text, each name keeps its source, or has none.
  no_source : (names : List Text) (name bytes n : Text) → files.holds (path_in dir name) bytes → (IsUtf8 bytes → ⊥)
      → (o : Option Text) → IsSource files dir names n o
      → IsSource files dir (names ++ name ∷ []) n o
  no_source names name bytes n held bad (Some source) h = (Contains-append_left names (name ∷ []) n h.0, h.1, h.2)
  no_source names name bytes n held bad None h = λ c.
      ⊎_elim h (λ e. (bytes, subst (λ m. files.holds (path_in dir m) bytes) e held, bad))
      (Contains-push_cases names name n c)

  one_more : (names : List Text) (old new : SourceTexts) (name source n : Text) → files.holds (path_in dir name) source
      → IsUtf8 source → new name ≡ Some source
      → ((other : Text) → other ≢ name → new other ≡ old other) → IsSource files dir names n (old n)
      → (b : Bool) → bytes_eq n name ≡ b → IsSource files dir (names ++ name ∷ []) n (new n)
  one_more names old new name source n held valid here others h true e =
      subst (λ m. IsSource files dir (names ++ name ∷ []) m (new m)) (sym ((bytes_eq-Decides n name).0 e))
      (subst (IsSource files dir (names ++ name ∷ []) name) (sym here) (Contains-push names name, held, valid))
  one_more names old new name source n held valid here others h false e =
      let differs : n ≢ name = λ same. absurd (false≢true (sym e ∙ (bytes_eq-Decides n name).1 same)) in
      subst (IsSource files dir (names ++ name ∷ []) n) (sym (others n differs))
      (other_name names name n differs (old n) h)

  -- A file that is a text is the source of its name.
  pub text_read : (names : List Text) (old new : SourceTexts) (name source : Text)
      → files.holds (path_in dir name) source → IsUtf8 source → new name ≡ Some source
      → ((other : Text) → other ≢ name → new other ≡ old other) → AreSources files dir names old
      → AreSources files dir (names ++ name ∷ []) new
  text_read names old new name source held valid here others each n =
      one_more names old new name source n held valid here others (each n) (bytes_eq n name) refl

  -- A file that is not a text is no source.
  pub no_text_read : (names : List Text) (sources : SourceTexts) (name bytes : Text)
      → files.holds (path_in dir name) bytes → (IsUtf8 bytes → ⊥)
      → AreSources files dir names sources → AreSources files dir (names ++ name ∷ []) sources
  no_text_read names sources name bytes held bad each n = no_source names name bytes n held bad (sources n) (each n)

  reordered_one : (xs ys : List Text) (n : Text) → IsPermutation xs ys → (o : Option Text) → IsSource files dir ys n o
      → IsSource files dir xs n o
  reordered_one xs ys n p (Some source) h = (Contains-permutation ys xs n (IsPermutation-sym xs ys p) h.0, h.1, h.2)
  reordered_one xs ys n p None h = λ c. h (Contains-permutation xs ys n p c)

  -- The order of the names does not matter.
  pub reordered : (xs ys : List Text) (sources : SourceTexts) → IsPermutation xs ys → AreSources files dir ys sources
      → AreSources files dir xs sources
  reordered xs ys sources p each n = reordered_one xs ys n p (sources n) (each n)

  no_name : (n : Text) → Contains [] n → ⊥
  no_name n c = let lt = c.1 in omega arith

  -- No name has a source at first.
  pub none_read : (sources : SourceTexts) → ((n : Text) → sources n ≡ None) → AreSources files dir [] sources
  none_read sources h n = subst (IsSource files dir [] n) (sym (h n)) (λ c. absurd (no_name n c))

-- A list of length 0 is empty.
pub nil_of : {X : Type 0} (xs : List X) (n : ℕ) → length xs ≡ n → n ≡ 0 → xs ≡ []
nil_of [] n e z = refl
nil_of (x ∷ xs) n e z = absurd (omega (arith, e, z))

-- A name between other names is listed, in whatever order.
pub listed_between : (given : List Text) (before left : List (String Global)) (name : String Global)
    → IsPermutation given (map string_bytes (before ++ name ∷ left))
    → Contains given (string_bytes name)
listed_between given before left name p =
    let names = map string_bytes (before ++ name ∷ left) in
    let there : Contains (map string_bytes before ++ string_bytes name ∷ map string_bytes left) (string_bytes name) =
    Contains-append_right (map string_bytes before) (string_bytes name ∷ map string_bytes left) (string_bytes name)
    (0, omega arith, refl) in
    Contains-permutation names given (string_bytes name) (IsPermutation-sym given names p)
    (subst (λ (ns : List Text). Contains ns (string_bytes name)) (sym (map-append string_bytes before (name ∷ left)))
    there)
