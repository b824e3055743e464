-- The name of a file by its path, and the names that a disk lists.
use Rattle.std.proofs.Common.{◌≡◌, ◌↔◌, ◌⊎◌, ◌∙◌, ◌<◌, ◌++◌, ◌∷◌, [], Bool, Bor, Decides, Global, List, None, Option}
use Rattle.std.proofs.Common.{Some, String, Vec, ap, arith, false, get_or, inl, inr, length, map, option_map, refl}
use Rattle.std.proofs.Common.{string_bytes, subst, sym, true, ℕ, ⊎_elim}
use Rattle.std.specs.Prelude.{Contains, IsSome}
use Rattle.std.specs.BTreeMap.{get_by_text, is_at, keys}
use Rattle.std.specs.Map.{keys_of, lookup}
use Rattle.std.specs.Str.Pattern.{FindsTextPrefix, StripsPrefix}
use Rattle.std.proofs.lemmas.Bool.{false≢true}
use Rattle.std.proofs.lemmas.List.{append_cancel_left, get_or_default}
use Rattle.std.proofs.lemmas.List.Elements.{Contains-append_cases, Contains-append_left, Contains-append_right}
use Rattle.std.proofs.lemmas.List.Elements.{Contains-push, Contains-push_cases}
use Rattle.std.proofs.lemmas.Map.Text.{is_eq-slice_cmp, text_cmp}
use Rattle.std.proofs.lemmas.Slice.Eq.{bytes_eq-Decides}
use Rattle.jt_program.specs.Files.{path_in}
use Rattle.jt_disk.specs.declared.disk.Disk.{Disk}
use Rattle.jt_disk.specs.Disk.{AreNamesIn, IsName}

-- A text with a prefix is the prefix and the rest after it.
pub stripped : (front text rest : List ℕ) → StripsPrefix (FindsTextPrefix front) text rest → text ≡ front ++ rest
stripped front text rest s = s.1.1 ∙ ap (λ r. front ++ r) (sym s.2)

-- A path in a directory has one name.
pub same_name : (dir x y : List ℕ) → path_in dir x ≡ path_in dir y → x ≡ y
same_name dir x y e = let same = append_cancel_left dir (47 ∷ x) (47 ∷ y) e in cc

-- A slash that a text contains has an index.
pub slash_at : (text : List ℕ) → Contains text 47 → (k : ℕ) × (k < length text) × (get_or text k 0 ≡ 47)
slash_at text (k, lt, e) = (k, lt, get_or_default text k 0 47 lt ∙ e)

pub slash_from : (text : List ℕ) → (k : ℕ) × (k < length text) × (get_or text k 0 ≡ 47) → Contains text 47
slash_from text (k, lt, e) = (k, lt, get_or_default text k 47 0 lt ∙ e)

-- A name is in the list exactly if one of these paths is that of a file of this name directly in
-- the directory.
abbrev pub AreNamesOf : List ℕ → List (List ℕ) → List (List ℕ) → Type 0
AreNamesOf dir paths names = (name : List ℕ) → (Contains names name) ↔ (IsName name × Contains paths (path_in dir name))

-- One more path that has a name adds this name.
pub name_taken : (dir : List ℕ) (paths names : List (List ℕ)) (path name : List ℕ) → AreNamesOf dir paths names
    → path ≡ path_in dir name → IsName name
    → AreNamesOf dir (paths ++ path ∷ []) (names ++ name ∷ [])
name_taken dir paths names path name all at is n =
    let more = paths ++ path ∷ [] in (
      λ c. ⊎_elim (λ old. let h = (all n).0 old in (h.0, Contains-append_left paths (path ∷ []) (path_in dir n) h.1))
          (λ e. (
            subst IsName e is,
            subst (λ m. Contains more (path_in dir m)) e (subst (Contains more) at (Contains-push paths path)),
          )) (Contains-push_cases names name n c),
      λ h. ⊎_elim (λ old. Contains-append_left names (name ∷ []) n ((all n).1 (h.0, old)))
          (λ e. subst (Contains (names ++ name ∷ [])) (same_name dir name n (sym at ∙ e)) (Contains-push names name))
          (Contains-push_cases paths path (path_in dir n) h.1),
    )

-- One more path that has no name adds none.
pub no_name_taken : (dir : List ℕ) (paths names : List (List ℕ)) (path : List ℕ) → AreNamesOf dir paths names
    → ((name : List ℕ) → path ≡ path_in dir name → IsName name → ⊥)
    → AreNamesOf dir (paths ++ path ∷ []) names
no_name_taken dir paths names path all none n = (
  λ c. let h = (all n).0 c in (h.0, Contains-append_left paths (path ∷ []) (path_in dir n) h.1),
  λ h. ⊎_elim (λ old. (all n).1 (h.0, old)) (λ e. absurd (none n e h.0))
      (Contains-push_cases paths path (path_in dir n) h.1),
)

-- ---- the paths of a disk

-- The path that a key is.
abbrev pub path_of : Bor (String Global) → List ℕ
path_of path = string_bytes path.now

abbrev File : Type 0
File = String Global × Vec ℕ Global

-- A path is that of one of the files exactly if a search finds a file at it.
abbrev IsFound : List File → List ℕ → Type 0
IsFound files path = (Contains (map string_bytes (keys_of files)) path) ↔ IsSome (lookup (is_at (text_cmp path)) files)

-- A key is at a path exactly if it is this path.
at_path : (path : List ℕ) (key : String Global) → Decides (is_at (text_cmp path) key) (path ≡ string_bytes key)
at_path path key = rw (is_eq-slice_cmp path (string_bytes key)) (bytes_eq-Decides path (string_bytes key))

-- An element of a list is the first, or in the rest.
first_or_other : (x : List ℕ) (xs : List (List ℕ)) (y : List ℕ) → Contains (x ∷ xs) y → (x ≡ y) ⊎ Contains xs y
first_or_other x xs y (k, lt, e) =
    ⊎_elim (λ first.
    ⊎_elim (λ none. let n = none.1 in absurd (omega arith)) (λ same. inl same) (Contains-push_cases [] x y first))
    (λ other. inr other)
    (Contains-append_cases (x ∷ []) xs y (k, lt, e))

found_more : (file : File) (files : List File) (path : List ℕ) → IsFound files path → (b : Bool)
    → is_at (text_cmp path) file.0 ≡ b → IsFound (file ∷ files) path
found_more file files path h true e =
    let same = (at_path path file.0).0 e in
    (λ c. rw e refl, λ s. (0, omega arith, sym same))
found_more file files path h false e = (
  λ c. ⊎_elim (λ same. absurd (false≢true (sym e ∙ (at_path path file.0).1 (sym same)))) (λ other. rw e (h.0 other))
      (first_or_other (string_bytes file.0) (map string_bytes (keys_of files)) path c),
  λ s. Contains-append_right (string_bytes file.0 ∷ []) (map string_bytes (keys_of files)) path (h.1 (rw e at s)),
)

found : (files : List File) (path : List ℕ) → IsFound files path
found [] path = (λ c. let n = c.1 in absurd (omega arith), λ s. absurd (false≢true s))
found (file ∷ files) path = found_more file files path (found files path) (is_at (text_cmp path) file.0) refl

-- Bytes exist exactly if a file exists.
bytes_there : (o : Option (Vec ℕ Global)) → IsSome o ↔ IsSome (option_map (λ (v : Vec ℕ Global). v.items) o)
bytes_there None = (λ s. s, λ s. s)
bytes_there (Some v) = (λ s. s, λ s. s)

-- The names of the files of all paths are those that a disk lists.
pub all_names : (disk : Disk) (dir : List ℕ) (paths names : List (List ℕ)) → paths ≡ map string_bytes (keys disk.files)
    → AreNamesOf dir paths names → AreNamesIn disk dir names
all_names disk dir paths names all h name =
    let path = path_in dir name in
    let at = found disk.files.entries path in
    let there = bytes_there (get_by_text disk.files path) in (
      λ c. let n = (h name).0 c in (n.0, there.0 (at.0 (subst (λ ps. Contains ps path) all n.1))),
      λ n. (h name).1 (n.0, subst (λ ps. Contains ps path) (sym all) (at.1 (there.1 n.1))),
    )

-- The paths that a loop over the keys has seen.
pub paths_seen : (seen : List (Bor (String Global)))
    → map path_of seen ≡ map string_bytes (map (λ (p : Bor (String Global)). p.now) seen)
paths_seen [] = refl
paths_seen (p ∷ ps) = ap (λ rest. path_of p ∷ rest) (paths_seen ps)
