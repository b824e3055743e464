-- The library of a name in a store: its macros, its path, and the names that are imported from it.
use Rattle.jt_inherit.proofs.Vocabulary as words
use words.{◌≡◌, ℕ, ◌<◌, length, get_or, arith, string_bytes, Bool, false, List, [], ◌∷◌, refl, sym, ap, ◌∙◌, Option}
use words.{Some, None, rules, zero, suc, true, not, HasPath, names, slice_get, flat_map, is_some, length-map}
use words.{append-nil, slice_get_within, Text, Body, body_of, among, repeated, Sources, a_library, Template}
use words.{library_template, holds_macros, is_a_library, MacroBody, macros, macros_in, public_macro, sources_in}
use words.{file_view, files_view, TemplateFile, only_one, Options, SourceTexts, AreKnown, is_no_library, not-false}
use words.{library_macros, ◌≤◌, ◌&&◌, ◌||◌, if◌then◌else◌, is_none, bytes_eq, or_from, same, lacks, index_of}
use Rattle.jt_inherit.proofs.PathsGrow.{file_there, nothing_read}
use Rattle.jt_chains.specs.Rules.{lacks_one}
use Rattle.jt_inherit.proofs.DiscoveryInvariant.{some_source}

pub unread : (ts : List Template) (n : Text) → among n (names ts) ≡ false → is_a_library (sources_in ts n) ≡ false
unread ts n h = by (sources_in ts n) (some_source ts n ∙ h)
  where
    by : (o : Option Body) → is_some o ≡ false → is_a_library o ≡ false
    by None e = refl
    by (Some b) e = absurd (cc)

abbrev own_macros : List Template → List MacroBody
own_macros = flat_map (λ t. macros_in t.name t.body)

held_read : (n m : Text) (b : Body) → m ≡ n → library_macros m b ≡ own_macros (library_template n (Some b))
held_read n m b e = search (arith, rules, append-nil)

-- The template of a name, at its index.
module _ (ps : List TemplateFile) (once : repeated (names (files_view ps)) ≡ false) (n : Text) (i : ℕ)
    (at : slice_get (names (files_view ps)) i ≡ Some n) where
  pub index_read : i < length ps
  index_read = search (arith, rules, slice_get_within, names, length-map)

  module _ (p : TemplateFile) (is : p ≡ get_or ps i p) where
    there : (slice_get (files_view ps) i ≡ Some (file_view p)) × (string_bytes p.name ≡ n)
    there = file_there ps i at is

    source_is : sources_in (files_view ps) n ≡ Some (body_of p.template)
    source_is =
        ap (sources_in (files_view ps)) (sym there.1) ∙ only_one (files_view ps) i (file_view p) once there.0

    pub is_library_read : (b : Bool) → b ≡ holds_macros (body_of p.template)
        → is_a_library (sources_in (files_view ps) n) ≡ b
    is_library_read b e = ap is_a_library source_is ∙ sym e

    pub macros_there : library_macros (string_bytes p.name) (body_of p.template)
        ≡ macros (sources_in (files_view ps)) (a_library n)
    macros_there = search (arith, rules, held_read, string_bytes, body_of, there, library_template, source_is)

pub none_public : (x : Text) → public_macro x [] ≡ None
none_public x = search (arith, rules)

-- A name that is no library's lacks no macros.
pub nothing_lacks : (s : Sources) (n : Text) (xs : List (Text × Text)) → is_a_library (s n) ≡ false
    → lacks_one s n xs ≡ false
nothing_lacks s n [] e = refl
nothing_lacks s n (x ∷ xs) e = search (arith, rules, nothing_lacks s n xs e)

-- A library with the same tree lacks the same macros.
pub lacks_same : (s r : Sources) (n : Text) (xs : List (Text × Text)) → s n ≡ r n → lacks_one s n xs ≡ lacks_one r n xs
lacks_same s r n [] e = refl
lacks_same s r n (x ∷ xs) e = search (arith, rules, lacks_same s r n xs e)

-- ---- the library of a name in a chain

named_index : (ts : List Template) (n : Text) → index_of ts n < length ts
    → slice_get (names ts) (index_of ts n) ≡ Some n
named_index [] n lt = absurd (omega arith)
named_index (t ∷ ts) n lt = by (bytes_eq t.name n) refl lt (named_index ts n)
  where
    by : (b : Bool) → bytes_eq t.name n ≡ b → (if b then 0 else suc (index_of ts n)) < suc (length ts)
        → (index_of ts n < length ts → slice_get (names ts) (index_of ts n) ≡ Some n)
        → slice_get (t.name ∷ names ts) (if b then 0 else suc (index_of ts n)) ≡ Some n
    by true e q r = ap (λ (x : Text). Some x) (same t.name n e)
    by false e q r = r (omega arith)

no_index : (ts : List Template) (n : Text) → length ts ≤ index_of ts n → among n (names ts) ≡ false
no_index [] n le = refl
no_index (t ∷ ts) n le = by (bytes_eq t.name n) refl le (no_index ts n)
  where
    by : (b : Bool) → bytes_eq t.name n ≡ b → suc (length ts) ≤ (if b then 0 else suc (index_of ts n))
        → (length ts ≤ index_of ts n → among n (names ts) ≡ false) → (bytes_eq t.name n || among n (names ts)) ≡ false
    by true e q r = absurd (omega arith)
    by false e q r = or_from _ _ e (r (omega arith))

none_some : {A : Type 0} (o : Option A) → is_none o ≡ not (is_some o)
none_some None = refl
none_some (Some x) = refl

-- The library of a name lacks the macros that the template of its index does not offer.
module _ (ps : List TemplateFile) (n x : Text) (i : ℕ) (e : i ≡ index_of (files_view ps) n) where
  pub file_lacks : repeated (names (files_view ps)) ≡ false → (p : TemplateFile) → i < length ps → p ≡ get_or ps i p
      → lacks (sources_in (files_view ps)) n x
      ≡ (holds_macros (body_of p.template)
      && not (is_some (public_macro x (library_macros (string_bytes p.name) (body_of p.template)))))
  file_lacks once p lt is =
      let at : slice_get (names (files_view ps)) i ≡ Some n =
      rw e (named_index (files_view ps) n (omega (arith, lt, e, length-map ps file_view))) in
      rw (is_library_read ps once n i at p is _ refl) (ap (λ b. holds_macros (body_of p.template) && b)
      (ap (λ ms. is_none (public_macro x ms)) (sym (macros_there ps once n i at p is)) ∙ none_some _))

  pub no_file_lacks : length ps ≤ i → lacks (sources_in (files_view ps)) n x ≡ false
  no_file_lacks le = search (arith, rules, unread, files_view, no_index, length-map, file_view)

-- The template at the index of a name.
of_name : (ts : List Template) (i : ℕ) (n : Text) → slice_get (names ts) i ≡ Some n
    → (t : Template) × (slice_get ts i ≡ Some t) × (t.name ≡ n)
of_name [] i n e = absurd (cc)
of_name (t ∷ ts) zero n e = (t, refl, (let is : t.name ≡ n = cc in is))
of_name (t ∷ ts) (suc i) n e = of_name ts i n e

-- A library has a source.
pub library_known : (ts : List Template) (n : Text) → is_no_library ts (a_library n) ≡ false
    → among n (names ts) ≡ true
library_known ts n e = sym (some_source ts n) ∙ by (sources_in ts n) refl
  where
    by : (o : Option Body) → sources_in ts n ≡ o → is_some o ≡ true
    by None h =
        let no = (rw h at e) in
        absurd (cc)
    by (Some b) h = refl

pub library_read : {given : SourceTexts} {options : Options} {ts : List Template} → AreKnown given options ts
    → (n : Text) → is_no_library ts (a_library n) ≡ false
    → {is : List ℕ} (i : ℕ) → is ≡ i ∷ [] → slice_get (names ts) i ≡ Some n → HasPath given options ts ts
    (a_library n) is
library_read {given} {options} {ts} known n library {is} i e at =
    search (arith, rules, nothing_read, of_name, only_one, append-nil, slice_get_within, not-false, names)
