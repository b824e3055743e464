-- Templates by their indices, and the macros of libraries by the indices of their templates.
use Rattle.jt_chains.specs.Chain as chain
use chain.{macro_of, macros, public_macro, a_library, imports_in, Sources, template, holds_macros, max_templates}
use chain.{names_up, sources_in}
use Rattle.jt_ast.specs.declared.statement.Stmt as statement
use Rattle.jt_ast.specs.Statements.{stmt, macro, Body, end, data_of, Stmt}
use Rattle.jt_ast.specs.Texts.{repeated, among}
use Rattle.std.specs.List.{AllByRecursion}
use Rattle.std.specs.Prelude.{is_none, nat_le, slice_get, flat_map, option_map, option_and_then}
use Rattle.std.proofs.lemmas.Cmp.{nat_list_eq_equiv}
use Rattle.std.proofs.lemmas.Bool.{or_parts}
use Rattle.std.proofs.lemmas.List.Elements.{All-from_recursion}
use Rattle.jt_chains.specs.TemplateFiles.{IsWhole, namespace_view, AreWhole, names_at, file_view}
use Rattle.jt_chains.specs.declared.chain.Namespace.{Namespace}
use Rattle.jt_chains.specs.internal.AreFrom.{AreFrom}
use Rattle.jt_chains.specs.declared.chain.Chain.{Chain}
use Rattle.jt_chains.specs.declared.files.TemplateFile.{TemplateFile}
use Rattle.jt_chains.specs.Tables.{macro_index, library_macros, as_macro, is_named}
use Rattle.std.proofs.lemmas.Option.{slice_get_within, slice_get-map, slice_get_read, slice_get_past}
use Rattle.std.proofs.lemmas.Slice.Eq.{bytes_eq-Decides}
use Rattle.jt_chains.specs.Indices.{namespace_at, index_of}
use Rattle.jt_chains.proofs.Vocabulary
use Vocabulary.{libraries, templates, [], its_templates, its_sources, namespace_in, ◌≡◌, ℕ, suc, ◌+◌, ◌<◌, true, false}
use Vocabulary.{List, ◌∷◌, ◌++◌, length, map, drop, get_or, refl, ap, ◌∙◌, arith, Some, rules, tests, zero}
use Vocabulary.{append_assoc, imports, libraries_in, Template, length-map, drop_more, Text, body_of, body_at, along}
use Vocabulary.{layers_along, AreIndices, files_view, name_at, ◌≤◌, if◌then◌else◌, Option, None, append-nil, macros_in}
use Vocabulary.{get_by_text, stmts_of, body_view, stmt_view}

pub map_at : {X Y : Type 0} (f : X → Y) (xs : List X) (i : ℕ) (x : X) → i < length xs → x ≡ get_or xs i x
    → slice_get (map f xs) i ≡ Some (f x)
map_at f xs i x lt is = slice_get-map f xs i ∙ ap (option_map f) (slice_get_read xs (length xs) i x refl lt is)

-- The tree of the template file at an index.
pub file_at : (ps : List TemplateFile) (i : ℕ) (p : TemplateFile) → i < length ps → p ≡ get_or ps i p
    → body_at (files_view ps) i ≡ body_of p.template
file_at ps i p lt is = rw (map_at file_view ps i p lt is)

-- An index of a template file is an index of its view.
pub index_within : (ps : List TemplateFile) (is : List ℕ) (k : ℕ) → k < length is → AreIndices (files_view ps) is
    → get_or is k 0 < length ps
index_within ps is k lt a =
    omega (arith, All-from_recursion (λ i. i < length (files_view ps)) is a k 0 lt, length-map ps file_view)

-- ---- concatenation

module _ {A : Type 0} (g : Text → Body → List A) (ts : List Template) where
  pub along_turn : (is : List ℕ) (k : ℕ) (b : Body) (old new : List A) → k < length is → b ≡ body_at ts (get_or is k 0)
      → new ≡ old ++ g (name_at ts (get_or is k 0)) b
      → new ++ along ts g (drop (k + 1) is) ≡ old ++ along ts g (drop k is)
  along_turn is k b old new lt tree e = rw (e, drop_more is k 0 lt, tree) (append_assoc old _ _)

  -- `along` over the indices of templates is `flat_map` over the templates.
  pub along_templates : (is : List ℕ) (us : List Template) → AreFrom ts is us
      → along ts g is ≡ flat_map (λ t. g t.name t.body) us
  along_templates [] [] e = refl
  along_templates (i ∷ is) (u ∷ us) e =
      let h : slice_get ts i ≡ Some u = cc in
      rw (h, along_templates is us (cc))
  along_templates is us e = absurd (cc)

pub are_indices : (ts : List Template) (is : List ℕ) (us : List Template) → AreFrom ts is us → AreIndices ts is
are_indices ts [] us e = tt
are_indices ts (i ∷ is) (u ∷ us) e = (slice_get_within ts i u (cc), are_indices ts is us (cc))
are_indices ts is us e = absurd (cc)

-- The view of the namespace at an index.
pub name_of_namespace : (hs : List Namespace) (i : ℕ) (h : Namespace) → i < length hs → h ≡ get_or hs i h
    → namespace_at (map namespace_view hs) i ≡ namespace_view h
name_of_namespace hs i h lt is = rw (map_at namespace_view hs i h lt is)

-- ---- templates by their names

named_among : (ts : List Template) (i : ℕ) (t : Template) → slice_get ts i ≡ Some t
    → among t.name (map (λ u. u.name) ts) ≡ true
named_among [] i t e = absurd (cc)
named_among (u ∷ us) zero t e = search (arith, rules, nat_list_eq_equiv.refl)
named_among (u ∷ us) (suc i) t e = search (arith, rules, named_among us i t e)

-- If names differ, the template at an index is the one of its name.
pub only_one : (ts : List Template) (i : ℕ) (t : Template) → repeated (map (λ u. u.name) ts) ≡ false
    → slice_get ts i ≡ Some t → sources_in ts t.name ≡ Some t.body
only_one [] i t once e = absurd (cc)
only_one (u ∷ us) zero t once e = search (arith, rules, nat_list_eq_equiv.refl)
only_one (u ∷ us) (suc i) t once e =
    let apart = or_parts (among u.name (map (λ (v : Template). v.name) us)) _ once in
    search (arith, rules, bytes_eq-Decides, named_among us i t e, apart.0, only_one us i t apart.1 e)

abbrev pub Definition : Sources → List Template → Type 0
Definition s = AllByRecursion (λ u. s u.name ≡ Some u.body)

given_along : (s : Sources) (ns : List Text) → Definition s (flat_map (λ n. template n (s n)) ns)
given_along s [] = tt
given_along s (n ∷ ns) = search (arith, rules, given_along s ns)

-- The templates of a chain are those of their names.
pub given_templates : (s : Sources) (h : chain.Namespace) → Definition s (templates s h)
given_templates s (chain.a_chain n) = given_along s (names_up s max_templates (Some n))
given_templates s (chain.a_library n) = search (arith, rules)

-- If names differ, the names at indices determine the templates.
indexed_by_names : (ts : List Template) (is : List ℕ) (us : List Template) → repeated (map (λ u. u.name) ts) ≡ false
    → Definition (sources_in ts) us → names_at ts is ≡ map (λ t. Some t.name) us → AreFrom ts is us
indexed_by_names ts [] [] once g e = refl
indexed_by_names ts (i ∷ is) (u ∷ us) once g e =
    let named : option_map (λ (t : Template). t.name) (slice_get ts i) ≡ Some u.name = cc in
    let here : slice_get ts i ≡ Some u = search (arith, rules, only_one, once, g.0, named) in
    let rest = indexed_by_names ts is us once g.1 (cc) in
    cc
indexed_by_names ts is us once g e = absurd (cc)

pub indices_of_namespace : (ts : List Template) (hs : List Namespace) (i : ℕ) (h : Namespace) → i < length hs
    → h ≡ get_or hs i h → repeated (map (λ u. u.name) ts) ≡ false → AreWhole ts hs
    → AreFrom ts h.templates.items (templates (sources_in ts) (namespace_at (map namespace_view hs) i))
indices_of_namespace ts hs i h lt is once w =
    rw (name_of_namespace hs i h lt is)
    (indexed_by_names ts h.templates.items _ once (given_templates (sources_in ts) (namespace_view h))
    (rw (← is) at (All-from_recursion (IsWhole ts) hs w i h lt)))

each_alone : (ts : List Template) → flat_map (λ t. record { name = t.name; body = t.body } ∷ []) ts ≡ ts
each_alone [] = refl
each_alone (t ∷ ts) = rw (each_alone ts)

-- ---- a library imports nothing

no_imports : (s : Sources) (b : Body) → holds_macros b ≡ true → (imports_in s b ≡ []) × (libraries_in b ≡ [])
no_imports s end h = (refl, refl)
no_imports s (stmt (data_of text) rest) h = no_imports s rest (search (rules, tests))
no_imports s (stmt (macro line x ps b) rest) h = no_imports s rest h
no_imports s (stmt other rest) h = absurd (cc)

all_imports : (s : Sources) (h : chain.Namespace) → flat_map (λ t. imports_in s t.body) (templates s h) ≡ imports s h
all_imports s (chain.a_chain n) = refl
all_imports s (a_library n) = search (arith, rules, no_imports)

all_libraries : (s : Sources) (h : chain.Namespace)
    → flat_map (λ t. libraries_in t.body) (templates s h) ≡ libraries s h
all_libraries s (chain.a_chain n) = refl
all_libraries s (a_library n) =
    let none : (b : Body) → holds_macros b ≡ true → libraries_in b ≡ [] = λ b e. (no_imports s b e).1 in
    search (arith, rules, none)

-- What the templates of a namespace have, by their indices.
module _ (ts : List Template) (is : List ℕ) (h : chain.Namespace)
    (from : AreFrom ts is (templates (sources_in ts) h)) where
  pub layers_from : layers_along ts is ≡ templates (sources_in ts) h
  layers_from = along_templates (λ n b. record { name = n; body = b } ∷ []) ts is _ from ∙ each_alone _

  pub imports_from : along ts (λ n b. imports_in (sources_in ts) b) is ≡ imports (sources_in ts) h
  imports_from = along_templates (λ n b. imports_in (sources_in ts) b) ts is _ from ∙ all_imports (sources_in ts) h

  pub libraries_from : along ts (λ n b. libraries_in b) is ≡ libraries (sources_in ts) h
  libraries_from = along_templates (λ n b. libraries_in b) ts is _ from ∙ all_libraries (sources_in ts) h

-- What a chain or a library has, by the indices of its templates.
module _ (c : Chain) (i : ℕ) (h : Namespace) (is : List ℕ) (same : is ≡ h.templates.items)
    (lt : i < length c.namespaces.items) (at : h ≡ get_or c.namespaces.items i h) where
  from : AreFrom (its_templates c) is (templates (its_sources c) (namespace_in c i))
  from = rw same (indices_of_namespace (its_templates c) c.namespaces.items i h lt at c.once c.whole)

  pub namespace_indices : AreIndices (its_templates c) is
  namespace_indices = are_indices (its_templates c) is _ from

  pub namespace_along : {A : Type 0} (g : Text → Body → List A)
      → along (its_templates c) g is ≡ flat_map (λ t. g t.name t.body) (templates (its_sources c) (namespace_in c i))
  namespace_along g = along_templates g (its_templates c) is _ from

  pub namespace_layers : layers_along (its_templates c) is ≡ templates (its_sources c) (namespace_in c i)
  namespace_layers = layers_from (its_templates c) is _ from

-- ---- the template of a library

-- The template at the index of a name is the template of that name.
pub named : (ts : List Template) (n : Text)
    → slice_get ts (index_of ts n) ≡ option_map (λ b. record { name = n; body = b }) (sources_in ts n)
named [] n = refl
named (t ∷ ts) n = search (arith, rules, bytes_eq-Decides, named ts n)

-- The index of a template that was not read is no index.
pub missing : (ps : List TemplateFile) (n : Text)
    → nat_le (length ps) (index_of (files_view ps) n) ≡ is_none (sources_in (files_view ps) n)
missing [] n = refl
missing (p ∷ ps) n = search (arith, rules, missing ps n)

pub library_at : (ts : List Template) (n : Text) (i : ℕ) → i ≡ index_of ts n
    → library_macros (name_at ts i) (body_at ts i) ≡ macros (sources_in ts) (a_library n)
library_at ts n i e = rw (e, named ts n) (search (arith, rules, append-nil))

pub library_nowhere : (ps : List TemplateFile) (n x : Text) (i : ℕ) → length ps ≤ i → i ≡ index_of (files_view ps) n
    → None ≡ public_macro x (macros (sources_in (files_view ps)) (a_library n))
library_nowhere ps n x i past e =
    let none : slice_get (files_view ps) i ≡ None =
    slice_get_past (files_view ps) i (omega (arith, past, length-map ps file_view)) in
    rw (← (rw none at (library_at (files_view ps) n i e))) (search (arith, rules))

-- ---- macros by their names

module _ (x n : Text) where
  macro_step : (s : Stmt) (b : Body)
      → macro_of x (macros_in n (stmt s b)) ≡ (if is_named x s then as_macro n s else macro_of x (macros_in n b))
  macro_step (macro line y ps c) b = refl
  macro_step s b = search rules

  -- The first macro of a name is the statement at its index, where f has the statements from index k on.
  at_index : (f : ℕ → Option Stmt) (k : ℕ) (ss : List Stmt) → ((i : ℕ) → f (k + i) ≡ slice_get ss i)
      → option_and_then (λ i. option_and_then (as_macro n) (f i)) (macro_index x k (stmts_of ss))
      ≡ macro_of x (macros_in n (stmts_of ss))
  at_index f k [] at = refl
  at_index f k (s ∷ ss) at =
      let later : (i : ℕ) → f (suc k + i) ≡ slice_get ss i = λ i. ap f (omega arith) ∙ at (suc i) in
      search (arith, rules, macro_step, at 0, at_index f (suc k) ss later)

  -- A lookup in the table of a library finds its first macro of the name.
  pub looked_up : (file : TemplateFile) (ss : List statement.Stmt) → body_view ss ≡ body_of file.template
      → macro_of x (library_macros n (body_of file.template))
      ≡ option_and_then (λ i. option_and_then (as_macro n) (option_map stmt_view (slice_get ss i)))
      (option_and_then (λ t. get_by_text t x) file.macros)
  looked_up file ss is =
      let all = map stmt_view ss in
      let found = simp slice_get-map at (at_index (slice_get all) 0 all (λ i. ap (slice_get all) (omega arith))) in
      rw (file.table.1 x, ← is) (search (arith, rules, found))
