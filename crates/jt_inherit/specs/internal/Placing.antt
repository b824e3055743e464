-- The place and the subject of an error at the name of a template, and of an error of the search: an imported template
-- that holds something other than macros, and a ring. Only private clauses cite this module.
use Rattle.std.specs.Prelude.{◌≡◌, ◌<◌, ◌⊎◌, ◌-◌, ℕ, Bool, true, false, not, List, [], ◌∷◌, ◌++◌, length, get_or, map}
use Rattle.std.specs.Prelude.{slice_get, Option, Some, None, option_map, unwrap_or, string_bytes, String, Vec}
use Rattle.std.specs.declared.alloc.Global.{Global}
use Rattle.jt_ast.specs.Expressions.{Text}
use Rattle.jt_ast.specs.Statements.{Body, end, extends, stmt}
use Rattle.jt_uses.specs.Uses.{Use}
use Rattle.jt_graph.specs.Graph.{Graph, IsRing, next_of}
use Rattle.jt_chains.specs.Along.{templates_at}
use Rattle.jt_chains.specs.Chain.{Namespace, namespace_name, a_chain, a_library, Template, extends_of, is_a_library}
use Rattle.jt_chains.specs.Chain.{sources_in}
use Rattle.jt_chains.specs.Indices.{namespace_at}
use Rattle.jt_inherit.specs.Findings.{ForSome, HasTag, IsAt, IsNoMemory, asks, is_extends, is_include, all_uses}
use Rattle.jt_inherit.specs.Findings.{leads_to, uses_in}
use Rattle.jt_inherit.specs.internal.Tags.{tags, place_in, place_view}
use Rattle.jt_inherit.specs.declared.error.ChainError.{ChainError}
use Rattle.jt_inherit.specs.declared.error.ChainError.TheVariants as error
use Rattle.jt_inherit.specs.declared.finding.ChainFinding.{ChainFinding}
use Rattle.jt_inherit.specs.declared.finding.ChainSubject.{ChainSubject}
use Rattle.jt_inherit.specs.declared.finding.ChainSubject.TheVariants as v
use Rattle.jt_inherit.specs.declared.finding.TagPlace.{TagPlace}
use Rattle.jt_inherit.specs.declared.placing.AskedName.{AskedName}

-- The finding has the error, and a place and a subject with the properties.
pub record IsFoundAt (e : ChainError) (IsPlace : Option TagPlace → Type 0) (IsSubject : Option ChainSubject → Type 0)
    (f : ChainFinding) : Type 0 where
  pub error : f.error ≡ e
  pub place : IsPlace f.place
  pub subject : IsSubject f.subject

-- The error is about a name that a tag has.
abbrev pub IsOfName : ChainError → Type 0
IsOfName error.Missing = Unit {0}
IsOfName error.BadName = Unit {0}
IsOfName e = ⊥

abbrev pub IsNameless : ChainError → Type 0
IsNameless error.Missing = ⊥
IsNameless error.BadName = ⊥
IsNameless e = Unit {0}

-- The name is the subject of an error about a name, and the place is the given one. Any other error
-- has neither.
abbrev pub NamedAt : Option TagPlace → Text → ChainError → Option ChainSubject → Option TagPlace → Type 0
NamedAt o n e (Some (v.Template x)) p = (p ≡ o) × (string_bytes x ≡ n) × IsOfName e
NamedAt o n e None None = IsNameless e
NamedAt o n e x p = ⊥

abbrev pub IsNamed : AskedName → ChainError → ChainFinding → Type 0
IsNamed a e f = (f.error ≡ e) × NamedAt a.place (string_bytes a.name) e f.subject f.place

-- ---- the path of a chain

-- The name of the template that a body extends, and the line of the tag.
abbrev pub extends_at : Body → Option (Text × ℕ)
extends_at end = None
extends_at (stmt (extends line parent) rest) = Some (parent, line)
extends_at (stmt first rest) = extends_at rest

-- The name that a template extends, with the place of the tag.
abbrev pub IsParentAt : Template → Text → Option TagPlace → Type 0
IsParentAt t n None = ⊥
IsParentAt t n (Some p) =
    (extends_of t.body ≡ Some n) × (string_bytes p.template ≡ t.name) × ForSome (IsAt (is_extends n) p) (uses_in t)

abbrev pub IsParent : Template → Option AskedName → Type 0
IsParent t None = extends_of t.body ≡ None
IsParent t (Some a) = IsParentAt t (string_bytes a.name) a.place

-- The last template of a path extends the name at the place. Without a place there is no template.
abbrev pub IsAsked : List Template → Text → Option TagPlace → Type 0
IsAsked us n None = us ≡ []
IsAsked us n (Some p) =
    (front : List Template) × (last : Template) × (us ≡ front ++ last ∷ []) × (string_bytes p.template ≡ last.name)
    × HasTag (is_extends n) us p

-- The subject is of the kind and has the name.
abbrev pub IsAbout : (String Global → ChainSubject) → Text → Option ChainSubject → Type 0
IsAbout kind n x = (m : String Global) × (x ≡ Some (kind m)) × (string_bytes m ≡ n)

abbrev pub IsLong : AskedName → ChainFinding → Type 0
IsLong a = IsFoundAt error.ChainTooLong (λ p. p ≡ a.place) (IsAbout v.Templates (string_bytes a.name))

-- The template at the number on the path has the name.
abbrev pub IsNamedOn : List Template → List ℕ → Text → ℕ → Type 0
IsNamedOn ts is n k = (k < length is) × (option_map (λ t. t.name) (slice_get ts (get_or is k 0)) ≡ Some n)

-- The subject is a ring with the names.
abbrev pub IsRingOf : Text → List Text → Option ChainSubject → Type 0
IsRingOf n ns x =
    (m : String Global) × (rest : Vec (String Global) Global) × (x ≡ Some (v.Ring m rest)) × (string_bytes m ≡ n)
    × (map string_bytes rest.items ≡ ns)

abbrev pub IsCycle : AskedName → List Text → ChainFinding → Type 0
IsCycle a ns = IsFoundAt error.ExtendsCycle (λ p. p ≡ a.place) (IsRingOf (string_bytes a.name) ns)

-- ---- included and imported templates

-- The place of the first tag of the uses that passes the test.
abbrev pub IsFirst : (Use → Bool) → List Template → Option TagPlace → Type 0
IsFirst test ts p = option_map place_view p ≡ place_in 0 (tags test (all_uses ts))

-- Whether the tag of an error may be any one that asks for the template. A missing template may not be missing for the
-- tag.
abbrev pub any_tag : ChainError → Bool
any_tag error.Missing = false
any_tag e = true

abbrev pub need_test : Text → ChainError → Use → Bool
need_test n e = asks (any_tag e) n

abbrev pub IsOfNeed : List Template → Text → ChainError → ChainFinding → Type 0
IsOfNeed ts n e f =
    (f.error ≡ e) × ((o : Option TagPlace) × IsFirst (need_test n e) ts o × NamedAt o n e f.subject f.place)

-- The place is that of the first tag that includes the template.
abbrev pub IsIncludedMore : List Template → Text → ChainFinding → Type 0
IsIncludedMore ts n = IsFoundAt error.ChainTooLong (IsFirst (is_include n) ts) (IsAbout v.Chains n)

-- ---- imported libraries

-- The library was not read, or holds something other than macros. A chain is no library.
abbrev pub is_no_library : List Template → Namespace → Bool
is_no_library ts (a_chain n) = false
is_no_library ts (a_library n) = not (is_a_library (sources_in ts n))

-- The place of the first tag in the chain or library of a number that leads to another one.
abbrev pub leading_at : List Template → List (List ℕ) → Namespace → ℕ → Option (Text × ℕ)
leading_at ts extends_paths h i =
    place_in 0 (tags (leads_to h) (all_uses (templates_at ts (next_of extends_paths i))))

module _ (ts : List Template) (extends_paths : List (List ℕ)) (h : Namespace) where
  -- A template on one of the paths leads to the chain or library at the place, or none does.
  abbrev pub LeadsAt : Option TagPlace → Type 0
  LeadsAt None = (i : ℕ) → i < length extends_paths → leading_at ts extends_paths h i ≡ None
  LeadsAt (Some p) =
      (i : ℕ) × (i < length extends_paths) × HasTag (leads_to h) (templates_at ts (next_of extends_paths i)) p

  abbrev pub IsOfImport : ChainFinding → Type 0
  IsOfImport = IsFoundAt error.NotALibrary LeadsAt (IsAbout v.Template (namespace_name h))

  -- The finding is that of a library that holds something other than macros, or lack of memory.
  abbrev pub IsNoLibrary : ChainFinding → Type 0
  IsNoLibrary f = IsNoMemory f ⊎ ((is_no_library ts h ≡ true) × IsOfImport f)

-- ---- rings of chains and libraries, by their numbers

-- The last one of a number and further numbers.
abbrev pub last_number : ℕ → List ℕ → ℕ
last_number i is = unwrap_or (slice_get is (length is - 1)) i

abbrev pub name_at : List Namespace → ℕ → Text
name_at hs i = namespace_name (namespace_at hs i)

module _ (ts : List Template) (hs : List Namespace) (extends_paths : List (List ℕ)) where
  -- The subject has the names of the numbers. The place is that of the tag by which the last number
  -- leads to the first one.
  abbrev pub IsOfRing : ℕ → List ℕ → ChainFinding → Type 0
  IsOfRing first others =
      IsFoundAt error.IncludeCycle
      (λ p. option_map place_view p ≡ leading_at ts extends_paths (namespace_at hs first) (last_number first others))
      (IsRingOf (name_at hs first) (map (name_at hs) others))

  -- The finding is that of a ring of the graph.
  abbrev pub HasRing : Graph → ChainFinding → Type 0
  HasRing next f = (first : ℕ) × (others : List ℕ) × IsRing next first others × IsOfRing first others f
