-- The views of keys of chains and libraries, and tables of the numbers of templates, of chains and of libraries. Only
-- private clauses cite this module.
use Rattle.std.specs.Prelude.{◌≡◌, ℕ, Bool, false, List, map, slice_get, string_bytes, if◌then◌else◌, Option}
use Rattle.std.specs.Prelude.{Some, MatchOption}
use Rattle.std.specs.List.{position_from}
use Rattle.std.specs.Coded.{Coded-set, coded_ℕ, coded_option, Π_prop}
use Rattle.std.specs.BTreeMap.{get_by_text}
use Rattle.std.specs.Str.{bytes_eq}
use Rattle.jt_ast.specs.Expressions.{Text}
use Rattle.jt_chains.specs.Chain.{Namespace, a_chain, a_library, same_namespace}
use Rattle.jt_chains.specs.Tables.{Table}
use Rattle.jt_chains.specs.declared.files.TemplateFile.{TemplateFile}
use Rattle.jt_inherit.specs.declared.sets.NamespaceKey.{NamespaceKey}

-- The library of a name, or its chain.
abbrev pub keyed : Bool → Text → Namespace
keyed library n = if library then a_library n else a_chain n

abbrev pub key_view : NamespaceKey → Namespace
key_view k = keyed k.is_library (string_bytes k.name)

abbrev pub keys_view : List NamespaceKey → List Namespace
keys_view = map key_view

-- The number of an item in a list, or `None` if the list does not have it.
abbrev pub FindsIn : {A : Type 0} → (A → List A → Bool) → List A → A → Option ℕ → Type 0
FindsIn is xs x found = MatchOption found (is x xs ≡ false) (λ i. slice_get xs i ≡ Some x)

-- ---- tests of keys

-- The template has the name x.
abbrev pub is_named : Text → TemplateFile → Bool
is_named x p = bytes_eq (string_bytes p.name) x

-- The key is the library of the name x, or its chain.
abbrev pub is_kind : Bool → Text → NamespaceKey → Bool
is_kind library x k = same_namespace (keyed library x) (key_view k)

-- A table has the index of the first item of each name, and no other entries.
abbrev pub AreNumbers : {A : Type 0} → (Text → A → Bool) → List A → Table → Type 0
AreNumbers is xs m = (x : Text) → get_by_text m x ≡ position_from (is x) 0 xs

pub AreNumbers-prop : {A : Type 0} (is : Text → A → Bool) (xs : List A) (m : Table)
    → IsProp (AreNumbers is xs m)
AreNumbers-prop is xs m =
    Π_prop (λ x. Coded-set (coded_option coded_ℕ) (get_by_text m x) (position_from (is x) 0 xs))
