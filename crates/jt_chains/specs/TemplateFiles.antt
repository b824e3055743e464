-- The views of the parts of a chain in contracts, without their memory, and the invariants of each
-- chain.
use Rattle.std.specs.Prelude.{◌≡◌, ℕ, List, map, if◌then◌else◌, Option, Some, option_map, slice_get}
use Rattle.std.specs.Prelude.{string_bytes}
use Rattle.std.specs.List.{AllByRecursion}
use Rattle.jt_ast.specs.StatementView.{body_of}
use Rattle.jt_chains.specs.Chain as chain
use Rattle.jt_chains.specs.Chain.{Template, templates, sources_in, Text}
use Rattle.jt_chains.specs.declared.files.TemplateFile.{TemplateFile}
use Rattle.jt_chains.specs.declared.chain.Namespace.{Namespace}

abbrev pub file_view : TemplateFile → Template
file_view file = record { name = string_bytes file.name; body = body_of file.template }

abbrev pub files_view : List TemplateFile → List Template
files_view = map file_view

abbrev pub namespace_view : Namespace → chain.Namespace
namespace_view namespace =
    if namespace.is_library
    then chain.a_library (string_bytes namespace.name)
    else chain.a_chain (string_bytes namespace.name)

-- The names of the templates at some indices.
abbrev pub names_at : List Template → List ℕ → List (Option Text)
names_at ts is = map (λ i. option_map (λ t. t.name) (slice_get ts i)) is

-- A chain has the templates from its entry to the root, and a library has its own.
abbrev pub IsWhole : List Template → Namespace → Type 0
IsWhole ts namespace =
    names_at ts namespace.templates.items
    ≡ map (λ t. Some t.name) (templates (sources_in ts) (namespace_view namespace))

abbrev pub AreWhole : List Template → List Namespace → Type 0
AreWhole ts = AllByRecursion (IsWhole ts)
