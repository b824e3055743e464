-- The views in contracts of the templates of a store, and of the set of namespaces in the order of their numbers. Only
-- private clauses cite this module.
use Rattle.std.specs.Prelude.{ℕ, List}
use Rattle.jt_chains.specs.Along.{templates_at}
use Rattle.jt_chains.specs.Chain.{Namespace, Template}
use Rattle.jt_chains.specs.TemplateFiles.{files_view}
use Rattle.jt_inherit.specs.declared.sets.Namespaces.{Namespaces}
use Rattle.jt_inherit.specs.declared.store.TemplateStore.{TemplateStore}
use Rattle.jt_inherit.specs.internal.Numbers.{keys_view}

abbrev pub its_files : TemplateStore → List Template
its_files s = files_view s.files.items

-- The templates at some indices.
abbrev pub its_templates : TemplateStore → List ℕ → List Template
its_templates s is = templates_at (its_files s) is

abbrev pub namespaces_view : Namespaces → List Namespace
namespaces_view hs = keys_view hs.items.items
