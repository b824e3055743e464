-- The view of templates in contracts.
use Rattle.std.specs.Prelude.{ℕ, List, Option, option_map, string_bytes}
use Rattle.std.specs.BTreeMap.{get_by_text}
use Rattle.jt_host.specs.declared.templates.Templates.{Templates}

-- The source of the template with this name.
abbrev pub source_of : Templates → List ℕ → Option (List ℕ)
source_of t name = option_map string_bytes (get_by_text t.sources name)
