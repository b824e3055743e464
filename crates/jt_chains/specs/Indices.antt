-- Chains and templates by their indices.
use Rattle.std.specs.Prelude.{ℕ, suc, List, [], ◌∷◌, slice_get, unwrap_or, if◌then◌else◌}
use Rattle.std.specs.Str.{bytes_eq}
use Rattle.jt_chains.specs.Chain.{Namespace, a_chain, Template, Text}

abbrev pub namespace_at : List Namespace → ℕ → Namespace
namespace_at namespaces i = unwrap_or (slice_get namespaces i) (a_chain [])

-- The index of the template of a name, or the number of templates if it does not exist.
abbrev pub index_of : List Template → Text → ℕ
index_of [] wanted = 0
index_of (t ∷ ts) wanted = if bytes_eq t.name wanted then 0 else suc (index_of ts wanted)
