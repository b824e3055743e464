-- The constants of keys, and the maps from keys to indices. Only private clauses cite this module.
use Rattle.std.specs.Prelude.{◌≡◌, ℕ, List, cond, Option, Some, None, if◌then◌else◌}
use Rattle.std.specs.BTreeMap.{BTreeMap, get}
use Rattle.std.specs.List.{list_any}
use Rattle.std.specs.Ordering.{is_eq}
use Rattle.std.specs.declared.cmp.Ordering.{Ordering}
use Rattle.jt_image.specs.Code.{Constant, undefined, nothing, truth_value, number, text, markup}
use Rattle.jt_constants.specs.Merged.{same, index_in}
use Rattle.jt_constants.specs.contracts.table.KeyOrd.TheImpl as order
use Rattle.jt_constants.specs.declared.table.Key.{Key}
use Rattle.jt_constants.specs.declared.table.Key.TheVariants as key

abbrev pub key_view : Key → Constant
key_view key.Undefined = undefined
key_view key.None = nothing
key_view (key.Bool b) = truth_value b
key_view (key.Int z) = number z
key_view (key.Text t) = text t.now
key_view (key.Markup t) = markup t.now

-- The index of a constant among others, if it occurs.
abbrev pub index_of : List Constant → Constant → Option ℕ
index_of cs c = if list_any (same c) cs then Some (index_in cs c) else None

abbrev pub key_cmp : Key → Key → Ordering
key_cmp = (order.cmp-value).it

-- A map of indices has the index of each of these constants, and no other.
abbrev pub Knows : BTreeMap Key ℕ → List Constant → Type 0
Knows indices cs = (q : Key) → get key_cmp indices q ≡ index_of cs (key_view q)

-- A map of indices has one more key.
abbrev pub KnowsMore : BTreeMap Key ℕ → Key → ℕ → BTreeMap Key ℕ → Type 0
KnowsMore old k p new =
    (q : Key) → get key_cmp new q ≡ cond (is_eq (key_cmp k q)) (Some p) (get key_cmp old q)
