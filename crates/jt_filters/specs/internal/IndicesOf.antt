-- Definitions for the contracts of private functions: the indices of a list's items by their codes.
use Rattle.std.specs.Prelude.{◌≡◌, ℕ, true, List, Option, None, Vec}
use Rattle.std.specs.declared.alloc.Global.{Global}
use Rattle.std.specs.BTreeMap.{BTreeMap, get_by}
use Rattle.std.specs.Cmp.Lexicographic.{slice_cmp}
use Rattle.std.specs.Option.{IsSome}
use Rattle.std.specs.Ordering.{nat_cmp}
use Rattle.jt_value.specs.Tree.{Tree, Items}
use Rattle.jt_op_semantics.specs.Membership.{has_item}
use Rattle.jt_filters.specs.internal.Codes.{code}
use Rattle.jt_filters.specs.internal.Seen.{number_like}

-- The index that is stored for a code.
abbrev pub at_code : BTreeMap (Vec ℕ Global) ℕ → List ℕ → Option ℕ
at_code m c = get_by (λ k. slice_cmp nat_cmp c k.items) m

-- Holds if a value that equals no number has an index.
abbrev pub HasIndex : BTreeMap (Vec ℕ Global) ℕ → Tree → Type 0
HasIndex m t = number_like t ≡ None → IsSome (at_code m (code t))

-- Indices cover some items if a value that equals one of the items, and no number, has an index.
abbrev pub Covers : BTreeMap (Vec ℕ Global) ℕ → Items → Type 0
Covers m ts = (t : Tree) → has_item t ts ≡ true → HasIndex m t
