-- The numbers of a range: from a first one by a step.
use Rattle.std.specs.Prelude.{ℕ, zero, suc, ◌<◌, ℤ, pos, negsuc, ◌+ℤ◌, ◌-ℤ◌, ◌*ℤ◌, FitsSigned}
use Rattle.std.specs.Int.{div_ceil, w64}
use Rattle.jt_value.specs.Tree.{number, Items, no_items, item}

-- The first `count` numbers from `first` by `step`.
abbrev pub stepped : ℕ → ℤ → ℤ → Items
stepped zero first step = no_items
stepped (suc count) first step = item (number first) (stepped count (first +ℤ step) step)

-- A number, or 0 if it is negative.
abbrev pub natural : ℤ → ℕ
natural (pos n) = n
natural (negsuc n) = 0

-- The difference y - x, or 0 if it is negative.
abbrev pub distance : ℤ → ℤ → ℕ
distance x y = natural (y -ℤ x)

-- The number of the numbers from start by step that lie before stop.
abbrev pub range_count : ℤ → ℤ → ℤ → ℕ
range_count start stop (pos step) = div_ceil (distance start stop) step
range_count start stop (negsuc step) = div_ceil (distance stop start) (suc step)

-- Each of the first `count` numbers from `first` by `step` is a signed number of 64 bits.
abbrev pub HaveRoom : ℕ → ℤ → ℤ → Type 0
HaveRoom count first step = (k : ℕ) → k < count → FitsSigned w64 (first +ℤ pos k *ℤ step)
