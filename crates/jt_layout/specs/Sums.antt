-- Sums that may overflow.
use Rattle.std.specs.Prelude.{◌≡◌, ℕ, ◌+◌, ◌≤◌, ◌^◌, Result, Ok, Err}

-- The result is the sum, or an error if the sum overflows.
abbrev pub IsSum : {E : Type 0} → ℕ → ℕ → Result ℕ E → Type 0
IsSum m n (Ok k) = k ≡ m + n
IsSum m n (Err e) = 2 ^ 64 ≤ m + n
