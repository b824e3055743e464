-- Consecutive ids of sessions.
use Rattle.std.specs.Prelude.{ℕ, zero, suc, ◌+◌, List, [], ◌∷◌}
use Rattle.jt_machine.specs.Session.{Session}

-- The `n` consecutive ids from `i`.
abbrev pub ids_from : ℕ → ℕ → List ℕ
ids_from i zero = []
ids_from i (suc n) = i ∷ ids_from (i + 1) n

-- The ids of sessions, in order.
abbrev pub ids_of : List (ℕ × Session) → List ℕ
ids_of [] = []
ids_of (e ∷ es) = e.0 ∷ ids_of es
