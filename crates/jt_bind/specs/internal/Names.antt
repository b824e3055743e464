-- Names of a scope with their numbers. Only private clauses cite this module.
use Rattle.std.specs.Prelude.{ℕ, suc, List, [], ◌∷◌, Option, Some, if◌then◌else◌}
use Rattle.std.specs.Str.{bytes_eq}
use Rattle.jt_ast.specs.Expressions.{Text}

-- The number of the last x among names that are numbered from n, or the number that was found
-- before.
abbrev pub last_among : Text → List Text → ℕ → Option ℕ → Option ℕ
last_among x [] n found = found
last_among x (y ∷ ys) n found = last_among x ys (suc n) (if bytes_eq y x then Some n else found)
