-- The lengths in bytes of the names of a program and of the texts of its pool.
use Rattle.std.specs.Prelude.{ℕ, ◌≤◌, length}
use Rattle.std.specs.List.{AllByRecursion}
use Rattle.jt_value.specs.Tree as tree
use Rattle.jt_value.specs.Tree.{Tree}
use Rattle.jt_ir.specs.Slots.{Program}

abbrev pub value_bytes : Tree → ℕ
value_bytes (tree.text s) = length s
value_bytes (tree.markup s) = length s
value_bytes t = 0

-- Holds if no name and no text is longer than n bytes.
pub record IsShort (n : ℕ) (p : Program) : Type 0 where
  pub names : AllByRecursion (λ x. length x ≤ n) p.names
  pub pool : AllByRecursion (λ v. value_bytes v ≤ n) p.pool
