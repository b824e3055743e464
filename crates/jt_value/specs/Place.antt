-- The index of a fault: the name of a template, and a line of it. Lines count from 1.
use Rattle.std.specs.Prelude.{ℕ, List}

pub record Place : Type 0 where
  pub template : List ℕ
  pub line : ℕ
