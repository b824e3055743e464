-- The chains and libraries, and the index of the selected one. Only private clauses cite this
-- module.
use Rattle.std.specs.Prelude.{ℕ}
use denote.Ref.{Bor}
use Rattle.jt_chains.specs.declared.chain.Chain.{Chain}

pub record Chains : Type 0 where
  pub chain : Bor Chain
  pub namespace : ℕ
