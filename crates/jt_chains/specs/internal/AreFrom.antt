-- The templates at some indices. Only private clauses cite this module.
use Rattle.std.specs.Prelude.{◌≡◌, ℕ, List, map, slice_get, Some}
use Rattle.jt_chains.specs.Chain.{Template}

-- The numbers are the indices of these templates.
abbrev pub AreFrom : List Template → List ℕ → List Template → Type 0
AreFrom ts is us = map (slice_get ts) is ≡ map Some us
