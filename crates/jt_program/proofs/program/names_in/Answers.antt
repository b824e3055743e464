use Rattle.std.proofs.Common.{map, string_bytes}
use Rattle.std.proofs.lemmas.List.Sorted.{IsPermutation-map}
use Rattle.jt_program.proofs.program.names_in.Goals as goal

pub returns-clause-listed : goal.returns-clause-listed
returns-clause-listed g c = (
  map string_bytes c.in_ok-names.names.items,
  c.in_ok-names.ensures.names,
  IsPermutation-map string_bytes _ _ c.sort_unstable.ensures.permutation,
)
