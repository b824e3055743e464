use Rattle.std.proofs.Common.{arith, rules}
use Rattle.jt_names.proofs.SortedNames.{key_inserted}
use Rattle.jt_codegen.proofs.PlaceTables.{again}
use Rattle.jt_codegen.proofs.places.NamedTemplates.add.Goals as goal

pub returns-in_ok-insert-clause-added : goal.returns-in_ok-insert-clause-added
returns-in_ok-insert-clause-added c = search (arith, rules, key_inserted)

pub returns-in_ok-insert-clause-last : goal.returns-in_ok-insert-clause-last
returns-in_ok-insert-clause-last c = search (arith, rules, key_inserted, again)
