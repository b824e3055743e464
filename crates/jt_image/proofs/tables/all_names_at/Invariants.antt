use Rattle.std.proofs.Common.{◌-◌}
use Rattle.jt_image.specs.InPlace.{names_in, name_in, HasName}
use Rattle.jt_image.specs.Reading.{IsTable, all_names_at, name_at}
use Rattle.jt_image.proofs.TableWalk.{Walks}
use Rattle.jt_image.proofs.tables.all_names_at.Given as goal

abbrev pub invariant-names : goal.invariant-names
invariant-names l = record {
  walks : Walks name_in HasName (name_at l.globals) (all_names_at l.globals l.front) l.bytes (l.count - l.counter)
      l.names.items l.rest;
  table : IsTable l.used.items l.globals (names_in l.bytes l.names.items);
}
