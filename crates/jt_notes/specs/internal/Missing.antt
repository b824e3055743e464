-- The view of the first name of a path that has no value. Only private clauses cite this module.
use Rattle.std.specs.Prelude.{map}
use Rattle.jt_notes.specs.Notes.{Missing}
use Rattle.jt_notes.specs.declared.paths.MissingName.{MissingName}

abbrev pub missing_view : MissingName → Missing
missing_view m = record { index = m.index; beside = map (λ entry. entry.0) m.beside.now }
