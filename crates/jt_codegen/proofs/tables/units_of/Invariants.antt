use Rattle.std.proofs.Common.{◌≡◌, ◌++◌, List, drop}
use Rattle.jt_ast.specs.Expressions.{Text}
use Rattle.jt_codegen.proofs.ProgramTables.{Made, tags, all_places}
use Rattle.jt_codegen.proofs.tables.units_of.Given as goal

abbrev pub invariant-loop-routine : goal.invariant-loop-routine
invariant-loop-routine l = (templates : List Text)
    → Made templates l.units.items l.left l.routines (drop l.routine-index l.routines)
    × (tags templates l.places.items ++ all_places templates (drop l.routine-index l.routines)
    ≡ all_places templates l.routines)
