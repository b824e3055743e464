use Rattle.std.proofs.Common.{List, drop}
use Rattle.jt_ast.specs.Expressions.{Text}
use Rattle.jt_codegen.proofs.EntryBoundDecided.{SameLow}
use Rattle.jt_codegen.proofs.entries.fits_entries.Given as goal

abbrev pub invariant-loop-routine : goal.invariant-loop-routine
invariant-loop-routine l =
    (templates : List Text) → SameLow l.room templates l.routines (drop l.routine-index l.routines)
