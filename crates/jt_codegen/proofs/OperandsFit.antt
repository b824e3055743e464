-- If the tables and the instructions of a program are within the limits of images, the operands of each
-- instruction fit their fields.
use Rattle.std.proofs.Common.{ℕ, ◌≤◌, ◌^◌, List, [], ◌∷◌, length, map, arith}
use Rattle.std.specs.List.{AllByRecursion}
use Rattle.jt_image.specs.IsCode.{max_instructions, max_locals, total_len}
use Rattle.jt_ir.specs.Slots.{Program, Routine}
use Rattle.jt_lower.specs.Fits.{ProgramFits}
use Rattle.jt_lower.specs.Lower.{unit_of}
use Rattle.jt_lower.proofs.OperandsFit.{routines_written}
use Rattle.jt_codegen.specs.Units.{AreEncodable, FitRoutineLocals, FitsTables}

-- A unit has the locals of its routine.
unit_locals : (rs : List (Routine ℕ)) → FitRoutineLocals rs
    → AllByRecursion (λ u. u.locals ≤ max_locals) (map unit_of rs)
unit_locals [] h = tt
unit_locals (r ∷ rs) h = (h.0, unit_locals rs h.1)

-- If the tables of a program and the number of its instructions are within the limits, the operands of
-- each instruction fit their fields, whatever the bytes and the templates of its image are.
pub units_written : (p : Program) → ProgramFits p → length p.pool ≤ 2 ^ 32 → FitsTables p
    → total_len (map unit_of p.routines) ≤ max_instructions → AreEncodable (map unit_of p.routines)
units_written p fit pool tables len = grind (arith, routines_written, unit_locals)
