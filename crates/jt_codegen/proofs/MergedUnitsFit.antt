-- Units keep their numbers when constants get their indices into the table.
use Rattle.std.proofs.Common.{ℕ, ◌+◌, ◌*◌, ◌≤◌, List, [], ◌∷◌, length, map, arith}
use Rattle.std.specs.List.{AllByRecursion}
use Rattle.jt_image.specs.Code.{Section}
use Rattle.jt_ir.specs.Slots.{Routine, Program}
use Rattle.jt_constants.specs.Merged.{new_indices, moved_unit}
use Rattle.jt_lower.specs.Lower.{unit_of, lowered}
use Rattle.jt_codegen.specs.Units.{FitParameters}

-- Parameters, kind and locals stay.
pub moved_all : (P : ℕ → ℕ → ℕ → Type 0) (places : List ℕ) (us : List Section)
    → AllByRecursion (λ u. P u.parameters u.kind u.locals) us
    → AllByRecursion (λ u. P u.parameters u.kind u.locals) (map (moved_unit places) us)
moved_all P places [] h = tt
moved_all P places (u ∷ us) h = (h.0, moved_all P places us h.1)

pub moved_before : (P : ℕ → ℕ → ℕ → Type 0) (places : List ℕ) (us : List Section)
    → AllByRecursion (λ u. P u.parameters u.kind u.locals) (map (moved_unit places) us)
    → AllByRecursion (λ u. P u.parameters u.kind u.locals) us
moved_before P places [] h = tt
moved_before P places (u ∷ us) h = (h.0, moved_before P places us h.1)

-- The indices of a program's constants into the table.
abbrev pub ps : Program → List ℕ
ps p = new_indices (lowered p).constants

-- ---- the sum of the parameters of units

abbrev pub all_parameters : List Section → ℕ
all_parameters [] = 0
all_parameters (u ∷ us) = u.parameters + all_parameters us

pub parameters_bound : (rs : List (Routine ℕ)) → FitParameters rs → all_parameters (map unit_of rs) ≤ 255 * length rs
parameters_bound [] h = omega arith
parameters_bound (r ∷ rs) h = omega (arith, h.0, parameters_bound rs h.1)
