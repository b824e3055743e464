-- The laws of every code in which equal constants were merged.
use Rattle.std.specs.Prelude.{◌≡◌, ◌≤◌, ◌^◌, List, length, map}
use Rattle.std.specs.List.{flat_map, AllByRecursion}
use Rattle.jt_value.specs.Pairs.{Pairs}
use Rattle.jt_image.specs.Code.{Constant, Section, Code}
use Rattle.jt_image.specs.FreeRun.{Free, ComesTo}
use Rattle.jt_image.specs.IsCode.{IsInstruction, total_len}
use Rattle.jt_image.specs.Spelling.{constant_bytes}
use Rattle.jt_image.specs.Typed.{IsTyped}
use Rattle.jt_constants.specs.Merged.{each_once, new_indices, moved_unit, merged}

-- A merged code has the outcomes of the code, and is typed if the code is typed. It has no more
-- constants and no more bytes of constants, and the same number of instructions.
pub record MergedLaws : Type 0 where
  pub comes : (code : Code) (context : Pairs) (result : Free) → ComesTo (merged code) context result
      → ComesTo code context result
  pub came : (code : Code) (context : Pairs) (result : Free) → ComesTo code context result
      → ComesTo (merged code) context result
  pub typed : (code : Code) → IsTyped code → IsTyped (merged code)
  pub fewer : (constants : List Constant) → length (each_once constants) ≤ length constants
  pub shorter : (constants : List Constant)
      → length (flat_map constant_bytes (each_once constants)) ≤ length (flat_map constant_bytes constants)
  pub sized : (code : Code) → total_len (merged code).units ≡ total_len code.units
  pub written : (constants : List Constant) (units : List Section) → length constants ≤ 2 ^ 32
      → AllByRecursion (λ u. AllByRecursion IsInstruction u.code) units
      → AllByRecursion (λ u. AllByRecursion IsInstruction u.code)
      (map (moved_unit (new_indices constants)) units)
