-- A merged code is no larger than the code.
use Rattle.std.proofs.Common.{◌≡◌, ℕ, ◌+◌, ◌≤◌, ◌^◌, Bool, List, [], ◌∷◌, ◌++◌, length, map, fold, refl, ap, arith}
use Rattle.std.proofs.Common.{length-append, if◌then◌else◌, rules}
use Rattle.std.specs.List.{list_any, flat_map, AllByRecursion}
use Rattle.std.proofs.lemmas.List.{length-map}
use Rattle.std.proofs.lemmas.List.Concat.{flat_map-cons, flat_map-append}
use Rattle.jt_image.specs.declared.instruction.Instruction.{Instruction}
use Rattle.jt_image.specs.declared.instruction.Instruction.TheVariants as op
use Rattle.jt_image.specs.Code.{Constant, Section}
use Rattle.jt_image.specs.IsCode.{IsInstruction, total_len}
use Rattle.jt_image.specs.Spelling.{constant_bytes}
use Rattle.jt_constants.specs.Merged.{same, with_new, each_once, new_indices, with_indices, moved_unit}
use Rattle.jt_constants.proofs.UniqueConstants.{has_room}

abbrev bytes : List Constant → ℕ
bytes cs = length (flat_map constant_bytes cs)

bytes_added : (acc : List Constant) (c : Constant) (b : Bool)
    → bytes (if b then acc else acc ++ c ∷ []) ≤ bytes acc + length (constant_bytes c)
bytes_added acc c b = search (arith, rules, flat_map-append, length-append, flat_map-cons)

bytes_once : (acc cs : List Constant) → bytes (fold with_new acc cs) ≤ bytes acc + bytes cs
bytes_once acc [] = omega arith
bytes_once acc (c ∷ cs) =
    omega (
      arith,
      bytes_once (with_new acc c) cs,
      bytes_added acc c (list_any (same c) acc),
      ap length (flat_map-cons constant_bytes c cs),
      length-append (constant_bytes c) (flat_map constant_bytes cs),
    )

pub shorter : (cs : List Constant) → bytes (each_once cs) ≤ bytes cs
shorter cs = omega (arith, bytes_once [] cs)

pub units_len : (indices : List ℕ) (us : List Section) → total_len (map (moved_unit indices) us) ≡ total_len us
units_len indices [] = refl
units_len indices (u ∷ us) = omega (arith, length-map u.code (with_indices indices), units_len indices us)

module _ (cs : List Constant) (le : length cs ≤ 2 ^ 32) where
  instruction_room : (i : Instruction) → IsInstruction i → IsInstruction (with_indices (new_indices cs) i)
  instruction_room (op.Const c) h = has_room cs c le h
  instruction_room (op.Load c) h = h
  instruction_room (op.Store c) h = h
  instruction_room (op.GLoad c) h = h
  instruction_room (op.GStore c) h = h
  instruction_room op.Drop h = h
  instruction_room op.Dup h = h
  instruction_room (op.Emit a) h = h
  instruction_room (op.Data c) h = has_room cs c le h
  instruction_room (op.Jump c) h = h
  instruction_room (op.JumpIfFalse c) h = h
  instruction_room (op.JumpIfTrue c) h = h
  instruction_room (op.Op a) h = h
  instruction_room (op.Filter a b c) h = h
  instruction_room (op.Test a b) h = h
  instruction_room (op.MakeList c) h = h
  instruction_room (op.MakeMap c) h = h
  instruction_room op.LoopStart h = h
  instruction_room (op.LoopNext c) h = h
  instruction_room (op.LoopGet a c) h = h
  instruction_room (op.LoopKeep c) h = h
  instruction_room op.LoopRewind h = h
  instruction_room op.LoopEnd h = h
  instruction_room op.CaptureBegin h = h
  instruction_room (op.CaptureEnd a) h = h
  instruction_room (op.Unpack c) h = h
  instruction_room (op.Call c) h = h
  instruction_room op.Return h = h

  code_room : (is : List Instruction) → AllByRecursion IsInstruction is
      → AllByRecursion IsInstruction (map (with_indices (new_indices cs)) is)
  code_room [] h = tt
  code_room (i ∷ is) h = (instruction_room i h.0, code_room is h.1)

  pub units_room : (us : List Section) → AllByRecursion (λ u. AllByRecursion IsInstruction u.code) us
      → AllByRecursion (λ u. AllByRecursion IsInstruction u.code) (map (moved_unit (new_indices cs)) us)
  units_room [] h = tt
  units_room (u ∷ us) h = (code_room u.code h.0, units_room us h.1)
