-- A merged code has the same runs as the code.
use Rattle.std.proofs.Common.{◌≡◌, ℕ, zero, suc, ◌+◌, List, [], ◌∷◌, map, take, Option, Some, None, refl, sym, ap, ◌∙◌}
use Rattle.std.proofs.Common.{arith, rules}
use Rattle.std.specs.Prelude.{slice_get, option_map}
use Rattle.std.specs.Option.{option_and_then}
use Rattle.std.proofs.lemmas.List.{length-map}
use Rattle.std.proofs.lemmas.Option.{slice_get-map}
use Rattle.jt_value.specs.Pairs.{Pairs}
use Rattle.jt_value.specs.Place.{Place}
use Rattle.jt_image.specs.declared.instruction.Instruction.{Instruction}
use Rattle.jt_image.specs.declared.instruction.Instruction.TheVariants as op
use Rattle.jt_image.specs.Code.{Constant, Section, Code}
use Rattle.jt_image.specs.IsCode.{total_len}
use Rattle.jt_image.specs.Places.{place_of, place_at}
use Rattle.jt_image.specs.Config.{MachineState}
use Rattle.jt_image.specs.Step.{Action, straight, push, put, constant_value, text_of, calls_unit, action, fetch}
use Rattle.jt_image.specs.Run.{entry_locals}
use Rattle.jt_image.specs.FreeRun.{Free, on_action, exec_at, exec, start_machine, ComesTo}
use Rattle.jt_constants.specs.Merged.{new_indices, with_indices, moved_unit, merged}
use Rattle.jt_constants.proofs.UniqueConstants.{reads}

pub total_taken : (indices : List ℕ) (n : ℕ) (us : List Section)
    → total_len (take n (map (moved_unit indices) us)) ≡ total_len (take n us)
total_taken indices zero us = refl
total_taken indices (suc n) [] = refl
total_taken indices (suc n) (u ∷ us) = omega (arith, length-map u.code (with_indices indices), total_taken indices n us)

entry_same : (indices : List ℕ) (us : List Section) → entry_locals (map (moved_unit indices) us) ≡ entry_locals us
entry_same indices [] = refl
entry_same indices (u ∷ us) = refl

module _ (k : Code) where
  abbrev ps : List ℕ
  ps = new_indices k.constants

  place_same : (unit point : ℕ) → place_at (merged k) unit point ≡ place_at k unit point
  place_same unit point =
      ap (λ (n : ℕ). option_and_then (place_of k.templates) (slice_get k.places (n + point)))
      (total_taken ps unit k.units)

  called_same : (n : ℕ) (o : Option Section) (m : MachineState)
      → calls_unit n (option_map (moved_unit ps) o) m ≡ calls_unit n o m
  called_same n None m = refl
  called_same n (Some v) m = refl

  action_same : (u : Section) (i : Instruction) (m : MachineState)
      → action (merged k) (moved_unit ps u) (with_indices ps i) m ≡ action k u i m
  action_same u (op.Const c) m =
      ap (λ (o : Option Constant). straight (push (constant_value o) m.state.entries m.state) m) (reads k.constants c)
  action_same u (op.Load c) m = refl
  action_same u (op.Store c) m = refl
  action_same u (op.GLoad c) m = refl
  action_same u (op.GStore c) m = refl
  action_same u op.Drop m = refl
  action_same u op.Dup m = refl
  action_same u (op.Emit a) m = refl
  action_same u (op.Data c) m =
      ap (λ (o : Option Constant). straight (put (text_of o) m.state.buffers m.state) m) (reads k.constants c)
  action_same u (op.Jump c) m = refl
  action_same u (op.JumpIfFalse c) m = refl
  action_same u (op.JumpIfTrue c) m = refl
  action_same u (op.Op a) m = refl
  action_same u (op.Filter a b c) m = refl
  action_same u (op.Test a b) m = refl
  action_same u (op.MakeList c) m = refl
  action_same u (op.MakeMap c) m = refl
  action_same u op.LoopStart m = refl
  action_same u (op.LoopNext c) m = refl
  action_same u (op.LoopGet a c) m = refl
  action_same u (op.LoopKeep c) m = refl
  action_same u op.LoopRewind m = refl
  action_same u op.LoopEnd m = refl
  action_same u op.CaptureBegin m = refl
  action_same u (op.CaptureEnd a) m = refl
  action_same u (op.Unpack c) m = refl
  action_same u (op.Call c) m =
      ap (λ (o : Option Section). calls_unit c o m) (slice_get-map (moved_unit ps) k.units c)
      ∙ called_same c (slice_get k.units c) m
  action_same u op.Return m = refl

  abbrev both : Section × Instruction → Section × Instruction
  both x = (moved_unit ps x.0, with_indices ps x.1)

  in_unit : (u : Section) (p : ℕ) → option_and_then (λ i. Some (moved_unit ps u, i))
      (slice_get (map (with_indices ps) u.code) p)
      ≡ option_map both (option_and_then (λ i. Some (u, i)) (slice_get u.code p))
  in_unit u p = search (arith, rules, slice_get-map)

  fetch_same : (n p : ℕ) → fetch (merged k) n p ≡ option_map both (fetch k n p)
  fetch_same n p = search (arith, rules, slice_get-map, in_unit)

  then_same : (n : ℕ) (q : Option Place) (a : Action) → ((m : MachineState) → exec (merged k) n m ≡ exec k n m)
      → on_action q a (exec (merged k) n) ≡ on_action q a (exec k n)
  then_same n q a h = search (arith, rules)

  at_same : (n : ℕ) (x : Option (Section × Instruction)) (m : MachineState)
      → ((d : MachineState) → exec (merged k) n d ≡ exec k n d)
      → exec_at (merged k) (option_map both x) m (exec (merged k) n) ≡ exec_at k x m (exec k n)
  at_same n x m h = search (arith, rules, place_same, action_same, then_same)

  exec_same : (n : ℕ) (m : MachineState) → exec (merged k) n m ≡ exec k n m
  exec_same zero m = refl
  exec_same (suc n) m =
      ap (λ (x : Option (Section × Instruction)). exec_at (merged k) x m (exec (merged k) n))
      (fetch_same m.unit m.point)
      ∙ at_same n (fetch k m.unit m.point) m (λ d. exec_same n d)

  start_same : (x : Pairs) → start_machine (merged k) x ≡ start_machine k x
  start_same x = search (arith, rules, entry_same)

  runs_same : (x : Pairs) (n : ℕ) → exec (merged k) n (start_machine (merged k) x) ≡ exec k n (start_machine k x)
  runs_same x n = ap (exec (merged k) n) (start_same x) ∙ exec_same n (start_machine k x)

  pub comes : (x : Pairs) (o : Free) → ComesTo (merged k) x o → ComesTo k x o
  comes x o r = (r.0, sym (runs_same x r.0) ∙ r.1)

  pub came : (x : Pairs) (o : Free) → ComesTo k x o → ComesTo (merged k) x o
  came x o r = (r.0, runs_same x r.0 ∙ r.1)
