-- Runs of small codes, computed from the definitions.
use Rattle.std.proofs.Common.{◌≡◌, ℕ, ◌^◌, true, false, List, [], ◌∷◌, ◌++◌, Result, None, Ok, Err, refl}
use Rattle.std.specs.Prelude.{ℤ, pos, negsuc, replicate, map, codes}
use Prim.Native.String.{String}
use Rattle.jt_value.specs.Tree as tree
use Rattle.jt_value.specs.Tree.{Tree}
use Rattle.jt_value.specs.View.{items_of}
use Rattle.jt_value.specs.declared.fault.Fault.{Fault}
use Rattle.jt_value.specs.declared.fault.Fault.TheVariants as faults
use Rattle.jt_ids.specs.LoopTable.{field_of}
use Rattle.jt_ids.specs.declared.loop_field.LoopField.TheVariants as field
use Rattle.jt_image.specs.declared.instruction.Instruction.{Instruction}
use Rattle.jt_image.specs.declared.instruction.Instruction.TheVariants as op
use Rattle.jt_image.specs.declared.kind.Kind.TheVariants as kind
use Rattle.jt_image.specs.declared.kind.Flaw.TheVariants as flaw
use Rattle.jt_image.specs.declared.version.Version.TheVariants as version
use Rattle.jt_image.specs.Code as code
use Rattle.jt_image.specs.Code.{Section, Code}
use Rattle.jt_image.specs.Ids.{operator_of, test_of}
use Rattle.jt_image.specs.Effect.{effect, effect_at}
use Rattle.jt_image.specs.Config as config
use Rattle.jt_image.specs.Config.{Budget, Frame, State}
use Rattle.jt_image.specs.Loops.{loop_field_value}
use Rattle.jt_image.specs.Step.{mapped, cost, pushing_all}
use Rattle.jt_image.specs.Run.{Next, Ends, Wrong, start, after}

abbrev a_unit : List Instruction → Section
a_unit is = record { parameters = 0; kind = 0; locals = 0; code = is }

abbrev whole : List code.Constant → List Section → Code
whole cs us = record {
  version = version.One;
  globals = 0;
  names = [];
  constants = cs;
  units = us;
  templates = [];
  places = [];
}

-- A code of one unit, to which a context may give the global `n`.
abbrev with_n : List Instruction → Code
with_n is = record (whole [] (a_unit is ∷ [])) { globals = 1; names = record { slot = 0; text = codes "n" } ∷ [] }

abbrev ample : ℕ → Budget
ample fuel = record { fuel = fuel; depth = 64; output = 1048576; size = 1048576; nesting = 32 }

abbrev runs : Code → Budget → Next
runs k b = after k 100 (start k [] b)

abbrev runs_given : List Instruction → Tree → ℕ → Next
runs_given is t fuel = after (with_n is) 10 (start (with_n is) ((codes "n", t) ∷ []) (ample fuel))

abbrev text : String → code.Constant
text s = code.text (codes s)

abbrev prints : String → Next
prints s = Ends (config.text (codes s))

abbrev faults_by : Fault → Next
faults_by f = Ends (config.fault f None)

abbrev no_fuel : Next
no_fuel = Ends (config.spent config.fuel)

abbrev no_output : Next
no_output = Ends (config.spent config.output)

-- Prints the text constant `x`.
abbrev x_code : Code
x_code = whole (text "x" ∷ []) (a_unit (op.Data 0 ∷ op.Return ∷ []) ∷ [])

-- Prints the global `n` if it is true.
abbrev if_n : List Instruction
if_n = op.GLoad 0 ∷ op.JumpIfFalse 4 ∷ op.GLoad 0 ∷ op.Emit 0 ∷ op.Return ∷ []

abbrev one : Tree
one = tree.number (pos 1)

abbrev a_list : Tree
a_list = tree.list (tree.item one tree.no_items)

texts_and_globals : (runs x_code (ample 2) ≡ prints "x")
    × (runs x_code (ample 1) ≡ no_fuel)
    × (runs x_code (ample 0) ≡ no_fuel)
    × (runs x_code (record (ample 2) { output = 0 }) ≡ no_output)
    × (runs (with_n if_n) (ample 3) ≡ prints "")
    × (runs_given if_n a_list 4 ≡ faults_by faults.Unprintable)
    × (runs_given if_n a_list 3 ≡ no_fuel)
texts_and_globals = (refl, refl, refl, refl, refl, refl, refl)

-- Prints the global `n`, escaped.
abbrev escaped_n : List Instruction
escaped_n = op.GLoad 0 ∷ op.Emit 1 ∷ op.Return ∷ []

-- Markup is not escaped again.
escaping : (runs_given escaped_n (tree.text (codes "<")) 3 ≡ prints "&lt;")
    × (runs_given escaped_n (tree.markup (codes "<")) 3 ≡ prints "<")
escaping = (refl, refl)

-- ---- operators, tests, lists and maps

-- The result of these instructions is printed.
abbrev printing : List Instruction → Code
printing is =
    whole (code.number (pos 7) ∷ code.number (pos 3) ∷ text "a" ∷ code.undefined ∷ code.number (pos 4)
    ∷ code.number (pos 1) ∷ [])
    (a_unit (is ++ (op.Emit 0 ∷ op.Return ∷ [])) ∷ [])

abbrev printed : List Instruction → ℕ → Next
printed is fuel = runs (printing is) (ample fuel)

-- `7 - 3 == 4`: the left operand is pushed first.
abbrev subtracted : List Instruction
subtracted = op.Const 0 ∷ op.Const 1 ∷ op.Op 1 ∷ op.Const 4 ∷ op.Op 11 ∷ []

-- The last line but one is `[7, 3][1] == 3`.
operations : (printed subtracted 7 ≡ prints "True")
    × (printed subtracted 6 ≡ no_fuel)
    × (printed (op.Const 0 ∷ op.Const 2 ∷ op.Op 1 ∷ []) 5 ≡ faults_by faults.BadType)
    × (printed (op.Const 0 ∷ op.Test 6 1 ∷ []) 4 ≡ prints "False")
    × (printed (op.Const 0 ∷ op.Const 1 ∷ op.MakeList 2 ∷ op.Const 5 ∷ op.Op 18 ∷ op.Const 1 ∷ op.Op 11 ∷ []) 9
    ≡ prints "True")
    × (printed (op.Const 0 ∷ op.Const 1 ∷ op.MakeMap 1 ∷ []) 5 ≡ faults_by faults.BadType)
    × (printed (op.Const 0 ∷ op.Const 1 ∷ op.Const 3 ∷ op.Const 1 ∷ op.MakeMap 2 ∷ []) 7 ≡ faults_by faults.Undefined)
unfolding operator_of test_of
operations = (refl, refl, refl, refl, refl, refl, refl)

abbrev a_map : Code
a_map = printing (op.Const 2 ∷ op.Const 1 ∷ op.MakeMap 1 ∷ [])

-- A repeated key keeps its position and takes the later value. A map has one more level than the
-- values in it; its size is tested first.
maps : (mapped (tree.text (codes "a") ∷ tree.nothing ∷ tree.text (codes "b") ∷ tree.nothing ∷ tree.markup (codes "a")
    ∷ one ∷ [])
    ≡ Ok (tree.map (tree.entry (codes "a") one (tree.entry (codes "b") tree.nothing tree.no_entries))))
    × (runs a_map (record (ample 9) { nesting = 0 }) ≡ Ends (config.spent config.nesting))
    × (runs a_map (record (ample 9) { size = 3; nesting = 0 }) ≡ Ends (config.spent config.size))
maps = (refl, refl, refl)

abbrev with_long_text : State
with_long_text = record {
  entries = config.value (tree.text (replicate 63 97)) ∷ [];
  locals = [];
  globals = [];
  buffers = [];
}

-- An instruction that reads a text of 63 bytes, whose size is 64, costs 1 more. The sizes of all
-- values are tested before their nesting.
costs : (cost (op.Op 8) with_long_text ≡ 2)
    × (cost (op.Unpack 63) with_long_text ≡ 2)
    × (pushing_all (tree.list (items_of []) ∷ tree.text (codes "a") ∷ [])
    ≡ record { calls = 0; returns = 0; bytes = 0; size = 2; nesting = 1 })
unfolding operator_of
costs = (refl, refl, refl)

-- ---- a loop and a capture that join

abbrev joined : Instruction → code.Constant → Next
joined i c =
    runs (whole (c ∷ text "a" ∷ []) (a_unit (op.Const 0 ∷ i ∷ op.Const 1 ∷ op.LoopStart ∷ op.Jump 6 ∷ op.CaptureBegin
    ∷ op.LoopEnd ∷ op.Drop ∷ op.Return ∷ []) ∷ [])) (ample 8)

-- If the jump is taken, a capture reaches `LoopEnd`.
joins : (joined (op.JumpIfFalse 5) (code.truth_value true) ≡ prints "")
    × (joined (op.JumpIfFalse 5) (code.truth_value false) ≡ Wrong)
    × (joined op.Drop (code.truth_value false) ≡ prints "")
joins = (refl, refl, refl)

-- ---- calls

-- A unit that calls itself.
abbrev endless : ℕ → ℕ → Next
endless fuel depth =
    runs (whole [] (a_unit (op.Call 0 ∷ op.Return ∷ []) ∷ [])) (record (ample fuel) { depth = depth })

-- Unit 1 has two parameters and one more local, and returns its second argument.
abbrev second_unit : Section
second_unit = record { parameters = 2; kind = 1; locals = 3; code = op.Load 2 ∷ op.Emit 0 ∷ op.Load 1 ∷ op.Return ∷ [] }

abbrev texts : List code.Constant
texts = text "a" ∷ text "b" ∷ text "c" ∷ []

abbrev calls_code : Code
calls_code =
    whole texts (a_unit (op.Const 2 ∷ op.Const 0 ∷ op.Const 1 ∷ op.Call 1 ∷ op.Emit 0 ∷ op.Emit 0 ∷ op.Return ∷ [])
    ∷ second_unit ∷ [])

abbrev called : ℕ → ℕ → Next
called fuel depth = runs calls_code (record (ample fuel) { depth = depth })

calls : (endless 3 2 ≡ Ends (config.spent config.depth))
    × (endless 2 2 ≡ no_fuel)
    × (endless 1 0 ≡ Ends (config.spent config.depth))
    × (called 11 1 ≡ prints "bc")
    × (called 10 1 ≡ no_fuel)
    × (called 11 0 ≡ Ends (config.spent config.depth))
calls = (refl, refl, refl, refl, refl, refl)

-- ---- loops

-- Pushes the list of `a` and `b`, then executes these instructions.
abbrev a_and_b : List Instruction → List Instruction
a_and_b is = op.Const 0 ∷ op.Const 1 ∷ op.MakeList 2 ∷ is

-- Prints two fields for each item of the list, and then whether the list was empty.
abbrev fields : ℕ → ℕ → Next
fields x y =
    runs (whole texts (a_unit (a_and_b (op.LoopStart ∷ op.LoopNext 10 ∷ op.LoopGet x 0 ∷ op.Emit 0 ∷ op.LoopGet y 0
    ∷ op.Emit 0 ∷ op.Jump 4 ∷ op.LoopEnd ∷ op.Emit 0 ∷ op.Return ∷ [])) ∷ [])) (ample 40)

loop_fields : (fields 0 9 ≡ prints "abbFalse")
    × (fields 5 6 ≡ prints "TrueFalseFalseTrueFalse")
    × (fields 0 8 ≡ prints "abaFalse")
    × (fields 10 0 ≡ Wrong)
unfolding field_of
loop_fields = (refl, refl, refl, refl)

-- A loop over `a` and `b` that has taken `n` items.
abbrev at_turn : ℕ → Frame
at_turn n = record { items = tree.text (codes "a") ∷ tree.text (codes "b") ∷ []; position = n; kept = [] }

abbrev counts : Frame → List (Result Tree Fault)
counts f =
    map (λ x. loop_field_value x f) (field.Index ∷ field.Index0 ∷ field.RevIndex ∷ field.RevIndex0 ∷ field.Length ∷ [])

abbrev numbers : List ℤ → List (Result Tree Fault)
numbers zs = map (λ z. Ok (tree.number z)) zs

loop_values : (counts (at_turn 0) ≡ numbers (pos 0 ∷ negsuc 0 ∷ pos 3 ∷ pos 2 ∷ pos 2 ∷ []))
    × (counts (at_turn 1) ≡ numbers (pos 1 ∷ pos 0 ∷ pos 2 ∷ pos 1 ∷ pos 2 ∷ []))
    × (counts (at_turn 2) ≡ numbers (pos 2 ∷ pos 1 ∷ pos 1 ∷ pos 0 ∷ pos 2 ∷ []))
    × (map (λ x. loop_field_value x (at_turn 0)) (field.Item ∷ field.Previous ∷ field.Next ∷ [])
    ≡ Ok tree.undefined ∷ Ok tree.undefined ∷ Ok (tree.text (codes "a")) ∷ [])
    × (loop_field_value field.Index (record (at_turn 0) { position = 2 ^ 63 }) ≡ Err faults.Overflow)
loop_values = (refl, refl, refl, refl, refl)

-- Keeps the items of the list that are equal to the third text. Prints each kept item and whether
-- it is the first, then whether no item was kept.
abbrev kept : String → Next
kept c =
    runs (whole (text "a" ∷ text "b" ∷ text c ∷ []) (a_unit (a_and_b (op.LoopStart ∷ op.LoopNext 10 ∷ op.LoopGet 0 0
    ∷ op.Const 2 ∷ op.Op 11 ∷ op.LoopKeep 0 ∷ op.Jump 4 ∷ op.LoopRewind ∷ op.LoopNext 17 ∷ op.LoopGet 0 0 ∷ op.Emit 0
    ∷ op.LoopGet 5 0 ∷ op.Emit 0 ∷ op.Jump 11 ∷ op.LoopEnd ∷ op.Emit 0 ∷ op.Return ∷ [])) ∷ [])) (ample 100)

keeping : (kept "b" ≡ prints "bTrueFalse")
    × (kept "c" ≡ prints "True")
    × (runs (whole (code.truth_value true ∷ [])
    (a_unit (op.Const 0 ∷ op.LoopStart ∷ op.LoopEnd ∷ op.Drop ∷ op.Return ∷ []) ∷ [])) (ample 2)
    ≡ faults_by faults.NotIterable)
unfolding field_of operator_of
keeping = (refl, refl, refl)

-- ---- captures and unpacking

-- Captures a text, as markup if the flag is 1, and prints it twice.
abbrev captured : ℕ → Code
captured flag =
    whole (text "<" ∷ [])
    (a_unit (op.CaptureBegin ∷ op.Data 0 ∷ op.CaptureEnd flag ∷ op.Dup ∷ op.Emit 1 ∷ op.Emit 1 ∷ op.Return ∷ []) ∷ [])

abbrev unpacked : ℕ → Code
unpacked n = whole texts (a_unit (a_and_b (op.Unpack n ∷ op.Emit 0 ∷ op.Emit 0 ∷ op.Return ∷ [])) ∷ [])

-- A captured text counts as output, and again when it is printed. The last unpacked item is on top.
captures : (runs (captured 1) (ample 7) ≡ prints "<<")
    × (runs (captured 0) (ample 7) ≡ prints "&lt;&lt;")
    × (runs (captured 1) (record (ample 7) { output = 2 }) ≡ no_output)
    × (runs (captured 1) (record (ample 7) { output = 3 }) ≡ prints "<<")
    × (runs (unpacked 2) (ample 7) ≡ prints "ba")
    × (runs (unpacked 3) (ample 4) ≡ faults_by faults.Unpack)
captures = (refl, refl, refl, refl, refl, refl)

-- ---- effects

abbrev one_constant : Code
one_constant = whole (text "a" ∷ []) (a_unit [] ∷ [])

-- Codes that a verifier refuses.
flaws : (effect one_constant (a_unit (op.Return ∷ [])) 0 (op.Op 22) (kind.Value ∷ kind.Value ∷ []) ≡ Err flaw.BadIndex)
    × (effect one_constant (a_unit (op.Return ∷ [])) 0 (op.Test 6 2) (kind.Value ∷ kind.Value ∷ [])
    ≡ Err flaw.BadIndex)
    × (effect one_constant (a_unit (op.Return ∷ [])) 0 (op.Op 0) (kind.Value ∷ []) ≡ Err flaw.MissingOperand)
    × (effect_at one_constant (a_unit (op.Emit 0 ∷ op.Return ∷ [])) 0 [] ≡ Err flaw.MissingOperand)
    × (effect_at one_constant (a_unit (op.CaptureBegin ∷ op.Emit 0 ∷ op.Return ∷ [])) 1 (kind.Capture ∷ [])
    ≡ Err flaw.WrongKind)
    × (effect_at one_constant (a_unit (op.CaptureBegin ∷ op.Return ∷ [])) 1 (kind.Capture ∷ []) ≡ Err flaw.BadReturn)
    × (effect_at one_constant (a_unit (op.Const 0 ∷ [])) 0 [] ≡ Err flaw.FallsOff)
    × (effect_at one_constant (a_unit []) 0 [] ≡ Err flaw.FallsOff)
    × (effect_at one_constant (a_unit (op.Const 1 ∷ op.Drop ∷ op.Return ∷ [])) 0 [] ≡ Err flaw.BadIndex)
    × (effect_at one_constant (a_unit (op.LoopGet 10 0 ∷ op.Drop ∷ op.LoopEnd ∷ op.Drop ∷ op.Return ∷ [])) 0
    (kind.Frame ∷ [])
    ≡ Err flaw.BadIndex)
    × (effect_at one_constant (a_unit (op.LoopGet 0 1 ∷ op.Return ∷ [])) 0 (kind.Frame ∷ []) ≡ Err flaw.MissingOperand)
    × (effect_at one_constant (a_unit (op.LoopGet 0 1 ∷ op.Return ∷ [])) 0 (kind.Frame ∷ kind.Value ∷ [])
    ≡ Err flaw.WrongKind)
    × (effect_at one_constant (a_unit (op.Call 1 ∷ op.Return ∷ [])) 0 [] ≡ Err flaw.BadIndex)
unfolding operator_of test_of field_of
flaws = (refl, refl, refl, refl, refl, refl, refl, refl, refl, refl, refl, refl, refl)

successors : (effect_at one_constant (a_unit (op.Const 0 ∷ op.Jump 0 ∷ [])) 1 (kind.Value ∷ [])
    ≡ Ok (record { shape = kind.Value ∷ []; points = 0 ∷ [] }))
    × (effect_at calls_code (a_unit (op.Call 1 ∷ op.Return ∷ [])) 0 (kind.Value ∷ kind.Value ∷ kind.Frame ∷ [])
    ≡ Ok (record { shape = kind.Value ∷ kind.Frame ∷ []; points = 1 ∷ [] }))
    × (effect_at one_constant (a_unit (op.LoopNext 1 ∷ op.Return ∷ [])) 0 (kind.Frame ∷ [])
    ≡ Ok (record { shape = kind.Frame ∷ []; points = 1 ∷ 1 ∷ [] }))
successors = (refl, refl, refl)
