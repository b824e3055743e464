-- An instruction as a listing shows it: its name and its operands.
use Rattle.std.specs.Prelude.{ℕ, ◌==◌, List, [], ◌∷◌, ◌++◌, Option, Some, None, codes, nat_lt, option_map, slice_get}
use Rattle.std.specs.Prelude.{if◌then◌else◌}
use Rattle.std.specs.Fmt.{decimal}
use Rattle.jt_ids.specs.LoopTable.{field_of}
use Rattle.jt_image.specs.Code.{Name, Code}
use Rattle.jt_image.specs.Ids.{operator_of, filter_of, test_of}
use Rattle.jt_image.specs.declared.instruction.Instruction.{Instruction}
use Rattle.jt_image.specs.declared.instruction.Instruction.TheVariants as op
use Rattle.jt_show.specs.Quoted.{quoted}
use Rattle.jt_show.specs.Words.{operator_word, filter_word, test_word, field_word, constant_text}
use Rattle.jt_show.specs.Words.{emit_word, capture_word}

-- The name of an instruction.
abbrev pub instruction_name : Instruction → List ℕ
instruction_name (op.Const c) = codes "Const"
instruction_name (op.Load c) = codes "Load"
instruction_name (op.Store c) = codes "Store"
instruction_name (op.GLoad c) = codes "GLoad"
instruction_name (op.GStore c) = codes "GStore"
instruction_name op.Drop = codes "Drop"
instruction_name op.Dup = codes "Dup"
instruction_name (op.Emit a) = codes "Emit"
instruction_name (op.Data c) = codes "Data"
instruction_name (op.Jump c) = codes "Jump"
instruction_name (op.JumpIfFalse c) = codes "JumpIfFalse"
instruction_name (op.JumpIfTrue c) = codes "JumpIfTrue"
instruction_name (op.Op a) = codes "Op"
instruction_name (op.Filter a b c) = codes "Filter"
instruction_name (op.Test a b) = codes "Test"
instruction_name (op.MakeList c) = codes "MakeList"
instruction_name (op.MakeMap c) = codes "MakeMap"
instruction_name op.LoopStart = codes "LoopStart"
instruction_name (op.LoopNext c) = codes "LoopNext"
instruction_name (op.LoopGet a c) = codes "LoopGet"
instruction_name (op.LoopKeep c) = codes "LoopKeep"
instruction_name op.LoopRewind = codes "LoopRewind"
instruction_name op.LoopEnd = codes "LoopEnd"
instruction_name op.CaptureBegin = codes "CaptureBegin"
instruction_name (op.CaptureEnd a) = codes "CaptureEnd"
instruction_name (op.Unpack c) = codes "Unpack"
instruction_name (op.Call c) = codes "Call"
instruction_name op.Return = codes "Return"

-- A number.
abbrev pub number_text : ℕ → List ℕ
number_text n = codes " " ++ decimal n

-- A number, and in parentheses what it stands for, if that is known.
abbrev pub worded : ℕ → Option (List ℕ) → List ℕ
worded n None = number_text n
worded n (Some word) = codes " " ++ (decimal n ++ (codes " (" ++ (word ++ codes ")")))

-- The label of a point.
abbrev pub label : ℕ → List ℕ
label point = codes "L" ++ decimal point

-- The name of a slot, if it has one.
abbrev pub name_of_slot : List Name → ℕ → Option (List ℕ)
name_of_slot [] slot = None
name_of_slot (name ∷ names) slot = if name.slot == slot then Some name.text else name_of_slot names slot

-- The name of a global, if the global exists and has a name.
abbrev pub global_name : Code → ℕ → Option (List ℕ)
global_name k slot = if nat_lt slot k.globals then name_of_slot k.names slot else None

-- The operands of an instruction.
abbrev pub operands : Code → Instruction → List ℕ
operands k (op.Const c) = worded c (option_map constant_text (slice_get k.constants c))
operands k (op.Load c) = number_text c
operands k (op.Store c) = number_text c
operands k (op.GLoad c) = worded c (option_map quoted (global_name k c))
operands k (op.GStore c) = worded c (option_map quoted (global_name k c))
operands k op.Drop = []
operands k op.Dup = []
operands k (op.Emit a) = worded a (emit_word a)
operands k (op.Data c) = worded c (option_map constant_text (slice_get k.constants c))
operands k (op.Jump c) = codes " " ++ label c
operands k (op.JumpIfFalse c) = codes " " ++ label c
operands k (op.JumpIfTrue c) = codes " " ++ label c
operands k (op.Op a) = worded a (option_map operator_word (operator_of a))
operands k (op.Filter a b c) =
    worded a (option_map filter_word (filter_of a))
    ++ (codes ", values " ++ (decimal b ++ (codes ", escaping " ++ decimal c)))
operands k (op.Test a b) =
    worded a (option_map test_word (test_of a)) ++ (codes ", values " ++ decimal b)
operands k (op.MakeList c) = number_text c
operands k (op.MakeMap c) = number_text c
operands k op.LoopStart = []
operands k (op.LoopNext c) = codes " " ++ label c
operands k (op.LoopGet a c) =
    worded a (option_map field_word (field_of a)) ++ (codes ", above " ++ decimal c)
operands k (op.LoopKeep c) = number_text c
operands k op.LoopRewind = []
operands k op.LoopEnd = []
operands k op.CaptureBegin = []
operands k (op.CaptureEnd a) = worded a (capture_word a)
operands k (op.Unpack c) = number_text c
operands k (op.Call c) = number_text c
operands k op.Return = []

abbrev pub instruction_text : Code → Instruction → List ℕ
instruction_text k i = instruction_name i ++ operands k i
