-- The views of the parts from which an image is assembled.
use Rattle.std.specs.Prelude.{ℕ, List, map, String, string_bytes, unwrap_or}
use Rattle.std.specs.List.{AllByRecursion}
use Rattle.std.specs.Option.{IsSome}
use Rattle.std.specs.declared.alloc.Global.{Global}
use Rattle.jt_image.specs.Code as code
use Rattle.jt_image.specs.Reading.{instruction_of}
use Rattle.jt_image.specs.declared.instruction.Instruction.{Instruction}
use Rattle.jt_image.specs.declared.instruction.Instruction.TheVariants as op
use Rattle.jt_image.specs.declared.image.Constant.{Constant}
use Rattle.jt_image.specs.declared.image.Constant.TheVariants as constant
use Rattle.jt_image.specs.declared.parts.SourceLoc as loc
use Rattle.jt_image.specs.declared.parts.Unit as given
use Rattle.jt_image.specs.declared.wire.Instr.{Instr}

-- A slot and its name.
abbrev pub name_view : ℕ × String Global → code.Name
name_view n = record { slot = n.0; text = string_bytes n.1 }

abbrev pub names_view : List (ℕ × String Global) → List code.Name
names_view ns = map name_view ns

abbrev pub constant_view : Constant → code.Constant
constant_view constant.Undefined = code.undefined
constant_view constant.None = code.nothing
constant_view (constant.Bool b) = code.truth_value b
constant_view (constant.Int z) = code.number z
constant_view (constant.Text s) = code.text (string_bytes s)
constant_view (constant.Markup s) = code.markup (string_bytes s)

abbrev pub constants_view : List Constant → List code.Constant
constants_view cs = map constant_view cs

-- The instruction with these fields; unknown fields are viewed as some instruction.
abbrev pub instruction_view : Instr → Instruction
instruction_view w = unwrap_or (instruction_of w) op.Return

abbrev pub unit_view : given.Unit → code.Section
unit_view u =
    record {
      parameters = u.parameters;
      kind = u.kind;
      locals = u.locals;
      code = map instruction_view u.code.items;
    }

abbrev pub units_view : List given.Unit → List code.Section
units_view us = map unit_view us

-- The fields of each instruction of the unit are those of an instruction.
abbrev pub IsKnownUnit : given.Unit → Type 0
IsKnownUnit u = AllByRecursion (λ w. IsSome (instruction_of w)) u.code.items

abbrev pub texts_view : List (String Global) → List (List ℕ)
texts_view ts = map string_bytes ts

abbrev pub loc_view : loc.SourceLoc → code.SourceLoc
loc_view s = record { template = s.template; line = s.line }

abbrev pub locs_view : List loc.SourceLoc → List code.SourceLoc
locs_view ss = map loc_view ss
