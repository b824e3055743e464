-- The listing of a code: its version, its globals with their names, its constants, and its units
-- with their instructions, the shapes that the verifier finds, and the mark where it refuses.
use Rattle.std.specs.Prelude.{ℕ, zero, suc, ◌+◌, ◌==◌, ◌&&◌, Bool, false, List, [], ◌∷◌, ◌++◌, length, flat_map}
use Rattle.std.specs.Prelude.{Option, Some, None, codes, take, unwrap_or, if◌then◌else◌}
use Rattle.std.specs.List.{list_all, list_any}
use Rattle.std.specs.Option.{is_none, option_or}
use Rattle.std.specs.Str.{bytes_eq}
use Rattle.std.specs.Fmt.{decimal}
use Rattle.jt_value.specs.Place.{Place}
use Rattle.jt_image.specs.Code.{Name, Constant, Section, Code}
use Rattle.jt_image.specs.Readers.{header_of, place_there}
use Rattle.jt_image.specs.declared.UnitHeader.{UnitHeader}
use Rattle.jt_image.specs.declared.version.Version.{Version}
use Rattle.jt_image.specs.declared.version.Version.TheVariants as version
use Rattle.jt_image.specs.declared.instruction.Instruction.{Instruction}
use Rattle.jt_image.specs.declared.instruction.Instruction.TheVariants as op
use Rattle.jt_show.specs.Quoted.{quoted}
use Rattle.jt_show.specs.Words.{constant_text, kind_word}
use Rattle.jt_show.specs.Instructions.{instruction_text, label, worded}
use Rattle.jt_show.specs.Shapes.{line_end}
use Rattle.jt_show.specs.Marks.{mark_line}
use Rattle.jt_verify.specs.Search.{Found, accepted, shape_at, unit_found}

-- The lines of the items of a list, each with its number, from the number of the first one.
abbrev pub numbered : {A : Type 0} → (ℕ → A → List ℕ) → ℕ → List A → List ℕ
numbered line n [] = []
numbered line n (item ∷ items) = line n item ++ numbered line (n + 1) items

-- ---- tables

abbrev pub version_line : Version → List ℕ
version_line version.One = codes "version 1\n"
version_line version.Two = codes "version 2\n"

-- A name of a global, with its slot.
abbrev pub name_line : Name → List ℕ
name_line name = codes "  " ++ (decimal name.slot ++ (codes "\t" ++ (quoted name.text ++ codes "\n")))

abbrev pub globals_line : ℕ → List ℕ
globals_line n = codes "globals " ++ (decimal n ++ codes "\n")

abbrev pub globals_text : Code → List ℕ
globals_text k = globals_line k.globals ++ flat_map name_line k.names

abbrev pub constant_line : ℕ → Constant → List ℕ
constant_line n constant = codes "  " ++ (decimal n ++ (codes "\t" ++ (constant_text constant ++ codes "\n")))

abbrev pub constants_line : ℕ → List ℕ
constants_line n = codes "constants " ++ (decimal n ++ codes "\n")

abbrev pub constants_text : Code → List ℕ
constants_text k = constants_line (length k.constants) ++ numbered constant_line 0 k.constants

-- ---- labels

-- The point to which an instruction may jump.
abbrev pub target_of : Instruction → Option ℕ
target_of (op.Jump c) = Some c
target_of (op.JumpIfFalse c) = Some c
target_of (op.JumpIfTrue c) = Some c
target_of (op.LoopNext c) = Some c
target_of i = None

abbrev pub is_point : ℕ → Option ℕ → Bool
is_point point None = false
is_point point (Some target) = target == point

-- True if some instruction may jump to the point.
abbrev pub is_target : List Instruction → ℕ → Bool
is_target code point = list_any (λ i. is_point point (target_of i)) code

-- The line of the label of a point, if the point is a target.
abbrev pub label_line : Bool → ℕ → List ℕ
label_line target point = if target then label point ++ codes ":\n" else []

-- ---- places

-- The place of the last instruction before a point that has one, if one has.
abbrev pub place_before : Code → ℕ → ℕ → Option Place
place_before k unit zero = None
place_before k unit (suc point) = option_or (place_there k unit point) (place_before k unit point)

abbrev pub is_same : Option Place → Place → Bool
is_same None q = false
is_same (Some p) q = p.line == q.line && bytes_eq p.template q.template

abbrev pub place_text : Place → List ℕ
place_text p = codes "  in " ++ (quoted p.template ++ (codes " line " ++ (decimal p.line ++ codes "\n")))

-- The line of the place of an instruction, if it has a place, and it is not the same as the place before.
abbrev pub place_line : Option Place → Option Place → List ℕ
place_line before None = []
place_line before (Some p) = if is_same before p then [] else place_text p

-- ---- units

-- The line of an instruction, up to its shape.
abbrev pub instruction_start : Code → ℕ → Instruction → List ℕ
instruction_start k point i = codes "  " ++ (decimal point ++ (codes "\t" ++ instruction_text k i))

-- The lines of an instruction: its place if it changes, its label if a jump may lead to it, itself with
-- its shape, and the mark of a refusal.
abbrev pub point_text : Code → ℕ → List Instruction → Found → ℕ → Instruction → List ℕ
point_text k unit code found point i =
    place_line (place_before k unit point) (place_there k unit point)
    ++ (label_line (is_target code point) point
    ++ (instruction_start k point i ++ (line_end (shape_at found.shapes point) ++ mark_line found point (Some i))))

-- The line of a unit: its number, and the four numbers of its header.
abbrev pub unit_line : ℕ → UnitHeader → List ℕ
unit_line n unit =
    codes "unit " ++ (decimal n ++ (codes ": parameters " ++ (decimal unit.parameters
    ++ (codes ", kind" ++ (worded unit.kind (kind_word unit.kind) ++ (codes ", locals " ++ (decimal unit.locals
    ++ (codes ", instructions " ++ (decimal unit.instructions ++ codes "\n")))))))))

-- The lines of a unit. A unit without instructions is refused behind its own line.
abbrev pub unit_text : Code → ℕ → Section → Found → List ℕ
unit_text k n unit found =
    unit_line n (header_of unit)
    ++ (numbered (point_text k n unit.code found) 0 unit.code ++ mark_line found (length unit.code) None)

-- ---- what the verifier finds

abbrev pub is_accepted : Code → Section → Bool
is_accepted k unit = is_none (unit_found k unit).refused

-- Without shapes and without a refusal.
abbrev pub nothing_found : Found
nothing_found = accepted []

abbrev pub found_or : Option Found → Found
found_or found = unwrap_or found nothing_found

-- The verifier stops at the first unit that it refuses, so it finds nothing in the units behind it.
abbrev pub found_there : Code → ℕ → Section → Found
found_there k n unit = if list_all (is_accepted k) (take n k.units) then unit_found k unit else nothing_found

-- The lines of a unit with what is found there.
abbrev pub found_text : Code → ℕ → Section → List ℕ
found_text k n unit = unit_text k n unit (found_there k n unit)

-- ---- the whole

abbrev pub listing : Code → List ℕ
listing k =
    version_line k.version
    ++ (globals_text k
    ++ (constants_text k ++ numbered (found_text k) 0 k.units))
