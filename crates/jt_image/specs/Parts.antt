-- The code of parts, and the claim of a refusal to assemble them.
use Rattle.std.specs.Prelude.{◌≡◌, ℕ, ◌<◌, ◌≤◌, ◌-◌, ◌^◌, min, Bool, not, ◌&&◌, nat_lt, List, [], ◌∷◌, ◌++◌, length}
use Rattle.std.specs.Prelude.{Option, Some, None, option_map, Vec, Result, OnOk, IsUtf8, FitsSigned}
use Rattle.std.specs.List.{AllByRecursion}
use Rattle.std.specs.Int.{w64}
use Rattle.std.specs.declared.alloc.Global.{Global}
use Rattle.jt_image.specs.declared.error.ImageError.{ImageError}
use Rattle.jt_image.specs.declared.error.ImageError.TheVariants.{BadMagic, BadVersion, Truncated, Trailing, BadText}
use Rattle.jt_image.specs.declared.error.ImageError.TheVariants.{BadOpcode, BadTable, LimitPassed, NoMemory}
use Rattle.jt_image.specs.declared.parts.Unit as given
use Rattle.jt_image.specs.declared.parts.Parts.{Parts}
use Rattle.jt_image.specs.Code.{Constant, undefined, nothing, truth_value, number, text, markup, Name, Section, Code}
use Rattle.jt_image.specs.View.{names_view, constants_view, units_view, texts_view, locs_view, IsKnownUnit}
use Rattle.jt_image.specs.Spelling.{place_bytes, spelling}
use Rattle.jt_image.specs.IsCode.{Ascend, AreDistinct, AscendTexts, IsSourceLoc, IsPlaced, IsInstruction, HasEntry}
use Rattle.jt_image.specs.IsCode.{total_len, max_count, max_locals, max_instructions, max_bytes}
use Rattle.jt_image.specs.Reading.{instruction_of, is_used, follows, last_name}

abbrev pub in_front : {A : Type 0} → Option A → Option (List A) → Option (List A)
in_front None ys = None
in_front (Some y) None = None
in_front (Some y) (Some ys) = Some (y ∷ ys)

-- The results of `f` on all elements, if each of them exists.
abbrev pub each_of : {A B : Type 0} → (A → Option B) → List A → Option (List B)
each_of f [] = Some []
each_of f (x ∷ xs) = in_front (f x) (each_of f xs)

-- The unit, if each of its instructions has a known opcode and 0 in each unused field.
abbrev pub section_of_unit : given.Unit → Option Section
section_of_unit u =
    option_map
    (λ code. record { parameters = u.parameters; kind = u.kind; locals = u.locals; code = code })
    (each_of instruction_of u.code.items)

-- The code with the tables of these parts and these units.
abbrev pub code_with : Parts → List Section → Code
code_with p us =
    record {
      version = p.version;
      globals = p.globals;
      names = names_view p.names.items;
      constants = constants_view p.constants.items;
      units = us;
      templates = texts_view p.templates.items;
      places = locs_view p.places.items;
    }

-- The code of the parts, if all their instructions exist.
abbrev pub code_of_parts : Parts → Option Code
code_of_parts p = option_map (code_with p) (each_of section_of_unit p.units.items)

-- The names of globals: each slot exists, no name is empty, the names strictly ascend, and no slot
-- has two names.
pub record AreInOrder (globals : ℕ) (names : List Name) : Type 0 where
  pub slots : AllByRecursion (λ n. n.slot < globals) names
  pub some : AllByRecursion (λ n. 0 < length n.text) names
  pub ascend : Ascend names
  pub distinct : AreDistinct names

-- A unit emits (0) or returns a value (1), and its parameters are among its locals.
abbrev pub IsUnitInOrder : Section → Type 0
IsUnitInOrder unit = (unit.kind ≤ 1) × (unit.parameters ≤ unit.locals)

-- The templates: no name is empty, and the names strictly ascend.
pub record AreTemplates (templates : List (List ℕ)) : Type 0 where
  pub some : AllByRecursion (λ t. 0 < length t) templates
  pub ascend : AscendTexts templates

-- The tables are in order, and unit 0 exists, emits, and has no parameters. In version 2 each
-- instruction has an encoded place; version 1 has no templates and no places.
pub record HasTables (code : Code) : Type 0 where
  pub names : AreInOrder code.globals code.names
  pub units : AllByRecursion IsUnitInOrder code.units
  pub entry : HasEntry code
  pub templates : AreTemplates code.templates
  pub places : AllByRecursion (IsSourceLoc (length code.templates)) code.places
  pub placed : IsPlaced code.version (total_len code.units) code.templates code.places

-- Tables and names fit their fields, and the limits are kept. It follows that a constant's text
-- fits its field.
pub record KeepsLimits (code : Code) : Type 0 where
  pub names : length code.names ≤ max_count
  pub texts : AllByRecursion (λ n. length n.text ≤ max_count) code.names
  pub constants : length code.constants ≤ max_count
  pub units : length code.units ≤ max_count
  pub locals : AllByRecursion (λ u. u.locals ≤ max_locals) code.units
  pub instructions : total_len code.units ≤ max_instructions
  pub templates : length code.templates ≤ max_count
  pub template_texts : AllByRecursion (λ t. length t ≤ max_count) code.templates
  pub bytes : length (spelling code) ≤ max_bytes

abbrev pub BreaksTable : Option Code → Type 0
BreaksTable None = ⊥
BreaksTable (Some code) = ¬ (HasTables code)

abbrev pub PassesLimit : Option Code → Type 0
PassesLimit None = ⊥
PassesLimit (Some code) = ¬ (KeepsLimits code)

-- The claim of a refusal about the code of the parts.
abbrev pub IsRefusal : ImageError → Option Code → Type 0
IsRefusal BadOpcode code = code ≡ None
IsRefusal BadTable code = BreaksTable code
IsRefusal LimitPassed code = PassesLimit code
IsRefusal NoMemory code = Unit {0}
IsRefusal BadMagic code = ⊥
IsRefusal BadVersion code = ⊥
IsRefusal Truncated code = ⊥
IsRefusal Trailing code = ⊥
IsRefusal BadText code = ⊥

-- ---- the claims of the checks about the parts of a code

-- The code as which the parts are viewed, whatever their instructions are.
abbrev pub code_seen : Parts → Code
code_seen parts = code_with parts (units_view parts.units.items)

-- The fields of each instruction are those of an instruction.
abbrev pub AreKnown : List given.Unit → Type 0
AreKnown units = AllByRecursion IsKnownUnit units

-- The numbers of a unit and of its instructions fit their fields.
pub record IsWritable (unit : Section) : Type 0 where
  pub parameters : unit.parameters < 2 ^ 8
  pub code : AllByRecursion IsInstruction unit.code

-- A number has 64 bits, and a text is UTF-8.
abbrev pub IsHeld : Constant → Type 0
IsHeld undefined = Unit {0}
IsHeld nothing = Unit {0}
IsHeld (truth_value b) = Unit {0}
IsHeld (number z) = FitsSigned w64 z
IsHeld (text t) = IsUtf8 t
IsHeld (markup t) = IsUtf8 t

-- Unit 0 exists, emits, and has no parameters.
abbrev pub Starts : List Section → Type 0
Starts [] = ⊥
Starts (unit ∷ units) = (unit.kind ≡ 0) × (unit.parameters ≡ 0)

-- The number of bytes, or the greatest number of 64 bits if it is greater.
abbrev pub saturated_len : List ℕ → ℕ
saturated_len bytes = min (length bytes) (2 ^ 64 - 1)

-- The trailer of a code: the bytes after its instructions.
abbrev pub trailer_bytes : Code → List ℕ
trailer_bytes code = place_bytes code.version code.templates code.places

-- A code with this number of instructions has the places that its version requires.
abbrev pub HasPlaces : ℕ → Code → Type 0
HasPlaces instructions code = IsPlaced code.version instructions code.templates code.places

-- The templates and the places of the code are in order, and it has the places that its version
-- requires.
abbrev pub HasTrailer : ℕ → Code → Type 0
HasTrailer instructions code =
    AreTemplates code.templates
    × AllByRecursion (IsSourceLoc (length code.templates)) code.places
    × HasPlaces instructions code

-- All names, templates and numbers of locals fit their fields.
abbrev pub FitNames : List Name → Type 0
FitNames names = AllByRecursion (λ n. length n.text ≤ max_count) names

abbrev pub FitTexts : List (List ℕ) → Type 0
FitTexts texts = AllByRecursion (λ t. length t ≤ max_count) texts

abbrev pub FitLocals : List Section → Type 0
FitLocals units = AllByRecursion (λ u. u.locals ≤ max_locals) units

abbrev pub FitFields : Code → Type 0
FitFields code = FitNames code.names × FitTexts code.templates × FitLocals code.units

-- A name in UTF-8 that fits its field.
pub record IsShort (name : Name) : Type 0 where
  pub fits : length name.text < 2 ^ 16
  pub utf8 : IsUtf8 name.text

-- A template name in UTF-8 that fits its field.
pub record IsShortText (name : List ℕ) : Type 0 where
  pub fits : length name < 2 ^ 16
  pub utf8 : IsUtf8 name

-- Whether a name may follow the names before it: its slot exists and has no name yet, and its text
-- is in order.
abbrev pub is_next : ℕ → List Name → Name → Bool
is_next globals before name =
    nat_lt name.slot globals
    && (not (is_used name.slot before) && follows (last_name before) name.text)

-- ---- appended bytes

-- On success, these bytes are appended to the old ones.
abbrev pub Adds : {E : Type 0} → Vec ℕ Global → Vec ℕ Global → Result (Unit {0}) E → List ℕ → Type 0
Adds old new result bytes = OnOk result (new.items ≡ old.items ++ bytes)
