-- The parts at given offsets of an image's bytes.
use Rattle.std.specs.Prelude.{◌≡◌, ℕ, ◌+◌, ◌-◌, ◌≤◌, ◌<◌, ◌^◌, List, [], ◌∷◌, length, drop, map, slice_index_or, Result}
use Rattle.std.specs.Prelude.{Ok, Err}
use Rattle.std.specs.List.{AllByRecursion}
use Rattle.std.specs.Int.{w16, w32, from_le_bytes}
use Rattle.jt_image.specs.declared.error.ImageError.{ImageError}
use Rattle.jt_image.specs.declared.instruction.Instruction.{Instruction}
use Rattle.jt_image.specs.declared.wire.Instr.{Instr}
use Rattle.jt_image.specs.declared.offsets.UnitOffset.{UnitOffset}
use Rattle.jt_image.specs.declared.offsets.Offsets.{Offsets}
use Rattle.jt_image.specs.declared.version.Version.{Version}
use Rattle.jt_image.specs.declared.version.Version.TheVariants as version
use Rattle.jt_image.specs.Code.{Constant, undefined, Name, Section, SourceLoc, Code}
use Rattle.jt_image.specs.IsCode.{IsCode, total_len, max_bytes}
use Rattle.jt_image.specs.Spelling.{spelling}
use Rattle.jt_image.specs.Reading.{number_at, text_at, constant_at, instructions_at, locs_at, ◌>>=◌}

-- The value that was read, without the bytes after it, or another value if reading failed.
abbrev pub read_or : {A : Type 0} → A → Result (A × List ℕ) ImageError → A
read_or other (Ok x) = x.0
read_or other (Err e) = other

abbrev pub IsRead : {A : Type 0} → Result (A × List ℕ) ImageError → Type 0
IsRead (Ok x) = Unit {0}
IsRead (Err e) = ⊥

-- The number of bytes of the magic number and the version. All parts follow them.
abbrev pub start_len : ℕ
start_len = 6

-- A part is at the offset.
abbrev pub IsReadAt : {A : Type 0} → (List ℕ → Result (A × List ℕ) ImageError) → List ℕ → ℕ → Type 0
IsReadAt reader bytes at = (start_len ≤ at) × IsRead (reader (drop at bytes))

-- A slot and a text, whatever precedes them.
unfoldable pub bare_name_at : List ℕ → Result (Name × List ℕ) ImageError
bare_name_at bytes = do
  slot ← number_at w16 bytes
  len ← number_at w16 slot.1
  t ← text_at len.0 len.1
  Ok (record { slot = slot.0; text = t.0 }, t.1)

abbrev pub name_in : List ℕ → ℕ → Name
name_in bytes at = read_or (record { slot = 0; text = [] }) (bare_name_at (drop at bytes))

abbrev pub names_in : List ℕ → List ℕ → List Name
names_in bytes offsets = map (name_in bytes) offsets

abbrev pub HasName : List ℕ → ℕ → Type 0
HasName bytes at = IsReadAt bare_name_at bytes at

abbrev pub constant_in : List ℕ → ℕ → Constant
constant_in bytes at = read_or undefined (constant_at (drop at bytes))

abbrev pub constants_in : List ℕ → List ℕ → List Constant
constants_in bytes offsets = map (constant_in bytes) offsets

abbrev pub HasConstant : List ℕ → ℕ → Type 0
HasConstant bytes at = IsReadAt constant_at bytes at

-- The first `n` instructions of the bytes.
abbrev pub instructions_in : ℕ → List ℕ → List Instruction
instructions_in n bytes = read_or [] (instructions_at n bytes)

-- A unit whose instructions begin at the given offset.
abbrev pub section_in : List ℕ → UnitOffset → Section
section_in bytes p =
    record {
      parameters = p.parameters;
      kind = p.kind;
      locals = p.locals;
      code = instructions_in p.len (drop p.start bytes);
    }

abbrev pub sections_in : List ℕ → List UnitOffset → List Section
sections_in bytes ps = map (section_in bytes) ps

-- The unit's offset is within the bytes, and all its instructions are read there.
abbrev pub HasUnit : List ℕ → UnitOffset → Type 0
HasUnit bytes p =
    ((start_len ≤ p.start) × (p.start ≤ length bytes)) × (length (instructions_in p.len (drop p.start bytes)) ≡ p.len)

-- Each unit has the number of instructions before it.
abbrev pub AreCounted : ℕ → List UnitOffset → Type 0
AreCounted before [] = Unit {0}
AreCounted before (p ∷ ps) = (p.first ≡ before) × AreCounted (before + p.len) ps

-- A text after its length, whatever precedes it.
unfoldable pub bare_text_at : List ℕ → Result (List ℕ × List ℕ) ImageError
bare_text_at bytes = do
  len ← number_at w16 bytes
  text_at len.0 len.1

abbrev pub template_in : List ℕ → ℕ → List ℕ
template_in bytes at = read_or [] (bare_text_at (drop at bytes))

abbrev pub templates_in : List ℕ → List ℕ → List (List ℕ)
templates_in bytes offsets = map (template_in bytes) offsets

abbrev pub HasTemplate : List ℕ → ℕ → Type 0
HasTemplate bytes at = IsReadAt bare_text_at bytes at

-- The first `n` encoded places of the bytes, for a given number of templates; version 1 has none.
abbrev pub locs_in : Version → ℕ → ℕ → List ℕ → List SourceLoc
locs_in version.One templates n bytes = []
locs_in version.Two templates n bytes = read_or [] (locs_at templates n bytes)

abbrev pub AreSourceLocs : Version → ℕ → ℕ → List ℕ → Type 0
AreSourceLocs version.One templates n bytes = Unit {0}
AreSourceLocs version.Two templates n bytes = length (read_or [] (locs_at templates n bytes)) ≡ n

-- The two numbers in the first six bytes.
abbrev pub loc_in : List ℕ → SourceLoc
loc_in bytes =
    let at : ℕ → ℕ = λ i. slice_index_or bytes i 0 in
    record {
      template = from_le_bytes w16 (at 0 ∷ at 1 ∷ []);
      line = from_le_bytes w32 (at 2 ∷ at 3 ∷ at 4 ∷ at 5 ∷ []);
    }

-- The four fields in the first eight bytes.
abbrev pub fields_in : List ℕ → Instr
fields_in bytes =
    let at : ℕ → ℕ = λ i. slice_index_or bytes i 0 in
    record {
      op = at 0;
      a = at 1;
      b = from_le_bytes w16 (at 2 ∷ at 3 ∷ []);
      c = from_le_bytes w32 (at 4 ∷ at 5 ∷ at 6 ∷ at 7 ∷ []);
    }

-- The code whose parts are at these offsets.
abbrev pub code_in : List ℕ → Offsets → Code
code_in bytes p = record {
  version = p.version;
  globals = p.globals;
  names = names_in bytes p.names.items;
  constants = constants_in bytes p.constants.items;
  units = sections_in bytes p.units.items;
  templates = templates_in bytes p.templates.items;
  places = locs_in p.version (length p.templates.items) p.instructions (drop p.places bytes);
}

-- Each offset has its part.
pub record AreThere (bytes : List ℕ) (p : Offsets) : Type 0 where
  pub names : AllByRecursion (HasName bytes) p.names.items
  pub constants : AllByRecursion (HasConstant bytes) p.constants.items
  pub units : AllByRecursion (HasUnit bytes) p.units.items
  pub counted : AreCounted 0 p.units.items
  pub few : length p.templates.items < 2 ^ 16
  pub templates : AllByRecursion (HasTemplate bytes) p.templates.items
  pub places : AreSourceLocs p.version (length p.templates.items) p.instructions (drop p.places bytes)
  pub instructions : p.instructions ≡ total_len (code_in bytes p).units

-- The bytes are the spelling of a code, and its parts are at these offsets.
pub record Spells (bytes : List ℕ) (p : Offsets) : Type 0 where
  pub code : IsCode (code_in bytes p)
  pub spelled : bytes ≡ spelling (code_in bytes p)
  pub there : AreThere bytes p

-- `rest` is the end of the bytes, after the magic number and the version, and the bytes are within
-- the limit.
pub record AreLast (bytes rest : List ℕ) : Type 0 where
  pub small : length bytes ≤ max_bytes
  pub within : start_len + length rest ≤ length bytes
  pub are : drop (length bytes - length rest) bytes ≡ rest

-- The state of a reader: each of these offsets has its part, and `rest` is the end of the bytes.
pub record AreRead {P : Type 0} (has : P → Type 0) (bytes : List ℕ) (offsets : List P)
    (rest : List ℕ) : Type 0 where
  pub there : AllByRecursion has offsets
  pub last : AreLast bytes rest
