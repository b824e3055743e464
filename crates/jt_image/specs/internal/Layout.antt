-- Where the parts of a code begin in its spelling. Only private clauses cite it.
use Rattle.std.specs.Prelude.{◌≡◌, ℕ, ◌+◌, ◌*◌, ◌<◌, ◌≤◌, List, [], ◌∷◌, length}
use Rattle.std.specs.List.{flat_map}
use Rattle.jt_image.specs.declared.error.ImageError.{ImageError}
use Rattle.jt_image.specs.declared.error.ImageError.TheVariants.{BadMagic, BadVersion, Truncated, Trailing, BadText}
use Rattle.jt_image.specs.declared.error.ImageError.TheVariants.{BadOpcode, BadTable, LimitPassed, NoMemory}
use Rattle.jt_image.specs.declared.offsets.UnitOffset.{UnitOffset}
use Rattle.jt_image.specs.declared.offsets.Offsets.{Offsets}
use Rattle.jt_image.specs.declared.version.Version.{Version}
use Rattle.jt_image.specs.declared.version.Version.TheVariants as version
use Rattle.jt_image.specs.Code.{Section, Code}
use Rattle.jt_image.specs.IsCode.{total_len, max_count}
use Rattle.jt_image.specs.Parts.{FitFields}
use Rattle.jt_image.specs.Spelling.{name_bytes, constant_bytes, template_bytes}

-- The offset of each element, if the spelling of the first one begins at `at` and they follow one another.
abbrev pub starts : {A : Type 0} → (A → List ℕ) → ℕ → List A → List ℕ
starts spell at [] = []
starts spell at (x ∷ xs) = at ∷ starts spell (at + length (spell x)) xs

-- A unit after `first` instructions, if the instructions of all units begin at `start`.
abbrev pub unit_start : ℕ → ℕ → Section → UnitOffset
unit_start start first u =
    record {
      parameters = u.parameters;
      kind = u.kind;
      locals = u.locals;
      len = length u.code;
      start = start + 8 * first;
      first = first;
    }

abbrev pub unit_starts : ℕ → ℕ → List Section → List UnitOffset
unit_starts start first [] = []
unit_starts start first (u ∷ us) = unit_start start first u ∷ unit_starts start (first + length u.code) us

-- The offsets of the templates and of the places, if the trailer begins at `start`.
abbrev pub TrailerStarts : Version → ℕ → List (List ℕ) → List ℕ → ℕ → Type 0
TrailerStarts version.One start ts offsets places = offsets ≡ []
TrailerStarts version.Two start ts offsets places =
    (offsets ≡ starts template_bytes (start + 2) ts) × (places ≡ start + 2 + length (flat_map template_bytes ts))

abbrev pub constants_start : Code → ℕ
constants_start k = 12 + length (flat_map name_bytes k.names)

abbrev pub code_start : Code → ℕ
code_start k = constants_start k + length (flat_map constant_bytes k.constants) + 2 + 8 * length k.units

-- The parts of the code begin at these offsets of its spelling.
pub record IsLaidOut (k : Code) (p : Offsets) : Type 0 where
  pub version : p.version ≡ k.version
  pub globals : p.globals ≡ k.globals
  pub names : p.names.items ≡ starts name_bytes 10 k.names
  pub constants : p.constants.items ≡ starts constant_bytes (constants_start k) k.constants
  pub units : p.units.items ≡ unit_starts (code_start k) 0 k.units
  pub instructions : p.instructions ≡ total_len k.units
  pub trailer : TrailerStarts k.version (code_start k + 8 * total_len k.units) k.templates p.templates.items p.places

-- The number is above the limit, unless memory ran out.
abbrev pub IsAbove : ℕ → ImageError → ℕ → Type 0
IsAbove limit LimitPassed n = limit < n
IsAbove limit NoMemory n = Unit {0}
IsAbove limit BadOpcode n = ⊥
IsAbove limit BadTable n = ⊥
IsAbove limit BadMagic n = ⊥
IsAbove limit BadVersion n = ⊥
IsAbove limit Truncated n = ⊥
IsAbove limit Trailing n = ⊥
IsAbove limit BadText n = ⊥

-- The counts of the tables fit their fields.
abbrev pub FitCounts : Code → Type 0
FitCounts k =
    (length k.names ≤ max_count)
    × (length k.constants ≤ max_count)
    × (length k.units ≤ max_count)
    × (length k.templates ≤ max_count)

-- The tables, the texts and the numbers of locals fit their fields.
abbrev pub FitTables : Code → Type 0
FitTables k = FitCounts k × FitFields k
