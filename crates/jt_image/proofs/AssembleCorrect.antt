-- Parts with tables in order and within the limits are a code with a spelling.
use Rattle.std.proofs.Common.{◌≡◌, ℕ, ◌+◌, ◌*◌, ◌<◌, ◌≤◌, ◌^◌, true, List, [], ◌∷◌, ◌++◌, length}
use Rattle.std.proofs.Common.{Option, Some, refl, subst, arith, rules}
use Rattle.std.specs.Prelude.{IsUtf8}
use Rattle.std.specs.Int.{w16, w32, w64, to_le_bytes}
use Rattle.std.specs.List.{flat_map, AllByRecursion}
use Rattle.std.proofs.lemmas.List.{length-append}
use Rattle.std.proofs.lemmas.List.Concat.{flat_map-cons}
use Rattle.std.proofs.lemmas.Bool.{lt-ltb, ltb-true}
use Rattle.jt_image.specs.declared.error.ImageError.{ImageError}
use Rattle.jt_image.specs.declared.error.ImageError.TheVariants.{NoMemory}
use Rattle.jt_image.specs.declared.instruction.Instruction.{Instruction}
use Rattle.jt_image.specs.declared.version.Version.TheVariants as version
use Rattle.jt_image.specs.Code.{Constant, Name, Section, SourceLoc, Code}
use Rattle.jt_image.specs.Spelling.{magic, version_number, name_bytes, constant_bytes, header_bytes}
use Rattle.jt_image.specs.Spelling.{instruction_bytes, template_bytes, loc_bytes, place_bytes, spelling}
use Rattle.jt_image.specs.IsCode.{IsName, IsTemplate, IsConstant, IsSection, IsPlaced, total_len, HasEntry, IsCode}
use Rattle.jt_image.specs.IsCode.{max_count, max_locals, max_instructions, max_bytes}
use Rattle.jt_image.specs.Parts.{is_next, AreInOrder, IsUnitInOrder, HasTables, KeepsLimits, IsRefusal, IsWritable}
use Rattle.jt_image.specs.Parts.{IsHeld, Starts, IsShort, AreTemplates, IsShortText}
use Rattle.jt_image.proofs.DecodeSoundLemmas.{AllGood, and_true, not_true, wide16, wide32, wide64}
use Rattle.jt_image.proofs.DecodeSound.{IsNamed, code_bytes}
use Rattle.jt_image.proofs.WholeImageSound.{are_names, ascend, distinct, HasFirst}
use Rattle.jt_image.proofs.DecodeComplete.{named, all_clear, first_starts}
use Rattle.jt_image.specs.internal.Layout.{FitTables}
use Rattle.jt_image.proofs.TrailerRoundTrip.{Follows, some_texts, ascend_texts, follow_texts}
use Rattle.jt_image.proofs.ReadPrefix.{all_weaker, all_both}

-- ---- the length of a spelling

pub name_len : (n : Name) → length (name_bytes n) ≡ length n.text + 4
name_len n = search (arith, rules, length-append, wide16)

pub text_len : (t : List ℕ) (tag : ℕ) → length (tag ∷ (to_le_bytes w32 (length t) ++ t)) ≡ length t + 5
text_len t tag = omega (arith, length-append (to_le_bytes w32 (length t)) t, wide32.len (length t))

pub number_len : (n : ℕ) (tag : ℕ) → length (tag ∷ to_le_bytes w64 n) ≡ 9
number_len n tag = omega (arith, wide64.len n)

header_len : (u : Section) → length (header_bytes u) ≡ 8
header_len u = search (arith, rules, length-append, wide16, wide32)

pub headers_len : (us : List Section) → length (flat_map header_bytes us) ≡ 8 * length us
headers_len [] = omega arith
headers_len (u ∷ us) = search (arith, rules, flat_map-cons, length-append, header_len, headers_len us)

instruction_len : (i : Instruction) → length (instruction_bytes i) ≡ 8
instruction_len i = search (arith, rules, length-append, wide16, wide32)

pub instructions_len : (is : List Instruction) → length (flat_map instruction_bytes is) ≡ 8 * length is
instructions_len [] = omega arith
instructions_len (i ∷ is) = search (arith, rules, flat_map-cons, length-append, instruction_len, instructions_len is)

pub codes_len : (us : List Section) → length (flat_map code_bytes us) ≡ 8 * total_len us
codes_len [] = omega arith
codes_len (u ∷ us) = search (arith, rules, flat_map-cons, code_bytes, length-append, instructions_len, codes_len us)

eleven : (a b c d e f g h i j z : List ℕ) → length
    (a ++ (b ++ (c ++ (d ++ (e ++ (f ++ (g ++ (h ++ (i ++ (j ++ z))))))))))
    ≡ length a + (length b
    + (length c + (length d + (length e + (length f + (length g + (length h + (length i + (length j + length z)))))))))
eleven a b c d e f g h i j z = simp length-append

pub spelled_len : (k : Code) → length (spelling k)
    ≡ 14 + (length (flat_map name_bytes k.names) + length (flat_map constant_bytes k.constants))
    + 8 * (length k.units + total_len k.units) + length (place_bytes k.version k.templates k.places)
spelled_len k =
    let parts = eleven magic (to_le_bytes w16 (version_number k.version)) (to_le_bytes w16 k.globals)
    (to_le_bytes w16 (length k.names)) (flat_map name_bytes k.names) (to_le_bytes w16 (length k.constants))
    (flat_map constant_bytes k.constants) (to_le_bytes w16 (length k.units)) (flat_map header_bytes k.units)
    (flat_map code_bytes k.units) (place_bytes k.version k.templates k.places) in
    omega (
      arith,
      parts,
      wide16.len (version_number k.version),
      wide16.len k.globals,
      wide16.len (length k.names),
      wide16.len (length k.constants),
      wide16.len (length k.units),
      headers_len k.units,
      codes_len k.units,
    )

locs_len : (ss : List SourceLoc) → length (flat_map loc_bytes ss) ≡ 6 * length ss
locs_len [] = omega arith
locs_len (s ∷ ss) = search (arith, rules, flat_map-cons, length-append, wide16, wide32, locs_len ss)

pub places_len : (ts : List (List ℕ)) (ss : List SourceLoc)
    → length (place_bytes version.Two ts ss) ≡ 2 + (length (flat_map template_bytes ts) + 6 * length ss)
places_len ts ss = search (arith, rules, length-append, wide16, locs_len)

-- ---- names

pub in_order : (globals : ℕ) (ns : List Name) → AllGood (IsNamed globals) [] ns → AreInOrder globals ns
in_order globals ns h = search (arith, rules, are_names, all_weaker, ascend, distinct)

are_named : (globals : ℕ) (ns : List Name) → AllByRecursion IsShort ns → AllByRecursion (λ n. n.slot < globals) ns
    → AllByRecursion (λ n. 0 < length n.text) ns → AllByRecursion (IsName globals) ns
are_named globals [] short slots some = tt
are_named globals (n ∷ ns) short slots some = (
  record { slot = slots.0; some = some.0; fits = short.0.fits; utf8 = short.0.utf8 },
  are_named globals ns short.1 slots.1 some.1,
)

pub all_named : (globals : ℕ) (ns : List Name) → AllByRecursion IsShort ns → AreInOrder globals ns
    → AllGood (IsNamed globals) [] ns
all_named globals ns short h = search (arith, rules, are_named, named, all_clear, first_starts)

pub next_named : (globals : ℕ) (before : List Name) (n : Name) → IsShort n → is_next globals before n ≡ true
    → IsNamed globals before n
next_named globals before n short e = search (arith, rules, and_true, ltb-true, not_true)

pub named_next : (globals : ℕ) (before : List Name) (n : Name) → IsNamed globals before n
    → is_next globals before n ≡ true
named_next globals before n h = search (arith, rules, lt-ltb)

pub short_names : (ns : List Name) → AllByRecursion (λ n. length n.text ≤ max_count) ns
    → AllByRecursion (λ n. IsUtf8 n.text) ns → AllByRecursion IsShort ns
short_names ns fits utf8 = search (arith, rules, all_both)

-- ---- templates

pub short_texts : (ts : List (List ℕ)) → AllByRecursion (λ t. length t ≤ max_count) ts → AllByRecursion IsUtf8 ts
    → AllByRecursion IsShortText ts
short_texts ts fits utf8 = search (arith, rules, all_both)

are_templates : (ts : List (List ℕ)) → AllByRecursion IsShortText ts → AllByRecursion (λ t. 0 < length t) ts
    → AllByRecursion IsTemplate ts
are_templates ts short some = search (arith, rules, all_both)

-- Each text may follow those before it if and only if the texts are a table of templates.
pub in_order_texts : (ts : List (List ℕ)) → AllGood Follows [] ts → AreTemplates ts
in_order_texts ts h = record { some = some_texts [] ts h; ascend = ascend_texts ts h }

pub all_next_texts : (ts : List (List ℕ)) → AreTemplates ts → AllGood Follows [] ts
all_next_texts ts h = follow_texts ts h.some h.ascend

-- ---- the whole code

-- A code keeps the limits if its tables, its instructions and its bytes do.
pub limits_from : (k : Code) → FitTables k → total_len k.units ≤ max_instructions → length (spelling k) ≤ max_bytes
    → KeepsLimits k
limits_from k fits instructions bytes = record {
  names = fits.0.0;
  texts = fits.1.0;
  constants = fits.0.1;
  units = fits.0.2;
  locals = fits.1.2;
  instructions = instructions;
  templates = fits.0.3;
  template_texts = fits.1.1;
  bytes = bytes;
}

pub limits_fit : (k : Code) → KeepsLimits k → FitTables k
limits_fit k h = ((h.names, h.constants, h.units, h.templates), (h.texts, h.template_texts, h.locals))

-- A constant of an image within the limit fits its field.
constant_fits : (c : Constant) → length (constant_bytes c) ≤ max_bytes → IsHeld c → IsConstant c
constant_fits a0 le h = search (arith, rules, text_len)

constants_fit : (cs : List Constant) → length (flat_map constant_bytes cs) ≤ max_bytes → AllByRecursion IsHeld cs
    → AllByRecursion IsConstant cs
constants_fit [] le h = tt
constants_fit (c ∷ cs) le h = search (arith, rules, flat_map-cons, length-append, constant_fits, constants_fit cs)

sections_fit : (us : List Section) → AllByRecursion IsWritable us → AllByRecursion IsUnitInOrder us
    → AllByRecursion (λ u. u.locals ≤ max_locals) us → AllByRecursion IsSection us
sections_fit [] written order locals = tt
sections_fit (u ∷ us) written order locals = (
  record {
    parameters = written.0.parameters;
    kind = order.0.0;
    locals = locals.0;
    within = order.0.1;
    code = written.0.code;
  },
  sections_fit us written.1 order.1 locals.1,
)

first_from : (us : List Section) → Starts us → HasFirst us
first_from [] h = absurd h
first_from (u ∷ us) h = record { entry = u; is = refl; emits = h.0; plain = h.1 }

pub entry_from : (k : Code) → Starts k.units → HasEntry k
entry_from k h = search (arith, rules, first_from)

-- The properties of a code that follow from the types of its parts.
pub record AreHeld (k : Code) : Type 0 where
  pub globals : k.globals < 2 ^ 16
  pub names : AllByRecursion (λ n. IsUtf8 n.text) k.names
  pub constants : AllByRecursion IsHeld k.constants
  pub units : AllByRecursion IsWritable k.units
  pub templates : IsPlaced k.version (total_len k.units) k.templates k.places → AllByRecursion IsUtf8 k.templates

pub is_code : (k : Code) → AreHeld k → HasTables k → KeepsLimits k → IsCode k
is_code k held tables limits =
    let utf8 = held.templates tables.placed in
    search (
      arith,
      rules,
      short_names,
      are_named,
      ascend,
      distinct,
      constants_fit,
      spelled_len,
      sections_fit,
      are_templates,
      short_texts,
    )

code_tables : (k : Code) → IsCode k → HasTables k
code_tables k is = search (arith, rules, all_weaker, ascend, distinct)

code_limits : (k : Code) → IsCode k → KeepsLimits k
code_limits k is = search (arith, rules, all_weaker)

-- A code with a spelling is refused only for lack of memory.
refused_for : (k : Code) (e : ImageError) → IsCode k → IsRefusal e (Some k) → e ≡ NoMemory
refused_for k a1 is r = search (arith, rules, code_tables, code_limits)

pub only_memory : (o : Option Code) (k : Code) (e : ImageError) → o ≡ Some k → IsCode k → IsRefusal e o → e ≡ NoMemory
only_memory o k e is code r = refused_for k e code (subst (λ (p : Option Code). IsRefusal e p) is r)
