-- The number of instructions before a unit is the one that its offset stores.
use Rattle.std.proofs.Common.{◌≡◌, if◌then◌else◌, ℕ, zero, suc, ◌+◌, ◌<◌, ◌≤◌, List, [], ◌∷◌, ◌++◌, length, take}
use Rattle.std.proofs.Common.{get_or, Ok, Err, drop, Option, Some, None, refl, sym, ap, subst, ◌∙◌, arith, rules}
use Rattle.std.specs.Prelude.{slice_get, option_map, nat_lt}
use Rattle.std.proofs.lemmas.Bool.{ltb-true, ltb-false}
use Rattle.std.specs.Option.{option_and_then}
use Rattle.std.proofs.lemmas.Option.{slice_get-map, slice_get_past}
use Rattle.std.specs.List.{flat_map, AllByRecursion}
use Rattle.jt_image.specs.declared.offsets.UnitOffset.{UnitOffset}
use Rattle.jt_image.specs.declared.units.Header as declared
use Rattle.jt_image.specs.internal.HeaderView.{headers_view}
use Rattle.jt_image.specs.InPlace.{section_in, sections_in, HasUnit, AreCounted, code_in, AreThere, Spells, IsRead}
use Rattle.jt_image.specs.InPlace.{read_or, constant_in, HasConstant}
use Rattle.jt_image.specs.declared.offsets.Offsets.{Offsets}
use Rattle.jt_image.specs.declared.instruction.Instruction.{Instruction}
use Rattle.jt_image.specs.Code.{Constant, undefined, Section, Code}
use Rattle.jt_image.specs.Places.{place_of, place_at}
use Rattle.jt_image.specs.Readers.{instruction_at, place_there, ConstantPlace, UnitStart, IsUnitAt}
use Rattle.jt_image.specs.Spelling.{constant_bytes, instruction_bytes}
use Rattle.jt_image.specs.IsCode.{IsConstant, total_len}
use Rattle.jt_image.specs.Reading as reading
use Rattle.jt_image.specs.Reading.{header_total, constant_at, instructions_at}
use Rattle.jt_image.proofs.DecodeSoundLemmas.{Read, AllOk, Found, IsBytes, IsBytes-drop, Many, many_found}
use Rattle.jt_image.proofs.DecodeSound.{constant_found, instruction_found, good_instruction}

-- The number of instructions of units in place.
abbrev pub unit_total : List UnitOffset → ℕ
unit_total [] = 0
unit_total (p ∷ ps) = p.len + unit_total ps

pub unit_total-push : (ps : List UnitOffset) (p : UnitOffset) → unit_total (ps ++ p ∷ []) ≡ unit_total ps + p.len
unit_total-push [] p = omega arith
unit_total-push (q ∷ ps) p = omega (arith, unit_total-push ps p)

counted_behind : (n : ℕ) (ps : List UnitOffset) (p : UnitOffset) → AreCounted n ps → p.first ≡ n + unit_total ps
    → AreCounted n (ps ++ p ∷ [])
counted_behind n [] p h e = (omega (arith, e), tt)
counted_behind n (q ∷ ps) p h e = (h.0, counted_behind (n + q.len) ps p h.1 (omega (arith, e)))

pub counted_push : (ps : List UnitOffset) (p : UnitOffset) → AreCounted 0 ps → p.first ≡ unit_total ps
    → AreCounted 0 (ps ++ p ∷ [])
counted_push ps p h e = counted_behind 0 ps p h (omega (arith, e))

-- The header total up to and including a unit is the total before it plus its own number.
pub total_front : (hs : List declared.Header) (i : ℕ) (d : declared.Header) → i < length hs
    → header_total (headers_view (take (i + 1) hs)) ≡ header_total (headers_view (take i hs)) + (get_or hs i d).len
total_front [] i d lt = absurd (omega arith)
total_front (h ∷ hs) zero d lt = omega arith
total_front (h ∷ hs) (suc i) d lt =
    let e : suc i + 1 ≡ suc (i + 1) = omega arith in
    rw e (omega (arith, total_front hs i d (omega arith)))

pub total_below : (hs : List declared.Header) (i : ℕ)
    → header_total (headers_view (take i hs)) ≤ header_total (headers_view hs)
total_below [] zero = omega arith
total_below [] (suc i) = omega arith
total_below (h ∷ hs) zero = omega arith
total_below (h ∷ hs) (suc i) = omega (arith, total_below hs i)

counted_from : (bytes : List ℕ) (n : ℕ) (ps : List UnitOffset) (u : ℕ) (p : UnitOffset)
    → AllByRecursion (HasUnit bytes) ps → AreCounted n ps → slice_get ps u ≡ Some p
    → p.first ≡ n + total_len (take u (sections_in bytes ps))
counted_from bytes n [] u p all h e = absurd cc
counted_from bytes n (q ∷ ps) zero p all h e =
    let same : q ≡ p = cc in omega (arith, ap (λ (x : UnitOffset). x.first) same, h.0)
counted_from bytes n (q ∷ ps) (suc u) p all h e =
    omega (arith, counted_from bytes (n + q.len) ps u p all.1 h.1 e, all.0.1)

-- A unit has the number of instructions before it.
pub counted_at : (bytes : List ℕ) (ps : List UnitOffset) (u : ℕ) (p : UnitOffset) → AllByRecursion (HasUnit bytes) ps
    → AreCounted 0 ps → slice_get ps u ≡ Some p → p.first ≡ total_len (take u (sections_in bytes ps))
counted_at bytes ps u p all h e = counted_from bytes 0 ps u p all h e ∙ omega arith

-- ---- the place of an instruction

units_of : (bytes : List ℕ) (ps : List UnitOffset) (u : ℕ)
    → slice_get (sections_in bytes ps) u ≡ option_map (section_in bytes) (slice_get ps u)
units_of bytes ps u = slice_get-map (section_in bytes) ps u

some_there : {A : Type 0} (xs : List A) (i : ℕ) → i < length xs → (x : A) × (slice_get xs i ≡ Some x)
some_there [] i lt = absurd (omega arith)
some_there (x ∷ xs) zero lt = (x, refl)
some_there (x ∷ xs) (suc i) lt = some_there xs i (omega arith)

all_get : {A : Type 0} (P : A → Type 0) (xs : List A) (i : ℕ) (x : A) → AllByRecursion P xs → slice_get xs i ≡ Some x
    → P x
all_get P [] i x all e = absurd cc
all_get P (y ∷ ys) zero x all e = let same : y ≡ x = cc in subst P same all.0
all_get P (y ∷ ys) (suc i) x all e = all_get P ys i x all.1 e

module _ (bytes : List ℕ) (p : Offsets) (h : AreThere bytes p) (u point : ℕ) where
  pub place_is : (q : UnitOffset) → slice_get p.units.items u ≡ Some q → point < q.len
      → place_there (code_in bytes p) u point
      ≡ option_and_then (place_of (code_in bytes p).templates) (slice_get (code_in bytes p).places (q.first + point))
  place_is q e lt =
      let k : Code = code_in bytes p in
      let unit : slice_get k.units u ≡ Some (section_in bytes q) =
      units_of bytes p.units.items u ∙ ap (option_map (section_in bytes)) e in
      let here = all_get (HasUnit bytes) p.units.items u q h.units e in
      let i = some_there (section_in bytes q).code point (omega (arith, here.1, lt)) in
      let known : instruction_at k u point ≡ Some i.0 =
      ap (option_and_then (λ (s : Section). slice_get s.code point)) unit ∙ i.1 in
      let count : q.first ≡ total_len (take u k.units) = counted_at bytes p.units.items u q h.units h.counted e in
      ap (option_and_then (λ _. place_at k u point)) known
      ∙ ap (λ (n : ℕ). option_and_then (place_of k.templates) (slice_get k.places (n + point))) (sym count)

  pub place_behind : (q : UnitOffset) → slice_get p.units.items u ≡ Some q → q.len ≤ point
      → place_there (code_in bytes p) u point ≡ None
  place_behind q e le =
      let k : Code = code_in bytes p in
      let unit : slice_get k.units u ≡ Some (section_in bytes q) =
      units_of bytes p.units.items u ∙ ap (option_map (section_in bytes)) e in
      let here = all_get (HasUnit bytes) p.units.items u q h.units e in
      let none : instruction_at k u point ≡ None = ap (option_and_then (λ (s : Section). slice_get s.code point)) unit
      ∙ slice_get_past (section_in bytes q).code point (omega (arith, here.1, le)) in
      ap (option_and_then (λ _. place_at k u point)) none

  pub place_outside : slice_get p.units.items u ≡ None → place_there (code_in bytes p) u point ≡ None
  place_outside e = search (arith, rules, units_of)

  pub place_known : (q : UnitOffset) → slice_get p.units.items u ≡ Some q
      → place_there (code_in bytes p) u point ≡ (if nat_lt point q.len
      then option_and_then (place_of (code_in bytes p).templates) (slice_get (code_in bytes p).places (q.first + point))
      else None)
  place_known q e = search (arith, rules, place_is, ltb-true, place_behind, ltb-false)

-- ---- the offsets of constants and units

constant_taken : (r : Read Constant) (bytes : List ℕ) → IsRead r → Found constant_bytes IsConstant bytes r
    → (rest : List ℕ) × (bytes ≡ constant_bytes (read_or undefined r) ++ rest)
constant_taken (Ok x) bytes h f = (x.1, f.0.parts)
constant_taken (Err e) bytes h f = absurd h

instructions_taken : (n : ℕ) (r : Read (List Instruction)) (bytes : List ℕ) → length (read_or [] r) ≡ n
    → AllOk r (Many instruction_bytes good_instruction n [] bytes)
    → (rest : List ℕ) × (bytes ≡ flat_map instruction_bytes (read_or [] r) ++ rest)
instructions_taken n (Ok x) bytes h m =
    (x.1, m.takes.parts ∙ ap (λ (is : List Instruction). flat_map instruction_bytes is ++ x.1) (sym m.is))
instructions_taken n (Err e) bytes h m = (bytes, refl)

-- The bytes at a unit's offset begin with its instructions.
pub code_taken : (bytes : List ℕ) (q : UnitOffset) → IsBytes bytes → HasUnit bytes q
    → (rest : List ℕ) × (drop q.start bytes ≡ flat_map instruction_bytes (section_in bytes q).code ++ rest)
code_taken bytes q fits h =
    let code = drop q.start bytes in
    instructions_taken q.len (instructions_at q.len code) code h.1
    (many_found (λ _. reading.instruction_at) instruction_bytes good_instruction
    (λ before bytes fits. instruction_found bytes fits) q.len [] code (IsBytes-drop q.start bytes fits))

module _ (bytes : List ℕ) (p : Offsets) (fits : IsBytes bytes) (h : Spells bytes p) where
  pub constant_stands : (i : ℕ) (o : Option ℕ) → o ≡ slice_get p.constants.items i → ConstantPlace (code_in bytes p) i o
  constant_stands i None e =
      slice_get-map (constant_in bytes) p.constants.items i ∙ ap (option_map (constant_in bytes)) (sym e)
  constant_stands i (Some at) e =
      let here = all_get (HasConstant bytes) p.constants.items i at h.there.constants (sym e) in
      let taken = constant_taken (constant_at (drop at bytes)) (drop at bytes) here.1
      (constant_found (drop at bytes) (IsBytes-drop at bytes fits)) in
      record {
        constant = constant_in bytes at;
        is = slice_get-map (constant_in bytes) p.constants.items i ∙ ap (option_map (constant_in bytes)) (sym e);
        rest = taken.0;
        stands = ap (drop at) (sym h.spelled) ∙ taken.1;
      }

  unit_stands : (u : ℕ) (q : UnitOffset) → slice_get p.units.items u ≡ Some q → IsUnitAt (code_in bytes p) u q.start
  unit_stands u q e =
      let taken = code_taken bytes q fits (all_get (HasUnit bytes) p.units.items u q h.there.units e) in
      record {
        section = section_in bytes q;
        is = units_of bytes p.units.items u ∙ ap (option_map (section_in bytes)) e;
        rest = taken.0;
        stands = ap (drop q.start) (sym h.spelled) ∙ taken.1;
      }

  pub start_stands : (u : ℕ) (o : Option UnitOffset) → o ≡ slice_get p.units.items u
      → UnitStart (code_in bytes p) u (option_map (λ q. q.start) o)
  start_stands u None e = units_of bytes p.units.items u ∙ ap (option_map (section_in bytes)) (sym e)
  start_stands u (Some q) e = unit_stands u q (sym e)
