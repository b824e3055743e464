-- Instructions in place: their number is the stored one, and the one at a point is read from its
-- bytes.
use Rattle.std.proofs.Common.{◌≡◌, ℕ, zero, suc, ◌+◌, ◌*◌, ◌<◌, ◌≤◌, ◌^◌, List, [], ◌∷◌, ◌++◌, length, drop, Option}
use Rattle.std.proofs.Common.{Some, Result, Ok, Err, refl, sym, ap, subst, ◌∙◌, arith, append_assoc, rules}
use Rattle.std.specs.Prelude.{slice_get}
use Rattle.std.specs.Option.{IsSome}
use Rattle.std.specs.List.{flat_map, AllByRecursion}
use Rattle.std.proofs.lemmas.List.Concat.{flat_map-cons}
use Rattle.jt_image.specs.declared.error.ImageError.{ImageError}
use Rattle.jt_image.specs.declared.instruction.Instruction.{Instruction}
use Rattle.jt_image.specs.declared.wire.Instr.{Instr}
use Rattle.jt_image.specs.Code.{SourceLoc}
use Rattle.jt_image.specs.Spelling.{wire_of, wire_bytes, instruction_bytes, loc_bytes}
use Rattle.jt_image.specs.IsCode.{IsInstruction, IsSourceLoc}
use Rattle.jt_image.specs.Reading.{Header, instruction_of, instruction_at, instructions_at}
use Rattle.jt_image.specs.Reading.{section_of, section_at, loc_at, locs_at}
use Rattle.jt_image.specs.InPlace.{read_or, instructions_in, fields_in, loc_in}
use Rattle.jt_image.proofs.DecodeSoundLemmas.{good_each, IsBytes, AllOk, all_at, Many, many_found, wide16, wide32}
use Rattle.jt_image.proofs.DecodeSound.{wire_at, instruction_found, good_instruction, many_count}
use Rattle.jt_image.proofs.DecodeComplete.{small_wire, wired}
use Rattle.jt_image.proofs.TrailerRoundTrip.{good_loc, small_line, loc_found}

abbrev Read : Type 0
Read = Result (List Instruction × List ℕ) ImageError

pub is_answered : {A : Type 0} (r : Result (List A × List ℕ) ImageError) (is : List A) (rest : List ℕ)
    → r ≡ Ok (is, rest) → r ≡ Ok (read_or [] r, rest)
is_answered {A} r is rest e = search (arith, rules)

pub place_gives : (h : Header) (bytes rest : List ℕ)
    → instructions_at h.len bytes ≡ Ok (instructions_in h.len bytes, rest)
    → section_at h bytes ≡ Ok (section_of h (instructions_in h.len bytes), rest)
unfolding section_at
place_gives h bytes rest e = search (arith, rules)

pub place_whole : (n : ℕ) (bytes rest : List ℕ) → instructions_at n bytes ≡ Ok (instructions_in n bytes, rest)
    → length (instructions_in n bytes) ≡ n
place_whole n bytes rest e =
    all_at (instructions_at n bytes) (λ x. length x.0 ≡ 0 + n) (instructions_in n bytes, rest) e
    (many_count (λ _. instruction_at) n [] bytes)
    ∙ omega arith

-- A list has an element at each index below its length.
pub is_there : {A : Type 0} (xs : List A) (i : ℕ) → i < length xs → IsSome (slice_get xs i)
is_there [] i lt = absurd (omega (arith, lt))
is_there (x ∷ xs) zero lt = refl
is_there (x ∷ xs) (suc i) lt = is_there xs i (omega (arith, lt))

-- ---- the instruction at a point

-- The fields of the encoded bytes are those that were written.
head_fields : (w : Instr) (t : List ℕ) → w.b < 2 ^ 16 → w.c < 2 ^ 32 → fields_in (wire_bytes w ++ t) ≡ w
head_fields w t b c = search (arith, rules, wire_at, wide16, wide32)

-- Eight bytes exist at the point, and their fields are those of this instruction.
abbrev pub IsAt : List ℕ → ℕ → Option Instruction → Type 0
IsAt bytes p o = (8 * p + 8 ≤ length bytes) × (instruction_of (fields_in (drop (8 * p) bytes)) ≡ o)

at_front : (i : Instruction) (t : List ℕ) → IsInstruction i → IsAt (instruction_bytes i ++ t) 0 (Some i)
at_front i t h =
    let small = small_wire i h in
    let len : length (instruction_bytes i ++ t) ≡ suc (suc (suc (suc (suc (suc (suc (suc (length t)))))))) = refl in
    (omega (arith, len), ap instruction_of (head_fields (wire_of i) t small.0 small.1) ∙ (wired i).whole)

one_on : (w : Instr) (t : List ℕ) (p : ℕ) (o : Option Instruction) → IsAt t p o → IsAt (wire_bytes w ++ t) (suc p) o
one_on w t p o h =
    let len : length (wire_bytes w ++ t) ≡ suc (suc (suc (suc (suc (suc (suc (suc (length t)))))))) = refl in
    let more : 8 * suc p ≡ suc (suc (suc (suc (suc (suc (suc (suc (8 * p)))))))) = omega arith in
    let same : drop (8 * suc p) (wire_bytes w ++ t) ≡ drop (8 * p) t =
    ap (λ (n : ℕ). drop n (wire_bytes w ++ t)) more in
    (omega (arith, len, h.0), ap (λ (b : List ℕ). instruction_of (fields_in b)) same ∙ h.1)

split_front : (i : Instruction) (is : List Instruction) (rest : List ℕ)
    → instruction_bytes i ++ (flat_map instruction_bytes is ++ rest) ≡ flat_map instruction_bytes (i ∷ is) ++ rest
split_front i is rest = search (arith, rules, flat_map-cons, append_assoc)

at_point : (is : List Instruction) (rest : List ℕ) (p : ℕ) → AllByRecursion IsInstruction is → p < length is
    → IsAt (flat_map instruction_bytes is ++ rest) p (slice_get is p)
at_point [] rest p h lt = absurd (omega (arith, lt))
at_point (i ∷ is) rest zero h lt = search (arith, rules, split_front, at_front)
at_point (i ∷ is) rest (suc p) h lt =
    let more = at_point is rest p h.1 (omega (arith, lt)) in
    subst (λ (b : List ℕ). IsAt b (suc p) (slice_get is p)) (split_front i is rest)
    (one_on (wire_of i) (flat_map instruction_bytes is ++ rest) p (slice_get is p) more)

pub placed : (n p : ℕ) (bytes : List ℕ) → IsBytes bytes → length (instructions_in n bytes) ≡ n → p < n
    → IsAt bytes p (slice_get (instructions_in n bytes) p)
placed n p bytes fits len lt =
    by_answer (instructions_at n bytes) (many_found (λ _. instruction_at) instruction_bytes good_instruction
    (λ before bytes fits. instruction_found bytes fits) n [] bytes fits) len
  where
    by_answer : (r : Read) → AllOk r (Many instruction_bytes good_instruction n [] bytes) → length (read_or [] r) ≡ n
        → IsAt bytes p (slice_get (read_or [] r) p)
    by_answer (Err e) h len = absurd (omega (arith, len, lt))
    by_answer (Ok x) m len =
        let here = at_point m.more x.1 p (good_each IsInstruction [] m.more m.all) (omega (arith, m.count, lt)) in
        subst (λ (b : List ℕ). IsAt b p (slice_get x.0 p)) (sym m.takes.parts)
        (subst (λ (is : List Instruction). IsAt (flat_map instruction_bytes m.more ++ x.1) p (slice_get is p))
        (sym m.is) here)

-- ---- encoded places in place

loc_fields : (s : SourceLoc) (t : List ℕ) → s.template < 2 ^ 16 → s.line < 2 ^ 32 → loc_in (loc_bytes s ++ t) ≡ s
loc_fields s t a b = search (arith, rules, wide16, wide32)

-- Six bytes exist at the index, and they encode this place.
abbrev pub IsSourceLocAt : List ℕ → ℕ → Option SourceLoc → Type 0
IsSourceLocAt bytes i o = (6 * i + 6 ≤ length bytes) × (o ≡ Some (loc_in (drop (6 * i) bytes)))

loc_front : (templates : ℕ) (s : SourceLoc) (t : List ℕ) → templates < 2 ^ 16 → IsSourceLoc templates s
    → IsSourceLocAt (loc_bytes s ++ t) 0 (Some s)
loc_front templates s t small h = search (arith, rules, loc_fields, small_line)

loc_on : (s : SourceLoc) (t : List ℕ) (i : ℕ) (o : Option SourceLoc) → IsSourceLocAt t i o
    → IsSourceLocAt (loc_bytes s ++ t) (suc i) o
loc_on s t i o h =
    let len : length (loc_bytes s ++ t) ≡ suc (suc (suc (suc (suc (suc (length t)))))) = refl in
    let more : 6 * suc i ≡ suc (suc (suc (suc (suc (suc (6 * i)))))) = omega arith in
    let same : drop (6 * suc i) (loc_bytes s ++ t) ≡ drop (6 * i) t = ap (λ (n : ℕ). drop n (loc_bytes s ++ t)) more in
    (omega (arith, len, h.0), h.1 ∙ ap (λ (b : List ℕ). let o : Option SourceLoc = Some (loc_in b) in o) (sym same))

split_loc : (s : SourceLoc) (ss : List SourceLoc) (rest : List ℕ)
    → loc_bytes s ++ (flat_map loc_bytes ss ++ rest) ≡ flat_map loc_bytes (s ∷ ss) ++ rest
split_loc s ss rest = search (arith, rules, flat_map-cons, append_assoc)

loc_at_number : (templates : ℕ) (ss : List SourceLoc) (rest : List ℕ) (i : ℕ) → templates < 2 ^ 16
    → AllByRecursion (IsSourceLoc templates) ss → i < length ss
    → IsSourceLocAt (flat_map loc_bytes ss ++ rest) i (slice_get ss i)
loc_at_number templates [] rest i small h lt = absurd (omega (arith, lt))
loc_at_number templates (s ∷ ss) rest zero small h lt = search (arith, rules, split_loc, loc_front)
loc_at_number templates (s ∷ ss) rest (suc i) small h lt =
    let more = loc_at_number templates ss rest i small h.1 (omega (arith, lt)) in
    subst (λ (b : List ℕ). IsSourceLocAt b (suc i) (slice_get ss i)) (split_loc s ss rest)
    (loc_on s (flat_map loc_bytes ss ++ rest) i (slice_get ss i) more)

pub loc_placed : (templates n i : ℕ) (bytes : List ℕ) → templates < 2 ^ 16 → IsBytes bytes
    → length (read_or [] (locs_at templates n bytes)) ≡ n → i < n
    → IsSourceLocAt bytes i (slice_get (read_or [] (locs_at templates n bytes)) i)
loc_placed templates n i bytes small fits len lt =
    by_answer (locs_at templates n bytes) (many_found (λ _. loc_at templates) loc_bytes (good_loc templates)
    (λ before bytes fits. loc_found templates bytes fits) n [] bytes fits) len
  where
    by_answer : (r : Result (List SourceLoc × List ℕ) ImageError)
        → AllOk r (Many loc_bytes (good_loc templates) n [] bytes) → length (read_or [] r) ≡ n
        → IsSourceLocAt bytes i (slice_get (read_or [] r) i)
    by_answer (Err e) h len = absurd (omega (arith, len, lt))
    by_answer (Ok x) m len =
        let here =
        loc_at_number templates m.more x.1 i small (good_each (IsSourceLoc templates) [] m.more m.all)
        (omega (arith, m.count, lt)) in
        subst (λ (b : List ℕ). IsSourceLocAt b i (slice_get x.0 i)) (sym m.takes.parts)
        (subst (λ (ss : List SourceLoc). IsSourceLocAt (flat_map loc_bytes m.more ++ x.1) i (slice_get ss i)) (sym m.is)
        here)

pub locs_whole : (templates n : ℕ) (bytes rest : List ℕ)
    → locs_at templates n bytes ≡ Ok (read_or [] (locs_at templates n bytes), rest)
    → length (read_or [] (locs_at templates n bytes)) ≡ n
locs_whole templates n bytes rest e =
    all_at (locs_at templates n bytes) (λ x. length x.0 ≡ 0 + n) (read_or [] (locs_at templates n bytes), rest) e
    (many_count (λ _. loc_at templates) n [] bytes)
    ∙ omega arith
