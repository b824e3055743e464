-- The spelling of a code is read as this code.
use Rattle.std.proofs.Common.{◌≡◌, ℕ, ◌+◌, ◌<◌, ◌≤◌, ◌^◌, Bool, true, false, cond, ltb, leb, eqb, List, [], ◌∷◌, ◌++◌}
use Rattle.std.proofs.Common.{length, map, take, drop, Option, Some, None, Result, Ok, Err, refl, sym, ap, subst, ◌∙◌}
use Rattle.std.proofs.Common.{arith, append_assoc, rules}
use Rattle.std.specs.Prelude.{ℤ, ◌==◌, ◌||◌, ◌≢◌, not, nat_lt, nat_le, IsUtf8, MatchResult, MatchOption}
use Rattle.std.specs.Int.{w16, w32, w64, to_le_bytes, cast_signed, cast_unsigned}
use Rattle.std.specs.List.{flat_map, AllByRecursion}
use Rattle.std.specs.Option.{IsSome}
use Rattle.std.specs.Str.{bytes_eq}
use Rattle.std.proofs.Math.Facts.{Fits-of_z, Fits-lt-pow}
use Rattle.std.proofs.lemmas.Int.{to_z-of_z}
use Rattle.std.proofs.lemmas.Slice.Eq.{bytes_eq-Decides}
use Rattle.std.proofs.lemmas.Bool.{lt-ltb, le-leb, le-ltb}
use Rattle.std.proofs.lemmas.Bool.Decides.{nat_tests}
use Rattle.std.proofs.lemmas.List.{append-nil, take_at, drop_at}
use Rattle.jt_image.specs.declared.error.ImageError.{ImageError}
use Rattle.jt_image.specs.declared.error.ImageError.TheVariants.{BadMagic, Truncated, Trailing, BadTable}
use Rattle.jt_image.specs.declared.error.ImageError.TheVariants.{LimitPassed, NoMemory}
use Rattle.jt_image.specs.declared.instruction.Instruction.{Instruction}
use Rattle.jt_image.specs.declared.wire.Instr.{Instr}
use Rattle.jt_image.specs.declared.version.Version.{Version}
use Rattle.jt_image.specs.Code.{Constant, undefined, nothing, truth_value, number, text, markup, Name, Section, Code}
use Rattle.jt_image.specs.Spelling.{magic, version_number, name_bytes, constant_bytes, header_bytes}
use Rattle.jt_image.specs.Spelling.{wire_of, wire_bytes, instruction_bytes, spelling}
use Rattle.jt_image.specs.IsCode.{IsName, Ascend, AreDistinct, IsConstant, IsInstruction, IsSection, total_len}
use Rattle.jt_image.specs.IsCode.{HasEntry, IsCode, max_locals, max_instructions, max_bytes}
use Rattle.jt_image.specs.Reading.{◌>>=◌, Gives, check, number_at, byte_at, is_used, follows, last_name}
use Rattle.jt_image.specs.Reading.{slot_at, name_at, names_at, long_text_at, constant_of, constant_at}
use Rattle.jt_image.specs.Reading.{constants_at, Header, header_total, is_first, parameters_at, kind_at, locals_at}
use Rattle.jt_image.specs.Reading.{len_at, header_of, header_at, headers_at, known, known_of, instruction_of}
use Rattle.jt_image.specs.Reading.{instruction_at, instructions_at, section_of, section_at, sections_at, magic_at}
use Rattle.jt_image.specs.Reading.{start_at, Trailer, trailer_at, units_at, all_names_at, all_constants_at}
use Rattle.jt_image.specs.Reading.{code_of}
use Rattle.jt_image.proofs.ReaderParts.{header_total-push, is_first-push, is_used-push}
use Rattle.jt_image.proofs.DecodeSoundLemmas.{wide16, wide32, wide64, AllGood, each_good}
use Rattle.jt_image.proofs.DecodeSound.{wire_from, wire_at, good_instruction, IsFree, IsNamed, long_bytes, IsPlain}
use Rattle.jt_image.proofs.DecodeSound.{IsHeader, head_bytes, code_bytes, head_of, HasCode}
use Rattle.jt_image.proofs.WholeImageSound.{last_name-push, AreNames, good_constant, AreConstants, good_header}
use Rattle.jt_image.proofs.WholeImageSound.{HasFirst, AreUnits, head_spelled, length-map_of}
use Rattle.jt_image.proofs.TrailerRoundTrip.{version_again, next_again, trailer_bytes, back_again}
use Rattle.jt_image.proofs.RoundTripLemmas.{number_again, text_again, bind_again, check_again, many_again, each_again}

-- ---- names

slot_again : (globals : ℕ) (before : List Name) (slot : ℕ) (rest : List ℕ) → globals < 2 ^ 16
    → IsFree globals before slot → slot_at globals before (to_le_bytes w16 slot ++ rest) ≡ Ok (slot, rest)
unfolding slot_at
slot_again globals before slot rest small h =
    search (arith, rules, lt-ltb, bind_again, number_again, wide16, check_again)

name_again : (globals : ℕ) → globals < 2 ^ 16 → (before : List Name) (n : Name) (rest : List ℕ)
    → IsNamed globals before n → name_at globals before (name_bytes n ++ rest) ≡ Ok (n, rest)
unfolding name_at
name_again globals small before n rest h = search (arith, rules, append_assoc, bind_again, slot_again, next_again)

-- No slot of these names has a name yet.
abbrev pub IsClear : List Name → List Name → Type 0
IsClear before ns = AllByRecursion (λ m. is_used m.slot before ≡ false) ns

-- The first of these names may follow those before it.
abbrev pub Starts : List Name → List Name → Type 0
Starts before [] = Unit {0}
Starts before (n ∷ ns) = follows (last_name before) n.text ≡ true

unequal : (a b : ℕ) → a ≢ b → eqb a b ≡ false
unequal a b ne = grind (arith, nat_tests)

still_clear : (before : List Name) (n : Name) (ns : List Name) → IsClear before ns
    → AllByRecursion (λ m. n.slot ≢ m.slot) ns → IsClear (before ++ n ∷ []) ns
still_clear before n [] clear ne = tt
still_clear before n (m ∷ ns) clear ne =
    search (arith, rules, unequal, is_used-push, still_clear before n ns clear.1 ne.1)

next_starts : (before : List Name) (n : Name) (ns : List Name) → Ascend (n ∷ ns) → Starts (before ++ n ∷ []) ns
next_starts before n [] h = tt
next_starts before n (m ∷ ns) h = ap (λ (o : Option (List ℕ)). follows o m.text) (last_name-push before n) ∙ h.0

rest_ascends : (n : Name) (ns : List Name) → Ascend (n ∷ ns) → Ascend ns
rest_ascends n [] h = tt
rest_ascends n (m ∷ ns) h = h.1

pub named : (globals : ℕ) (before ns : List Name) → AllByRecursion (IsName globals) ns → Ascend ns → AreDistinct ns
    → IsClear before ns → Starts before ns → AllGood (IsNamed globals) before ns
named globals before [] all up distinct clear starts = tt
named globals before (n ∷ ns) all up distinct clear starts = (
  record {
    slot = record { below = all.0.slot; free = clear.0 };
    next = record { fits = all.0.fits; utf8 = all.0.utf8; follows = starts };
  },
  named globals (before ++ n ∷ []) ns all.1 (rest_ascends n ns up) distinct.1
      (still_clear before n ns clear.1 distinct.0) (next_starts before n ns up),
)

pub all_clear : (ns : List Name) → IsClear [] ns
all_clear [] = tt
all_clear (n ∷ ns) = (refl, all_clear ns)

pub first_starts : (globals : ℕ) (ns : List Name) → AllByRecursion (IsName globals) ns → Starts [] ns
first_starts globals [] all = tt
first_starts globals (n ∷ ns) all = lt-ltb _ _ all.0.some

names_again : (globals : ℕ) → globals < 2 ^ 16 → (ns : List Name) (rest : List ℕ) → AreNames globals ns
    → all_names_at globals (to_le_bytes w16 (length ns) ++ (flat_map name_bytes ns ++ rest)) ≡ Ok (ns, rest)
unfolding all_names_at
names_again globals small ns rest h =
    bind_again (number_at w16 (to_le_bytes w16 (length ns) ++ (flat_map name_bytes ns ++ rest)))
    (λ n. names_at globals n.0 n.1) (length ns) (flat_map name_bytes ns ++ rest) (Ok (ns, rest))
    (number_again w16 (2 ^ 16) wide16 (length ns) (flat_map name_bytes ns ++ rest) h.count)
    (many_again (name_at globals) name_bytes (IsNamed globals) (name_again globals small) [] ns rest
    (named globals [] ns h.all h.ascend h.distinct (all_clear ns) (first_starts globals ns h.all)))

-- ---- constants

long_text_again : (t rest : List ℕ) → (length t < 2 ^ 32) × IsUtf8 t
    → long_text_at (long_bytes t ++ rest) ≡ Ok (t, rest)
unfolding long_text_at
long_text_again t rest h = search (arith, rules, append_assoc, bind_again, number_again, wide32, text_again)

pub constant_again : (before : List Constant) (x : Constant) (rest : List ℕ) → IsConstant x
    → constant_at (constant_bytes x ++ rest) ≡ Ok (x, rest)
unfolding constant_at constant_of
constant_again before undefined rest h = refl
constant_again before nothing rest h = refl
constant_again before (truth_value false) rest h = refl
constant_again before (truth_value true) rest h = refl
constant_again before (number z) rest h =
    let bits = cast_unsigned w64 z in
    bind_again (number_at w64 (to_le_bytes w64 bits ++ rest)) (λ n. Ok (number (cast_signed w64 n.0), n.1)) bits rest
    (Ok (number z, rest))
    (number_again w64 (2 ^ 64) wide64 bits rest (Fits-lt-pow {w = w64} {n = bits} (Fits-of_z {w = w64} {z = z} h)))
    (ap (λ (i : ℤ). let r : Constant × List ℕ = (number i, rest) in Ok r) (to_z-of_z w64 z h))
constant_again before (text t) rest h = search (arith, rules, bind_again, long_bytes, long_text_again)
constant_again before (markup t) rest h = search (arith, rules, bind_again, long_bytes, long_text_again)

constants_again : (cs : List Constant) (rest : List ℕ) → AreConstants cs
    → all_constants_at (to_le_bytes w16 (length cs) ++ (flat_map constant_bytes cs ++ rest)) ≡ Ok (cs, rest)
unfolding all_constants_at
constants_again cs rest h =
    bind_again (number_at w16 (to_le_bytes w16 (length cs) ++ (flat_map constant_bytes cs ++ rest)))
    (λ n. constants_at n.0 n.1) (length cs) (flat_map constant_bytes cs ++ rest) (Ok (cs, rest))
    (number_again w16 (2 ^ 16) wide16 (length cs) (flat_map constant_bytes cs ++ rest) h.0)
    (many_again (λ _. constant_at) constant_bytes good_constant constant_again [] cs rest
    (each_good IsConstant [] cs h.1))

-- ---- headers

parameters_again : (first : Bool) (p : ℕ) (rest : List ℕ) → IsPlain first p
    → parameters_at first (p ∷ rest) ≡ Ok (p, rest)
unfolding parameters_at
parameters_again first p rest plain = check_again (not first || p == 0) BadTable (Ok (p, rest)) (holds first plain)
  where
    holds : (f : Bool) → IsPlain f p → (not f || eqb p 0) ≡ true
    holds true h = let e : p ≡ 0 = h refl in rw e refl
    holds false h = refl

kind_again : (first : Bool) (k : ℕ) (rest : List ℕ) → k ≤ 1 → IsPlain first k → kind_at first (k ∷ rest) ≡ Ok (k, rest)
unfolding kind_at
kind_again first k rest le plain = check_again (nat_le k (cond first 0 1)) BadTable (Ok (k, rest)) (holds first plain)
  where
    holds : (f : Bool) → IsPlain f k → leb k (cond f 0 1) ≡ true
    holds true h = le-leb _ _ (omega (arith, h refl))
    holds false h = le-leb _ _ le

locals_again : (p n : ℕ) (rest : List ℕ) → n ≤ max_locals → p ≤ n
    → locals_at p (to_le_bytes w16 n ++ rest) ≡ Ok (n, rest)
unfolding locals_at
locals_again p n rest small within = search (arith, rules, bind_again, number_again, wide16, check_again, le-leb)

len_again : (total n : ℕ) (rest : List ℕ) → total + n ≤ max_instructions
    → len_at total (to_le_bytes w32 n ++ rest) ≡ Ok (n, rest)
unfolding len_at
len_again total n rest small = search (arith, rules, bind_again, number_again, wide32, check_again, le-leb)

header_again : (first : Bool) (total : ℕ) (h : Header) (rest : List ℕ) → IsHeader first total h
    → header_of first total (head_bytes h ++ rest) ≡ Ok (h, rest)
unfolding header_of
header_again first total h rest g =
    search (arith, rules, append_assoc, bind_again, parameters_again, kind_again, locals_again, len_again)

-- ---- instructions

-- If a reader succeeds and reads no bytes, the next reader continues.
step_again : {A B : Type 0} (r : Result A ImageError) (f : A → Result B ImageError) (x : A) (y : Result B ImageError)
    → r ≡ Ok x → f x ≡ y → (r >>= f) ≡ y
step_again {A} {B} r f x y e g = ap (λ (q : Result A ImageError). q >>= f) e ∙ g

-- If each prefix of the fields is accepted, the instruction is read.
decode_fields : (i j0 j1 j2 : Instruction) (opcode a b c : ℕ) (rest : List ℕ) → b < 2 ^ 16 → c < 2 ^ 32
    → known_of opcode 0 0 0 ≡ Ok j0 → known_of opcode a 0 0 ≡ Ok j1 → known_of opcode a b 0 ≡ Ok j2
    → known_of opcode a b c ≡ Ok i
    → instruction_at (opcode ∷ a ∷ (to_le_bytes w16 b ++ to_le_bytes w32 c) ++ rest) ≡ Ok (i, rest)
unfolding instruction_at
decode_fields i j0 j1 j2 opcode a b c rest small_b small_c e0 e1 e2 e3 =
    ap (λ (t : List ℕ). instruction_at (opcode ∷ a ∷ t)) (append_assoc (to_le_bytes w16 b) (to_le_bytes w32 c) rest)
    ∙ step_again (known_of opcode 0 0 0) (λ _. byte_at (a ∷ (to_le_bytes w16 b ++ (to_le_bytes w32 c ++ rest)))
    >>= λ a. known_of opcode a.0 0 0 >>= λ _. number_at w16 a.1
    >>= λ b.
    known_of opcode a.0 b.0 0 >>= λ _. number_at w32 b.1 >>= λ c. known_of opcode a.0 b.0 c.0 >>= λ i. Ok (i, c.1)) j0
    (Ok (i, rest)) e0
    (step_again (known_of opcode a 0 0) (λ _. number_at w16 (to_le_bytes w16 b ++ (to_le_bytes w32 c ++ rest))
    >>= λ b. known_of opcode a b.0 0 >>= λ _. number_at w32 b.1 >>= λ c. known_of opcode a b.0 c.0 >>= λ i. Ok (i, c.1))
    j1 (Ok (i, rest)) e1
    (bind_again (number_at w16 (to_le_bytes w16 b ++ (to_le_bytes w32 c ++ rest)))
    (λ b. known_of opcode a b.0 0 >>= λ _. number_at w32 b.1 >>= λ c. known_of opcode a b.0 c.0 >>= λ i. Ok (i, c.1)) b
    (to_le_bytes w32 c ++ rest) (Ok (i, rest)) (number_again w16 (2 ^ 16) wide16 b (to_le_bytes w32 c ++ rest) small_b)
    (step_again (known_of opcode a b 0)
    (λ _. number_at w32 (to_le_bytes w32 c ++ rest) >>= λ c. known_of opcode a b c.0 >>= λ i. Ok (i, c.1)) j2
    (Ok (i, rest)) e2
    (bind_again (number_at w32 (to_le_bytes w32 c ++ rest)) (λ c. known_of opcode a b c.0 >>= λ i. Ok (i, c.1)) c rest
    (Ok (i, rest)) (number_again w32 (2 ^ 32) wide32 c rest small_c)
    (step_again (known_of opcode a b c) (λ i. Ok (i, rest)) i (Ok (i, rest)) e3 refl)))))

-- An instruction is read from its fields, and each prefix of them is accepted.
pub record IsWired (w : Instr) (i : Instruction) : Type 0 where
  pub by_op : IsSome (instruction_of (wire_at w.op 0 0 0))
  pub by_a : IsSome (instruction_of (wire_at w.op w.a 0 0))
  pub by_b : IsSome (instruction_of (wire_at w.op w.a w.b 0))
  pub whole : instruction_of w ≡ Some i

pub wired : (i : Instruction) → IsWired (wire_of i) i
unfolding instruction_of
wired a0 = search (arith, rules)

known_some : (opcode a b c : ℕ) → IsSome (instruction_of (wire_at opcode a b c))
    → (j : Instruction) × (known_of opcode a b c ≡ Ok j)
unfolding known_of
known_some opcode a b c h = by (instruction_of (wire_at opcode a b c)) h
  where
    by : (o : Option Instruction) → IsSome o → (j : Instruction) × (known o ≡ Ok j)
    by (Some j) h = (j, refl)
    by None h = absurd cc

-- The fields of an instruction fit their encoding.
abbrev pub HasSmallWire : Instruction → Type 0
HasSmallWire i = ((wire_of i).b < 2 ^ 16) × ((wire_of i).c < 2 ^ 32)

pub small_wire : (i : Instruction) → IsInstruction i → HasSmallWire i
small_wire a0 h = search (arith, rules)

-- The encoded fields of an instruction are read as this instruction.
pub by_wire : (w : Instr) (i : Instruction) (rest : List ℕ) → wire_of i ≡ w → w.b < 2 ^ 16 → w.c < 2 ^ 32
    → instruction_at (wire_bytes w ++ rest) ≡ Ok (i, rest)
unfolding known_of
by_wire w i rest e small_b small_c =
    let h : IsWired w i = subst (λ (v : Instr). IsWired v i) e (wired i) in
    let o = known_some w.op 0 0 0 h.by_op in
    let a = known_some w.op w.a 0 0 h.by_a in
    let b = known_some w.op w.a w.b 0 h.by_b in
    decode_fields i o.0 a.0 b.0 w.op w.a w.b w.c rest small_b small_c o.1 a.1 b.1 (ap known h.whole)

instruction_again : (before : List Instruction) (i : Instruction) (rest : List ℕ) → IsInstruction i
    → instruction_at (instruction_bytes i ++ rest) ≡ Ok (i, rest)
instruction_again before i rest h = let small = small_wire i h in by_wire (wire_of i) i rest refl small.0 small.1

-- The table of opcodes has the one instruction with these fields, or none if none exists.
pub instruction_exact : (w : Instr) (o : Option Instruction) → o ≡ instruction_of w
    → MatchOption o ((i : Instruction) → wire_of i ≢ w) (λ i. wire_of i ≡ w)
instruction_exact w (Some i) e = wire_from w i (sym e)
instruction_exact w None e = λ i f.
    let whole = (subst (λ (v : Instr). IsWired v i) f (wired i)).whole in
    absurd cc

-- ---- units

pub instructions_again : (is : List Instruction) (rest : List ℕ) → AllByRecursion IsInstruction is
    → instructions_at (length is) (flat_map instruction_bytes is ++ rest) ≡ Ok (is, rest)
instructions_again is rest h =
    many_again (λ _. instruction_at) instruction_bytes good_instruction instruction_again [] is rest
    (each_good IsInstruction [] is h)

section_again : (u : Section) (rest : List ℕ) → HasCode u → section_at (head_of u) (code_bytes u ++ rest) ≡ Ok (u, rest)
unfolding section_at
section_again u rest h =
    bind_again (instructions_at (length u.code) (code_bytes u ++ rest))
    (λ code. Ok (section_of (head_of u) code.0, code.1)) u.code rest (Ok (u, rest)) (instructions_again u.code rest h)
    refl

pub codes_of : (us : List Section) → AllByRecursion IsSection us → AllByRecursion HasCode us
codes_of [] h = tt
codes_of (u ∷ us) h = (h.0.code, codes_of us h.1)

-- The first unit emits and has no parameters.
abbrev IsPlainFirst : Bool → List Section → Type 0
IsPlainFirst first [] = Unit {0}
IsPlainFirst first (u ∷ us) = IsPlain first u.parameters × IsPlain first u.kind

not_first : (h : Header) (before : List Header) (us : List Section) → IsPlainFirst (is_first (before ++ h ∷ [])) us
not_first h before a2 = search (arith, rules, is_first-push)

headers_good : (before : List Header) (us : List Section) → AllByRecursion IsSection us
    → header_total before + total_len us ≤ max_instructions → IsPlainFirst (is_first before) us
    → AllGood good_header before (map head_of us)
headers_good before [] all small plain = tt
headers_good before (u ∷ us) all small plain =
    search (
      arith,
      rules,
      headers_good (before ++ head_of u ∷ []) us all.1 (omega (arith, small, header_total-push before (head_of u)))
          (not_first (head_of u) before us),
      head_of,
      header_total-push,
      not_first,
    )

plain_first : (us : List Section) → HasFirst us → IsPlainFirst true us
plain_first a0 h = search (arith, rules)

some_units : (us : List Section) → HasFirst us → 0 < length us
some_units [] h = search (arith, rules)
some_units (u ∷ us) h = omega arith

units_again : (us : List Section) (rest : List ℕ) → AreUnits us
    → units_at (to_le_bytes w16 (length us) ++ (flat_map header_bytes us ++ (flat_map code_bytes us ++ rest)))
    ≡ Ok (us, rest)
unfolding units_at
units_again us rest h =
    let codes = flat_map code_bytes us ++ rest in
    let after = flat_map header_bytes us ++ codes in
    let good = headers_good [] us h.all (omega (arith, h.total)) (plain_first us h.first) in
    let many : headers_at (length (map head_of us)) (flat_map head_bytes (map head_of us) ++ codes)
    ≡ Ok (map head_of us, codes) = many_again header_at head_bytes good_header
    (λ before x rest g. header_again (is_first before) (header_total before) x rest g) [] (map head_of us) codes good in
    let heads : headers_at (length us) after ≡ Ok (map head_of us, codes) =
    ap (λ (n : ℕ). headers_at n after) (sym (length-map_of us))
    ∙ ap (λ (t : List ℕ). headers_at (length (map head_of us)) (t ++ codes)) (sym (head_spelled us)) ∙ many in
    let each : sections_at (map head_of us) codes ≡ Ok (us, rest) =
    each_again section_at code_bytes head_of HasCode section_again [] us rest (codes_of us h.all) in
    bind_again (number_at w16 (to_le_bytes w16 (length us) ++ after))
    (λ n. check (nat_lt 0 n.0) BadTable (headers_at n.0 n.1 >>= λ hs. sections_at hs.0 hs.1)) (length us) after
    (Ok (us, rest)) (number_again w16 (2 ^ 16) wide16 (length us) after h.count)
    (check_again (nat_lt 0 (length us)) BadTable (headers_at (length us) after >>= λ hs. sections_at hs.0 hs.1)
    (lt-ltb _ _ (some_units us h.first))
    ∙ bind_again (headers_at (length us) after) (λ hs. sections_at hs.0 hs.1) (map head_of us) codes (Ok (us, rest))
    heads each)

-- ---- the whole code

magic_again : (rest : List ℕ) → magic_at (magic ++ rest) ≡ Ok rest
unfolding magic_at
magic_again rest =
    let long : ltb (length (magic ++ rest)) 4 ≡ false = le-ltb _ _ (omega arith) in
    let same : bytes_eq (take 4 (magic ++ rest)) magic ≡ true =
    (bytes_eq-Decides (take 4 (magic ++ rest)) magic).1 (take_at magic rest 4 refl) in
    unless_again (ltb (length (magic ++ rest)) 4) Truncated
    (check (bytes_eq (take 4 (magic ++ rest)) magic) BadMagic (Ok (drop 4 (magic ++ rest)))) long
    ∙ check_again (bytes_eq (take 4 (magic ++ rest)) magic) BadMagic (Ok (drop 4 (magic ++ rest))) same
    ∙ ap (λ (t : List ℕ). let r : Result (List ℕ) ImageError = Ok t in r) (drop_at magic rest 4 refl)
  where
    unless_again : {A : Type 0} (b : Bool) (d : ImageError) (r : Result A ImageError) → b ≡ false → cond b (Err d) r ≡ r
    unless_again true d r e = absurd cc
    unless_again false d r e = refl

start_again : (v : Version) (rest : List ℕ)
    → start_at (magic ++ (to_le_bytes w16 (version_number v) ++ rest)) ≡ Ok (v, rest)
unfolding start_at
start_again v rest = search (arith, rules, step_again, magic_again, version_again)

-- The entry of a code is its first unit.
first_of : (k : Code) → HasEntry k → HasFirst k.units
first_of k e = record { entry = e.entry; is = e.is; emits = e.emits; plain = e.plain }

-- The spelling of a code is read as this code.
pub code_again : (k : Code) → IsCode k → code_of (spelling k) ≡ Ok k
unfolding code_of
code_again k h =
    let back : Trailer = record { templates = k.templates; places = k.places } in
    let r5 = trailer_bytes k.version back in
    let r4 =
    to_le_bytes w16 (length k.units) ++ (flat_map header_bytes k.units ++ (flat_map code_bytes k.units ++ r5)) in
    let r3 = to_le_bytes w16 (length k.constants) ++ (flat_map constant_bytes k.constants ++ r4) in
    let r2 = to_le_bytes w16 (length k.names) ++ (flat_map name_bytes k.names ++ r3) in
    let r1 = to_le_bytes w16 k.globals ++ r2 in
    let last : trailer_at k.version (total_len k.units) r5 ≡ Ok (back, []) = ap
    (trailer_at k.version (total_len k.units)) (sym (append-nil r5))
    ∙ back_again k.version back (total_len k.units) []
    (record {
      texts = record { count = h.count_templates; all = h.templates; ascend = h.ascend_templates };
      places = h.places;
      placed = h.placed;
    }) in
    check_again (nat_le (length (spelling k)) max_bytes) LimitPassed _ (le-leb _ _ h.bytes)
    ∙ bind_again (start_at (spelling k)) _ k.version r1 (Ok k) (start_again k.version r1)
    (bind_again (number_at w16 r1) _ k.globals r2 (Ok k) (number_again w16 (2 ^ 16) wide16 k.globals r2 h.globals)
    (bind_again (all_names_at k.globals r2) _ k.names r3 (Ok k)
    (names_again k.globals h.globals k.names r3
    (record { count = h.count_names; all = h.names; ascend = h.ascend; distinct = h.distinct }))
    (bind_again (all_constants_at r3) _ k.constants r4 (Ok k)
    (constants_again k.constants r4 (h.count_constants, h.constants))
    (bind_again (units_at r4) _ k.units r5 (Ok k)
    (units_again k.units r5
    (record { count = h.count_units; all = h.units; first = first_of k h.entry; total = h.instructions }))
    (bind_again (trailer_at k.version (total_len k.units) r5)
    (λ back. check (length back.1 == 0) Trailing
    (Ok (record {
      version = k.version;
      globals = k.globals;
      names = k.names;
      constants = k.constants;
      units = k.units;
      templates = back.0.templates;
      places = back.0.places;
    }))) back [] (Ok k) last refl)))))

-- ---- the contract of `decode`

-- If reading returns a code, it has no fault.
no_fault : (k : Code) (d : ImageError) (read : Result Code ImageError) → read ≡ Ok k → read ≡ Err d → ⊥
no_fault k d read e f = cc

pub is_only : {X : Type 0} (view : X → Code) (k : Code) (r : Result X ImageError) (read : Result Code ImageError)
    → read ≡ Ok k → Gives view r read → MatchResult r (λ x. view x ≡ k) (λ e. e ≡ NoMemory)
is_only view k a2 read e g = search (arith, rules, no_fault)
