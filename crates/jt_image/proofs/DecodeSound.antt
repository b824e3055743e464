-- Bytes that are read are the spelling of the result, and the result is a code.
use Rattle.std.proofs.Common.{◌≡◌, ℕ, zero, suc, ◌+◌, ◌<◌, ◌≤◌, ◌^◌, Bool, true, false, cond, eqb, List, [], ◌∷◌, ◌++◌}
use Rattle.std.proofs.Common.{length, Option, Some, None, Result, Ok, Err, refl, sym, ap, subst, ◌∙◌, arith, rules}
use Rattle.std.specs.Prelude.{◌==◌, ◌&&◌, ◌||◌, not, nat_lt, nat_le, IsUtf8}
use Rattle.std.specs.Int.{w16, w32, w64, to_le_bytes, cast_signed, cast_unsigned}
use Rattle.std.specs.List.{flat_map, AllByRecursion}
use Rattle.std.proofs.Math.Facts.{sfits_to_z, Fits-of_lt}
use Rattle.std.proofs.lemmas.Int.{of_z-to_z}
use Rattle.std.proofs.lemmas.List.{length-append}
use Rattle.std.proofs.lemmas.Bool.{ltb-true, leb-true, eqb-true}
use Rattle.jt_image.specs.declared.error.ImageError.{ImageError}
use Rattle.jt_image.specs.declared.error.ImageError.TheVariants.{BadTable, LimitPassed}
use Rattle.jt_image.specs.declared.instruction.Instruction.{Instruction}
use Rattle.jt_image.specs.declared.wire.Instr.{Instr}
use Rattle.jt_image.specs.Code.{Constant, number, text, markup, Name, Section}
use Rattle.jt_image.specs.Spelling.{name_bytes, template_bytes, constant_bytes, wire_of, wire_bytes, instruction_bytes}
use Rattle.jt_image.specs.IsCode.{total_len, IsConstant, IsInstruction, max_locals, max_instructions}
use Rattle.jt_image.specs.Reading.{◌>>=◌, check, number_at, byte_at, text_at, is_used, follows, last_name, text_after}
use Rattle.jt_image.specs.Reading.{slot_at, name_at, long_text_at, constant_of, constant_at, Header, parameters_at}
use Rattle.jt_image.specs.Reading.{kind_at, locals_at, len_at, header_of, uses_none, uses_c, uses_a, uses_ab, uses_ac}
use Rattle.jt_image.specs.Reading.{instruction_of, known, known_of, instruction_at, instructions_at, section_of}
use Rattle.jt_image.specs.Reading.{section_at, sections_at, header_total, many_at, each_at}
use Rattle.jt_image.proofs.DecodeSoundLemmas.{Read, AllOk, all_at, all_map, bind_from, check_all, cond_all, IsBytes}
use Rattle.jt_image.proofs.DecodeSoundLemmas.{Takes, Takes-then, Takes-as, Found, wide16, wide32, wide64, number_found}
use Rattle.jt_image.proofs.DecodeSoundLemmas.{single, byte_found, IsText, text_found, Many, many_found, Each}
use Rattle.jt_image.proofs.DecodeSoundLemmas.{each_found, and_true, not_true, good_each}

-- ---- names

-- A slot that exists and has no name yet.
pub record IsFree (globals : ℕ) (before : List Name) (slot : ℕ) : Type 0 where
  pub below : slot < globals
  pub free : is_used slot before ≡ false

slot_found : (globals : ℕ) (before : List Name) (bytes : List ℕ) → IsBytes bytes
    → Found (to_le_bytes w16) (IsFree globals before) bytes (slot_at globals before bytes)
unfolding slot_at
slot_found globals before bytes fits =
    let P : ℕ × List ℕ → Type 0 = λ s. Takes bytes (to_le_bytes w16 s.0) s.1 × IsFree globals before s.0 in
    bind_from (number_at w16 bytes)
    (λ slot. check (nat_lt slot.0 globals && not (is_used slot.0 before)) BadTable (Ok slot))
    (λ s. Takes bytes (to_le_bytes w16 s.0) s.1 × (s.0 < 2 ^ 16)) P (number_found w16 (2 ^ 16) wide16 bytes fits)
    (λ s t.
    check_all (nat_lt s.0 globals && not (is_used s.0 before)) BadTable (Ok s) P (λ e.
    let both = and_true (nat_lt s.0 globals) (not (is_used s.0 before)) e in
    (t.0, record { below = ltb-true s.0 globals both.0; free = not_true (is_used s.0 before) both.1 })))

-- A text that may follow the last one of its table.
pub record IsNext (last : Option (List ℕ)) (t : List ℕ) : Type 0 where
  pub fits : length t < 2 ^ 16
  pub utf8 : IsUtf8 t
  pub follows : follows last t ≡ true

abbrev pub long_bytes : List ℕ → List ℕ
long_bytes t = to_le_bytes w32 (length t) ++ t

pub next_found : (last : Option (List ℕ)) (bytes : List ℕ) → IsBytes bytes
    → Found template_bytes (IsNext last) bytes (text_after last bytes)
unfolding text_after
next_found last bytes fits =
    let P : List ℕ × List ℕ → Type 0 = λ t. Takes bytes (template_bytes t.0) t.1 × IsNext last t.0 in
    bind_from (number_at w16 bytes) (λ len. text_at len.0 len.1 >>= λ t. check (follows last t.0) BadTable (Ok t))
    (λ s. Takes bytes (to_le_bytes w16 s.0) s.1 × (s.0 < 2 ^ 16)) P (number_found w16 (2 ^ 16) wide16 bytes fits)
    (λ len l.
    bind_from (text_at len.0 len.1) (λ t. check (follows last t.0) BadTable (Ok t))
    (λ t. Takes len.1 t.0 t.1 × IsText len.0 t.0) P (text_found len.0 len.1 l.0.fits) (λ t u.
    check_all (follows last t.0) BadTable (Ok t) P (λ e. (
      Takes-as bytes (to_le_bytes w16 len.0 ++ t.0) (template_bytes t.0) t.1
          (ap (λ (n : ℕ). to_le_bytes w16 n ++ t.0) (sym u.1.0))
          (Takes-then bytes (to_le_bytes w16 len.0) len.1 t.0 t.1 l.0 u.0),
      record { fits = omega (arith, u.1.0, l.1); utf8 = u.1.1; follows = e },
    ))))

-- A name that may follow those before it.
pub record IsNamed (globals : ℕ) (before : List Name) (n : Name) : Type 0 where
  pub slot : IsFree globals before n.slot
  pub next : IsNext (last_name before) n.text

pub name_found : (globals : ℕ) (before : List Name) (bytes : List ℕ) → IsBytes bytes
    → Found name_bytes (IsNamed globals before) bytes (name_at globals before bytes)
unfolding name_at
name_found globals before bytes fits =
    let P : Name × List ℕ → Type 0 = λ n. Takes bytes (name_bytes n.0) n.1 × IsNamed globals before n.0 in
    bind_from (slot_at globals before bytes)
    (λ slot. text_after (last_name before) slot.1 >>= λ t. Ok (record { slot = slot.0; text = t.0 }, t.1))
    (λ s. Takes bytes (to_le_bytes w16 s.0) s.1 × IsFree globals before s.0) P (slot_found globals before bytes fits)
    (λ s t.
    bind_from (text_after (last_name before) s.1) (λ t. Ok (record { slot = s.0; text = t.0 }, t.1))
    (λ t. Takes s.1 (template_bytes t.0) t.1 × IsNext (last_name before) t.0) P
    (next_found (last_name before) s.1 t.0.fits) (λ u v.
    (Takes-then bytes (to_le_bytes w16 s.0) s.1 (template_bytes u.0) u.1 t.0 v.0, record { slot = t.1; next = v.1 })))

-- ---- constants

long_text_found : (bytes : List ℕ) → IsBytes bytes
    → Found long_bytes (λ t. (length t < 2 ^ 32) × IsUtf8 t) bytes (long_text_at bytes)
unfolding long_text_at
long_text_found bytes fits =
    let P : List ℕ × List ℕ → Type 0 = λ t. Takes bytes (long_bytes t.0) t.1 × ((length t.0 < 2 ^ 32) × IsUtf8 t.0) in
    bind_from (number_at w32 bytes) (λ len. text_at len.0 len.1)
    (λ s. Takes bytes (to_le_bytes w32 s.0) s.1 × (s.0 < 2 ^ 32)) P (number_found w32 (2 ^ 32) wide32 bytes fits)
    (λ len l.
    all_map (text_at len.0 len.1) (λ t. Takes len.1 t.0 t.1 × IsText len.0 t.0) P (text_found len.0 len.1 l.0.fits)
    (λ t u. (
      Takes-as bytes (to_le_bytes w32 len.0 ++ t.0) (long_bytes t.0) t.1
          (ap (λ (n : ℕ). to_le_bytes w32 n ++ t.0) (sym u.1.0))
          (Takes-then bytes (to_le_bytes w32 len.0) len.1 t.0 t.1 l.0 u.0),
      (omega (arith, u.1.0, l.1), u.1.1),
    )))

tagged : (tag n : ℕ) (rest payload after : List ℕ) → eqb tag n ≡ true → Takes rest payload after
    → Takes (tag ∷ rest) (n ∷ payload) after
tagged tag n rest payload after e t = record {
  parts = ap (λ (k : ℕ). k ∷ rest) (eqb-true tag n e) ∙ ap (λ (u : List ℕ). n ∷ u) t.parts;
  fits = t.fits;
}

none_taken : (rest : List ℕ) → IsBytes rest → Takes rest [] rest
none_taken rest fits = record { parts = refl; fits = fits }

abbrev IsRead : ℕ → List ℕ → Constant × List ℕ → Type 0
IsRead tag rest x = Takes (tag ∷ rest) (constant_bytes x.0) x.1 × IsConstant x.0

number_constant : (tag : ℕ) (rest : List ℕ) → IsBytes rest → eqb tag 4 ≡ true
    → AllOk (number_at w64 rest >>= λ n. Ok (number (cast_signed w64 n.0), n.1)) (IsRead tag rest)
number_constant tag rest fits e =
    bind_from (number_at w64 rest) (λ n. Ok (number (cast_signed w64 n.0), n.1))
    (λ n. Takes rest (to_le_bytes w64 n.0) n.1 × (n.0 < 2 ^ 64)) (IsRead tag rest)
    (number_found w64 (2 ^ 64) wide64 rest fits) (λ n t. (
      tagged tag 4 rest (to_le_bytes w64 (cast_unsigned w64 (cast_signed w64 n.0))) n.1 e
          (Takes-as rest (to_le_bytes w64 n.0) (to_le_bytes w64 (cast_unsigned w64 (cast_signed w64 n.0))) n.1
          (ap (to_le_bytes w64) (sym (of_z-to_z w64 n.0 t.1))) t.0),
      sfits_to_z {w = w64} {n = n.0} (Fits-of_lt {w = w64} {n = n.0} t.1),
    ))

text_constant : (tag : ℕ) (rest : List ℕ) → IsBytes rest → eqb tag 5 ≡ true
    → AllOk (long_text_at rest >>= λ t. Ok (text t.0, t.1)) (IsRead tag rest)
text_constant tag rest fits e =
    bind_from (long_text_at rest) (λ t. Ok (text t.0, t.1))
    (λ t. Takes rest (long_bytes t.0) t.1 × ((length t.0 < 2 ^ 32) × IsUtf8 t.0)) (IsRead tag rest)
    (long_text_found rest fits) (λ t u.
    (tagged tag 5 rest (long_bytes t.0) t.1 e u.0, u.1))

markup_constant : (tag : ℕ) (rest : List ℕ) → IsBytes rest → eqb tag 6 ≡ true
    → AllOk (long_text_at rest >>= λ t. Ok (markup t.0, t.1)) (IsRead tag rest)
markup_constant tag rest fits e =
    bind_from (long_text_at rest) (λ t. Ok (markup t.0, t.1))
    (λ t. Takes rest (long_bytes t.0) t.1 × ((length t.0 < 2 ^ 32) × IsUtf8 t.0)) (IsRead tag rest)
    (long_text_found rest fits) (λ t u.
    (tagged tag 6 rest (long_bytes t.0) t.1 e u.0, u.1))

tagged_found : (tag : ℕ) (rest : List ℕ) → IsBytes rest → AllOk (constant_of tag rest) (IsRead tag rest)
unfolding constant_of
tagged_found tag rest fits =
    search (arith, rules, cond_all, tagged, none_taken, number_constant, text_constant, markup_constant)

pub constant_found : (bytes : List ℕ) → IsBytes bytes → Found constant_bytes IsConstant bytes (constant_at bytes)
unfolding constant_at
constant_found bytes fits =
    let P : Constant × List ℕ → Type 0 = λ x. Takes bytes (constant_bytes x.0) x.1 × IsConstant x.0 in
    bind_from (byte_at bytes) (λ tag. constant_of tag.0 tag.1) (λ b. Takes bytes (single b.0) b.1 × (b.0 < 256)) P
    (byte_found bytes fits) (λ b t.
    all_map (constant_of b.0 b.1) (IsRead b.0 b.1) P (tagged_found b.0 b.1 t.0.fits) (λ x u.
    (record { parts = t.0.parts ∙ u.0.parts; fits = u.0.fits }, u.1)))

-- ---- headers

abbrev pub IsPlain : Bool → ℕ → Type 0
IsPlain first n = first ≡ true → n ≡ 0

parameters_found : (first : Bool) (bytes : List ℕ) → IsBytes bytes
    → Found single (λ p. (p < 256) × IsPlain first p) bytes (parameters_at first bytes)
unfolding parameters_at
parameters_found first bytes fits =
    let P : ℕ × List ℕ → Type 0 = λ p. Takes bytes (single p.0) p.1 × ((p.0 < 256) × IsPlain first p.0) in
    bind_from (byte_at bytes) (λ p. check (not first || p.0 == 0) BadTable (Ok p))
    (λ b. Takes bytes (single b.0) b.1 × (b.0 < 256)) P (byte_found bytes fits) (λ p t.
    check_all (not first || p.0 == 0) BadTable (Ok p) P (λ e. (t.0, (t.1, plain first p.0 e))))
  where
    plain : (first : Bool) (n : ℕ) → (not first || eqb n 0) ≡ true → IsPlain first n
    plain true n e = λ _. eqb-true n 0 e
    plain false n e = λ f. absurd cc

kind_found : (first : Bool) (bytes : List ℕ) → IsBytes bytes
    → Found single (λ k. (k ≤ 1) × IsPlain first k) bytes (kind_at first bytes)
unfolding kind_at
kind_found first bytes fits =
    let P : ℕ × List ℕ → Type 0 = λ k. Takes bytes (single k.0) k.1 × ((k.0 ≤ 1) × IsPlain first k.0) in
    bind_from (byte_at bytes) (λ k. check (nat_le k.0 (cond first 0 1)) BadTable (Ok k))
    (λ b. Takes bytes (single b.0) b.1 × (b.0 < 256)) P (byte_found bytes fits) (λ k t.
    check_all (nat_le k.0 (cond first 0 1)) BadTable (Ok k) P (λ e. (t.0, plain first k.0 (leb-true _ _ e))))
  where
    plain : (first : Bool) (n : ℕ) → n ≤ cond first 0 1 → (n ≤ 1) × IsPlain first n
    plain true n le = (omega (arith, le), λ _. omega (arith, le))
    plain false n le = (le, λ f. absurd cc)

locals_found : (parameters : ℕ) (bytes : List ℕ) → IsBytes bytes
    → Found (to_le_bytes w16) (λ n. (n ≤ max_locals) × (parameters ≤ n)) bytes (locals_at parameters bytes)
unfolding locals_at
locals_found parameters bytes fits =
    let P : ℕ × List ℕ → Type 0 =
    λ n. Takes bytes (to_le_bytes w16 n.0) n.1 × ((n.0 ≤ max_locals) × (parameters ≤ n.0)) in
    bind_from (number_at w16 bytes)
    (λ n. check (nat_le n.0 max_locals) LimitPassed (check (nat_le parameters n.0) BadTable (Ok n)))
    (λ s. Takes bytes (to_le_bytes w16 s.0) s.1 × (s.0 < 2 ^ 16)) P (number_found w16 (2 ^ 16) wide16 bytes fits)
    (λ n t.
    check_all (nat_le n.0 max_locals) LimitPassed (check (nat_le parameters n.0) BadTable (Ok n)) P (λ e.
    check_all (nat_le parameters n.0) BadTable (Ok n) P (λ f. (t.0, (leb-true _ _ e, leb-true _ _ f)))))

len_found : (total : ℕ) (bytes : List ℕ) → IsBytes bytes
    → Found (to_le_bytes w32) (λ n. total + n ≤ max_instructions) bytes (len_at total bytes)
unfolding len_at
len_found total bytes fits =
    let P : ℕ × List ℕ → Type 0 = λ n. Takes bytes (to_le_bytes w32 n.0) n.1 × (total + n.0 ≤ max_instructions) in
    bind_from (number_at w32 bytes) (λ n. check (nat_le (total + n.0) max_instructions) LimitPassed (Ok n))
    (λ s. Takes bytes (to_le_bytes w32 s.0) s.1 × (s.0 < 2 ^ 32)) P (number_found w32 (2 ^ 32) wide32 bytes fits)
    (λ n t.
    check_all (nat_le (total + n.0) max_instructions) LimitPassed (Ok n) P (λ e. (t.0, leb-true _ _ e)))

-- A header after `total` instructions of earlier units.
pub record IsHeader (first : Bool) (total : ℕ) (h : Header) : Type 0 where
  pub parameters : h.parameters < 2 ^ 8
  pub kind : h.kind ≤ 1
  pub locals : h.locals ≤ max_locals
  pub within : h.parameters ≤ h.locals
  pub plain : IsPlain first h.parameters
  pub emits : IsPlain first h.kind
  pub fits : total + h.len ≤ max_instructions

abbrev pub head_bytes : Header → List ℕ
head_bytes h = h.parameters ∷ h.kind ∷ (to_le_bytes w16 h.locals ++ to_le_bytes w32 h.len)

pub header_found : (first : Bool) (total : ℕ) (bytes : List ℕ) → IsBytes bytes
    → Found head_bytes (IsHeader first total) bytes (header_of first total bytes)
unfolding header_of
header_found first total bytes fits =
    let P : Header × List ℕ → Type 0 = λ h. Takes bytes (head_bytes h.0) h.1 × IsHeader first total h.0 in
    bind_from (parameters_at first bytes) (λ p. kind_at first p.1
    >>= λ k. locals_at p.0 k.1
    >>= λ l. len_at total l.1 >>= λ n. Ok (record { parameters = p.0; kind = k.0; locals = l.0; len = n.0 }, n.1))
    (λ p. Takes bytes (single p.0) p.1 × ((p.0 < 256) × IsPlain first p.0)) P (parameters_found first bytes fits)
    (λ p tp.
    bind_from (kind_at first p.1) (λ k. locals_at p.0 k.1
    >>= λ l. len_at total l.1 >>= λ n. Ok (record { parameters = p.0; kind = k.0; locals = l.0; len = n.0 }, n.1))
    (λ k. Takes p.1 (single k.0) k.1 × ((k.0 ≤ 1) × IsPlain first k.0)) P (kind_found first p.1 tp.0.fits) (λ k tk.
    bind_from (locals_at p.0 k.1)
    (λ l. len_at total l.1 >>= λ n. Ok (record { parameters = p.0; kind = k.0; locals = l.0; len = n.0 }, n.1))
    (λ l. Takes k.1 (to_le_bytes w16 l.0) l.1 × ((l.0 ≤ max_locals) × (p.0 ≤ l.0))) P (locals_found p.0 k.1 tk.0.fits)
    (λ l tl.
    bind_from (len_at total l.1) (λ n. Ok (record { parameters = p.0; kind = k.0; locals = l.0; len = n.0 }, n.1))
    (λ n. Takes l.1 (to_le_bytes w32 n.0) n.1 × (total + n.0 ≤ max_instructions)) P (len_found total l.1 tl.0.fits)
    (λ n tn.
    let back = Takes-then k.1 (to_le_bytes w16 l.0) l.1 (to_le_bytes w32 n.0) n.1 tl.0 tn.0 in
    let two = Takes-then p.1 (single k.0) k.1 (to_le_bytes w16 l.0 ++ to_le_bytes w32 n.0) n.1 tk.0 back in (
      Takes-then bytes (single p.0) p.1 (k.0 ∷ (to_le_bytes w16 l.0 ++ to_le_bytes w32 n.0)) n.1 tp.0 two,
      record {
        parameters = tp.1.0;
        kind = tk.1.0;
        locals = tl.1.0;
        within = tl.1.1;
        plain = tp.1.1;
        emits = tk.1.1;
        fits = tn.1;
      },
    )))))

-- ---- instructions

-- An instruction has the fields from which it was decoded.
abbrev HasWire : Instr → Option Instruction → Type 0
HasWire w None = Unit {0}
HasWire w (Some i) = wire_of i ≡ w

abbrev pub wire_at : ℕ → ℕ → ℕ → ℕ → Instr
wire_at opcode a b c = record { op = opcode; a = a; b = b; c = c }

same_wire : (w : Instr) (opcode a b c : ℕ) → eqb w.op opcode ≡ true → a ≡ w.a → b ≡ w.b → c ≡ w.c
    → wire_at opcode a b c ≡ w
same_wire w opcode a b c e x y z = search (arith, rules, eqb-true)

none_wire : (w : Instr) (opcode : ℕ) (i : Instruction) → eqb w.op opcode ≡ true → wire_of i ≡ wire_at opcode 0 0 0
    → HasWire w (uses_none w i)
none_wire w opcode i e is = search (arith, rules, same_wire, eqb-true)

c_wire : (w : Instr) (opcode : ℕ) (i : Instruction) → eqb w.op opcode ≡ true → wire_of i ≡ wire_at opcode 0 0 w.c
    → HasWire w (uses_c w i)
c_wire w opcode i e is = search (arith, rules, same_wire, eqb-true)

a_wire : (w : Instr) (opcode : ℕ) (i : Instruction) → eqb w.op opcode ≡ true → wire_of i ≡ wire_at opcode w.a 0 0
    → HasWire w (uses_a w i)
a_wire w opcode i e is = search (arith, rules, same_wire, eqb-true)

ab_wire : (w : Instr) (opcode : ℕ) (i : Instruction) → eqb w.op opcode ≡ true → wire_of i ≡ wire_at opcode w.a w.b 0
    → HasWire w (uses_ab w i)
ab_wire w opcode i e is = search (arith, rules, same_wire, eqb-true)

ac_wire : (w : Instr) (opcode : ℕ) (i : Instruction) → eqb w.op opcode ≡ true → wire_of i ≡ wire_at opcode w.a 0 w.c
    → HasWire w (uses_ac w i)
ac_wire w opcode i e is = search (arith, rules, same_wire, eqb-true)

choose : (w : Instr) (b : Bool) (x y : Option Instruction) → (b ≡ true → HasWire w x) → HasWire w y
    → HasWire w (cond b x y)
choose w true x y h k = h refl
choose w false x y h k = k

pub instruction_wire : (w : Instr) → HasWire w (instruction_of w)
unfolding instruction_of
instruction_wire w = search (arith, rules, choose, c_wire, none_wire, a_wire, same_wire, ab_wire, ac_wire)

-- A decoded instruction has the fields from which it was decoded.
pub wire_from : (w : Instr) (i : Instruction) → instruction_of w ≡ Some i → wire_of i ≡ w
wire_from w i e = subst (HasWire w) e (instruction_wire w)

-- The operands of an instruction fit their fields.
small_instruction : (i : Instruction) (w : Instr) → wire_of i ≡ w → w.a < 2 ^ 8 → w.b < 2 ^ 16 → w.c < 2 ^ 32
    → IsInstruction i
small_instruction a0 w e a m l = search (arith, rules)

-- A property of a continuation holds whatever the reader before it returns.
bind_any : {A B : Type 0} (r : Result A ImageError) (f : A → Result B ImageError) (Q : B → Type 0)
    → ((x : A) → AllOk (f x) Q) → AllOk (r >>= f) Q
bind_any (Ok x) f Q h = h x
bind_any (Err d) f Q h = tt

known_found : (opcode a b c : ℕ) → AllOk (known_of opcode a b c) (λ i. wire_of i ≡ wire_at opcode a b c)
unfolding known_of
known_found opcode a b c =
    given (wire_at opcode a b c) (instruction_of (wire_at opcode a b c)) (instruction_wire (wire_at opcode a b c))
  where
    given : (w : Instr) (o : Option Instruction) → HasWire w o → AllOk (known o) (λ i. wire_of i ≡ w)
    given w None h = tt
    given w (Some i) h = h

pub instruction_found : (bytes : List ℕ) → IsBytes bytes
    → Found instruction_bytes IsInstruction bytes (instruction_at bytes)
unfolding instruction_at
instruction_found bytes fits =
    let P : Instruction × List ℕ → Type 0 = λ i. Takes bytes (instruction_bytes i.0) i.1 × IsInstruction i.0 in
    bind_from (byte_at bytes) (λ o. known_of o.0 0 0 0
    >>= λ _. byte_at o.1 >>= λ a. known_of o.0 a.0 0 0
    >>= λ _. number_at w16 a.1
    >>= λ b. known_of o.0 a.0 b.0 0 >>= λ _. number_at w32 b.1 >>= λ c. known_of o.0 a.0 b.0 c.0 >>= λ i. Ok (i, c.1))
    (λ o. Takes bytes (single o.0) o.1 × (o.0 < 256)) P (byte_found bytes fits) (λ o to.
    bind_any (known_of o.0 0 0 0) (λ _. byte_at o.1
    >>= λ a. known_of o.0 a.0 0 0 >>= λ _. number_at w16 a.1
    >>= λ b. known_of o.0 a.0 b.0 0 >>= λ _. number_at w32 b.1 >>= λ c. known_of o.0 a.0 b.0 c.0 >>= λ i. Ok (i, c.1)) P
    (λ _.
    bind_from (byte_at o.1) (λ a. known_of o.0 a.0 0 0
    >>= λ _. number_at w16 a.1
    >>= λ b. known_of o.0 a.0 b.0 0 >>= λ _. number_at w32 b.1 >>= λ c. known_of o.0 a.0 b.0 c.0 >>= λ i. Ok (i, c.1))
    (λ a. Takes o.1 (single a.0) a.1 × (a.0 < 256)) P (byte_found o.1 to.0.fits) (λ a ta.
    bind_any (known_of o.0 a.0 0 0) (λ _. number_at w16 a.1
    >>= λ b. known_of o.0 a.0 b.0 0 >>= λ _. number_at w32 b.1 >>= λ c. known_of o.0 a.0 b.0 c.0 >>= λ i. Ok (i, c.1)) P
    (λ _.
    bind_from (number_at w16 a.1)
    (λ b. known_of o.0 a.0 b.0 0 >>= λ _. number_at w32 b.1 >>= λ c. known_of o.0 a.0 b.0 c.0 >>= λ i. Ok (i, c.1))
    (λ b. Takes a.1 (to_le_bytes w16 b.0) b.1 × (b.0 < 2 ^ 16)) P (number_found w16 (2 ^ 16) wide16 a.1 ta.0.fits)
    (λ b tb.
    bind_any (known_of o.0 a.0 b.0 0) (λ _. number_at w32 b.1 >>= λ c. known_of o.0 a.0 b.0 c.0 >>= λ i. Ok (i, c.1)) P
    (λ _.
    bind_from (number_at w32 b.1) (λ c. known_of o.0 a.0 b.0 c.0 >>= λ i. Ok (i, c.1))
    (λ c. Takes b.1 (to_le_bytes w32 c.0) c.1 × (c.0 < 2 ^ 32)) P (number_found w32 (2 ^ 32) wide32 b.1 tb.0.fits)
    (λ c tc.
    let w = wire_at o.0 a.0 b.0 c.0 in
    let back = Takes-then a.1 (to_le_bytes w16 b.0) b.1 (to_le_bytes w32 c.0) c.1 tb.0 tc.0 in
    let two = Takes-then o.1 (single a.0) a.1 (to_le_bytes w16 b.0 ++ to_le_bytes w32 c.0) c.1 ta.0 back in
    let all : Takes bytes (wire_bytes w) c.1 =
    Takes-then bytes (single o.0) o.1 (a.0 ∷ (to_le_bytes w16 b.0 ++ to_le_bytes w32 c.0)) c.1 to.0 two in
    bind_from (known_of o.0 a.0 b.0 c.0) (λ i. Ok (i, c.1)) (λ i. wire_of i ≡ w) P (known_found o.0 a.0 b.0 c.0)
    (λ i e. (
      Takes-as bytes (wire_bytes w) (instruction_bytes i) c.1 (ap wire_bytes (sym e)) all,
      small_instruction i w e ta.1 tb.1 tc.1,
    )))))))))

-- ---- units

abbrev pub code_bytes : Section → List ℕ
code_bytes u = flat_map instruction_bytes u.code

-- The header of a unit.
abbrev pub head_of : Section → Header
head_of u = record { parameters = u.parameters; kind = u.kind; locals = u.locals; len = length u.code }

abbrev pub HasCode : Section → Type 0
HasCode u = AllByRecursion IsInstruction u.code

abbrev pub good_instruction : List Instruction → Instruction → Type 0
good_instruction before i = IsInstruction i

section_found : (h : Header) (bytes : List ℕ) → IsBytes bytes
    → Found code_bytes (λ u. (head_of u ≡ h) × HasCode u) bytes (section_at h bytes)
unfolding section_at
section_found h bytes fits =
    let P : Section × List ℕ → Type 0 = λ u. Takes bytes (code_bytes u.0) u.1 × ((head_of u.0 ≡ h) × HasCode u.0) in
    bind_from (instructions_at h.len bytes) (λ code. Ok (section_of h code.0, code.1))
    (Many instruction_bytes good_instruction h.len [] bytes) P
    (many_found (λ _. instruction_at) instruction_bytes good_instruction
    (λ before bytes fits. instruction_found bytes fits) h.len [] bytes fits) (λ code m. (
      Takes-as bytes (flat_map instruction_bytes m.more) (flat_map instruction_bytes code.0) code.1
          (ap (flat_map instruction_bytes) (sym m.is)) m.takes,
      (
        ap (λ (n : ℕ).
            let r : Header = record { parameters = h.parameters; kind = h.kind; locals = h.locals; len = n } in r)
            (ap length m.is ∙ m.count),
        subst (λ (is : List Instruction). AllByRecursion IsInstruction is) (sym m.is)
            (good_each IsInstruction [] m.more m.all),
      ),
    ))

pub sections_found : (hs : List Header) (bytes : List ℕ) → IsBytes bytes
    → AllOk (sections_at hs bytes) (Each code_bytes head_of HasCode hs [] bytes)
sections_found hs bytes fits = each_found section_at code_bytes head_of HasCode section_found hs [] bytes fits

-- ---- the number of instructions

pub many_count : {A : Type 0} (step : List A → List ℕ → Read A) (n : ℕ) (before : List A) (bytes : List ℕ)
    → AllOk (many_at step n before bytes) (λ x. length x.0 ≡ length before + n)
unfolding many_at
many_count step zero before bytes = omega arith
many_count {A} step (suc n) before bytes = search (arith, rules, bind_any, all_map, many_count step n, length-append)

each_total : (hs : List Header) (before : List Section) (bytes : List ℕ)
    → AllOk (each_at section_at hs before bytes) (λ x. total_len x.0 ≡ total_len before + header_total hs)
unfolding each_at section_at
each_total [] before bytes = omega arith
each_total (h ∷ hs) before bytes =
    bind_from (section_at h bytes) (λ x. each_at section_at hs (before ++ x.0 ∷ []) x.1) (λ u. length u.0.code ≡ h.len)
    (λ x. total_len x.0 ≡ total_len before + header_total (h ∷ hs))
    (bind_from (instructions_at h.len bytes) (λ code. Ok (section_of h code.0, code.1)) (λ x. length x.0 ≡ 0 + h.len)
    (λ u. length u.0.code ≡ h.len) (many_count (λ _. instruction_at) h.len [] bytes) (λ x e. omega (arith, e))) (λ u e.
    all_map (each_at section_at hs (before ++ u.0 ∷ []) u.1)
    (λ y. total_len y.0 ≡ total_len (before ++ u.0 ∷ []) + header_total hs)
    (λ y. total_len y.0 ≡ total_len before + header_total (h ∷ hs)) (each_total hs (before ++ u.0 ∷ []) u.1)
    (λ y f. omega (arith, e, f, total_len-push before u.0)))
  where
    total_len-push : (us : List Section) (u : Section) → total_len (us ++ u ∷ []) ≡ total_len us + length u.code
    total_len-push [] u = omega arith
    total_len-push (v ∷ us) u = omega (arith, total_len-push us u)

-- The number of instructions in all units is the sum of those in their headers.
pub sections_total : (hs : List Header) (bytes rest : List ℕ) (us : List Section) → sections_at hs bytes ≡ Ok (us, rest)
    → total_len us ≡ header_total hs
sections_total hs bytes rest us e =
    all_at (sections_at hs bytes) (λ x. total_len x.0 ≡ 0 + header_total hs) (us, rest) e (each_total hs [] bytes)
    ∙ omega arith
