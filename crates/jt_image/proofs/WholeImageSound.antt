-- Tables that are read from bytes are in order, and the bytes are their spelling.
use Rattle.std.proofs.Common.{◌≡◌, ℕ, suc, ◌+◌, ◌<◌, ◌≤◌, ◌^◌, Bool, true, false, eqb, List, [], ◌∷◌, ◌++◌, length, map}
use Rattle.std.proofs.Common.{Some, refl, sym, ap, subst, ◌∙◌, arith, append_assoc, nat_cmp, rules, Option, None}
use Rattle.std.proofs.Common.{option_map}
use Rattle.std.specs.Prelude.{◌||◌, ◌≢◌, nat_lt, slice_get}
use Rattle.std.specs.Int.{w16, to_le_bytes}
use Rattle.std.specs.List.{flat_map, AllByRecursion, last_or}
use Rattle.std.specs.Ordering.{is_lt}
use Rattle.std.specs.Cmp.Lexicographic.{slice_cmp}
use Rattle.std.proofs.lemmas.Bool.{ltb-true}
use Rattle.std.proofs.lemmas.Bool.Decides.{nat_tests}
use Rattle.std.proofs.lemmas.List.Folds.{flat_map-map}
use Rattle.jt_image.specs.declared.error.ImageError.TheVariants.{BadTable}
use Rattle.jt_image.specs.Code.{Constant, Name, Section}
use Rattle.jt_image.specs.Spelling.{name_bytes, constant_bytes, header_bytes}
use Rattle.jt_image.specs.IsCode.{IsName, Ascend, AreDistinct, IsConstant, IsSection, total_len, max_instructions}
use Rattle.jt_image.specs.Reading.{◌>>=◌, check, number_at, is_used, follows, last_name, name_at, constant_at}
use Rattle.jt_image.specs.Reading.{Header, header_total, is_first, header_at, headers_at, sections_at}
use Rattle.jt_image.specs.Reading.{units_at, all_names_at, all_constants_at}
use Rattle.jt_image.proofs.ReaderParts.{header_total-push}
use Rattle.jt_image.proofs.DecodeSoundLemmas.{all_map, bind_from, check_all, IsBytes, Takes, Takes-then, Takes-as}
use Rattle.jt_image.proofs.DecodeSoundLemmas.{Found, wide16, number_found, AllGood, Many, many_found, Each, good_each}
use Rattle.jt_image.proofs.DecodeSoundLemmas.{table_found}
use Rattle.jt_image.proofs.DecodeSound.{IsNamed, name_found, constant_found, IsHeader, head_bytes, header_found}
use Rattle.jt_image.proofs.DecodeSound.{code_bytes, head_of, HasCode, sections_found}

-- ---- tables of names

pub last_push : {A : Type 0} (o : Option A) (xs : List A) (x : A) → last_or o (xs ++ x ∷ []) ≡ Some x
last_push o [] x = refl
last_push o (y ∷ ys) x = last_push (Some y) ys x

pub last_name-push : (before : List Name) (n : Name) → last_name (before ++ n ∷ []) ≡ Some n.text
last_name-push before n = ap (option_map (λ (m : Name). m.text)) (last_push None before n)

above_some : (s t : List ℕ) → is_lt (slice_cmp nat_cmp s t) ≡ true → 0 < length t
above_some [] [] e = absurd cc
above_some (x ∷ s) [] e = absurd cc
above_some s (y ∷ t) e = omega arith

pub follows_some : (last : Option (List ℕ)) (t : List ℕ) → follows last t ≡ true → 0 < length t
follows_some None t e = ltb-true _ _ e
follows_some (Some s) t e = above_some s t e

pub are_names : (globals : ℕ) (before ns : List Name) → AllGood (IsNamed globals) before ns
    → AllByRecursion (IsName globals) ns
are_names globals before [] h = tt
are_names globals before (n ∷ ns) h = (
  record {
    slot = h.0.slot.below;
    some = follows_some (last_name before) n.text h.0.next.follows;
    fits = h.0.next.fits;
    utf8 = h.0.next.utf8;
  },
  are_names globals (before ++ n ∷ []) ns h.1,
)

ascend_from : (globals : ℕ) (n : Name) (before ns : List Name) → AllGood (IsNamed globals) (before ++ n ∷ []) ns
    → Ascend (n ∷ ns)
ascend_from globals n before [] h = tt
ascend_from globals n before (m ∷ ns) h = (
  ap (λ (o : Option (List ℕ)). follows o m.text) (sym (last_name-push before n)) ∙ h.0.next.follows,
  ascend_from globals m (before ++ n ∷ []) ns h.1,
)

pub ascend : (globals : ℕ) (ns : List Name) → AllGood (IsNamed globals) [] ns → Ascend ns
ascend globals [] h = tt
ascend globals (n ∷ ns) h = ascend_from globals n [] ns h.1

or_false : (a b : Bool) → (a || b) ≡ false → (a ≡ false) × (b ≡ false)
or_false true b e = absurd cc
or_false false b e = (refl, e)

unused : (s : ℕ) (before : List Name) (n : Name) (after : List Name) → is_used s (before ++ n ∷ after) ≡ false
    → n.slot ≢ s
unused s [] n after e = search (arith, rules, or_false, nat_tests)
unused s (m ∷ before) n after e =
    unused s before n after (or_false (eqb m.slot s) (is_used s (before ++ n ∷ after)) e).1

apart : (globals : ℕ) (n : Name) (before after ns : List Name) → AllGood (IsNamed globals) (before ++ n ∷ after) ns
    → AllByRecursion (λ m. n.slot ≢ m.slot) ns
apart globals n before after [] h = tt
apart globals n before after (m ∷ ns) h = (
  unused m.slot before n after h.0.slot.free,
  apart globals n before (after ++ m ∷ []) ns
      (subst (λ (b : List Name). AllGood (IsNamed globals) b ns) (append_assoc before (n ∷ after) (m ∷ [])) h.1),
)

pub distinct : (globals : ℕ) (before ns : List Name) → AllGood (IsNamed globals) before ns → AreDistinct ns
distinct globals before [] h = tt
distinct globals before (n ∷ ns) h = (apart globals n before [] ns h.1, distinct globals (before ++ n ∷ []) ns h.1)

-- A table of names in order.
pub record AreNames (globals : ℕ) (ns : List Name) : Type 0 where
  pub count : length ns < 2 ^ 16
  pub all : AllByRecursion (IsName globals) ns
  pub ascend : Ascend ns
  pub distinct : AreDistinct ns

abbrev pub names_bytes : List Name → List ℕ
names_bytes ns = to_le_bytes w16 (length ns) ++ flat_map name_bytes ns

pub names_found : (globals : ℕ) (bytes : List ℕ) → IsBytes bytes
    → Found names_bytes (AreNames globals) bytes (all_names_at globals bytes)
unfolding all_names_at
names_found globals bytes fits =
    table_found (name_at globals) name_bytes (IsNamed globals) (name_found globals) (AreNames globals)
    (λ ns count all.
    record {
      count = count;
      all = are_names globals [] ns all;
      ascend = ascend globals ns all;
      distinct = distinct globals [] ns all;
    }) bytes fits

-- ---- tables of constants

abbrev pub good_constant : List Constant → Constant → Type 0
good_constant before x = IsConstant x

abbrev pub AreConstants : List Constant → Type 0
AreConstants cs = (length cs < 2 ^ 16) × AllByRecursion IsConstant cs

abbrev pub constants_bytes : List Constant → List ℕ
constants_bytes cs = to_le_bytes w16 (length cs) ++ flat_map constant_bytes cs

pub constants_found : (bytes : List ℕ) → IsBytes bytes
    → Found constants_bytes AreConstants bytes (all_constants_at bytes)
unfolding all_constants_at
constants_found bytes fits =
    table_found (λ _. constant_at) constant_bytes good_constant (λ before bytes fits. constant_found bytes fits)
    AreConstants (λ cs count all. (count, good_each IsConstant [] cs all)) bytes fits

-- ---- units

abbrev pub good_header : List Header → Header → Type 0
good_header before h = IsHeader (is_first before) (header_total before) h

sections : (before : List Header) (us : List Section) → AllGood good_header before (map head_of us)
    → AllByRecursion HasCode us → AllByRecursion IsSection us
sections before [] h codes = tt
sections before (u ∷ us) h codes = (
  record {
    parameters = h.0.parameters;
    kind = h.0.kind;
    locals = h.0.locals;
    within = h.0.within;
    code = codes.0;
  },
  sections (before ++ head_of u ∷ []) us h.1 codes.1,
)

total_fits : (before : List Header) (us : List Section) → header_total before ≤ max_instructions
    → AllGood good_header before (map head_of us) → header_total before + total_len us ≤ max_instructions
total_fits before [] le h = omega (arith, le)
total_fits before (u ∷ us) le h =
    search (arith, rules, header_total-push, head_of, total_fits (before ++ head_of u ∷ []) us)

-- The first of the units.
pub record HasFirst (us : List Section) : Type 0 where
  pub entry : Section
  pub is : slice_get us 0 ≡ Some entry
  pub emits : entry.kind ≡ 0
  pub plain : entry.parameters ≡ 0

has_first : (us : List Section) → 0 < length us → AllGood good_header [] (map head_of us) → HasFirst us
has_first [] lt h = absurd (omega arith)
has_first (u ∷ us) lt h = record { entry = u; is = refl; emits = h.0.emits refl; plain = h.0.plain refl }

pub record AreUnits (us : List Section) : Type 0 where
  pub count : length us < 2 ^ 16
  pub all : AllByRecursion IsSection us
  pub first : HasFirst us
  pub total : total_len us ≤ max_instructions

abbrev pub units_bytes : List Section → List ℕ
units_bytes us = to_le_bytes w16 (length us) ++ (flat_map header_bytes us ++ flat_map code_bytes us)

pub head_spelled : (us : List Section) → flat_map head_bytes (map head_of us) ≡ flat_map header_bytes us
head_spelled us = flat_map-map head_bytes head_of us

pub length-map_of : (us : List Section) → length (map head_of us) ≡ length us
length-map_of [] = refl
length-map_of (u ∷ us) = ap suc (length-map_of us)

pub units_found : (bytes : List ℕ) → IsBytes bytes → Found units_bytes AreUnits bytes (units_at bytes)
unfolding units_at
units_found bytes fits =
    let P : List Section × List ℕ → Type 0 = λ x. Takes bytes (units_bytes x.0) x.1 × AreUnits x.0 in
    bind_from (number_at w16 bytes)
    (λ n. check (nat_lt 0 n.0) BadTable (headers_at n.0 n.1 >>= λ hs. sections_at hs.0 hs.1))
    (λ n. Takes bytes (to_le_bytes w16 n.0) n.1 × (n.0 < 2 ^ 16)) P (number_found w16 (2 ^ 16) wide16 bytes fits)
    (λ n t.
    check_all (nat_lt 0 n.0) BadTable (headers_at n.0 n.1 >>= λ hs. sections_at hs.0 hs.1) P (λ some.
    bind_from (headers_at n.0 n.1) (λ hs. sections_at hs.0 hs.1) (Many head_bytes good_header n.0 [] n.1) P
    (many_found header_at head_bytes good_header
    (λ before bytes fits. header_found (is_first before) (header_total before) bytes fits) n.0 [] n.1 t.0.fits) (λ hs m.
    all_map (sections_at hs.0 hs.1) (Each code_bytes head_of HasCode hs.0 [] hs.1) P
    (sections_found hs.0 hs.1 m.takes.fits) (λ x e.
    let heads : map head_of x.0 ≡ m.more = ap (map head_of) e.is ∙ e.heads ∙ m.is in
    let len : length x.0 ≡ n.0 = sym (length-map_of x.0) ∙ ap length heads ∙ m.count in
    let all : AllGood good_header [] (map head_of x.0) =
    subst (λ (gs : List Header). AllGood good_header [] gs) (sym heads) m.all in
    let codes : AllByRecursion HasCode x.0 =
    subst (λ (us : List Section). AllByRecursion HasCode us) (sym e.is) e.all in
    let back = Takes-then n.1 (flat_map head_bytes m.more) hs.1 (flat_map code_bytes e.more) x.1 m.takes e.takes in
    let whole = Takes-then bytes (to_le_bytes w16 n.0) n.1 (flat_map head_bytes m.more ++ flat_map code_bytes e.more)
    x.1 t.0 back in
    let as_read : to_le_bytes w16 n.0 ++ (flat_map head_bytes m.more ++ flat_map code_bytes e.more) ≡ units_bytes x.0 =
    ap (λ (k : ℕ). to_le_bytes w16 k ++ (flat_map head_bytes m.more ++ flat_map code_bytes e.more)) (sym len)
    ∙ ap (λ (u : List ℕ). to_le_bytes w16 (length x.0) ++ (u ++ flat_map code_bytes e.more))
    (ap (flat_map head_bytes) (sym heads) ∙ head_spelled x.0)
    ∙ ap (λ (us : List Section). to_le_bytes w16 (length x.0) ++ (flat_map header_bytes x.0 ++ flat_map code_bytes us))
    (sym e.is) in (
      Takes-as bytes _ (units_bytes x.0) x.1 as_read whole,
      record {
        count = omega (arith, len, t.1);
        all = sections [] x.0 all codes;
        first = has_first x.0 (omega (arith, len, ltb-true 0 n.0 some)) all;
        total = omega (arith, total_fits [] x.0 (omega arith) all);
      },
    )))))
