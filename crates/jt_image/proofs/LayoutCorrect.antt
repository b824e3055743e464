-- Offsets that are computed from the lengths of spellings are those of the parts of the code.
use Rattle.std.proofs.Common.{◌≡◌, ℕ, ◌+◌, ◌*◌, ◌<◌, ◌≤◌, ◌^◌, List, [], ◌∷◌, ◌++◌, length, drop, map, get_or}
use Rattle.std.proofs.Common.{Ok, Some, refl, sym, ap, subst, ◌∙◌, arith, append_assoc, rules}
use Rattle.std.specs.Int.{w16, to_le_bytes}
use Rattle.std.specs.List.{flat_map, AllByRecursion}
use Rattle.std.proofs.lemmas.List.{length-append, length-map, drop-drop, drop_at, drop_more, append-nil}
use Rattle.std.proofs.lemmas.List.Concat.{flat_map-cons}
use Rattle.jt_image.specs.declared.error.ImageError.{ImageError}
use Rattle.jt_image.specs.declared.offsets.UnitOffset.{UnitOffset}
use Rattle.jt_image.specs.declared.offsets.Offsets.{Offsets}
use Rattle.jt_image.specs.declared.version.Version.{Version}
use Rattle.jt_image.specs.declared.version.Version.TheVariants as version
use Rattle.jt_image.specs.Code.{Constant, undefined, Name, Section, SourceLoc, Code}
use Rattle.jt_image.specs.Spelling.{name_bytes, constant_bytes, header_bytes, template_bytes}
use Rattle.jt_image.specs.Spelling.{loc_bytes, place_bytes, spelling}
use Rattle.jt_image.specs.IsCode.{IsName, IsConstant, IsTemplate, IsSourceLoc, IsPlaced, IsCode, total_len, max_bytes}
use Rattle.jt_image.specs.Reading.{instructions_at, constant_at, locs_at}
use Rattle.jt_image.specs.Parts.{IsRefusal}
use Rattle.jt_image.specs.View.{instruction_view, units_view}
use Rattle.jt_image.specs.declared.parts.Unit as given
use Rattle.jt_image.specs.InPlace.{start_len, IsReadAt, read_or, bare_name_at, bare_text_at, section_in, HasUnit}
use Rattle.jt_image.specs.InPlace.{AreCounted, template_in, templates_in, HasTemplate, locs_in, AreSourceLocs, code_in}
use Rattle.jt_image.specs.InPlace.{Spells}
use Rattle.jt_image.specs.internal.Layout.{starts, unit_starts, TrailerStarts, constants_start, code_start}
use Rattle.jt_image.specs.internal.Layout.{IsLaidOut, IsAbove}
use Rattle.jt_image.proofs.DecodeSoundLemmas.{Read, wide16}
use Rattle.jt_image.proofs.DecodeSound.{code_bytes, HasCode}
use Rattle.jt_image.proofs.DecodeComplete.{constant_again, instructions_again, codes_of}
use Rattle.jt_image.proofs.TrailerRoundTrip.{locs_again}
use Rattle.jt_image.proofs.TablesInPlace.{bare_again, bare_text_again, is_read, read_as}
use Rattle.jt_image.proofs.AssembleCorrect.{headers_len, instructions_len, codes_len, spelled_len}

-- ---- loops that compute offsets

left_of : {A : Type 0} (xs : List A) (i : ℕ) (x : A) → i < length xs → x ≡ get_or xs i x
    → drop i xs ≡ x ∷ drop (i + 1) xs
left_of xs i x lt is = drop_more xs i x lt ∙ ap (λ (y : _). y ∷ drop (i + 1) xs) (sym is)

flat_len : {A : Type 0} (spell : A → List ℕ) (x : A) (xs : List A)
    → length (flat_map spell (x ∷ xs)) ≡ length (spell x) + length (flat_map spell xs)
flat_len spell x xs = rw flat_map-cons (length-append (spell x) (flat_map spell xs))

module _ {A B : Type 0} (spell : B → List ℕ) (view : A → B) (xs : List A) (i : ℕ) (x : A) (lt : i < length xs)
    (is : x ≡ get_or xs i x) where
  pub starts_next : (offsets all : List ℕ) (at : ℕ) → offsets ++ starts spell at (map view (drop i xs)) ≡ all
      → (offsets ++ at ∷ []) ++ starts spell (at + length (spell (view x))) (map view (drop (i + 1) xs)) ≡ all
  starts_next offsets all at h =
      let left = rw (left_of xs i x lt is) at h in
      append_assoc offsets (at ∷ []) (starts spell (at + length (spell (view x))) (map view (drop (i + 1) xs))) ∙ left

  pub end_next : length (flat_map spell (map view (drop i xs)))
      ≡ length (spell (view x)) + length (flat_map spell (map view (drop (i + 1) xs)))
  end_next = rw (left_of xs i x lt is) (flat_len spell (view x) (map view (drop (i + 1) xs)))

module _ (us : List given.Unit) (i : ℕ) (u : given.Unit) (lt : i < length us) (is : u ≡ get_or us i u) (n : ℕ)
    (len : n ≡ length u.code.items) where
  count : length (map instruction_view u.code.items) ≡ n
  count = length-map u.code.items instruction_view ∙ sym len

  pub units_next : (offsets all : List UnitOffset) (start first : ℕ)
      → offsets ++ unit_starts start first (units_view (drop i us)) ≡ all
      → (offsets ++ record {
        parameters = u.parameters;
        kind = u.kind;
        locals = u.locals;
        len = n;
        start = start + 8 * first;
        first = first;
      }
      ∷ [])
      ++ unit_starts start (first + n) (units_view (drop (i + 1) us)) ≡ all
  units_next offsets all start first h =
      let left = rw (left_of us i u lt is, count) at h in
      append_assoc offsets _ (unit_starts start (first + n) (units_view (drop (i + 1) us))) ∙ left

  pub total_next : total_len (units_view (drop i us)) ≡ n + total_len (units_view (drop (i + 1) us))
  total_next = rw (left_of us i u lt is, count) refl

-- ---- parts at their offsets

-- The rest of the bytes begins at this offset.
pub record At (bytes : List ℕ) (at : ℕ) (rest : List ℕ) : Type 0 where
  pub len : at + length rest ≡ length bytes
  pub is : drop at bytes ≡ rest

pub past : (bytes : List ℕ) (at n : ℕ) (a b : List ℕ) → At bytes at (a ++ b) → n ≡ at + length a → At bytes n b
past bytes at n a b h e = record {
  len = omega (arith, e, h.len, length-append a b);
  is = rw e (sym (drop-drop (length a) at bytes) ∙ ap (drop (length a)) h.is ∙ drop_at a b (length a) refl);
}

module _ {A : Type 0} (other : A) (reader : List ℕ → Read A) (spell : A → List ℕ) (good : A → Type 0)
    (again : (x : A) (rest : List ℕ) → good x → reader (spell x ++ rest) ≡ Ok (x, rest)) (bytes : List ℕ) where
  tabled : (at : ℕ) (xs : List A) (rest : List ℕ) → start_len ≤ at → AllByRecursion good xs
      → At bytes at (flat_map spell xs ++ rest)
      → AllByRecursion (IsReadAt reader bytes) (starts spell at xs)
      × (map (λ n. read_or other (reader (drop n bytes))) (starts spell at xs) ≡ xs)
  tabled at [] rest late all h = (tt, refl)
  tabled at (x ∷ xs) rest late all h =
      let here : At bytes at (spell x ++ (flat_map spell xs ++ rest)) =
      simp (flat_map-cons, append_assoc) at h in
      let read : reader (drop at bytes) ≡ Ok (x, flat_map spell xs ++ rest) =
      ap reader here.is ∙ again x (flat_map spell xs ++ rest) all.0 in
      let more = tabled (at + length (spell x)) xs rest (omega (arith, late)) all.1
      (past bytes at (at + length (spell x)) (spell x) (flat_map spell xs ++ rest) here refl) in (
        ((late, is_read (reader (drop at bytes)) x (flat_map spell xs ++ rest) read), more.0),
        ap (λ (y : A). y ∷ map (λ n. read_or other (reader (drop n bytes))) (starts spell (at + length (spell x)) xs))
            (read_as other (reader (drop at bytes)) x (flat_map spell xs ++ rest) read)
            ∙ ap (λ (ys : List A). x ∷ ys) more.1,
      )

-- The units begin at these offsets.
record AreCoded (bytes : List ℕ) (first : ℕ) (us : List Section) (ps : List UnitOffset) : Type 0 where
  is : map (section_in bytes) ps ≡ us
  has : AllByRecursion (HasUnit bytes) ps
  counted : AreCounted first ps

coded : (bytes : List ℕ) (start first : ℕ) (us : List Section) (rest : List ℕ) → start_len ≤ start
    → AllByRecursion HasCode us → At bytes (start + 8 * first) (flat_map code_bytes us ++ rest)
    → AreCoded bytes first us (unit_starts start first us)
coded bytes start first [] rest late all h = record { is = refl; has = tt; counted = tt }
coded bytes start first (u ∷ us) rest late all h =
    let r = flat_map code_bytes us ++ rest in
    let here : At bytes (start + 8 * first) (code_bytes u ++ r) = simp (flat_map-cons, append_assoc) at h in
    let read : read_or [] (instructions_at (length u.code) (drop (start + 8 * first) bytes)) ≡ u.code =
    read_as [] (instructions_at (length u.code) (drop (start + 8 * first) bytes)) u.code r
    (ap (instructions_at (length u.code)) here.is ∙ instructions_again u.code r all.0) in
    let more = coded bytes start (first + length u.code) us rest late all.1
    (past bytes (start + 8 * first) (start + 8 * (first + length u.code)) (code_bytes u) r here
    (omega (arith, instructions_len u.code))) in
    record {
      is = rw (read, more.is) refl;
      has = (((omega (arith, late), omega (arith, h.len)), ap length read), more.has);
      counted = (refl, more.counted);
    }

-- The templates and the places begin at these offsets.
pub record AreBehind (bytes : List ℕ) (v : Version) (n : ℕ) (ts : List (List ℕ)) (ss : List SourceLoc)
    (offsets : List ℕ) (places : ℕ) : Type 0 where
  pub is : templates_in bytes offsets ≡ ts
  pub has : AllByRecursion (HasTemplate bytes) offsets
  pub few : length offsets < 2 ^ 16
  pub locs : locs_in v (length offsets) n (drop places bytes) ≡ ss
  pub whole : AreSourceLocs v (length offsets) n (drop places bytes)

pub behind : (bytes : List ℕ) (v : Version) (start n : ℕ) (ts : List (List ℕ)) (ss : List SourceLoc)
    (offsets : List ℕ) (places : ℕ)
    → start_len ≤ start → length ts < 2 ^ 16 → AllByRecursion IsTemplate ts
    → AllByRecursion (IsSourceLoc (length ts)) ss → IsPlaced v n ts ss → TrailerStarts v start ts offsets places
    → At bytes start (place_bytes v ts ss)
    → AreBehind bytes v n ts ss offsets places
behind bytes version.One start n ts ss offsets places late few texts locs placed e h =
    rw (e, placed.0, placed.1) (record { is = refl; has = tt; few = omega arith; locs = refl; whole = tt })
behind bytes version.Two start n ts ss offsets places late few texts locs placed e h =
    let names : At bytes (start + 2) (flat_map template_bytes ts ++ flat_map loc_bytes ss) =
    past bytes start (start + 2) (to_le_bytes w16 (length ts)) (flat_map template_bytes ts ++ flat_map loc_bytes ss) h
    refl in
    let there = tabled [] bare_text_at template_bytes IsTemplate (λ t rest g. bare_text_again t rest g.fits g.utf8)
    bytes (start + 2) ts (flat_map loc_bytes ss) (omega (arith, late)) texts names in
    let is : templates_in bytes offsets ≡ ts = ap (templates_in bytes) e.0 ∙ there.1 in
    let count : length offsets ≡ length ts = sym (length-map offsets (template_in bytes)) ∙ ap length is in
    let back : drop places bytes ≡ flat_map loc_bytes ss ++ [] =
    ap (λ (m : ℕ). drop m bytes) e.1
    ∙ (past bytes (start + 2) (start + 2 + length (flat_map template_bytes ts)) (flat_map template_bytes ts)
    (flat_map loc_bytes ss) names refl).is
    ∙ sym (append-nil (flat_map loc_bytes ss)) in
    let read : read_or [] (locs_at (length offsets) n (drop places bytes)) ≡ ss =
    read_as [] (locs_at (length offsets) n (drop places bytes)) ss []
    (rw (count, back, sym placed) (locs_again (length ts) few ss [] locs)) in
    record {
      is = is;
      has = subst (λ (ns : List ℕ). AllByRecursion (HasTemplate bytes) ns) (sym e.0) there.0;
      few = omega (arith, count, few);
      locs = read;
      whole = ap length read ∙ placed;
    }

pub same_code : (k : Code) (v : Version) (g : ℕ) (ns : List Name) (cs : List Constant) (us : List Section)
    (ts : List (List ℕ)) (ss : List SourceLoc)
    → v ≡ k.version → g ≡ k.globals → ns ≡ k.names → cs ≡ k.constants → us ≡ k.units → ts ≡ k.templates
    → ss ≡ k.places
    → (let c : Code = record {
      version = v;
      globals = g;
      names = ns;
      constants = cs;
      units = us;
      templates = ts;
      places = ss;
    } in c)
    ≡ k
same_code k v g ns cs us ts ss a b c d e f h = rw (a, b, c, d, e, f, h) refl

laid : (k : Code) (p : Offsets) → IsCode k → IsLaidOut k p → Spells (spelling k) p × (code_in (spelling k) p ≡ k)
laid k p is h =
    let bytes = spelling k in
    let r4 = place_bytes k.version k.templates k.places in
    let r3 = flat_map code_bytes k.units ++ r4 in
    let r2 = flat_map header_bytes k.units ++ r3 in
    let r1 = flat_map constant_bytes k.constants ++ (to_le_bytes w16 (length k.units) ++ r2) in
    let names : At bytes 10 (flat_map name_bytes k.names ++ (to_le_bytes w16 (length k.constants) ++ r1)) =
    record { len = omega arith; is = refl } in
    let named : At bytes (10 + length (flat_map name_bytes k.names)) (to_le_bytes w16 (length k.constants) ++ r1) =
    past bytes 10 (10 + length (flat_map name_bytes k.names)) (flat_map name_bytes k.names)
    (to_le_bytes w16 (length k.constants) ++ r1) names refl in
    let constants : At bytes (constants_start k) r1 =
    past bytes (10 + length (flat_map name_bytes k.names)) (constants_start k) (to_le_bytes w16 (length k.constants)) r1
    named (omega (arith, wide16.len (length k.constants))) in
    let n : ℕ = constants_start k + length (flat_map constant_bytes k.constants) in
    let counted : At bytes n (to_le_bytes w16 (length k.units) ++ r2) =
    past bytes (constants_start k) n (flat_map constant_bytes k.constants) (to_le_bytes w16 (length k.units) ++ r2)
    constants refl in
    let headers : At bytes (n + 2) r2 =
    past bytes n (n + 2) (to_le_bytes w16 (length k.units)) r2 counted (omega (arith, wide16.len (length k.units))) in
    let code : At bytes (code_start k + 8 * 0) r3 =
    past bytes (n + 2) (code_start k + 8 * 0) (flat_map header_bytes k.units) r3 headers
    (omega (arith, headers_len k.units)) in
    let back : At bytes (code_start k + 8 * total_len k.units) r4 =
    past bytes (code_start k + 8 * 0) (code_start k + 8 * total_len k.units) (flat_map code_bytes k.units) r4 code
    (omega (arith, codes_len k.units)) in
    let ns = tabled (record { slot = 0; text = [] }) bare_name_at name_bytes (IsName k.globals)
    (λ n rest g. bare_again n rest (omega (arith, g.slot, is.globals)) g.fits g.utf8) bytes 10 k.names
    (to_le_bytes w16 (length k.constants) ++ r1) (omega arith) is.names names in
    let cs = tabled undefined constant_at constant_bytes IsConstant (constant_again []) bytes (constants_start k)
    k.constants (to_le_bytes w16 (length k.units) ++ r2) (omega arith) is.constants constants in
    let us = coded bytes (code_start k) 0 k.units r4 (omega arith) (codes_of k.units is.units) code in
    let b = behind bytes k.version (code_start k + 8 * total_len k.units) (total_len k.units) k.templates k.places
    p.templates.items p.places (omega arith)
    is.count_templates is.templates is.places is.placed h.trailer back in
    let units : (code_in bytes p).units ≡ k.units = rw h.units us.is in
    let locs : (code_in bytes p).places ≡ k.places = rw (h.version, h.instructions) b.locs in
    let same : code_in bytes p ≡ k = same_code k p.version p.globals (code_in bytes p).names
    (code_in bytes p).constants (code_in bytes p).units (code_in bytes p).templates (code_in bytes p).places h.version
    h.globals (rw h.names ns.1) (rw h.constants cs.1) units b.is locs in (
      record {
        code = rw same is;
        spelled = ap spelling (sym same);
        there = record {
          names = rw h.names ns.0;
          constants = rw h.constants cs.0;
          units = rw h.units us.has;
          counted = rw h.units us.counted;
          few = b.few;
          templates = b.has;
          places = rw (h.version, h.instructions) b.whole;
          instructions = h.instructions ∙ ap total_len (sym units);
        };
      },
      same,
    )

-- The bytes of the spelling have the parts of the code at these offsets.
pub laid_spells : (k : Code) (p : Offsets) (bytes : List ℕ) → IsCode k → IsLaidOut k p → bytes ≡ spelling k
    → Spells bytes p
laid_spells k p bytes is h e = rw e (laid k p is h).0

pub laid_code : (k : Code) (p : Offsets) (bytes : List ℕ) → IsCode k → IsLaidOut k p → bytes ≡ spelling k
    → code_in bytes p ≡ k
laid_code k p bytes is h e = rw e (laid k p is h).1

-- ---- refusals

-- The length of the spelling, counted as the parts are laid out.
pub len_laid : (k : Code) (names constants units instructions : ℕ)
    → names ≡ 10 + length (flat_map name_bytes k.names)
    → constants ≡ names + 2 + length (flat_map constant_bytes k.constants) → units ≡ length k.units
    → instructions ≡ total_len k.units
    → constants + 2 + 8 * units + 8 * instructions + length (place_bytes k.version k.templates k.places)
    ≡ length (spelling k)
len_laid k names constants units instructions a b c d = omega (arith, spelled_len k)

pub above_refused : (k : Code) (e : ImageError) (n : ℕ) → IsAbove max_bytes e n → n ≤ length (spelling k)
    → IsRefusal e (Some k)
above_refused k a1 n h le = search (arith, rules)
