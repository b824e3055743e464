-- The parts of an image of version 1 stand at the same offsets in its upgrade.
use Rattle.std.proofs.Common.{◌≡◌, ℕ, ◌+◌, ◌-◌, ◌<◌, ◌≤◌, List, [], ◌∷◌, ◌++◌, length, take, drop, map}
use Rattle.std.proofs.Common.{Ok, Err, refl, sym, ap, subst, ◌∙◌, arith, append_assoc, rules}
use Rattle.std.specs.Prelude.{replicate}
use Rattle.std.specs.Int.{Width, w16, byte_len, from_le_bytes}
use Rattle.std.specs.List.{flat_map, AllByRecursion}
use Rattle.std.proofs.lemmas.Bool.{le-ltb}
use Rattle.std.proofs.lemmas.List.{length-append, length-drop, drop-drop, take-append-le, drop-append-le}
use Rattle.jt_image.specs.declared.instruction.Instruction.{Instruction}
use Rattle.jt_image.specs.declared.offsets.UnitOffset.{UnitOffset}
use Rattle.jt_image.specs.declared.offsets.Offsets.{Offsets}
use Rattle.jt_image.specs.declared.version.Version.{Version}
use Rattle.jt_image.specs.declared.version.Version.TheVariants as version
use Rattle.jt_image.specs.Code.{Constant, undefined, Name, Section, SourceLoc, Code}
use Rattle.jt_image.specs.Spelling.{constant_bytes, instruction_bytes, place_bytes, spelling}
use Rattle.jt_image.specs.IsCode.{IsConstant, IsSection, IsPlaced, total_len, max_bytes}
use Rattle.jt_image.specs.Reading.{number_at, text_at, constant_at, instructions_at}
use Rattle.jt_image.specs.Upgrading.{unplaced}
use Rattle.jt_image.specs.InPlace.{start_len, IsRead, IsReadAt, read_or, bare_name_at, section_in, sections_in, HasUnit}
use Rattle.jt_image.specs.InPlace.{template_in, templates_in, HasTemplate, instructions_in, locs_in, code_in, Spells}
use Rattle.jt_image.proofs.DecodeSoundLemmas.{Read, IsBytes, IsBytes-drop, Found}
use Rattle.jt_image.proofs.DecodeSound.{constant_found}
use Rattle.jt_image.proofs.DecodeComplete.{constant_again, instructions_again}
use Rattle.jt_image.proofs.RoundTripLemmas.{bind_again}
use Rattle.jt_image.proofs.ReaderParts.{text_ok}
use Rattle.jt_image.proofs.TablesInPlace.{text_read, name_read, constant_read, read_as, is_read}
use Rattle.jt_image.proofs.UnitOffsets.{code_taken}
use Rattle.jt_image.proofs.AssembleCorrect.{spelled_len}
use Rattle.jt_image.proofs.LayoutCorrect.{past, AreBehind, behind, same_code}
use Rattle.jt_image.proofs.UpgradeCorrect.{no_loc, locs_fit, length_replicate, tail_spelled, is_unplaced}

-- ---- readers of longer bytes

number_more : (w : Width) (x z : List ℕ) → byte_len w ≤ length x
    → number_at w (x ++ z) ≡ Ok (from_le_bytes w (take (byte_len w) x), drop (byte_len w) x ++ z)
number_more w x z le = search (arith, rules, le-ltb, length-append, take-append-le, drop-append-le)

text_more : (n : ℕ) (x z : List ℕ) → IsRead (text_at n x) → text_at n (x ++ z) ≡ Ok (take n x, drop n x ++ z)
text_more n x z h =
    let r = text_read n x h in
    let front : take n (x ++ z) ≡ take n x = take-append-le n x z r.0 in
    let back : drop n (x ++ z) ≡ drop n x ++ z = drop-append-le n x z r.0 in
    rw (front, back) at (text_ok n (x ++ z) (omega (arith, r.0, length-append x z)) (rw front r.1))

-- What is read from the bytes is also read from others.
record IsSame {A : Type 0} (other : A) (before after : Read A) : Type 0 where
  read : IsRead after
  is : read_or other after ≡ read_or other before

name_more : (x z : List ℕ) → IsRead (bare_name_at x)
    → (0 < length x) × IsSame (record { slot = 0; text = [] }) (bare_name_at x) (bare_name_at (x ++ z))
unfolding bare_name_at
name_more x z h =
    let p = name_read x h in
    let n = from_le_bytes w16 (take 2 (drop 2 x)) in
    let name : Name = record { slot = from_le_bytes w16 (take 2 x); text = take n (drop 2 (drop 2 x)) } in
    let rest = drop n (drop 2 (drop 2 x)) ++ z in
    let again : bare_name_at (x ++ z) ≡ Ok (name, rest) =
    bind_again (number_at w16 (x ++ z)) _ (from_le_bytes w16 (take 2 x)) (drop 2 x ++ z) (Ok (name, rest))
    (number_more w16 x z (omega (arith, p.long)))
    (bind_again (number_at w16 (drop 2 x ++ z)) _ n (drop 2 (drop 2 x) ++ z) (Ok (name, rest))
    (number_more w16 (drop 2 x) z (omega (arith, p.long, length-drop 2 x)))
    (bind_again (text_at n (drop 2 (drop 2 x) ++ z)) _ (take n (drop 2 (drop 2 x))) rest (Ok (name, rest))
    (text_more n (drop 2 (drop 2 x)) z p.text) refl)) in (
      omega (arith, p.long),
      record {
        read = is_read (bare_name_at (x ++ z)) name rest again;
        is = read_as (record { slot = 0; text = [] }) (bare_name_at (x ++ z)) name rest again ∙ sym p.is;
      },
    )

constant_more : (x z : List ℕ) → IsBytes x → IsRead (constant_at x)
    → (0 < length x) × IsSame undefined (constant_at x) (constant_at (x ++ z))
constant_more x z fits h =
    (omega (arith, (constant_read x h).long), by (constant_at x) (constant_found x fits) h)
  where
    by : (r : Read Constant) → Found constant_bytes IsConstant x r → IsRead r
        → IsSame undefined r (constant_at (x ++ z))
    by (Err e) f g = absurd g
    by (Ok c) f g =
        let again : constant_at (x ++ z) ≡ Ok (c.0, c.1 ++ z) =
        ap constant_at (ap (λ (t : List ℕ). t ++ z) f.0.parts ∙ append_assoc (constant_bytes c.0) c.1 z)
        ∙ constant_again [] c.0 (c.1 ++ z) f.1 in
        record {
          read = is_read (constant_at (x ++ z)) c.0 (c.1 ++ z) again;
          is = read_as undefined (constant_at (x ++ z)) c.0 (c.1 ++ z) again;
        }

-- ---- parts at their offsets

module _ (b c z : List ℕ) (fits : IsBytes b) (more : length b ≤ length c)
    (tail : drop start_len c ≡ drop start_len b ++ z) where
  moved : (at : ℕ) → start_len ≤ at → at ≤ length b → drop at c ≡ drop at b ++ z
  moved at late le =
      let m = at - start_len in
      let e : at ≡ start_len + m = omega (arith, late) in
      ap (λ (n : ℕ). drop n c) e ∙ sym (drop-drop m start_len c) ∙ ap (drop m) tail
      ∙ drop-append-le m (drop start_len b) z (omega (arith, le, late, length-drop start_len b))
      ∙ ap (λ (t : List ℕ). t ++ z) (drop-drop m start_len b ∙ ap (λ (n : ℕ). drop n b) (sym e))

  module _ {A : Type 0} (other : A) (reader : List ℕ → Read A)
      (again : (x : List ℕ) → IsBytes x → IsRead (reader x)
      → (0 < length x) × IsSame other (reader x) (reader (x ++ z))) where
    all_moved : (ats : List ℕ) → AllByRecursion (IsReadAt reader b) ats
        → AllByRecursion (IsReadAt reader c) ats
        × (map (λ n. read_or other (reader (drop n c))) ats ≡ map (λ n. read_or other (reader (drop n b))) ats)
    all_moved [] h = (tt, refl)
    all_moved (at ∷ ats) h =
        let m = again (drop at b) (IsBytes-drop at b fits) h.0.1 in
        let e : drop at c ≡ drop at b ++ z = moved at h.0.0 (omega (arith, m.0, length-drop at b)) in
        let same : IsSame other (reader (drop at b)) (reader (drop at c)) =
        subst (λ (t : List ℕ). IsSame other (reader (drop at b)) (reader t)) (sym e) m.1 in
        let rest = all_moved ats h.1 in (
          ((h.0.0, same.read), rest.0),
          ap (λ (y : A). y ∷ map (λ n. read_or other (reader (drop n c))) ats) same.is
              ∙ ap (λ (ys : List A). read_or other (reader (drop at b)) ∷ ys) rest.1,
        )

  unit_moved : (q : UnitOffset) → HasUnit b q → IsSection (section_in b q)
      → HasUnit c q × (section_in c q ≡ section_in b q)
  unit_moved q h good =
      let x = drop q.start b in
      let code = instructions_in q.len x in
      let taken = code_taken b q fits h in
      let e : drop q.start c ≡ flat_map instruction_bytes code ++ (taken.0 ++ z) = moved q.start h.0.0 h.0.1
      ∙ ap (λ (t : List ℕ). t ++ z) taken.1 ∙ append_assoc (flat_map instruction_bytes code) taken.0 z in
      let again : instructions_at q.len (drop q.start c) ≡ Ok (code, taken.0 ++ z) =
      ap (instructions_at q.len) e
      ∙ ap (λ (n : ℕ). instructions_at n (flat_map instruction_bytes code ++ (taken.0 ++ z))) (sym h.1)
      ∙ instructions_again code (taken.0 ++ z) good.code in
      let same : instructions_in q.len (drop q.start c) ≡ code =
      read_as [] (instructions_at q.len (drop q.start c)) code (taken.0 ++ z) again in (
        ((h.0.0, omega (arith, h.0.1, more)), ap length same ∙ h.1),
        ap (λ (is : List Instruction).
            let u : Section =
            record { parameters = q.parameters; kind = q.kind; locals = q.locals; code = is } in u) same,
      )

  units_moved : (qs : List UnitOffset) → AllByRecursion (HasUnit b) qs → AllByRecursion IsSection (sections_in b qs)
      → AllByRecursion (HasUnit c) qs × (sections_in c qs ≡ sections_in b qs)
  units_moved [] h good = (tt, refl)
  units_moved (q ∷ qs) h good =
      let one = unit_moved q h.0 good.0 in
      let rest = units_moved qs h.1 good.1 in (
        (one.0, rest.0),
        ap (λ (u : Section). u ∷ sections_in c qs) one.1 ∙ ap (λ (us : List Section). section_in b q ∷ us) rest.1,
      )

-- ---- the upgraded image

-- These offsets in version 2, with this offset of the places.
abbrev pub placed_after : ℕ → Offsets → Offsets
placed_after places p =
    record {
      version = version.Two;
      globals = p.globals;
      names = p.names;
      constants = p.constants;
      units = p.units;
      instructions = p.instructions;
      templates = p.templates;
      places = places;
    }

no_items : {A B : Type 0} (f : A → B) (xs : List A) → map f xs ≡ [] → xs ≡ []
no_items f [] e = refl
no_items f (x ∷ xs) e = absurd cc

no_templates : (v : Version) (n : ℕ) (ts : List (List ℕ)) (ss : List SourceLoc) → v ≡ version.One → IsPlaced v n ts ss
    → ts ≡ []
no_templates version.One n ts ss e h = h.0
no_templates version.Two n ts ss e h = absurd cc

abbrev Places : ℕ → List SourceLoc
Places n = replicate n no_loc

module _ (b c : List ℕ) (p : Offsets) (fits : IsBytes b) (h : Spells b p) (one : p.version ≡ version.One)
    (is : c ≡ spelling (unplaced (code_in b p))) (short : length c ≤ max_bytes) (places : ℕ)
    (at : places ≡ length b + 2) where
  abbrev k : Code
  k = code_in b p

  abbrev z : List ℕ
  z = place_bytes version.Two [] (Places (total_len k.units))

  long : start_len ≤ length b
  long = omega (arith, ap length h.spelled, spelled_len (code_in b p))

  tail : drop start_len c ≡ drop start_len b ++ z
  tail = ap (drop start_len) is ∙ tail_spelled k one ∙ ap (λ (t : List ℕ). drop start_len t ++ z) (sym h.spelled)

  bare : p.templates.items ≡ []
  bare =
      no_items (template_in b) p.templates.items
      (no_templates p.version (total_len k.units) (templates_in b p.templates.items) k.places one h.code.placed)

  longer : start_len + length (drop start_len b ++ z) ≡ length c
  longer = omega (arith, ap length tail, length-drop start_len c, ap length is, spelled_len (unplaced k))

  more : length b ≤ length c
  more = omega (arith, longer, length-drop start_len b, length-append (drop start_len b) z)

  placed : AreBehind c version.Two (total_len k.units) [] (Places (total_len k.units)) [] places
  placed =
      behind c version.Two (length b) (total_len k.units) [] (Places (total_len k.units)) [] places long
      (omega arith) tt (locs_fit (total_len k.units)) (length_replicate (total_len k.units)) (refl, omega (arith, at))
      (past c start_len (length b) (drop start_len b) z (record { len = longer; is = tail })
      (omega (arith, long, length-drop start_len b)))

  pub upgraded_in_place : Spells c (placed_after places p)
      × (code_in c (placed_after places p) ≡ unplaced (code_in b p))
  upgraded_in_place =
      let ns = all_moved b c z fits more tail (record { slot = 0; text = [] }) bare_name_at
      (λ x _ g. name_more x z g) p.names.items h.there.names in
      let cs = all_moved b c z fits more tail undefined constant_at (λ x f g. constant_more x z f g) p.constants.items
      h.there.constants in
      let us = units_moved b c z fits more tail p.units.items h.there.units h.code.units in
      let q = placed_after places p in
      let none : (code_in c q).templates ≡ [] = ap (templates_in c) bare in
      let locs : (code_in c q).places ≡ Places (total_len k.units) =
      ap (λ (ts : List ℕ). locs_in version.Two (length ts) p.instructions (drop places c)) bare
      ∙ ap (λ (n : ℕ). locs_in version.Two 0 n (drop places c)) h.there.instructions ∙ placed.locs in
      let same : code_in c q ≡ unplaced k = same_code (unplaced k) version.Two p.globals (code_in c q).names
      (code_in c q).constants (code_in c q).units (code_in c q).templates (code_in c q).places refl refl ns.1 cs.1 us.1
      none locs in (
        record {
          code = rw same (is_unplaced k h.code (omega (arith, short, ap length is)));
          spelled = is ∙ ap spelling (sym same);
          there = record {
            names = ns.0;
            constants = cs.0;
            units = us.0;
            counted = h.there.counted;
            few = omega (arith, ap length bare);
            templates = subst (AllByRecursion (HasTemplate c)) (sym bare) tt;
            places = ap length locs ∙ length_replicate (total_len k.units) ∙ sym h.there.instructions;
            instructions = h.there.instructions ∙ ap total_len (sym us.1);
          };
        },
        same,
      )
