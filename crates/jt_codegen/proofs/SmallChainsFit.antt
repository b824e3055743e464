-- The code of small chains fits into an image.
use Rattle.std.proofs.Common.{◌≡◌, ℕ, suc, ◌+◌, ◌*◌, ◌≤◌, List, [], ◌∷◌, ◌++◌, length, map, refl, sym}
use Rattle.std.proofs.Common.{ap, ◌∙◌, arith, length-append, rules}
use Rattle.std.proofs.lemmas.List.{length-map}
use Rattle.std.specs.Int.{w16, w32, w64, to_le_bytes}
use Rattle.std.specs.List.{flat_map, AllByRecursion}
use Rattle.std.proofs.lemmas.List.Concat.{flat_map-cons}
use Rattle.jt_value.specs.Tree.{Tree}
use Rattle.jt_image.proofs.ReadPrefix.{all_weaker, all_both}
use Rattle.jt_image.specs.Code.{Name, SourceLoc}
use Rattle.jt_image.specs.declared.version.Version.TheVariants as version
use Rattle.jt_image.specs.Spelling.{name_bytes, constant_bytes, template_bytes, loc_bytes, place_bytes}
use Rattle.jt_image.specs.IsCode.{total_len, max_count, max_locals}
use Rattle.jt_image.specs.Typed.{max_entries}
use Rattle.jt_image.specs.Parts.{KeepsLimits}
use Rattle.jt_image.specs.Laws.{CodeLaws}
use Rattle.jt_ast.specs.Expressions.{Text}
use Rattle.jt_chains.specs.Chain.{Namespace}
use Rattle.jt_chains.specs.Weights.{chains_weight}
use Rattle.jt_rules.specs.CompileEnv.{CompileEnv}
use Rattle.jt_semantics.specs.Bytes.{value_bytes, IsShort}
use Rattle.jt_semantics.specs.Measure.{IsSized}
use Rattle.jt_ir.specs.Size.{body_height}
use Rattle.jt_ir.specs.Slots.{Routine, Program}
use Rattle.jt_lower.specs.Compiles.{LowLaws}
use Rattle.jt_lower.specs.Fits.{ProgramFits}
use Rattle.jt_lower.specs.Lower.{unit_of, constant_of, numbered, places_of, compiled}
use Rattle.jt_lower.specs.SourceLocs.{templates_of, loc_of}
use Rattle.jt_constants.specs.Merged.{moved_unit}
use Rattle.jt_constants.proofs.UniqueConstants.{fewer}
use Rattle.jt_constants.proofs.MergeIsNoLarger.{shorter, units_len}
use Rattle.jt_lower.proofs.SourceLocsCorrect.{places_len}
use Rattle.jt_codegen.proofs.TemplateNamesInOrder.{IsTag, few_templates, short_templates, templates_spelled}
use Rattle.jt_codegen.proofs.TemplateNamesInOrder.{locs_spelled}
use Rattle.jt_codegen.proofs.PlacesAreTags.{OnTag}
use Rattle.jt_codegen.specs.Units.{FitsImage}
use Rattle.jt_codegen.proofs.MergedUnitsFit.{ps, moved_all}
use Rattle.jt_codegen.proofs.ProgramTables.{numbered_len}
use Rattle.jt_codegen.proofs.TablesInOrder.{numbered_texts}

-- ---- bytes

name_len : (n : Name) → length (name_bytes n) ≡ length n.text + 4
name_len n =
    omega (
      arith,
      length-append (to_le_bytes w16 n.slot) (to_le_bytes w16 (length n.text) ++ n.text),
      length-append (to_le_bytes w16 (length n.text)) n.text,
      len16 n.slot,
      len16 (length n.text),
    )
  where
    len16 : (n : ℕ) → length (to_le_bytes w16 n) ≡ 2
    len16 n = refl

text_len : (t : Text) (tag : ℕ) → length (tag ∷ (to_le_bytes w32 (length t) ++ t)) ≡ length t + 5
text_len t tag = omega (arith, length-append (to_le_bytes w32 (length t)) t, len32 (length t))
  where
    len32 : (n : ℕ) → length (to_le_bytes w32 n) ≡ 4
    len32 n = refl

number_len : (n tag : ℕ) → length (tag ∷ to_le_bytes w64 n) ≡ 9
number_len n tag = refl

names_spelled : (i : ℕ) (xs : List Text) → AllByRecursion (λ x. length x ≤ 2000) xs
    → length (flat_map name_bytes (numbered i xs)) ≤ 2004 * length xs
names_spelled i [] h = omega arith
names_spelled i (x ∷ xs) h =
    let n : Name = record { slot = i; text = x } in
    let rest = numbered (suc i) xs in
    omega (
      arith,
      h.0,
      ap length (flat_map-cons name_bytes n rest),
      length-append (name_bytes n) (flat_map name_bytes rest),
      name_len n,
      names_spelled (suc i) xs h.1,
    )

constant_spelled : (t : Tree) → length (constant_bytes (constant_of t)) ≤ value_bytes t + 9
constant_spelled t = search (arith, rules, number_len, text_len)

constants_spelled : (ts : List Tree) → AllByRecursion (λ t. value_bytes t ≤ 2000) ts
    → length (flat_map constant_bytes (map constant_of ts)) ≤ 2009 * length ts
constants_spelled [] h = omega arith
constants_spelled (t ∷ ts) h =
    let rest = map constant_of ts in
    omega (
      arith,
      h.0,
      ap length (flat_map-cons constant_bytes (constant_of t) rest),
      length-append (constant_bytes (constant_of t)) (flat_map constant_bytes rest),
      constant_spelled t,
      constants_spelled ts h.1,
    )

units_locals : (n : ℕ) (rs : List (Routine ℕ)) → n ≤ max_locals → AllByRecursion (λ r. r.locals ≤ n) rs
    → AllByRecursion (λ u. u.locals ≤ max_locals) (map unit_of rs)
units_locals n [] le h = tt
units_locals n (r ∷ rs) le h = (omega (arith, le, h.0), units_locals n rs le h.1)

-- ---- the code of a program that fits is within the limits of images

module _ (laws : CodeLaws) (low : LowLaws) (cenv : CompileEnv) (order : List Namespace) (p : Program)
    (sized : IsSized cenv order p) (weight : chains_weight cenv.sources order ≤ 2000) where
  -- No routine needs more entries than a shape may have.
  pub small_low : AllByRecursion (λ r. body_height r.body ≤ max_entries) p.routines
  small_low = search (arith, rules, all_weaker)

  module _ (short : IsShort 2000 p) (few : 7 * length order ≤ chains_weight cenv.sources order + 7) (ns : List Text)
      (named : length ns ≤ 64 * length order) (tags : AllByRecursion (OnTag (IsTag ns)) (places_of p)) where
    -- The templates of places, and an encoded place for each instruction.
    abbrev ts : List Text
    ts = templates_of (places_of p)

    abbrev ss : List SourceLoc
    ss = map (loc_of ts) (places_of p)

    count_locs : length ss ≡ total_len (compiled p).units
    count_locs =
        length-map (places_of p) (loc_of ts) ∙ places_len p.routines ∙ sym (units_len (ps p) (map unit_of p.routines))

    count_templates : length ts ≤ 20000
    count_templates = omega (arith, few_templates ns (places_of p) tags, named, few, weight)

    spelled : length (place_bytes version.Two ts ss)
        ≡ 2 + length (flat_map template_bytes ts) + length (flat_map loc_bytes ss)
    spelled =
        omega (
          arith,
          length-append (to_le_bytes w16 (length ts)) (flat_map template_bytes ts ++ flat_map loc_bytes ss),
          length-append (flat_map template_bytes ts) (flat_map loc_bytes ss),
          len16 (length ts),
        )
      where
        len16 : (n : ℕ) → length (to_le_bytes w16 n) ≡ 2
        len16 n = refl

    limits : KeepsLimits (compiled p)
    limits = record {
      names = omega (arith, sized.names, numbered_len 0 p.names);
      texts =
          numbered_texts (λ x. length x ≤ max_count) 0 p.names
          (all_weaker (λ x. length x ≤ 2000) (λ x. length x ≤ max_count) p.names (λ x h. omega (arith, h)) short.names);
      constants = omega (arith, sized.constants, weight, length-map p.pool constant_of, fewer (map constant_of p.pool));
      units =
          omega (
            arith,
            sized.units,
            weight,
            few,
            length-map p.routines unit_of,
            length-map (map unit_of p.routines) (moved_unit (ps p)),
          );
      locals =
          moved_all (λ parameters kind locals. locals ≤ max_locals) (ps p) (map unit_of p.routines)
          (units_locals (200 + chains_weight cenv.sources order) p.routines (omega (arith, weight)) sized.locals);
      instructions = omega (arith, low.sized p, sized.instructions, weight, few);
      templates = omega (arith, count_templates);
      template_texts =
          all_weaker (λ t. length t ≤ 255) (λ t. length t ≤ max_count) ts (λ t h. omega (arith, h))
          (short_templates ns (places_of p) tags);
      bytes =
          omega (
            arith,
            laws.spelled (compiled p),
            spelled,
            templates_spelled ts (short_templates ns (places_of p) tags),
            count_templates,
            locs_spelled ss,
            count_locs,
            names_spelled 0 p.names short.names,
            constants_spelled p.pool short.pool,
            shorter (map constant_of p.pool),
            length-map p.routines unit_of,
            length-map (map unit_of p.routines) (moved_unit (ps p)),
            low.sized p,
            sized.names,
            sized.constants,
            sized.units,
            sized.instructions,
            weight,
            few,
          );
    }

    pub small_fits : ProgramFits p → AllByRecursion (λ u. u.parameters ≤ 200) (compiled p).units
        → FitsImage (compiled p)
    small_fits fit parameters = search (arith, rules, limits, all_both)
