-- The tables of the code of a chain are in order.
use Rattle.std.proofs.Common.{◌≢◌, ℕ, suc, ◌+◌, ◌<◌, ◌≤◌, List, [], ◌∷◌, length, map, refl, sym, ◌∙◌, arith}
use Rattle.std.specs.List.{AllByRecursion}
use Rattle.std.proofs.lemmas.List.{length-map}
use Rattle.jt_image.specs.IsCode.{Ascend, AreDistinct}
use Rattle.jt_image.specs.Parts.{IsUnitInOrder, HasTables}
use Rattle.jt_ast.specs.Expressions.{Text}
use Rattle.jt_chains.specs.Chain.{Namespace, a_chain}
use Rattle.jt_rules.specs.CompileEnv.{CompileEnv}
use Rattle.jt_semantics.specs.Ascends.{Above, Ascends}
use Rattle.jt_semantics.specs.Layout.{names, shared}
use Rattle.jt_semantics.specs.Programs.{program}
use Rattle.jt_semantics.specs.Resolve.{chain_routine}
use Rattle.jt_ir.specs.Slots.{Routine}
use Rattle.jt_ir.specs.Pool.{placed_routine}
use Rattle.jt_lower.specs.Lower.{unit_of, numbered, places_of, compiled}
use Rattle.jt_lower.specs.SourceLocs.{templates_of, loc_of}
use Rattle.jt_constants.specs.Merged.{moved_unit}
use Rattle.jt_constants.proofs.MergeIsNoLarger.{units_len}
use Rattle.jt_lower.proofs.SourceLocsCorrect.{places_len}
use Rattle.jt_codegen.proofs.MergedUnitsFit.{ps, moved_all}
use Rattle.jt_codegen.proofs.TemplateNamesInOrder.{IsTag, are_templates, are_locs}
use Rattle.jt_codegen.proofs.PlacesAreTags.{OnTag}
use Rattle.jt_codegen.proofs.RoutineLimits.{parameters_within}

numbered_slots : (i m : ℕ) (xs : List Text) → i + length xs ≤ m → AllByRecursion (λ n. n.slot < m) (numbered i xs)
numbered_slots i m [] h = tt
numbered_slots i m (x ∷ xs) h = (omega (arith, h), numbered_slots (suc i) m xs (omega (arith, h)))

pub numbered_texts : (P : Text → Type 0) (i : ℕ) (xs : List Text) → AllByRecursion P xs
    → AllByRecursion (λ n. P n.text) (numbered i xs)
numbered_texts P i [] h = tt
numbered_texts P i (x ∷ xs) h = (h.0, numbered_texts P (suc i) xs h.1)

numbered_above : (i : ℕ) (x : Text) (xs : List Text) → Above x xs
    → Ascend (record { slot = i; text = x } ∷ numbered (suc i) xs)
numbered_above i x [] h = tt
numbered_above i x (y ∷ ys) h = (h.0, numbered_above (suc i) y ys h.1)

numbered_ascend : (xs : List Text) → Ascends xs → Ascend (numbered 0 xs)
numbered_ascend [] h = tt
numbered_ascend (x ∷ xs) h = numbered_above 0 x xs h

numbered_apart : (j i : ℕ) (xs : List Text) → j < i → AllByRecursion (λ n. j ≢ n.slot) (numbered i xs)
numbered_apart j i [] h = tt
numbered_apart j i (x ∷ xs) h = ((λ e. omega (arith, h, e)), numbered_apart j (suc i) xs (omega (arith, h)))

numbered_distinct : (i : ℕ) (xs : List Text) → AreDistinct (numbered i xs)
numbered_distinct i [] = tt
numbered_distinct i (x ∷ xs) = (numbered_apart i (suc i) xs (omega arith), numbered_distinct (suc i) xs)

-- The units emit.
emitting : (rs : List (Routine ℕ)) → AllByRecursion (λ u. u.parameters ≤ u.locals) (map unit_of rs)
    → AllByRecursion IsUnitInOrder (map unit_of rs)
emitting [] h = tt
emitting (r ∷ rs) h = ((omega arith, h.0), emitting rs h.1)

-- The tables are in order if each place is that of a tag, no name is empty, the names ascend, and
-- each has a global.
pub tables : (cenv : CompileEnv) (entry : Text) (rest : List Namespace) (ns : List Text)
    → AllByRecursion (OnTag (IsTag ns)) (places_of (program cenv (a_chain entry ∷ rest) (a_chain entry)))
    → AllByRecursion (λ x. 0 < length x) (names cenv (a_chain entry ∷ rest) (a_chain entry))
    → Ascends (names cenv (a_chain entry ∷ rest) (a_chain entry))
    → length (names cenv (a_chain entry ∷ rest) (a_chain entry))
    ≤ (program cenv (a_chain entry ∷ rest) (a_chain entry)).globals
    → HasTables (compiled (program cenv (a_chain entry ∷ rest) (a_chain entry)))
tables cenv entry rest ns tags some ascends few =
    let order = a_chain entry ∷ rest in
    let p = program cenv order (a_chain entry) in
    record {
      names = record {
        slots = numbered_slots 0 p.globals p.names (omega (arith, few));
        some = numbered_texts (λ x. 0 < length x) 0 p.names some;
        ascend = numbered_ascend p.names ascends;
        distinct = numbered_distinct 0 p.names;
      };
      units =
          moved_all (λ parameters kind locals. (kind ≤ 1) × (parameters ≤ locals)) (ps p) (map unit_of p.routines)
          (emitting p.routines (parameters_within cenv order (length (shared cenv order))));
      entry =
          record {
            entry = moved_unit (ps p)
                (unit_of (placed_routine (chain_routine cenv order entry) (length (shared cenv order))));
            is = refl;
            emits = refl;
            plain = refl;
          };
      templates = are_templates ns (places_of p) tags;
      places = are_locs ns (places_of p) tags;
      placed =
          length-map (places_of p) (loc_of (templates_of (places_of p))) ∙ places_len p.routines
          ∙ sym (units_len (ps p) (map unit_of p.routines));
    }
