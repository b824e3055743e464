-- The properties of parts that `assemble` needs.
use Rattle.std.proofs.Common.{◌≡◌, ℕ, zero, suc, ◌<◌, ◌^◌, List, [], ◌∷◌, ◌++◌, length, map, get_or, Option, Some, None}
use Rattle.std.proofs.Common.{refl, sym, ap, subst, ◌∙◌, arith, rules}
use Rattle.std.specs.Prelude.{option_map}
use Rattle.std.specs.Option.{IsSome}
use Rattle.std.specs.List.{flat_map, AllByRecursion}
use Rattle.std.proofs.lemmas.List.Concat.{flat_map-cons}
use Rattle.jt_image.specs.declared.instruction.Instruction.{Instruction}
use Rattle.jt_image.specs.declared.parts.Unit as given
use Rattle.jt_image.specs.declared.wire.Instr.{Instr}
use Rattle.jt_image.specs.Code.{Section}
use Rattle.jt_image.specs.IsCode.{total_len}
use Rattle.jt_image.specs.Parts.{in_front, each_of, section_of_unit, AreKnown}
use Rattle.jt_image.specs.Reading.{instruction_of}
use Rattle.jt_image.specs.Spelling.{wire_bytes, instruction_bytes}
use Rattle.jt_image.specs.View.{instruction_view, units_view}
use Rattle.jt_image.proofs.DecodeSound.{wire_from}

-- A property of all views holds of the view of an element.
pub each_fits : {A B : Type 0} (view : A → B) (P : B → Type 0) (xs : List A) (i : ℕ) (x : A)
    → AllByRecursion P (map view xs) → i < length xs → x ≡ get_or xs i x → P (view x)
each_fits view P [] i x h lt e = absurd (omega arith)
each_fits view P (y ∷ xs) zero x h lt e = subst (λ (z : _). P (view z)) (sym e) h.0
each_fits view P (y ∷ xs) (suc i) x h lt e = each_fits view P xs i x h.1 (omega arith) e

pub short_codes : (us : List Section) → total_len us < 2 ^ 32 → AllByRecursion (λ u. length u.code < 2 ^ 32) us
short_codes [] lt = tt
short_codes (u ∷ us) lt = (omega (arith, lt), short_codes us (omega (arith, lt)))

pub each_holds : {A : Type 0} (P : A → Type 0) (xs : List A) (i : ℕ) (d : A) → AllByRecursion P xs → i < length xs
    → P (get_or xs i d)
each_holds P [] i d h lt = absurd (omega arith)
each_holds P (x ∷ xs) zero d h lt = h.0
each_holds P (x ∷ xs) (suc i) d h lt = each_holds P xs i d h.1 (omega arith)

-- ---- units of parts

known_bytes : (w : Instr) → IsSome (instruction_of w) → instruction_bytes (instruction_view w) ≡ wire_bytes w
known_bytes w h = search (arith, rules, wire_from)

pub known_wires : (ws : List Instr) → AllByRecursion (λ w. IsSome (instruction_of w)) ws
    → flat_map wire_bytes (map (λ w. w) ws) ≡ flat_map instruction_bytes (map instruction_view ws)
known_wires [] h = refl
known_wires (w ∷ ws) h =
    flat_map-cons wire_bytes w (map (λ v. v) ws)
    ∙ ap (λ (b : List ℕ). b ++ flat_map wire_bytes (map (λ v. v) ws)) (sym (known_bytes w h.0))
    ∙ ap (λ (b : List ℕ). instruction_bytes (instruction_view w) ++ b) (known_wires ws h.1)
    ∙ sym (flat_map-cons instruction_bytes (instruction_view w) (map instruction_view ws))

known_code : (ws : List Instr) → AllByRecursion (λ w. IsSome (instruction_of w)) ws
    → each_of instruction_of ws ≡ Some (map instruction_view ws)
known_code [] h = refl
known_code (w ∷ ws) h = search (arith, rules, known_code ws h.1)

pub known_units : (us : List given.Unit) → AreKnown us → each_of section_of_unit us ≡ Some (units_view us)
known_units [] h = refl
known_units (u ∷ us) h = rw (known_code u.code.items h.0, known_units us h.1) refl

front_some : {A : Type 0} (o : Option A) (r : Option (List A)) (ys : List A) → in_front o r ≡ Some ys
    → IsSome o × ((zs : List A) × (r ≡ Some zs))
front_some a0 a1 ys e = search (arith, rules)

found_code : (ws : List Instr) (is : List Instruction) → each_of instruction_of ws ≡ Some is
    → AllByRecursion (λ w. IsSome (instruction_of w)) ws
found_code [] is e = tt
found_code (w ∷ ws) is e = search (arith, rules, front_some, found_code ws)

pub unknown_units : (us : List given.Unit) → ¬ (AreKnown us) → each_of section_of_unit us ≡ None
unknown_units [] h = absurd (h tt)
unknown_units (u ∷ us) h = by (each_of instruction_of u.code.items) refl (λ n. unknown_units us n)
  where
    by : (o : Option (List Instruction)) → each_of instruction_of u.code.items ≡ o
        → (¬ (AreKnown us) → each_of section_of_unit us ≡ None)
        → in_front (option_map (λ code.
        let s : Section = record { parameters = u.parameters; kind = u.kind; locals = u.locals; code = code } in s) o)
        (each_of section_of_unit us)
        ≡ None
    by a0 e more = search (arith, rules, found_code)
