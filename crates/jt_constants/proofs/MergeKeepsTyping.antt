-- A merged code is typed if the code is typed.
use Rattle.std.proofs.Common.{◌≡◌, ℕ, ◌+◌, List, [], ◌∷◌, length, Option, Some, None, Ok, refl, sym, ap, ◌∙◌, subst}
use Rattle.std.proofs.Common.{arith, rules}
use Rattle.std.specs.Prelude.{slice_get, nat_lt, option_map}
use Rattle.std.proofs.lemmas.List.{length-map}
use Rattle.std.proofs.lemmas.Option.{slice_get-map, same_Some}
use Rattle.jt_image.specs.declared.instruction.Instruction.{Instruction}
use Rattle.jt_image.specs.declared.kind.Kind.TheVariants as kind
use Rattle.jt_image.specs.declared.kind.Flaw.TheVariants as flaw
use Rattle.jt_image.specs.Code.{Section, Code}
use Rattle.jt_image.specs.Effect.{Shape, require, pops_many, goes_on, makes, jumps, branches, gives, calls, effect}
use Rattle.jt_image.specs.Effect.{effect_of, effect_at}
use Rattle.jt_image.specs.Typed.{Equal, IsTypedUnit, IsTyped}
use Rattle.jt_constants.specs.Merged.{new_indices, with_indices, moved_unit, merged}
use Rattle.jt_constants.proofs.UniqueConstants.{reads, inside}

module _ (k : Code) (u : Section) where
  abbrev ps : List ℕ
  ps = new_indices k.constants

  abbrev v : Section
  v = moved_unit ps u

  len : length v.code ≡ length u.code
  len = length-map u.code (with_indices ps)

  goes_same : (p : ℕ) (s : Shape) → goes_on v p s ≡ goes_on u p s
  goes_same p s =
      ap (λ (n : ℕ). require (nat_lt (p + 1) n) flaw.FallsOff (Ok (record { shape = s; points = (p + 1) ∷ [] }))) len

  makes_same : (p n : ℕ) (s : Shape) → makes v p n s ≡ makes u p n s
  makes_same p n s = λ j. pops_many n s (λ r. goes_same p (kind.Value ∷ r) j)

  jumps_same : (c : ℕ) (s : Shape) → jumps v c s ≡ jumps u c s
  jumps_same c s = ap (λ (n : ℕ). require (nat_lt c n) flaw.JumpOut (Ok (record { shape = s; points = c ∷ [] }))) len

  branches_same : (p c : ℕ) (s : Shape) → branches v p c s ≡ branches u p c s
  branches_same p c s =
      ap (λ (n : ℕ). require (nat_lt c n) flaw.JumpOut
      (require (nat_lt (p + 1) n) flaw.FallsOff (Ok (record { shape = s; points = (p + 1) ∷ c ∷ [] })))) len

  called_same : (p : ℕ) (o : Option Section) (s : Shape) → calls v p (option_map (moved_unit ps) o) s ≡ calls u p o s
  called_same p None s = refl
  called_same p (Some w) s = λ j. pops_many w.parameters s (λ r. goes_same p (gives w.kind r) j)

  effect_same : (p : ℕ) (i : Instruction) (s : Shape) → effect (merged k) v p (with_indices ps i) s ≡ effect k u p i s
  effect_same p i s =
      search (arith, rules, inside, goes_same, reads, jumps_same, branches_same, makes_same, slice_get-map, called_same)

  of_same : (p : ℕ) (o : Option Instruction) (s : Shape)
      → effect_of (merged k) v p (option_map (with_indices ps) o) s ≡ effect_of k u p o s
  of_same p None s = refl
  of_same p (Some i) s = effect_same p i s

  at_same : (p : ℕ) (s : Shape) → effect_at (merged k) v p s ≡ effect_at k u p s
  at_same p s =
      ap (λ (o : Option Instruction). effect_of (merged k) v p o s) (slice_get-map (with_indices ps) u.code p)
      ∙ of_same p (slice_get u.code p) s

  unit_typed : IsTypedUnit Equal k u → IsTypedUnit Equal (merged k) v
  unit_typed t = (
    t.0,
    record {
      start = t.1.start;
      small = t.1.small;
      fine = λ p s e.
          (let f = t.1.fine p s e in record { leads = f.leads; effect = at_same p s ∙ f.effect; agree = f.agree });
    },
  )

pub typed : (k : Code) → IsTyped k → IsTyped (merged k)
typed k t =
    λ n w e. by n w (slice_get k.units n) refl (sym (slice_get-map (moved_unit (new_indices k.constants)) k.units n) ∙
    e)
  where
    by : (n : ℕ) (w : Section) (o : Option Section) → slice_get k.units n ≡ o
        → option_map (moved_unit (new_indices k.constants)) (slice_get k.units n) ≡ Some w
        → IsTypedUnit Equal (merged k) w
    by n w None is e =
        absurd (let no : None ≡ Some w = sym (ap (option_map (moved_unit (new_indices k.constants))) is) ∙ e in cc)
    by n w (Some u) is e =
        let same : moved_unit (new_indices k.constants) u ≡ w = same_Some (moved_unit (new_indices k.constants) u) w
        (sym (ap (option_map (moved_unit (new_indices k.constants))) is) ∙ e) in
        subst (IsTypedUnit Equal (merged k)) same (unit_typed k u (t n u is))
