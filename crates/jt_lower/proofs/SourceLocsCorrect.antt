-- The place that a program's code has at a point is that of the table.
use Rattle.std.proofs.Common.{◌≡◌, true, false, ℕ, zero, suc, ◌+◌, ◌<◌, List, [], ◌∷◌, ◌++◌, length, take, map, Option}
use Rattle.std.proofs.Common.{Some, None, refl, ap, arith, length-append, ◌⊎◌, inl, inr, rules}
use Rattle.std.proofs.lemmas.Bool.Decides.{nat_tests}
use Rattle.std.specs.Prelude.{slice_get}
use Rattle.std.specs.Option.{option_map, option_and_then}
use Rattle.std.specs.List.{flat_map}
use Rattle.std.specs.Str.{bytes_eq}
use Rattle.std.proofs.lemmas.Slice.Eq.{bytes_eq-Decides}
use Rattle.std.proofs.lemmas.Option.{slice_get-map, slice_get_within}
use Rattle.jt_image.specs.declared.instruction.Instruction.{Instruction}
use Rattle.jt_image.specs.Code.{Section}
use Rattle.jt_image.specs.IsCode.{total_len}
use Rattle.jt_image.specs.Step.{fetch}
use Rattle.jt_image.specs.Places.{place_of, place_at}
use Rattle.jt_value.specs.Place.{Place}
use Rattle.jt_ir.specs.Slots.{Routine, Program}
use Rattle.jt_ast.specs.Expressions.{Text}
use Rattle.jt_ast.specs.Texts.{inserted, all_inserted}
use Rattle.jt_lower.specs.SourceLocs.{templates_in, templates_of, number_of, loc_of}
use Rattle.jt_lower.specs.Lower.{routine_places, places_of, unit_of, lowered}
use Rattle.jt_lower.proofs.TablePlacedRuns.{place_in, table_of}
use Rattle.jt_lower.proofs.FlatCodeRuns.{placed}

-- ---- templates

-- The text is in the list.
abbrev pub Among : Text → List Text → Type 0
Among t [] = ⊥
Among t (s ∷ ss) = (s ≡ t) ⊎ Among t ss

apart : (s t : Text) → bytes_eq s t ≡ false → s ≡ t → ⊥
apart s t e same = let other : bytes_eq s t ≡ true = (bytes_eq-Decides s t).1 same in absurd cc

pub number_here : (t : Text) (ts : List Text) → Among t ts → slice_get ts (number_of t ts) ≡ Some t
number_here t [] h = absurd h
number_here t (s ∷ ss) h = search (arith, rules, number_here t ss, bytes_eq-Decides, apart)

-- The number of a listed text is below the length of the list.
pub number_within : (t : Text) (ts : List Text) → Among t ts → number_of t ts < length ts
number_within t ts h = slice_get_within ts (number_of t ts) t (number_here t ts h)

inserted_here : (x : Text) (ys : List Text) → Among x (inserted x ys)
inserted_here x [] = inl refl
inserted_here x (y ∷ ys) = search (arith, rules, inserted_here x ys, bytes_eq-Decides)

inserted_kept : (t x : Text) (ys : List Text) → Among t ys → Among t (inserted x ys)
inserted_kept t x [] h = absurd h
inserted_kept t x (y ∷ ys) h = search (arith, rules, inserted_kept t x ys)

all_kept : (t : Text) (xs ns : List Text) → Among t ns → Among t (all_inserted xs ns)
all_kept t [] ns h = h
all_kept t (x ∷ xs) ns h = all_kept t xs (inserted x ns) (inserted_kept t x ns h)

pub all_here : (t : Text) (xs ns : List Text) → Among t xs → Among t (all_inserted xs ns)
all_here t [] ns h = absurd h
all_here t (x ∷ xs) ns h = search (arith, rules, all_kept, inserted_here, all_here t xs (inserted x ns))

in_there : (qs : List (Option Place)) (i : ℕ) (q : Place) → slice_get qs i ≡ Some (Some q)
    → Among q.template (templates_in qs)
in_there (None ∷ qs) (suc i) q e = in_there qs i q e
in_there (Some r ∷ qs) (suc i) q e = inr (in_there qs i q e)
in_there qs i q e = search (arith, rules)

-- ---- encoded places

-- An encoded place decodes to itself if its template is listed.
loc_seen : (ts : List Text) (q : Place) → Among q.template ts → place_of ts (loc_of ts (Some q)) ≡ Some q
loc_seen ts q h = search (arith, rules, nat_tests, number_here)

slice_left : {A : Type 0} (xs ys : List A) (n : ℕ) → n < length xs → slice_get (xs ++ ys) n ≡ slice_get xs n
slice_left [] ys n h = absurd (omega arith)
slice_left (x ∷ xs) ys zero h = refl
slice_left (x ∷ xs) ys (suc n) h = slice_left xs ys n (omega arith)

slice_right : {A : Type 0} (xs ys : List A) (n : ℕ) → slice_get (xs ++ ys) (length xs + n) ≡ slice_get ys n
slice_right [] ys n = let same : 0 + n ≡ n = omega arith in ap (slice_get ys) same
slice_right (x ∷ xs) ys n = search (arith, rules, slice_right xs ys n)

as_many : (r : Routine ℕ) → length (routine_places r) ≡ length (unit_of r).code
as_many r = search (arith, rules, placed, length-append)

-- The number of places is the number of instructions.
pub places_len : (rs : List (Routine ℕ)) → length (flat_map routine_places rs) ≡ total_len (map unit_of rs)
places_len [] = refl
places_len (r ∷ rs) = search (arith, rules, length-append, as_many, places_len rs)

-- The place of a point comes after those of the units before it.
at_number : (rs : List (Routine ℕ)) (u n : ℕ) (r : Routine ℕ) → slice_get rs u ≡ Some r → n < length (unit_of r).code
    → slice_get (flat_map routine_places rs) (total_len (take u (map unit_of rs)) + n) ≡ slice_get (routine_places r) n
at_number [] u n r e h = absurd cc
at_number (s ∷ rs) zero n r e h = search (arith, rules, slice_left, as_many)
at_number (s ∷ rs) (suc u) n r e h = search (arith, rules, as_many, slice_right, at_number rs u n r e h)

module _ (p : Program) where
  abbrev qs : List (Option Place)
  qs = places_of p

  abbrev ts : List Text
  ts = templates_of qs

  told : (i : ℕ) (o : Option (Option Place)) → slice_get qs i ≡ o
      → option_and_then (place_of ts) (option_map (loc_of ts) o) ≡ option_and_then (λ q. q) o
  told i o e = search (arith, rules, loc_seen, all_here, in_there)

  at_unit : (u n : ℕ) (x : Section × Instruction) (o : Option (Routine ℕ)) → slice_get p.routines u ≡ o
      → option_and_then (λ (s : Section). option_and_then (λ (i : Instruction). Some (s, i)) (slice_get s.code n))
      (option_map unit_of o)
      ≡ Some x
      → place_at (lowered p) u n ≡ place_in (option_map routine_places o) n
  at_unit u n x o is e = search (arith, rules, at_number, slice_get_within, slice_get-map, told)

pub tells : (p : Program) (u n : ℕ) (x : Section × Instruction) → fetch (lowered p) u n ≡ Some x
    → place_at (lowered p) u n ≡ table_of p u n
tells p u n x e = search (arith, rules, at_unit, slice_get-map, place_in)
