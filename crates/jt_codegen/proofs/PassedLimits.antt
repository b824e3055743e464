-- What shows that a program passes a limit of images.
use Rattle.std.proofs.Common.{◌≡◌, ℕ, suc, ◌<◌, ◌≤◌, Bool, true, false, List, [], ◌∷◌, length, map, Some, refl}
use Rattle.std.proofs.Common.{String, Global, subst, arith}
use Rattle.std.specs.Prelude.{slice_get, nat_le}
use Rattle.std.specs.List.{AllByRecursion}
use Rattle.std.proofs.lemmas.Bool.Decides.{nat_tests}
use Rattle.std.proofs.lemmas.List.{length-map}
use Rattle.std.proofs.lemmas.Option.{slice_get_within, get_or_from_slice_get}
use Rattle.jt_image.specs.Code.{Name, Section}
use Rattle.jt_image.specs.IsCode.{max_count, max_locals}
use Rattle.jt_image.specs.Parts.{FitTexts, IsWritable}
use Rattle.jt_image.specs.View.{texts_view}
use Rattle.jt_image.proofs.PartsForAssembly.{each_holds}
use Rattle.jt_image.proofs.ReadPrefix.{all_weaker}
use Rattle.jt_ast.specs.Expressions.{Text}
use Rattle.jt_ir.specs.Slots.{Routine, Program}
use Rattle.jt_ir.specs.View.{routine_view, templates_of, program_of}
use Rattle.jt_ir.specs.declared.program.Program as given_program
use Rattle.jt_ir.specs.declared.program.Routine as given
use Rattle.jt_constants.specs.Merged.{moved_unit}
use Rattle.jt_lower.specs.Lower.{unit_of, numbered, compiled}
use Rattle.jt_codegen.specs.Passed.{HasAbove, RefusesImage}
use Rattle.jt_codegen.specs.Units.{max_parameters, FitsImage, FitsTables}
use Rattle.jt_codegen.proofs.MergedUnitsFit.{ps, moved_before}
use Rattle.jt_codegen.specs.declared.emission.EmitError.TheVariants as emit_error
use Rattle.jt_codegen.specs.declared.finding.Limit.{Limit}
use Rattle.jt_codegen.specs.declared.finding.Limit.TheVariants as limit

-- A number that is not at most another one is above it.
pub not_within : (n m : ℕ) → ¬ (n ≤ m) → m < n
not_within n m h = by (nat_le n m) refl
  where
    by : (b : Bool) → nat_le n m ≡ b → m < n
    by false e = grind (arith, nat_tests)
    by true e = let le : n ≤ m = grind (arith, nat_tests) in absurd (h le)

-- ---- lists with an item above a number

pub some_above : {A : Type 0} (number : A → ℕ) (most : ℕ) (xs : List A)
    → ¬ (AllByRecursion (λ x. number x ≤ most) xs) → HasAbove number most xs
some_above number most [] n = absurd (n tt)
some_above number most (x ∷ xs) n =
    first_or_later (nat_le (number x) most) refl (λ below. some_above number most xs (λ all. n (below, all)))
  where
    first_or_later : (b : Bool) → nat_le (number x) most ≡ b → (number x ≤ most → HasAbove number most xs)
        → HasAbove number most (x ∷ xs)
    first_or_later false e later = record { index = 0; item = x; is = refl; above = grind (arith, nat_tests) }
    first_or_later true e later =
        let below : number x ≤ most = grind (arith, nat_tests) in
        let found = later below in
        record { index = suc found.index; item = found.item; is = found.is; above = found.above }

all_at : {A : Type 0} (P : A → Type 0) (xs : List A) (n : ℕ) (x : A) → AllByRecursion P xs
    → slice_get xs n ≡ Some x → P x
all_at P xs n x all e =
    subst P (get_or_from_slice_get xs n x x e) (each_holds P xs n x all (slice_get_within xs n x e))

none_above : {A : Type 0} (number : A → ℕ) (most : ℕ) (xs : List A) → HasAbove number most xs
    → ¬ (AllByRecursion (λ x. number x ≤ most) xs)
none_above number most xs h = grind (arith, all_at)

-- ---- names and units

texts_before : (P : Text → Type 0) (k : ℕ) (xs : List Text) → AllByRecursion (λ n. P n.text) (numbered k xs)
    → AllByRecursion P xs
texts_before P k [] h = tt
texts_before P k (x ∷ xs) h = (h.0, texts_before P (suc k) xs h.1)

pub name_above : (xs : List Text) → ¬ (FitTexts xs) → HasAbove (λ name. length name.text) max_count (numbered 0 xs)
name_above xs n =
    some_above (λ (name : Name). length name.text) max_count (numbered 0 xs)
    (λ all. n (texts_before (λ t. length t ≤ max_count) 0 xs all))

module _ (P : ℕ → ℕ → Type 0) (templates : List Text) where
  pub viewed_all : (rs : List given.Routine) → AllByRecursion (λ r. P r.parameters r.locals) rs
      → AllByRecursion (λ (r : Routine ℕ). P r.parameters r.locals) (map (routine_view templates) rs)
  viewed_all [] h = tt
  viewed_all (r ∷ rs) h = (h.0, viewed_all rs h.1)

  pub viewed_back : (rs : List given.Routine)
      → AllByRecursion (λ (r : Routine ℕ). P r.parameters r.locals) (map (routine_view templates) rs)
      → AllByRecursion (λ r. P r.parameters r.locals) rs
  viewed_back [] h = tt
  viewed_back (r ∷ rs) h = (h.0, viewed_back rs h.1)

  viewed_before : (rs : List given.Routine)
      → AllByRecursion (λ (u : Section). P u.parameters u.locals) (map unit_of (map (routine_view templates) rs))
      → AllByRecursion (λ r. P r.parameters r.locals) rs
  viewed_before [] h = tt
  viewed_before (r ∷ rs) h = (h.0, viewed_before rs h.1)

  -- The numbers of all units of a code are those of all routines.
  pub units_before : (places : List ℕ) (rs : List given.Routine)
      → AllByRecursion (λ (u : Section). P u.parameters u.locals)
      (map (moved_unit places) (map unit_of (map (routine_view templates) rs)))
      → AllByRecursion (λ r. P r.parameters r.locals) rs
  units_before places rs h =
      viewed_before rs
      (moved_before (λ parameters kind locals. P parameters locals) places
      (map unit_of (map (routine_view templates) rs)) h)

-- The tables of a program fit if its parts do.
pub tables_fit : (p : given_program.Program) → p.globals ≤ max_count → length p.routines.items ≤ max_count
    → (names : List (String Global)) → names ≡ p.names.items → FitTexts (texts_view names)
    → (rs : List given.Routine) → rs ≡ p.routines.items → AllByRecursion (λ r. r.parameters ≤ max_parameters) rs
    → (qs : List given.Routine) → qs ≡ p.routines.items → AllByRecursion (λ r. r.locals ≤ max_locals) qs
    → FitsTables (program_of p)
tables_fit p globals units names n texts rs r parameters qs q locals =
    let first =
    subst (λ (l : List given.Routine). AllByRecursion (λ r. r.parameters ≤ max_parameters) l) r parameters in
    let second = subst (λ (l : List given.Routine). AllByRecursion (λ r. r.locals ≤ max_locals) l) q locals in
    record {
      globals = globals;
      units = omega (arith, units, length-map p.routines.items (routine_view (templates_of p)));
      names = subst (λ (l : List (String Global)). FitTexts (texts_view l)) n texts;
      parameters =
          viewed_all (λ parameters locals. parameters ≤ max_parameters) (templates_of p) p.routines.items first;
      locals = viewed_all (λ parameters locals. locals ≤ max_locals) (templates_of p) p.routines.items second;
    }

pub parameters_above : (p : given_program.Program)
    → ¬ (AllByRecursion (λ r. r.parameters ≤ max_parameters) p.routines.items)
    → RefusesImage (emit_error.Limit limit.Parameters) (program_of p)
parameters_above p n =
    some_above (λ (u : Section). u.parameters) max_parameters (compiled (program_of p)).units
    (λ all. n (units_before (λ parameters locals. parameters ≤ max_parameters) (templates_of p) (ps (program_of p))
    p.routines.items all))

pub locals_above : (p : given_program.Program) → ¬ (AllByRecursion (λ r. r.locals ≤ max_locals) p.routines.items)
    → RefusesImage (emit_error.Limit limit.Locals) (program_of p)
locals_above p n =
    some_above (λ (u : Section). u.locals) max_locals (compiled (program_of p)).units
    (λ all. n (units_before (λ parameters locals. locals ≤ max_locals) (templates_of p) (ps (program_of p))
    p.routines.items all))

-- ---- a code that passes a limit does not fit into an image

pub too_long : (l : Limit) (p : Program) → RefusesImage (emit_error.Limit l) p → ¬ (FitsImage (compiled p))
too_long limit.Constants p h = λ fits. let most = fits.limits.constants in absurd (omega (arith, h, most))
too_long limit.Units p h = λ fits. let most = fits.limits.units in absurd (omega (arith, h, most))
too_long limit.Instructions p h = λ fits. let most = fits.limits.instructions in absurd (omega (arith, h, most))
too_long limit.Templates p h = λ fits. let most = fits.limits.templates in absurd (omega (arith, h, most))
too_long limit.NameBytes p h = λ fits.
    none_above (λ (name : Name). length name.text) max_count (compiled p).names h fits.limits.texts
too_long limit.Bytes p h = λ fits. let most = fits.limits.bytes in absurd (omega (arith, h, most))
too_long limit.Globals p h = λ fits. let most = fits.globals in absurd (omega (arith, h, most))
too_long limit.Parameters p h = λ fits.
    none_above (λ (u : Section). u.parameters) max_parameters (compiled p).units h
    (all_weaker IsWritable (λ u. u.parameters ≤ max_parameters) (compiled p).units (λ u w. omega (arith, w.parameters))
    fits.writable)
too_long limit.Locals p h = λ fits.
    none_above (λ (u : Section). u.locals) max_locals (compiled p).units h fits.limits.locals
too_long limit.Entries p h = absurd h
