-- It is not enough to compare lengths where paths join: some code that is typed by lengths alone
-- has a run that is wrong.
use Rattle.std.proofs.Common.{◌≡◌, ℕ, zero, suc, ◌≤◌, false, List, [], ◌∷◌, length, Some, Ok, refl, subst, arith}
use Rattle.std.specs.Prelude.{slice_get}
use Rattle.std.specs.List.{AllByRecursion}
use Rattle.std.specs.Str.{IsAscii}
use Rattle.std.proofs.lemmas.Str.{IsUtf8-from_ascii}
use Rattle.jt_image.specs.declared.instruction.Instruction.TheVariants as op
use Rattle.jt_image.specs.declared.kind.Kind.TheVariants as kind
use Rattle.jt_image.specs.declared.version.Version.TheVariants as version
use Rattle.jt_image.specs.Code as code
use Rattle.jt_image.specs.Code.{Section, Code}
use Rattle.jt_image.specs.IsCode.{IsCode}
use Rattle.jt_image.specs.Effect.{Shape, effect_at}
use Rattle.jt_image.specs.Typed.{Shapes, SameLength, HasSame, max_entries, IsFineBy, IsTypedUnit, IsTypedWith}
use Rattle.jt_image.specs.Laws.{NeedsKinds}

-- A loop and a capture join at point 6, which ends the loop.
abbrev y_unit : Section
y_unit = record {
  parameters = 0;
  kind = 0;
  locals = 0;
  code = op.Const 0 ∷ op.JumpIfFalse 5 ∷ op.Const 1 ∷ op.LoopStart ∷ op.Jump 6 ∷ op.CaptureBegin ∷ op.LoopEnd ∷ op.Drop
      ∷ op.Return ∷ [];
}

abbrev y_code : Code
y_code = record {
  version = version.One;
  globals = 0;
  names = [];
  constants = code.truth_value false ∷ code.text (97 ∷ []) ∷ [];
  units = y_unit ∷ [];
  templates = [];
  places = [];
}

abbrev y_list : List Shape
y_list =
    [] ∷ (kind.Value ∷ []) ∷ [] ∷ (kind.Value ∷ []) ∷ (kind.Frame ∷ []) ∷ [] ∷ (kind.Frame ∷ []) ∷ (kind.Value ∷ [])
    ∷ [] ∷ []

abbrev y_shapes : Shapes
y_shapes p = slice_get y_list p

abbrev IsFine : ℕ → Shape → Type 0
IsFine p s = IsFineBy SameLength y_code y_unit y_shapes p s

same_shape : (r s : Shape) → Some r ≡ Some s → r ≡ s
same_shape r s e = cc

abbrev a_value : Shape
a_value = kind.Value ∷ []

abbrev a_frame : Shape
a_frame = kind.Frame ∷ []

-- The listed shape of a point is in order, and so is the shape at this point.
at : (p : ℕ) (r s to : Shape) (points : List ℕ) → Some r ≡ Some s
    → effect_at y_code y_unit p r ≡ Ok (record { shape = to; points = points })
    → AllByRecursion (HasSame SameLength y_shapes to) points → IsFine p s
at p r s to points is effect agree =
    subst (IsFine p) (same_shape r s is)
    (record { leads = record { shape = to; points = points }; effect = effect; agree = agree })

fine : (p : ℕ) (s : Shape) → y_shapes p ≡ Some s → IsFine p s
fine zero s e = at 0 [] s a_value (1 ∷ []) e refl ((a_value, refl, refl), tt)
fine (suc zero) s e = at 1 a_value s [] (2 ∷ 5 ∷ []) e refl (([], refl, refl), (([], refl, refl), tt))
fine (suc (suc zero)) s e = at 2 [] s a_value (3 ∷ []) e refl ((a_value, refl, refl), tt)
fine (suc (suc (suc zero))) s e = at 3 a_value s a_frame (4 ∷ []) e refl ((a_frame, refl, refl), tt)
fine (suc (suc (suc (suc zero)))) s e = at 4 a_frame s a_frame (6 ∷ []) e refl ((a_frame, refl, refl), tt)
fine (suc (suc (suc (suc (suc zero))))) s e = at 5 [] s (kind.Capture ∷ []) (6 ∷ []) e refl ((a_frame, refl, refl), tt)
fine (suc (suc (suc (suc (suc (suc zero)))))) s e = at 6 a_frame s a_value (7 ∷ []) e refl ((a_value, refl, refl), tt)
fine (suc (suc (suc (suc (suc (suc (suc zero))))))) s e = at 7 a_value s [] (8 ∷ []) e refl (([], refl, refl), tt)
fine (suc (suc (suc (suc (suc (suc (suc (suc zero)))))))) s e = at 8 [] s [] [] e refl tt
fine (suc (suc (suc (suc (suc (suc (suc (suc (suc p))))))))) s e = absurd cc

-- Each listed shape is within the limit, since all are.
short_at : (ss : List Shape) (p : ℕ) (s : Shape) → AllByRecursion (λ r. length r ≤ max_entries) ss
    → slice_get ss p ≡ Some s → length s ≤ max_entries
short_at [] p s h e = absurd cc
short_at (r ∷ ss) zero s h e = subst (λ (x : Shape). length x ≤ max_entries) (same_shape r s e) h.0
short_at (r ∷ ss) (suc p) s h e = short_at ss p s h.1 e

all_short : AllByRecursion (λ (r : Shape). length r ≤ max_entries) y_list
all_short = (
  omega arith,
  (
    omega arith,
    (omega arith, (omega arith, (omega arith, (omega arith, (omega arith, (omega arith, (omega arith, tt))))))),
  ),
)

same_unit : (u : Section) → Some y_unit ≡ Some u → y_unit ≡ u
same_unit u e = cc

typed : IsTypedWith SameLength y_code
typed zero u e =
    subst (IsTypedUnit SameLength y_code) (same_unit u e)
    (y_shapes, record { start = refl; small = λ p s. short_at y_list p s all_short; fine = fine })
typed (suc n) u e = absurd cc

ascii : IsAscii (97 ∷ [])
ascii zero = omega arith
ascii (suc i) = omega arith

is_code : IsCode y_code
is_code = record {
  globals = omega arith;
  count_names = omega arith;
  names = tt;
  ascend = tt;
  distinct = tt;
  count_constants = omega arith;
  constants = (tt, ((omega arith, IsUtf8-from_ascii (97 ∷ []) ascii), tt));
  count_units = omega arith;
  units = (
    record {
      parameters = omega arith;
      kind = omega arith;
      locals = omega arith;
      within = omega arith;
      code = (omega arith, (omega arith, (omega arith, (tt, (omega arith, (tt, (tt, (tt, (tt, tt)))))))));
    },
    tt,
  );
  entry = record { entry = y_unit; is = refl; emits = refl; plain = refl };
  instructions = omega arith;
  count_templates = omega arith;
  templates = tt;
  ascend_templates = tt;
  places = tt;
  placed = (refl, refl);
  bytes = omega arith;
}

pub kinds : NeedsKinds
kinds = record {
  code = y_code;
  is_code = is_code;
  typed = typed;
  context = [];
  budget = record { fuel = 4; depth = 0; output = 0; size = 1; nesting = 0 };
  steps = 4;
  wrong = refl;
}
