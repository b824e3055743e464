-- Structured code is typed, and the code of a program is typed.
use Rattle.std.proofs.Common.{◌≡◌, ℕ, zero, suc, ◌+◌, ◌<◌, ◌≤◌, List, [], ◌∷◌, ◌++◌, length, Option, Some, None, Result}
use Rattle.std.proofs.Common.{Ok, Bool, true, false, refl, sym, ap, ◌∙◌, subst, arith, length-append}
use Rattle.std.proofs.Common.{rules}
use Rattle.std.specs.Prelude.{slice_get, nat_lt, IsTrue, ◌&&◌}
use Rattle.std.specs.List.{AllByRecursion}
use Rattle.std.specs.Option.{option_map}
use Rattle.std.proofs.lemmas.Option.{slice_get-map, slice_get_within}
use Rattle.std.proofs.lemmas.List.{length-map}
use Rattle.jt_image.specs.declared.instruction.Instruction.{Instruction}
use Rattle.jt_image.specs.declared.instruction.Instruction.TheVariants as op
use Rattle.jt_ids.specs.declared.loop_field.LoopField.{LoopField}
use Rattle.jt_ids.specs.declared.loop_field.LoopField.TheVariants as of_loop
use Rattle.jt_image.specs.declared.kind.Kind.{Kind}
use Rattle.jt_image.specs.declared.kind.Kind.TheVariants as kind
use Rattle.jt_image.specs.declared.kind.Flaw.TheVariants as flaw
use Rattle.jt_image.specs.declared.kind.Flaw.{Flaw}
use Rattle.jt_image.specs.Code.{Section, Code, is_text}
use Rattle.jt_image.specs.Effect.{Shape, Successors, require, pops_many, pushes, makes, goes_on, effect, effect_of}
use Rattle.jt_image.specs.Ids.{filter_of, accepts}
use Rattle.jt_ids.specs.LoopTable.{field_id}
use Rattle.jt_image.specs.Typed.{Equal, HasSame, IsTypedUnit, IsTyped, max_entries}
use Rattle.jt_value.specs.Place.{Place}
use Rattle.jt_ir.specs.Slots as slots
use Rattle.jt_ir.specs.Slots.{Slot, local, global, NaryOp, SlotExpr, SRow, Targets, SlotStmt, SBody, Routine, Program}
use Rattle.jt_lower.specs.Asm.{Asm, nil, one, both, choose, when, each, invoke, flat}
use Rattle.jt_ids.specs.declared.op_id.OpId.{OpId}
use Rattle.jt_ids.specs.declared.op_id.OpId.TheVariants as operators
use Rattle.jt_ids.specs.declared.test_id.TestId.TheVariants as tests
use Rattle.jt_ids.specs.OpTable.{op_id, op_operands}
use Rattle.jt_ir.specs.Size.{row_count, nary_op_height, expr_height, row_height, targets_height, condition_height}
use Rattle.jt_ir.specs.Size.{stmt_height, body_height}
use Rattle.jt_lower.specs.Lower.{nary_op, made_asm, flag, load_of, store_of, expr_asm, row_asm, store_if_of}
use Rattle.jt_lower.specs.Lower.{stores_asm, take_asm}
use Rattle.jt_lower.specs.Lower.{turn_asm, over_asm, kept_asm, stmt_asm, body_asm, unit_of, constant_of, lowered}
use Rattle.jt_lower.specs.Fits.{OfSlots, OfSome, OfTargets, NaryOpFits, TakesRow, SlotFits, ExprFits, RowFits}
use Rattle.jt_lower.specs.Fits.{ConditionFits, TextFits, StmtFits, BodyFits, RoutineFits, ProgramFits}
use Rattle.jt_lower.proofs.LoopFieldsAgree.{has_field}
use Rattle.jt_lower.proofs.LoweringCorrect.{lt_true, eq_true, has_operator, has_test, halved}
use Rattle.jt_lower.proofs.HeightsDecided.{height_some, row_room}
use Rattle.jt_lower.proofs.ListsInPlace.{StandsAt, stands_front, stands_back, stands_whole}

required : (b : Bool) (f : Flaw) (r : Result Successors Flaw) → b ≡ true → require b f r ≡ r
required b f r e = search (arith, rules)

-- A list has an element at each index below its length.
there : {A : Type 0} (xs : List A) (n : ℕ) → n < length xs → (x : A) × (slice_get xs n ≡ Some x)
there [] n lt = absurd (omega arith)
there (x ∷ xs) zero lt = (x, refl)
there (x ∷ xs) (suc n) lt = there xs n (omega arith)

-- The typing of units with `count` locals.
module _ (k : Code) (count : ℕ) where
  abbrev Low : Shape → Type 0
  Low S = length S ≤ max_entries

  -- The effect of an instruction that continues at the next point.
  abbrev Straight : Instruction → Shape → Shape → Type 0
  Straight i S T =
      (u : Section) (p : ℕ) → u.locals ≡ count → p + 1 < length u.code
      → effect k u p i S ≡ Ok (record { shape = T; points = (p + 1) ∷ [] })

  -- Structured code changes one shape to another.
  abbrev Types : Asm → Shape → Shape → Type 0
  Types nil S T = S ≡ T
  Types (one q i) S T = Low S × Straight i S T
  Types (both a b) S T = (M : Shape) × Types a S M × Types b M T
  Types (choose a b) S T = (R : Shape) × (S ≡ kind.Value ∷ R) × Low S × Low T × Types a R T × Types b R T
  Types (when a) S T = (R : Shape) × (S ≡ kind.Value ∷ R) × Low S × (R ≡ T) × Types a R T
  Types (each a) S T = (R : Shape) × (S ≡ kind.Frame ∷ R) × Low S × (S ≡ T) × Types a S S
  Types (invoke q v) S T = Low S × Straight (op.Call v) S T

  shapes_back : (sh : List Shape) (p q : ℕ) (a b : List Shape) → q ≡ p + length a → StandsAt sh p (a ++ b)
      → StandsAt sh q b
  shapes_back sh p q a b e h = subst (λ n. StandsAt sh n b) (sym e) (stands_back sh p a b h)

  module _ (u : Section) (locals : u.locals ≡ count) where
    -- An instruction is in order at a point.
    abbrev FineAt : List Shape → ℕ → Instruction → Type 0
    FineAt sh p i =
        (S : Shape) × (slice_get sh p ≡ Some S) × Low S
        × ((l : Successors) × (effect k u p i S ≡ Ok l)
        × AllByRecursion (HasSame Equal (slice_get sh) l.shape) l.points)

    abbrev AllFine : List Shape → ℕ → List Instruction → Type 0
    AllFine sh p [] = Unit {0}
    AllFine sh p (i ∷ is) = FineAt sh p i × AllFine sh (p + 1) is

    fine_append : (sh : List Shape) (p q : ℕ) (a b : List Instruction) → q ≡ p + length a → AllFine sh p a
        → AllFine sh q b → AllFine sh p (a ++ b)
    fine_append sh p q [] b e h g = let e' : q ≡ p = omega arith in subst (λ n. AllFine sh n b) e' g
    fine_append sh p q (i ∷ a) b e h g = (h.0, fine_append sh (p + 1) q a b (omega arith) h.1 g)

    -- A fragment of code that changes shape `S` to `T`. If these shapes are at its points, `T` is
    -- at the next point, and code follows, then the fragment is in order.
    pub record Fragment (p : ℕ) (S : Shape) (is : List Instruction) (T : Shape) : Type 0 where
      pub shapes : List Shape
      pub long : length shapes ≡ length is
      pub fine : (sh : List Shape) → p + length is < length u.code → StandsAt sh p shapes
          → slice_get sh (p + length is) ≡ Some T → (slice_get sh p ≡ Some S) × AllFine sh p is

    at : (sh : List Shape) (p q : ℕ) (S : Shape) → p ≡ q → slice_get sh p ≡ Some S → slice_get sh q ≡ Some S
    at sh p q S e h = subst (λ n. slice_get sh n ≡ Some S) e h

    one_fine : (p : ℕ) (S T : Shape) (i : Instruction) → Low S → Straight i S T → Fragment p S (i ∷ []) T
    one_fine p S T i low leads = record {
      shapes = S ∷ [];
      long = refl;
      fine = λ sh room has to. (
        has.0,
        (
          (S, has.0, low, (record { shape = T; points = (p + 1) ∷ [] }, leads u p locals room, ((T, to, refl), tt))),
          tt,
        ),
      );
    }

    flat_types : (a : Asm) (p : ℕ) (S T : Shape) → Types a S T → Fragment p S (flat a p) T
    flat_types nil p S T h = search (arith, rules)
    flat_types (one q i) p S T h = one_fine p S T i h.0 h.1
    flat_types (invoke q v) p S T h = one_fine p S T (op.Call v) h.0 h.1
    flat_types (both a b) p S T h =
        let ca = flat a p in let q = p + length ca in let cb = flat b q in
        let fa = flat_types a p S h.0 h.1 in
        let fb = flat_types b q h.0 T h.2 in
        record {
          shapes = fa.shapes ++ fb.shapes;
          long = length-append fa.shapes fb.shapes ∙ omega (arith, fa.long, fb.long, length-append ca cb);
          fine = λ sh room has to.
              let rb = fb.fine sh (omega (arith, length-append ca cb))
              (shapes_back sh p q fa.shapes fb.shapes (omega (arith, fa.long)) has)
              (at sh _ (q + length cb) T (omega (arith, length-append ca cb)) to) in
              let ra =
              fa.fine sh (omega (arith, length-append ca cb)) (stands_front sh p fa.shapes fb.shapes has) rb.0 in
              (ra.0, fine_append sh p q ca cb refl ra.1 rb.1);
        }
    flat_types (choose a b) p S T h =
        let ca = flat a (p + 1) in let e = p + 1 + length ca in let q = e + 1 in let cb = flat b q in
        let jump = op.Jump (q + length cb) in
        let fa = flat_types a (p + 1) h.0 T h.4 in
        let fb = flat_types b q h.0 T h.5 in
        record {
          shapes = S ∷ (fa.shapes ++ T ∷ fb.shapes);
          long = omega (arith, fa.long, fb.long, length-append ca (jump ∷ cb), length-append fa.shapes (T ∷ fb.shapes));
          fine = λ sh room has to.
              let end = at sh _ (q + length cb) T (omega (arith, length-append ca (jump ∷ cb))) to in
              let back = shapes_back sh (p + 1) e fa.shapes (T ∷ fb.shapes) (omega (arith, fa.long)) has.1 in
              let rb = fb.fine sh (omega (arith, length-append ca (jump ∷ cb))) back.1 end in
              let ra = fa.fine sh (omega (arith, length-append ca (jump ∷ cb)))
              (stands_front sh (p + 1) fa.shapes (T ∷ fb.shapes) has.1) back.0 in
              let in_q : nat_lt q (length u.code) ≡ true =
              lt_true q (length u.code) (omega (arith, length-append ca (jump ∷ cb))) in
              let in_p : nat_lt (p + 1) (length u.code) ≡ true =
              lt_true (p + 1) (length u.code) (omega (arith, length-append ca (jump ∷ cb))) in
              let in_end : nat_lt (q + length cb) (length u.code) ≡ true =
              lt_true (q + length cb) (length u.code) (omega (arith, length-append ca (jump ∷ cb))) in
              let first : effect k u p (op.JumpIfFalse q) S ≡ Ok (record { shape = h.0; points = (p + 1) ∷ q ∷ [] }) =
              ap (λ s. effect k u p (op.JumpIfFalse q) s) h.1 ∙ required _ flaw.JumpOut _ in_q
              ∙ required _ flaw.FallsOff _ in_p in
              let last : effect k u e jump T ≡ Ok (record { shape = T; points = (q + length cb) ∷ [] }) =
              required _ flaw.JumpOut _ in_end in (
                has.0,
                (
                  (
                    S,
                    has.0,
                    h.2,
                    (
                      record { shape = h.0; points = (p + 1) ∷ q ∷ [] },
                      first,
                      ((h.0, ra.0, refl), ((h.0, rb.0, refl), tt)),
                    ),
                  ),
                  fine_append sh (p + 1) e ca (jump ∷ cb) refl ra.1 (
                    (
                      T,
                      back.0,
                      h.3,
                      (record { shape = T; points = (q + length cb) ∷ [] }, last, ((T, end, refl), tt)),
                    ),
                    rb.1,
                  ),
                ),
              );
        }
    flat_types (when a) p S T h =
        let ca = flat a (p + 1) in let q = p + 1 + length ca in
        let fa = flat_types a (p + 1) h.0 T h.4 in
        record {
          shapes = S ∷ fa.shapes;
          long = omega (arith, fa.long);
          fine = λ sh room has to.
              let end = at sh _ q T (omega arith) to in
              let ra = fa.fine sh (omega (arith, room)) has.1 end in
              let in_q : nat_lt q (length u.code) ≡ true = lt_true q (length u.code) (omega (arith, room)) in
              let in_p : nat_lt (p + 1) (length u.code) ≡ true =
              lt_true (p + 1) (length u.code) (omega (arith, room)) in
              let first : effect k u p (op.JumpIfFalse q) S ≡ Ok (record { shape = h.0; points = (p + 1) ∷ q ∷ [] }) =
              ap (λ s. effect k u p (op.JumpIfFalse q) s) h.1 ∙ required _ flaw.JumpOut _ in_q
              ∙ required _ flaw.FallsOff _ in_p in (
                has.0,
                (
                  (
                    S,
                    has.0,
                    h.2,
                    (
                      record { shape = h.0; points = (p + 1) ∷ q ∷ [] },
                      first,
                      ((h.0, ra.0, refl), ((T, end, sym h.3), tt)),
                    ),
                  ),
                  ra.1,
                ),
              );
        }
    flat_types (each a) p S T h =
        let ca = flat a (p + 1) in let e = p + 1 + length ca in let q = e + 1 in
        let fa = flat_types a (p + 1) S S h.4 in
        record {
          shapes = S ∷ (fa.shapes ++ S ∷ []);
          long = omega (arith, fa.long, length-append ca (op.Jump p ∷ []), length-append fa.shapes (S ∷ []));
          fine = λ sh room has to.
              let end = at sh _ q T (omega (arith, length-append ca (op.Jump p ∷ []))) to in
              let back = shapes_back sh (p + 1) e fa.shapes (S ∷ []) (omega (arith, fa.long)) has.1 in
              let ra = fa.fine sh (omega (arith, length-append ca (op.Jump p ∷ [])))
              (stands_front sh (p + 1) fa.shapes (S ∷ []) has.1) back.0 in
              let in_q : nat_lt q (length u.code) ≡ true =
              lt_true q (length u.code) (omega (arith, length-append ca (op.Jump p ∷ []))) in
              let in_p : nat_lt (p + 1) (length u.code) ≡ true =
              lt_true (p + 1) (length u.code) (omega (arith, length-append ca (op.Jump p ∷ []))) in
              let in_top : nat_lt p (length u.code) ≡ true =
              lt_true p (length u.code) (omega (arith, length-append ca (op.Jump p ∷ []))) in
              let first : effect k u p (op.LoopNext q) S
              ≡ Ok (record { shape = kind.Frame ∷ h.0; points = (p + 1) ∷ q ∷ [] }) =
              ap (λ s. effect k u p (op.LoopNext q) s) h.1 ∙ required _ flaw.JumpOut _ in_q
              ∙ required _ flaw.FallsOff _ in_p in
              let last : effect k u e (op.Jump p) S ≡ Ok (record { shape = S; points = p ∷ [] }) =
              required _ flaw.JumpOut _ in_top in (
                has.0,
                (
                  (
                    S,
                    has.0,
                    h.2,
                    (
                      record { shape = kind.Frame ∷ h.0; points = (p + 1) ∷ q ∷ [] },
                      first,
                      ((S, ra.0, h.1), ((T, end, sym h.3 ∙ h.1), tt)),
                    ),
                  ),
                  fine_append sh (p + 1) e ca (op.Jump p ∷ []) refl ra.1
                      ((S, back.0, h.2, (record { shape = S; points = p ∷ [] }, last, ((S, has.0, refl), tt))), tt),
                ),
              );
        }

    fine_at : (sh : List Shape) (is : List Instruction) (p q n : ℕ) (i : Instruction) → p + n ≡ q → AllFine sh p is
        → slice_get is n ≡ Some i → FineAt sh q i
    fine_at sh [] p q n i e h is = absurd cc
    fine_at sh (j ∷ js) p q zero i e h is =
        let same : j ≡ i = cc in
        let here : p ≡ q = omega arith in
        subst (λ i. FineAt sh q i) same (subst (λ p. FineAt sh p j) here h.0)
    fine_at sh (j ∷ js) p q (suc n) i e h is = fine_at sh js (p + 1) q n i (omega arith) h.1 is

-- ---- the code of resolved programs

stack_on : (n : ℕ) (S : Shape) → pushes n (kind.Value ∷ S) ≡ kind.Value ∷ pushes n S
stack_on zero S = refl
stack_on (suc n) S = ap (λ T. kind.Value ∷ T) (stack_on n S)

stack_long : (n : ℕ) (S : Shape) → length (pushes n S) ≡ n + length S
stack_long zero S = omega arith
stack_long (suc n) S = omega (arith, stack_long n S)

unstacked : (n : ℕ) (S : Shape) (go : Shape → Result Successors Flaw) → pops_many n (pushes n S) go ≡ go S
unstacked zero S go = refl
unstacked (suc n) S go = unstacked n S go

goes : (u : Section) (p : ℕ) (S : Shape) → p + 1 < length u.code
    → goes_on u p S ≡ Ok (record { shape = S; points = (p + 1) ∷ [] })
goes u p S room = required _ flaw.FallsOff _ (lt_true (p + 1) (length u.code) room)

makes_one : (u : Section) (p n : ℕ) (S : Shape) → p + 1 < length u.code
    → makes u p n (pushes n S) ≡ Ok (record { shape = kind.Value ∷ S; points = (p + 1) ∷ [] })
makes_one u p n S room = unstacked n S (λ r. goes_on u p (kind.Value ∷ r)) ∙ goes u p (kind.Value ∷ S) room

-- In a loop, its frame lies below `h` entries.
abbrev FrameIn : Bool → ℕ → Shape → Type 0
FrameIn false h S = Unit {0}
FrameIn true h S = slice_get S h ≡ Some kind.Frame

raise : (inside : Bool) (h : ℕ) (e : Kind) (S : Shape) → FrameIn inside h S → FrameIn inside (suc h) (e ∷ S)
raise inside h e S f = search (arith, rules)

some_targets : (xs : Targets) → 1 ≤ targets_height xs
some_targets xs = search (arith, rules)

module _ (p : Program) (count : ℕ) where
  abbrev k : Code
  k = lowered p

  abbrev Leading : Asm → Shape → Shape → Type 0
  Leading a S T = Types k count a S T

  abbrev Plainly : Instruction → Shape → Shape → Type 0
  Plainly i S T = Straight k count i S T

  in_pool : (i : ℕ) → i < length p.pool → nat_lt i (length k.constants) ≡ true
  in_pool i lt = lt_true i (length k.constants) (omega (arith, lt, length-map p.pool constant_of))

  text_in_pool : (i : ℕ) → TextFits p count i → is_text (slice_get k.constants i) ≡ true
  text_in_pool i f = ap is_text (slice_get-map constant_of p.pool i) ∙ ap (λ o. is_text (option_map constant_of o)) f.1

  loads : (s : Slot) (S : Shape) → SlotFits p count s → Plainly (load_of s) S (kind.Value ∷ S)
  loads s S f u q l room = search (arith, rules, required, lt_true, goes)

  stores : (s : Slot) (S : Shape) → SlotFits p count s → Plainly (store_of s) (kind.Value ∷ S) S
  stores s S f u q l room = search (arith, rules, required, lt_true, goes)

  stores_if : (s : Option Slot) (S : Shape) → OfSome (SlotFits p count) s → Plainly (store_if_of s) (kind.Value ∷ S) S
  stores_if s S f u q l room = search (arith, rules, goes, stores)

  is_filter : (f n : ℕ) (escaping : Bool) → IsTrue (accepts (filter_of f) n)
      → (accepts (filter_of f) n && nat_lt (flag escaping) 2) ≡ true
  is_filter f n escaping h = search (arith, rules)

  operation_types : (x : OpId) (n : ℕ) (S : Shape) → op_operands x ≡ n
      → Plainly (op.Op (op_id x)) (pushes n S) (kind.Value ∷ S)
  operation_types x n S fit u q l room = search (arith, rules, has_operator, makes_one, required)

  -- An operation replaces the values of its sequence by one value.
  nary_op_types : (h : NaryOp) (n : ℕ) (S : Shape) → NaryOpFits h n
      → Plainly (nary_op h n) (pushes n S) (kind.Value ∷ S)
  nary_op_types (slots.operator x) n S fit u q l room = operation_types x n S fit u q l room
  nary_op_types (slots.test t) n S fit u q l room =
      search (arith, rules, makes_one, has_test, required, eq_true)
  nary_op_types (slots.filter f escaping) n S fit u q l room = search (arith, rules, makes_one, required, is_filter)
  nary_op_types slots.a_list n S fit u q l room = makes_one u q n S room
  nary_op_types slots.a_map n S fit u q l room = search (arith, rules, makes_one, halved)
  nary_op_types slots.required n S fit u q l room = operation_types operators.Negate n S (sym fit) u q l room

  made_types : (x : NaryOp) (n : ℕ) (o : Option Place) (S : Shape) → NaryOpFits x n
      → length S + nary_op_height x ≤ max_entries → length S + n ≤ max_entries
      → Leading (made_asm o x n) (pushes n S) (kind.Value ∷ S)
  made_types slots.required n o S fit high low =
      let one_more : length (kind.Value ∷ S) ≤ max_entries = omega (arith, high) in
      let two_more : length (kind.Value ∷ kind.Value ∷ S) ≤ max_entries = omega (arith, high) in
      subst (λ i. Leading (made_asm o slots.required i) (pushes i S) (kind.Value ∷ S)) (sym fit) (
        kind.Value ∷ kind.Value ∷ S,
        (one_more, λ u q l room. goes u q (kind.Value ∷ kind.Value ∷ S) room),
        (
          kind.Value ∷ kind.Value ∷ S,
          (two_more, nary_op_types (slots.test tests.Undefined) 1 (kind.Value ∷ S) refl),
          (kind.Value ∷ S, refl, two_more, refl, (one_more, nary_op_types slots.required 1 S refl)),
        ),
      )
  made_types x n o S fit high low = search (arith, rules, stack_long, nary_op_types)

  -- The instruction that pushes a field of the loop below `h` entries is typed.
  gets : (x : LoopField) (h : ℕ) (S : Shape) → slice_get S h ≡ Some kind.Frame
      → Plainly (op.LoopGet (field_id x) h) S (kind.Value ∷ S)
  gets x h S f u q l room = search (arith, rules, has_field, goes)

  call_types : (v n : ℕ) (S : Shape) → TakesRow p.routines v n → Plainly (op.Call v) (pushes n S) S
  call_types v n S x u q l room = search (arith, rules, slice_get-map, unstacked, goes)

  closes : (escaping : Bool) (S : Shape) → Plainly (op.CaptureEnd (flag escaping)) (kind.Capture ∷ S) (kind.Value ∷ S)
  closes escaping S u q l room = search (arith, rules, goes)

  emits : (escaping : Bool) (S : Shape) → Plainly (op.Emit (flag escaping)) (kind.Value ∷ S) S
  emits escaping S u q l room = search (arith, rules, goes)

  stores_types : (ss : List (Option Slot)) (o : Option Place) (S : Shape) → OfSlots (SlotFits p count) ss
      → length S + length ss ≤ max_entries → Leading (stores_asm o ss) (pushes (length ss) S) S
  stores_types [] o S f le = refl
  stores_types (s ∷ ss) o S f le = search (arith, rules, stack_on (length ss) S, stores_types ss o, stores_if s S f.0)

  take_types : (xs : Targets) (o : Option Place) (S : Shape) → OfTargets (SlotFits p count) xs
      → length S + targets_height xs ≤ max_entries → Leading (take_asm o xs) (kind.Value ∷ S) S
  take_types (slots.one s) o S f le = (omega arith, stores s S f)
  take_types (slots.several ss) o S f le = (
    pushes (length ss) S,
    (omega arith, λ u q l room. goes u q (pushes (length ss) S) room),
    stores_types ss o S f (omega arith),
  )

  mutual
    expr_types : (e : SlotExpr ℕ) (o : Option Place) (inside : Bool) (h : ℕ) (S : Shape) → ExprFits p count inside e
        → FrameIn inside h S → length S + expr_height e ≤ max_entries → Leading (expr_asm o e h) S (kind.Value ∷ S)
    expr_types (slots.pooled i) o inside h S f fr le = search (arith, rules, required, in_pool, goes)
    expr_types (slots.variable s) o inside h S f fr le = (omega arith, loads s S f)
    expr_types (slots.field x) o false h S f fr le = absurd cc
    expr_types (slots.field x) o true h S f fr le = (omega arith, gets x h S fr)
    expr_types slots.absent o inside h S f fr le = absurd f
    expr_types (slots.made x r) o inside h S f fr le =
        search (arith, rules, row_room, made_types, row_types r o inside h)
    expr_types (slots.conjunction a b) o inside h S f fr le =
        let one_more : length (kind.Value ∷ S) ≤ max_entries = omega (arith, height_some a) in
        let two_more : length (kind.Value ∷ kind.Value ∷ S) ≤ max_entries = omega arith in (
          kind.Value ∷ S,
          expr_types a o inside h S f.0 fr (omega arith),
          (
            kind.Value ∷ kind.Value ∷ S,
            (one_more, λ u q l room. goes u q (kind.Value ∷ kind.Value ∷ S) room),
            (
              kind.Value ∷ S,
              refl,
              two_more,
              one_more,
              (S, (one_more, λ u q l room. goes u q S room), expr_types b o inside h S f.1 fr (omega arith)),
              refl,
            ),
          ),
        )
    expr_types (slots.disjunction a b) o inside h S f fr le =
        let one_more : length (kind.Value ∷ S) ≤ max_entries = omega (arith, height_some a) in
        let two_more : length (kind.Value ∷ kind.Value ∷ S) ≤ max_entries = omega arith in (
          kind.Value ∷ S,
          expr_types a o inside h S f.0 fr (omega arith),
          (
            kind.Value ∷ kind.Value ∷ S,
            (one_more, λ u q l room. goes u q (kind.Value ∷ kind.Value ∷ S) room),
            (
              kind.Value ∷ S,
              refl,
              two_more,
              one_more,
              refl,
              (S, (one_more, λ u q l room. goes u q S room), expr_types b o inside h S f.1 fr (omega arith)),
            ),
          ),
        )
    expr_types (slots.choice c a b) o inside h S f fr le =
        search (arith, rules, height_some, expr_types c o inside h, expr_types a o inside h, expr_types b o inside h)
    expr_types (slots.invoke v escaping r) o inside h S f fr le =
        let n = row_count r in
        let C = kind.Capture ∷ S in (
          C,
          (omega arith, λ u q l room. goes u q C room),
          (
            pushes n C,
            row_types r o inside (suc h) C f.1 (raise inside h kind.Capture S fr) (omega arith),
            (C, (omega (arith, stack_long n C, row_room r), call_types v n C f.0), (omega arith, closes escaping S)),
          ),
        )

    row_types : (r : SRow ℕ) (o : Option Place) (inside : Bool) (h : ℕ) (S : Shape) → RowFits p count inside r
        → FrameIn inside h S → length S + row_height r ≤ max_entries
        → Leading (row_asm o r h) S (pushes (row_count r) S)
    row_types slots.none o inside h S f fr le = refl
    row_types (slots.item e r) o inside h S f fr le = (
      kind.Value ∷ S,
      expr_types e o inside h S f.0 fr (omega arith),
      subst (λ T. Leading (row_asm o r (suc h)) (kind.Value ∷ S) T) (stack_on (row_count r) S)
          (row_types r o inside (suc h) (kind.Value ∷ S) f.1 (raise inside h kind.Value S fr) (omega arith)),
    )
    row_types (slots.aside i e r) o inside h S f fr le =
        search (arith, rules, height_some, stores, expr_types e o inside h, row_types r o inside h)

  -- A turn above the frame of the loop is typed.
  turn_types : (xs : Targets) (o : Option Place) (body : Asm) (S : Shape) → OfTargets (SlotFits p count) xs
      → length S + (1 + targets_height xs) ≤ max_entries → Leading body (kind.Frame ∷ S) (kind.Frame ∷ S)
      → Leading (turn_asm o xs body) (kind.Frame ∷ S) (kind.Frame ∷ S)
  turn_types xs o body S f le h = (
    kind.Frame ∷ S,
    (
      kind.Value ∷ kind.Frame ∷ S,
      (omega (arith, some_targets xs), gets of_loop.Item 0 (kind.Frame ∷ S) refl),
      take_types xs o (kind.Frame ∷ S) f (omega arith),
    ),
    h,
  )

  over_types : (xs : Targets) (o : Option Place) (body other : Asm) (S : Shape) → OfTargets (SlotFits p count) xs
      → length S + (1 + targets_height xs) ≤ max_entries → Leading body (kind.Frame ∷ S) (kind.Frame ∷ S)
      → Leading other S S → Leading (over_asm o xs body other) (kind.Frame ∷ S) S
  over_types xs o body other S f le hb ho =
      let low : length (kind.Frame ∷ S) ≤ max_entries = omega (arith, le) in (
        kind.Frame ∷ S,
        (S, refl, low, refl, turn_types xs o body S f le hb),
        (kind.Value ∷ S, (low, λ u q l room. goes u q (kind.Value ∷ S) room), (S, refl, omega (arith, le), refl, ho)),
      )

  kept_types : (c : Option (SlotExpr ℕ)) (xs : Targets) (o : Option Place) (S : Shape) → OfTargets (SlotFits p count) xs
      → ConditionFits p count c → length S + (1 + targets_height xs) ≤ max_entries
      → length S + (1 + condition_height c) ≤ max_entries → Leading (kept_asm o xs c) (kind.Frame ∷ S) (kind.Frame ∷ S)
  kept_types None xs o S f g le lc = refl
  kept_types (Some c) xs o S f g le lc =
      let low : length (kind.Frame ∷ S) ≤ max_entries = omega (arith, le) in
      let F = kind.Frame ∷ S in (
        F,
        (
          S,
          refl,
          low,
          refl,
          turn_types xs o (both (expr_asm o c 0) (one o (op.LoopKeep 0))) S f le (
            kind.Value ∷ F,
            expr_types c o false 0 F g tt (omega (arith, lc)),
            (omega (arith, lc, height_some c), λ u q l room. goes u q F room),
          ),
        ),
        (low, λ u q l room. goes u q F room),
      )

  mutual
    stmt_types : (s : SlotStmt ℕ) (inside : Bool) (h : ℕ) (S : Shape) → StmtFits p count inside s → FrameIn inside h S
        → length S + stmt_height s ≤ max_entries → Leading (stmt_asm s h) S S
    stmt_types (slots.put_pooled i) inside h S f fr le = search (arith, rules, required, text_in_pool, goes)
    stmt_types (slots.print tag escaping e) inside h S f fr le = (
      kind.Value ∷ S,
      expr_types e (Some tag) inside h S f fr (omega arith),
      (omega (arith, height_some e), emits escaping S),
    )
    stmt_types (slots.assign tag xs e) inside h S f fr le = (
      kind.Value ∷ S,
      expr_types e (Some tag) inside h S f.1 fr (omega arith),
      take_types xs (Some tag) S f.0 (omega arith),
    )
    stmt_types (slots.if_else tag c a b) inside h S f fr le = (
      kind.Value ∷ S,
      expr_types c (Some tag) inside h S f.0 fr (omega arith),
      (
        S,
        refl,
        omega (arith, height_some c),
        omega arith,
        body_types a inside h S f.1 fr (omega arith),
        body_types b inside h S f.2 fr (omega arith),
      ),
    )
    stmt_types (slots.for_each tag xs e c body other) inside h S f fr le =
        let o = Some tag in
        let F = kind.Frame ∷ S in (
          F,
          (
            kind.Value ∷ S,
            expr_types e o inside h S f.1 fr (omega arith),
            (
              F,
              (omega (arith, height_some e), λ u q l room. goes u q F room),
              kept_types c xs o S f.0 f.2 (omega arith) (omega arith),
            ),
          ),
          over_types xs o (body_asm body 0) (body_asm other h) S f.0 (omega arith)
              (body_types body true 0 F f.3 refl (omega arith)) (body_types other inside h S f.4 fr (omega arith)),
        )
    stmt_types (slots.capture escaping s body) inside h S f fr le =
        let C = kind.Capture ∷ S in (
          C,
          (omega arith, λ u q l room. goes u q C room),
          (
            C,
            body_types body inside (suc h) C f.1 (raise inside h kind.Capture S fr) (omega arith),
            (kind.Value ∷ S, (omega arith, closes escaping S), (omega arith, stores s S f.0)),
          ),
        )
    stmt_types (slots.run v r) inside h S f fr le = (
      pushes (row_count r) S,
      row_types r None inside h S f.1 fr (omega arith),
      (omega (arith, stack_long (row_count r) S, row_room r), call_types v (row_count r) S f.0),
    )

    body_types : (b : SBody ℕ) (inside : Bool) (h : ℕ) (S : Shape) → BodyFits p count inside b → FrameIn inside h S
        → length S + body_height b ≤ max_entries → Leading (body_asm b h) S S
    body_types slots.end inside h S f fr le = refl
    body_types (slots.stmt s rest) inside h S f fr le = grind (arith, stmt_types s inside h, body_types rest inside h)

-- The unit of a routine is typed.
unit_typed : (p : Program) (r : Routine ℕ) → RoutineFits p r → IsTypedUnit Equal (lowered p) (unit_of r)
unit_typed p r f =
    let k = lowered p in
    let n = r.locals in
    let u = unit_of r in
    let a = body_asm r.body 0 in
    let is = flat a 0 in
    let fr = flat_types k n u refl a 0 [] [] (body_types p n r.body false 0 [] f.body tt (omega (arith, f.low))) in
    let sh = fr.shapes ++ [] ∷ [] in
    let has = stands_whole sh [] in
    let long : length sh ≡ length u.code =
    length-append fr.shapes ([] ∷ []) ∙ omega (arith, fr.long, length-append is (op.Return ∷ [])) in
    let back = shapes_back k n sh 0 (0 + length is) fr.shapes ([] ∷ []) (omega (arith, fr.long)) has in
    let fine = fr.fine sh (omega (arith, length-append is (op.Return ∷ [])))
    (stands_front sh 0 fr.shapes ([] ∷ []) has) back.0 in
    let all : AllFine k n u refl sh 0 u.code = fine_append k n u refl sh 0 (0 + length is) is (op.Return ∷ []) refl
    fine.1 (([], back.0, omega arith, (record { shape = []; points = [] }, refl, tt)), tt) in
    let each : (q : ℕ) (s : Shape) → slice_get sh q ≡ Some s
    → (i : Instruction) × (slice_get u.code q ≡ Some i) × FineAt k n u refl sh q i = λ q s e.
    let x = there u.code q (omega (arith, slice_get_within sh q s e)) in
    (x.0, x.1, fine_at k n u refl sh u.code 0 q q x.0 (omega arith) all x.1) in (
      λ q. slice_get sh q,
      record {
        start = fine.0;
        small =
            λ q s e. let x = each q s e in
            let same : x.2.0 ≡ s = some_is x.2.0 s (slice_get sh q) x.2.1 e in
            subst (λ y. length y ≤ max_entries) same x.2.2;
        fine = λ q s e.
            let x = each q s e in
            let same : x.2.0 ≡ s = some_is x.2.0 s (slice_get sh q) x.2.1 e in
            record {
              leads = x.2.3.0;
              effect = ap (λ o. effect_of k u q o s) x.1 ∙ subst (λ y. effect k u q x.0 y ≡ Ok x.2.3.0) same x.2.3.1;
              agree = x.2.3.2;
            };
      },
    )
  where
    some_is : (a b : Shape) (o : Option Shape) → o ≡ Some a → o ≡ Some b → a ≡ b
    some_is a b o e f = cc

typed_unit : (p : Program) → ProgramFits p → (n : ℕ) (o : Option (Routine ℕ)) (u : Section) → slice_get p.routines n ≡ o
    → slice_get (lowered p).units n ≡ Some u → IsTypedUnit Equal (lowered p) u
typed_unit p f n None u is e = search (arith, rules, slice_get-map)
typed_unit p f n (Some r) u is e =
    let some : slice_get (lowered p).units n ≡ Some (unit_of r) =
    slice_get-map unit_of p.routines n ∙ ap (option_map unit_of) is in
    let same : unit_of r ≡ u = cc in
    subst (IsTypedUnit Equal (lowered p)) same (unit_typed p r (f.routines n r is))

-- The code of each program that fits is typed.
pub lowered_typed : (p : Program) → ProgramFits p → IsTyped (lowered p)
lowered_typed p f = λ n u e. typed_unit p f n (slice_get p.routines n) u refl e
