-- Structured code: branches and loops instead of jumps. Its meaning, its instructions, and their
-- places.
use Rattle.std.specs.Prelude.{ℕ, zero, suc, ◌+◌, ◌-◌, List, [], ◌∷◌, ◌++◌, length, Option, Some, None, nat_lt, ◌==◌}
use Rattle.std.specs.Prelude.{slice_get, if◌then◌else◌}
use Rattle.jt_value.specs.Tree.{Tree, truth}
use Rattle.jt_value.specs.declared.fault.Fault.{Fault}
use Rattle.jt_image.specs.declared.instruction.Instruction.{Instruction}
use Rattle.jt_image.specs.declared.instruction.Instruction.TheVariants as op
use Rattle.jt_image.specs.Code.{Section, Code}
use Rattle.jt_image.specs.Config.{StackEntry, frame, State}
use Rattle.jt_image.specs.Loops.{advanced}
use Rattle.jt_image.specs.Step.{Plain, goes, faults_by, broken, on_value, on_values, on_frame, with_entries, plain}
use Rattle.jt_value.specs.Place.{Place}
use Rattle.jt_eval.specs.Eval.{Eval, gives, fails, deeper}
use Rattle.jt_ast.specs.Expressions.{Text}
use Rattle.jt_ir.specs.Slots.{Written, SCalls}

pub data Asm : Type 0 where
  nil : Asm
  -- An instruction that neither jumps nor calls, and the place of the tag that its faults get.
  one : Option Place → Instruction → Asm
  both : Asm → Asm → Asm
  -- A choice: pops a value, and executes the first code if it is true, else the second.
  choose : Asm → Asm → Asm
  -- A condition: pops a value, and executes the code if it is true.
  when : Asm → Asm
  -- A loop: executes the code once for each item that the loop on top has left.
  each : Asm → Asm
  -- A call of the unit with this number.
  invoke : Option Place → ℕ → Asm

-- ---- instructions

abbrev pub both_code : ℕ → List Instruction → (ℕ → List Instruction) → List Instruction
both_code p ca cb = ca ++ cb (p + length ca)

abbrev pub choose_code : ℕ → List Instruction → (ℕ → List Instruction) → List Instruction
choose_code p ca cb =
    let q = p + 1 + length ca + 1 in
    let b = cb q in
    op.JumpIfFalse q ∷ (ca ++ op.Jump (q + length b) ∷ b)

abbrev pub when_code : ℕ → List Instruction → List Instruction
when_code p ca = op.JumpIfFalse (p + 1 + length ca) ∷ ca

abbrev pub each_code : ℕ → List Instruction → List Instruction
each_code p ca = op.LoopNext (p + 1 + length ca + 1) ∷ (ca ++ op.Jump p ∷ [])

-- The instructions, from this point on.
abbrev pub flat : Asm → ℕ → List Instruction
flat nil p = []
flat (one o i) p = i ∷ []
flat (both a b) p = both_code p (flat a p) (flat b)
flat (choose a b) p = choose_code p (flat a (p + 1)) (flat b)
flat (when a) p = when_code p (flat a (p + 1))
flat (each a) p = each_code p (flat a (p + 1))
flat (invoke o u) p = op.Call u ∷ []

-- The place of each instruction; a jump never faults and has none.
abbrev pub places : Asm → List (Option Place)
places nil = []
places (one o i) = o ∷ []
places (both a b) = places a ++ places b
places (choose a b) = None ∷ (places a ++ None ∷ places b)
places (when a) = None ∷ places a
places (each a) = None ∷ (places a ++ None ∷ [])
places (invoke o u) = o ∷ []

-- ---- the meaning of a run

-- The result of a run: a state, a fault with its place, calls that are too deep, or an operand that
-- does not fit.
pub data AsmEval : Type 0 where
  does : State → AsmEval
  stops : Fault → Option Place → AsmEval
  too_deep : AsmEval
  bad : AsmEval

abbrev pub and_then : AsmEval → (State → AsmEval) → AsmEval
and_then (does m) f = f m
and_then (stops e q) f = stops e q
and_then too_deep f = too_deep
and_then bad f = bad

-- The first place if it exists, else the second one.
abbrev pub place_or : Option Place → Option Place → Option Place
place_or None o = o
place_or (Some q) o = Some q

abbrev pub of_plain : Option Place → Plain → AsmEval
of_plain o (goes m d) = does m
of_plain o (faults_by e) = stops e o
of_plain o broken = bad

-- The next turn of the loop on top if it has an item left, else the unchanged state.
abbrev pub next_turn : State → (State → AsmEval) → AsmEval
next_turn m body =
    on_frame m.entries bad (λ f es.
    if nat_lt f.position (length f.items)
    then body (with_entries m (frame (advanced f) ∷ es))
    else does m)

-- The state after at most `k` turns.
abbrev pub turns : (State → AsmEval) → ℕ → State → AsmEval
turns body zero m = next_turn m (λ n. bad)
turns body (suc k) m = next_turn m (λ n. and_then (body n) (turns body k))

-- The number of items that the loop on top has left.
abbrev pub turns_left : List StackEntry → ℕ
turns_left es = on_frame es 0 (λ f fs. length f.items - f.position)

-- Appends the text of a call to the innermost buffer; a fault without a place gets the place of the
-- call.
abbrev pub of_written : Option Place → Eval Written → List StackEntry → List Tree → Text → List (List ℕ)
    → AsmEval
of_written o (gives w) es ls out bufs =
    does
    (record { entries = es; locals = ls; globals = w.globals; buffers = (out ++ w.text) ∷ bufs })
of_written o (fails e q) es ls out bufs = stops e (place_or q o)
of_written o deeper es ls out bufs = too_deep

abbrev pub into_buffers : Option Place → Eval Written → List StackEntry → List Tree → List (List ℕ) → AsmEval
into_buffers o g es ls [] = bad
into_buffers o g es ls (out ∷ bufs) = of_written o g es ls out bufs

-- Calls a unit with its arguments from the top of the stack; the globals must be the globals of the
-- code.
abbrev pub called : Option Place → Code → SCalls → ℕ → Option Section → State → AsmEval
called o k call u None m = bad
called o k call u (Some v) m =
    on_values v.parameters [] m.entries bad (λ ts es.
    if length m.globals == k.globals
    then into_buffers o (call u ts m.globals) es m.locals m.buffers
    else bad)

-- Executes structured code, without points and budget. `k` has the tables, and `call` is the
-- meaning of calls.
abbrev pub run : Code → SCalls → Asm → State → AsmEval
run k call nil m = does m
run k call (one o i) m = of_plain o (plain k i m)
run k call (both a b) m = and_then (run k call a m) (run k call b)
run k call (choose a b) m =
    on_value m.entries bad (λ t es.
    if truth t then run k call a (with_entries m es) else run k call b (with_entries m es))
run k call (when a) m =
    on_value m.entries bad
    (λ t es. if truth t then run k call a (with_entries m es) else does (with_entries m es))
run k call (each a) m = turns (run k call a) (turns_left m.entries) m
run k call (invoke o u) m = called o k call u (slice_get k.units u) m
