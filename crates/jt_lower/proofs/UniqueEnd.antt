-- A run without a budget, with places from a table, has one end. If the image has the same places,
-- it is the code's own run.
use Rattle.std.proofs.Common.{◌≡◌, ◌≢◌, ℕ, zero, suc, ◌≤◌, Option, Some, refl, sym, ◌∙◌, arith, ⊎_elim, rules}
use Rattle.std.proofs.lemmas.Bool.{cases_lt}
use Rattle.jt_image.specs.declared.instruction.Instruction.{Instruction}
use Rattle.jt_image.specs.Code.{Section, Code}
use Rattle.jt_image.specs.Config.{MachineState}
use Rattle.jt_image.specs.Step.{fetch}
use Rattle.jt_image.specs.Places.{place_at}
use Rattle.jt_image.specs.FreeRun.{Free, Going, exec_at, exec}
use Rattle.jt_lower.proofs.TablePlacedRuns.{Table, placed_at, placed_exec}

longer_at : (k : Code) (table : Table) (q : Option (Section × Instruction)) (m : MachineState)
    (go go' : MachineState → Free) (o : Free)
    → ((m : MachineState) → go m ≡ o → go' m ≡ o) → placed_at k table q m go ≡ o → placed_at k table q m go' ≡ o
longer_at k table q m go go' o h e = search (arith, rules)

-- A run that has ended has the same result with more instructions.
pub longer : (k : Code) (table : Table) (a b : ℕ) (m : MachineState) (o : Free) → o ≢ Going → a ≤ b
    → placed_exec k table a m ≡ o → placed_exec k table b m ≡ o
longer k table zero b m o h le e = absurd (h (sym e))
longer k table (suc a) zero m o h le e = absurd (omega arith)
longer k table (suc a) (suc b) m o h le e =
    longer_at k table (fetch k m.unit m.point) m (placed_exec k table a) (placed_exec k table b) o
    (λ m' e'. longer k table a b m' o h (omega arith) e') e

pub one_free_end : (k : Code) (table : Table) (a b : ℕ) (m : MachineState) (o p : Free) → o ≢ Going → p ≢ Going
    → placed_exec k table a m ≡ o → placed_exec k table b m ≡ p → o ≡ p
one_free_end k table a b m o p ho hp e f =
    ⊎_elim
    (λ lt. sym (longer k table a b m o ho (omega arith) e) ∙ f)
    (λ le. sym e ∙ longer k table b a m p hp le f)
    (cases_lt a b)

-- The image and the table have the same place at each point.
abbrev pub Tells : Code → Table → Type 0
Tells k table = (u p : ℕ) (x : Section × Instruction) → fetch k u p ≡ Some x → place_at k u p ≡ table u p

told_at : (k : Code) (table : Table) (q : Option (Section × Instruction)) (m : MachineState)
    (go go' : MachineState → Free)
    → ((x : Section × Instruction) → q ≡ Some x → place_at k m.unit m.point ≡ table m.unit m.point)
    → ((m : MachineState) → go m ≡ go' m) → placed_at k table q m go ≡ exec_at k q m go'
told_at k table q m go go' t h = search (arith, rules)

-- The run with the table is the code's own run.
pub told_same : (k : Code) (table : Table) → Tells k table → (n : ℕ) (m : MachineState)
    → placed_exec k table n m ≡ exec k n m
told_same k table t zero m = refl
told_same k table t (suc n) m = search (arith, rules, told_at, placed_exec, told_same k table t n)
