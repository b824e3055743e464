-- What a run uses of its budget.
use Rattle.std.specs.Prelude.{◌≡◌, ℕ, zero, suc, ◌+◌, ◌-◌, max, length, Bool, true, false, ◌&&◌, List, [], ◌∷◌, Option}
use Rattle.std.specs.Prelude.{Some, None, ◌↔◌}
use Rattle.jt_value.specs.Tree as tree
use Rattle.jt_value.specs.Tree.{Tree}
use Rattle.jt_value.specs.Pairs.{Pairs, look}
use Rattle.jt_value.specs.Place.{Place}
use Rattle.jt_image.specs.declared.instruction.Instruction.{Instruction}
use Rattle.jt_image.specs.declared.instruction.Instruction.TheVariants as op
use Rattle.jt_image.specs.Code.{Code, Name, Section}
use Rattle.jt_image.specs.Config as config
use Rattle.jt_image.specs.Config.{Budget, Limit, Outcome, StackEntry, Config}
use Rattle.jt_image.specs.Enough.{AtLeast}
use Rattle.jt_image.specs.Readers.{instruction_at, place_there}
use Rattle.jt_image.specs.Step.{Action, Demand, goes_on, ends, faulty, wrong, no_demand, strict, fetch, greatest}
use Rattle.jt_image.specs.Run.{Next, Goes, Ends, Wrong, next, next_cost, passed, Run}
use Rattle.jt_machine.specs.declared.metered_run.Used.{Used}
use Rattle.jt_machine.specs.Session.{RunStage, going, done, lost, Session, started, advanced, outcome_of}

-- ---- the use within a number of steps

abbrev pub nothing_used : Used
nothing_used = record { fuel = 0; output = 0; depth = 0; size = 0; nesting = 0 }

-- The use of two parts of a run together: the sums of fuel and output, and the greater depth, size
-- and nesting.
abbrev pub together : Used → Used → Used
together a b = record {
  fuel = a.fuel + b.fuel;
  output = a.output + b.output;
  depth = max a.depth b.depth;
  size = max a.size b.size;
  nesting = max a.nesting b.nesting;
}

-- The cost that an instruction with this result counts. It counts nothing if it ends the run by a
-- fault or by a limit.
abbrev pub counted_cost : Next → ℕ → ℕ
counted_cost (Goes c) n = n
counted_cost (Ends (config.text t)) n = n
counted_cost (Ends (config.fault f p)) n = 0
counted_cost (Ends (config.spent l)) n = 0
counted_cost Wrong n = 0

-- The bytes that an instruction with this result takes from this output of the budget.
abbrev pub bytes_taken : ℕ → Next → ℕ
bytes_taken n (Goes c) = n - c.left.output
bytes_taken n (Ends o) = 0
bytes_taken n Wrong = 0

-- The demand of an action on the budget. An action that ends the run pushes no value.
abbrev pub demand_of : Action → Demand
demand_of (goes_on m d) = d
demand_of (ends t) = no_demand
demand_of (faulty f) = no_demand
demand_of wrong = no_demand

abbrev pub demand_at : Code → Option (Section × Instruction) → Config → Demand
demand_at code None c = no_demand
demand_at code (Some (unit, instruction)) c = demand_of (strict code unit instruction c.machine)

-- The demand of the next instruction on the budget.
abbrev pub next_demand : Code → Config → Demand
next_demand code c = demand_at code (fetch code c.machine.unit c.machine.point) c

-- The measure that an instruction with this result counts of the values that it pushes. It counts
-- nothing if it ends the run.
abbrev pub counted_measure : Next → ℕ → ℕ
counted_measure (Goes c) n = n
counted_measure (Ends o) n = 0
counted_measure Wrong n = 0

-- What the next instruction uses: its cost, the bytes that it writes, the calls that are open, and
-- the greatest size and nesting of the values that it pushes.
abbrev pub step_use : Code → Config → Used
step_use code c = record {
  fuel = counted_cost (next code c) (next_cost code c);
  output = bytes_taken c.left.output (next code c);
  depth = length c.machine.callers;
  size = counted_measure (next code c) (next_demand code c).size;
  nesting = counted_measure (next code c) (next_demand code c).nesting;
}

abbrev pub then_uses : Next → (Config → Used) → Used
then_uses (Goes c) go = go c
then_uses (Ends o) go = nothing_used
then_uses Wrong go = nothing_used

-- What is used within `n` steps. The calls are counted of each configuration that is reached.
abbrev pub used_within : Code → ℕ → Config → Used
used_within code zero c = record nothing_used { depth = length c.machine.callers }
used_within code (suc n) c = together (step_use code c) (then_uses (next code c) (used_within code n))

-- ---- runs that count what they use

-- A run in slices, and what it has used.
pub record Metered : Type 0 where
  pub session : Session
  pub used : Used

-- What the next `n` steps of a run use; a run that has ended or is lost uses nothing more.
abbrev pub stage_use : Code → ℕ → RunStage → Used
stage_use code n (going c) = used_within code n c
stage_use code n (done o) = nothing_used
stage_use code n lost = nothing_used

-- The value before the others, if it exists.
abbrev pub with_found : Option Tree → List Tree → List Tree
with_found None ts = ts
with_found (Some t) ts = t ∷ ts

-- The values of the context that the code names.
abbrev pub named_values : Pairs → List Name → List Tree
named_values context [] = []
named_values context (name ∷ names) = with_found (look name.text context) (named_values context names)

-- What is used before the first step: the greatest size and nesting of these values. If one of them
-- exceeds a limit, the run ends and nothing is counted.
abbrev pub start_use : Option Limit → List Tree → Used
start_use (Some limit) ts = nothing_used
start_use None ts = record nothing_used { size = greatest tree.size ts; nesting = greatest tree.nesting ts }

-- The run of a code for a context under a budget, before its first step.
abbrev pub metered_start : Code → Pairs → Budget → Metered
metered_start code context budget = record {
  session = started code context budget;
  used = start_use (passed budget context code.names) (named_values context code.names);
}

-- The run after `n` more steps, or fewer if it ends.
abbrev pub metered_after : ℕ → Metered → Metered
metered_after n run = record {
  session = advanced n run.session;
  used = together run.used (stage_use run.session.code n run.session.stage);
}

-- The numbers that a run used, as a budget.
abbrev pub budget_of : Used → Budget
budget_of u =
    record { fuel = u.fuel; depth = u.depth; output = u.output; size = u.size; nesting = u.nesting }

-- The use is the least budget of a text: the run ends with the text under exactly the budgets that
-- have at least what it used.
abbrev pub IsLeast : Code → Pairs → List ℕ → Used → Type 0
IsLeast code context text used =
    (budget : Budget) → Run code context budget (config.text text) ↔ AtLeast (budget_of used) budget

-- What a run uses that ends with a text is the least budget of the text.
abbrev pub UsesLeast : Code → Pairs → Budget → Type 0
UsesLeast code context budget =
    (n : ℕ) (text : List ℕ)
    → outcome_of (metered_after n (metered_start code context budget)).session ≡ Some (config.text text)
    → IsLeast code context text (metered_after n (metered_start code context budget)).used

-- If `n` steps and then `m` steps are executed, `n + m` steps are executed, and used what these use.
-- An outcome that is reached is that of the run, which has no other one.
pub record MeteringLaws : Type 0 where
  pub both : (n m : ℕ) (run : Metered) → metered_after m (metered_after n run) ≡ metered_after (n + m) run
  pub ends : (code : Code) (context : Pairs) (budget : Budget) (n : ℕ) (outcome : Outcome)
      → outcome_of (metered_after n (metered_start code context budget)).session ≡ Some outcome
      → Run code context budget outcome
  pub only : (code : Code) (context : Pairs) (budget : Budget) (one other : Outcome) → Run code context budget one
      → Run code context budget other
      → one ≡ other

-- ---- the next instruction of a run

-- Whether the instruction prints a value.
abbrev pub prints : Option Instruction → Bool
prints (Some (op.Emit a)) = true
prints i = false

-- Whether the top entry is the value undefined.
abbrev pub undefined_on : List StackEntry → Bool
undefined_on (config.value tree.undefined ∷ es) = true
undefined_on es = false

-- Whether the next instruction of a run prints the value undefined.
abbrev pub prints_undefined : Code → RunStage → Bool
prints_undefined code (going c) =
    prints (instruction_at code c.machine.unit c.machine.point) && undefined_on c.machine.state.entries
prints_undefined code (done o) = false
prints_undefined code lost = false

-- The next instruction of a run, if the run goes on.
abbrev pub next_instruction : Code → RunStage → Option Instruction
next_instruction code (going c) = instruction_at code c.machine.unit c.machine.point
next_instruction code (done o) = None
next_instruction code lost = None

-- The place of the next instruction of a run, if the run goes on and the instruction has a place.
abbrev pub next_place : Code → RunStage → Option Place
next_place code (going c) = place_there code c.machine.unit c.machine.point
next_place code (done o) = None
next_place code lost = None
