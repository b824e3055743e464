-- Runs that are counted in slices.
use Rattle.std.proofs.Common.{◌≡◌, ◌∙◌, ℕ, ◌+◌, max, Option, Some, None, ap, arith, refl, subst, sym}
use Rattle.jt_value.specs.Pairs.{Pairs}
use Rattle.jt_image.specs.Code.{Code}
use Rattle.jt_image.specs.Config as config
use Rattle.jt_image.specs.Run.{passed}
use Rattle.jt_machine.specs.Session.{begun, outcome_of}
use Rattle.jt_machine.specs.Metering.{IsLeast, Metered, MeteringLaws, UsesLeast, metered_after, metered_start}
use Rattle.jt_machine.specs.Metering.{named_values, nothing_used, start_use, together}
use Rattle.jt_machine.specs.declared.Used.{Used}
use Rattle.jt_value.specs.declared.NoMemory.{NoMemory}
use Rattle.std.specs.Prelude.{IfOk, Result, Ok, Err}
use Rattle.jt_machine.specs.View.{outcome_view}
use Rattle.jt_host.specs.declared.metered_outcome.MeteredOutcome.{MeteredOutcome}
use Rattle.jt_host.specs.Metered.{EndsUsing}

-- A run before its first step, by the limit that a value of the context exceeds.
abbrev from : Code → Pairs → config.Budget → Option config.Limit → Metered
from code context b limit = record {
  session = record { code = code; stage = begun limit code context b };
  used = start_use limit (named_values context code.names);
}

nothing_more : (size nesting : ℕ)
    → together (record nothing_used { size = size; nesting = nesting }) nothing_used
    ≡ record nothing_used { size = size; nesting = nesting }
nothing_more size nesting =
    let s : max size 0 ≡ size = omega arith in
    let n : max nesting 0 ≡ nesting = omega arith in
    rw (s, n) refl

none_more : (code : Code) (context : Pairs) (b : config.Budget) (limit : Option config.Limit)
    → metered_after 0 (from code context b limit) ≡ from code context b limit
none_more code context b None =
    ap (λ (u : Used). (λ (m : Metered). m) (record {
      session = record { code = code; stage = begun None code context b };
      used = u;
    })) (nothing_more _ _)
none_more code context b (Some limit) = refl

-- Before its first step a run has executed 0 steps.
pub at_start : (code : Code) (context : Pairs) (b : config.Budget) (run : Metered) → run ≡ metered_start code context b
    → run ≡ metered_after 0 run
at_start code context b run begins =
    begins ∙ (sym (none_more code context b (passed b context code.names)) ∙ ap (metered_after 0) (sym begins))

-- A slice more is executed after those before it.
pub slice_more : MeteringLaws → (n k : ℕ) (start run next : Metered) → run ≡ metered_after n start
    → next ≡ metered_after k run
    → next ≡ metered_after (n + k) start
slice_more laws n k start run next so_far is = is ∙ (ap (metered_after k) so_far ∙ laws.both n k start)

-- A run that has ended after some steps ends so, and uses what it has used.
pub ends_using : MeteringLaws → (code : Code) (context : Pairs) (b : config.Budget) (n : ℕ) (start run : Metered)
    (o : config.Outcome) (u : Used)
    → UsesLeast code context b → start ≡ metered_start code context b → run ≡ metered_after n start
    → outcome_of run.session ≡ Some o → u ≡ run.used → EndsUsing code context b o u
ends_using laws code context b n start run o u least begins so_far ends uses =
    let same : metered_after n (metered_start code context b) ≡ run = sym (so_far ∙ ap (metered_after n) begins) in
    let ended : outcome_of (metered_after n (metered_start code context b)).session ≡ Some o =
    ap (λ (m : Metered). outcome_of m.session) same ∙ ends in
    let used : (metered_after n (metered_start code context b)).used ≡ u =
    ap (λ (m : Metered). m.used) same ∙ sym uses in
    record {
      runs = laws.ends code context b n o ended;
      steps = n;
      ends = ended;
      used = used;
      least = λ text is. subst (λ (v : Used). IsLeast code context text v) used
          (least n text (ended ∙ ap (λ (e : config.Outcome). Some e) is));
    }

-- If an outcome and a use are returned, they are those of the run.
pub if_ended : MeteringLaws → (code image : Code) → image ≡ code
    → (context : Pairs) (b : config.Budget) (n : ℕ) (start run : Metered) → UsesLeast image context b
    → start ≡ metered_start image context b → run ≡ metered_after n start
    → (r : Result MeteredOutcome NoMemory)
    → IfOk r (λ m. outcome_of run.session ≡ Some (outcome_view m.outcome))
    → IfOk r (λ m. m.used ≡ run.used)
    → IfOk r (λ m. EndsUsing code context b (outcome_view m.outcome) m.used)
if_ended laws code image same context b n start run least begins so_far (Ok m) e f =
    subst (λ (k : Code). EndsUsing k context b (outcome_view m.outcome) m.used) same
    (ends_using laws image context b n start run (outcome_view m.outcome) m.used least begins so_far e f)
if_ended laws code image same context b n start run least begins so_far (Err x) e f = tt
