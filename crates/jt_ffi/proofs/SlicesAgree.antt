-- A run in slices is reported as the run in one call.
use Rattle.std.proofs.Common.{◌≡◌, ◌≢◌, ℕ, List, [], Option, Some, None, Ok, Err, ap, refl, subst}
use Rattle.std.specs.Arc.{arc_value}
use Rattle.std.specs.Prelude.{option_map, string_bytes}
use Rattle.jt_host.specs.declared.Budget.{Budget}
use Rattle.jt_host.specs.declared.CallError.TheVariants as call_error
use Rattle.jt_host.specs.declared.Fault.{Fault}
use Rattle.jt_machine.specs.declared.outcome.Place.{Place}
use Rattle.jt_host.specs.declared.Spent.{Spent}
use Rattle.jt_host.specs.declared.Spent.TheVariants as spent
use Rattle.jt_image.specs.Code.{Code}
use Rattle.jt_image.specs.Config as config
use Rattle.jt_image.specs.Config.{Budget as Limits, Outcome as End}
use Rattle.jt_value.specs.Pairs.{Pairs}
use Rattle.jt_image.specs.Run as run
use Rattle.jt_machine.specs.Metering.{MeteringLaws, metered_after, metered_start}
use Rattle.jt_machine.specs.Session.{RunStage, done, end_of}
use Rattle.jt_machine.specs.View.{budget_view, limit_view, place_view}
use Rattle.jt_value.specs.ContextView.{pairs_of}
use Rattle.jt_ffi.specs.Answers.{CallResult, IsAnswer, Reports, ReportsError, spent_number}
use Rattle.jt_ffi.specs.Handles.{RunsFor, RunsHeld}
use Rattle.jt_ffi.specs.Slices.{EndsFor, HasEnded, ReportsEnd, ReportsRun, ReportsStage, ReportsWhole}
use Rattle.jt_ffi.specs.Slices.{limit_number}
use Rattle.jt_ffi.specs.declared.answer.Answer.{Answer}
use Rattle.jt_ffi.specs.declared.local.Local.{Local}
use Rattle.jt_ffi.specs.declared.local.Local.TheVariants.{Context, Outcome, Run}
use Rattle.jt_ffi.specs.declared.shared.Shared.{Shared}
use Rattle.jt_ffi.specs.declared.shared.Shared.TheVariants.{Image, Library}
use Rattle.jt_ffi.specs.declared.error.FfiError.TheVariants as ffi_error

limit_is : (s : Spent) → limit_number (limit_view s) ≡ spent_number s
limit_is spent.Fuel = refl
limit_is spent.Depth = refl
limit_is spent.Output = refl
limit_is spent.Size = refl
limit_is spent.Nesting = refl

-- A fault is reported with its place.
fault_is : (f : Fault) (q : Option Place) (old new : List ℕ) (a : Answer)
    → ReportsEnd (config.fault f (option_map place_view q)) old new a → ReportsError (call_error.Fault f q) old new a
fault_is f (Some place) old new a h = h
fault_is f None old new a h = h

-- A run has an outcome, which is reported.
record Ended (k : Code) (x : Pairs) (b : Limits) (old new : List ℕ) (a : Answer) : Type 0 where
  pub outcome : End
  pub ran : run.Run k x b outcome
  pub reports : ReportsEnd outcome old new a

-- The outcome that a run has is the one that is reported.
as_end : MeteringLaws → {k : Code} {x : Pairs} {b : Limits} {old new : List ℕ} {a : Answer} → Ended k x b old new a
    → (o : End) → run.Run k x b o → ReportsEnd o old new a
as_end laws {k} {x} {b} {old} {new} {a} e o ran =
    subst (λ (p : End). ReportsEnd p old new a) (laws.only k x b e.outcome o e.ran ran) e.reports

ended : MeteringLaws → (k : Code) (x : Pairs) (b : Limits) (n : ℕ) (held : Option Local) (o : End) (old new : List ℕ)
    (a : Answer)
    → (metered_after n (metered_start k x b)).session.stage ≡ done o
    → held ≡ Some (Run (metered_after n (metered_start k x b))) → ReportsRun held old new a → Ended k x b old new a
ended laws k x b n held o old new a is there h =
    let stage : ReportsStage (metered_after n (metered_start k x b)).session.stage old new a =
    subst (λ (m : Option Local). ReportsRun m old new a) there h in
    record {
      outcome = o;
      ran = laws.ends k x b n o (ap end_of is);
      reports = subst (λ (t : RunStage). ReportsStage t old new a) is stage;
    }

reports_for : MeteringLaws → (k : Code) (x : Local) (b : Budget) (n : ℕ) (held : Option Local) (old new : List ℕ)
    (a : Answer)
    → EndsFor k x b n held → ReportsRun held old new a → (r : CallResult) → RunsFor k x b r
    → r ≢ Err (ffi_error.Call call_error.NoMemory) → Reports r old new a
reports_for laws k (Context c) b n held old new a ends h (Ok bytes) ran some =
    let e = ended laws k (pairs_of c) (budget_view b) n held ends.0 old new a ends.1 ends.2 h in
    rw (ran.1) (as_end laws e (config.text (string_bytes ran.0)) ran.2)
reports_for laws k (Context c) b n held old new a ends h (Err (ffi_error.Call (call_error.Fault f q))) ran some =
    let e = ended laws k (pairs_of c) (budget_view b) n held ends.0 old new a ends.1 ends.2 h in
    fault_is f q old new a (as_end laws e (config.fault f (option_map place_view q)) ran)
reports_for laws k (Context c) b n held old new a ends h (Err (ffi_error.Call (call_error.Spent s))) ran some =
    let e = ended laws k (pairs_of c) (budget_view b) n held ends.0 old new a ends.1 ends.2 h in
    subst (λ (number : ℕ). IsAnswer [] 4 number 0 old new a) (limit_is s)
    (as_end laws e (config.spent (limit_view s)) ran)
reports_for laws k (Context c) b n held old new a ends h (Err (ffi_error.Call call_error.NoMemory)) ran some =
    absurd (some refl)
reports_for laws k (Context c) b n held old new a ends h (Err (ffi_error.Call e)) ran some = absurd ran
reports_for laws k (Context c) b n held old new a ends h (Err e) ran some = absurd ran
reports_for laws k (Outcome o) b n held old new a ends h r ran some = absurd ends
reports_for laws k (Run m) b n held old new a ends h r ran some = absurd ends

-- The answer for a run that has ended in slices reports each result that the run has in one call.
pub reports_whole : MeteringLaws → (image : Option Shared) (context : Option Local) (b : Budget) (n : ℕ)
    (held : Option Local) (old new : List ℕ) (a : Answer)
    → HasEnded image context b n held → ReportsRun held old new a → ReportsWhole image context b old new a
reports_whole laws (Some (Image p)) (Some x) b n held old new a ends h =
    λ r ran some. reports_for laws (arc_value p) x b n held old new a ends h r ran some
reports_whole laws (Some (Image p)) None b n held old new a ends h = absurd ends
reports_whole laws (Some (Library t)) x b n held old new a ends h = absurd ends
reports_whole laws None x b n held old new a ends h = absurd ends
