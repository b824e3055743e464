-- Runs that are counted: how they end, and what they use of their budgets.
use Rattle.std.specs.Prelude.{◌≡◌, ℕ, List, Some, Result, Ok, Err}
use Rattle.jt_scan.specs.declared.Options.{Options}
use Rattle.jt_ast.specs.Expressions.{Text}
use Rattle.jt_value.specs.Pairs.{Pairs}
use Rattle.jt_budget.specs.declared.Budget.{Budget}
use Rattle.jt_inherit.specs.Chains.{SourceTexts}
use Rattle.jt_image.specs.Code.{Code}
use Rattle.jt_image.specs.Config as config
use Rattle.jt_image.specs.Run.{Run}
use Rattle.jt_codegen.specs.Compiled.{IsCompiled}
use Rattle.jt_machine.specs.Metering.{IsLeast, metered_after, metered_start}
use Rattle.jt_machine.specs.Session.{outcome_of}
use Rattle.jt_machine.specs.View.{budget_view, outcome_view}
use Rattle.jt_machine.specs.declared.Outcome.{Outcome}
use Rattle.jt_machine.specs.declared.Used.{Used}
use Rattle.jt_host.specs.Calls.{IsImageOf, IsNoImage}
use Rattle.jt_host.specs.Rendering.{IsRefused as IsUncompiled}
use Rattle.jt_host.specs.declared.call_error.CallError.{CallError}
use Rattle.jt_host.specs.declared.call_error.CallError.TheVariants as error
use Rattle.jt_host.specs.declared.metered_outcome.MeteredOutcome.{MeteredOutcome}

-- The run of a code for a context under a budget ends with this outcome, and all its steps together
-- use this of the budget. For a text that is the least budget of it.
pub record EndsUsing (code : Code) (context : Pairs) (b : config.Budget) (o : config.Outcome) (u : Used) :
    Type 0 where
  pub runs : Run code context b o
  pub steps : ℕ
  pub ends : outcome_of (metered_after steps (metered_start code context b)).session ≡ Some o
  pub used : (metered_after steps (metered_start code context b)).used ≡ u
  pub least : (text : List ℕ) → o ≡ config.text text → IsLeast code context text u

-- The bytes are an image, whose run for the context ends with this outcome and uses this.
abbrev pub ImageUses : List ℕ → Pairs → Budget → Outcome → Used → Type 0
ImageUses bytes context b o u =
    (code : Code) × IsImageOf bytes code × EndsUsing code context (budget_view b) (outcome_view o) u

-- The result is the outcome of the image and what its run uses, or the error states why the bytes
-- are no image.
abbrev pub MetersImage : List ℕ → Pairs → Budget → Result MeteredOutcome CallError → Type 0
MetersImage bytes context b (Ok m) = ImageUses bytes context b m.outcome m.used
MetersImage bytes context b (Err e) = IsNoImage bytes e

module _ (sources : SourceTexts) (entry : Text) (options : Options) where
  -- The entry compiles to a code, whose run for the context ends with this outcome and uses this.
  abbrev pub TemplateUses : Pairs → Budget → Outcome → Used → Type 0
  TemplateUses context b o u =
      (code : Code) × IsCompiled sources entry options code
      × EndsUsing code context (budget_view b) (outcome_view o) u

  -- The result is the outcome of the entry and what its run uses, or the error states why the entry
  -- does not compile.
  abbrev pub MetersTemplate : Pairs → Budget → Result MeteredOutcome CallError → Type 0
  MetersTemplate context b (Ok m) = TemplateUses context b m.outcome m.used
  MetersTemplate context b (Err (error.Template refusal)) = IsUncompiled sources entry options refusal
  MetersTemplate context b (Err error.NoMemory) = Unit {0}
  MetersTemplate context b (Err other) = ⊥
